-- The loop of `walls_at`: what is left after each turn is the same question, one plane deeper.
use Prim.Native.Nat.{ℕ, zero, suc, ◌+◌, ◌-◌, ◌*◌, ◌/◌, ◌%◌, ◌≤◌, ◌<◌}
use mathlib.Core.Path.{◌≡◌, refl, sym, ap, ◌∙◌, subst}
use mathlib.Core.List.{List, [], ◌∷◌, ◌++◌}
use native.Mathlib.Nat.{div-lt_iff_lt-mul, zero-lt-suc, mod-lt, mod-le}
use native.Mathlib.Numerals.{add-one}
use native.Mathlib.Omega.{arith}
use lib.ListN.{length, take, drop, set, replicate, length-append, length-set}
use lib.Seq.{length-take-le, take-suc-set, set_split, drop-drop, drop-set-lt}
use Rattle.sequences.specs.Allowed.{may, below, most, most_order}
use Rattle.sequences.specs.Count.{count, series}
use Rattle.sequences.proofs.Counting.{upto_length, below_length, series_suc}
use Rattle.numbering.specs.Walls.{padded, walls_from}
use Rattle.numbering.specs.Unrank.{nth, unrank}
use Rattle.numbering.specs.Contract.{block_of, Placed, Followed}
use Rattle.numbering.proofs.Laws.{block_div, block_mod, block_some}
use Rattle.numbering.proofs.Unranked.{nth_below}

-- ---- one turn, over plain lists

module _ (on s : List ℕ) where
  m : ℕ
  m = length on - 1

  -- the plane of the block that place i is in
  abbrev next : ℕ → ℕ → ℕ
  next d i = nth (may on s) (length on) (i / series (length on - 1) d)

  blocks : (d : ℕ) → length (below on (suc d) s) ≡ count (may on s) (length on) * suc (m * series m d)
  unfolding below m
  blocks d =
      upto_length (may on s) (λ q. s ++ q ∷ []) (λ q. below on d (s ++ q ∷ [])) ((length on - 1) * series (length on - 1) d) (length on)
      (λ q g. below_length on d s q g)

  pub deep : (d i : ℕ) → i < length (below on d s) → 1 ≤ d
  unfolding below
  deep zero i h = absurd (let no : ⊥ = omega arith in no)
  deep (suc d) i h = omega arith

  pub next_less : (d i : ℕ) → i < length (below on d s) → i / series (length on - 1) d < count (may on s) (length on)
  unfolding m
  next_less zero i h = let z = deep zero i h in absurd (let no : ⊥ = omega arith in no)
  next_less (suc d) i h =
      subst (λ (b : ℕ). i / b < count (may on s) (length on)) (sym (series_suc (length on - 1) d))
      ((div-lt_iff_lt-mul (zero-lt-suc ((length on - 1) * series (length on - 1) d))).1 (subst (λ (n : ℕ). i < n) (blocks d) h))

  pub turn_end : (d i : ℕ) → i < length (below on d s) → i % series (length on - 1) d ≡ 0 → unrank on d s i ≡ s ++ next d i ∷ []
  unfolding unrank
  turn_end zero i h e = let z = deep zero i h in absurd (let no : ⊥ = omega arith in no)
  turn_end (suc d) i h e =
      ap (λ (r : ℕ). elim r as (λ x. List ℕ) [ zero ↦ s ++ next (suc d) i ∷ [] | suc j ↦ unrank on d (s ++ next (suc d) i ∷ []) j ]) e

  pub turn_on :
      (d i j : ℕ) → i < length (below on d s) → i % series (length on - 1) d ≡ suc j →
      unrank on d s i ≡ unrank on (d - 1) (s ++ next d i ∷ []) j
  unfolding unrank
  turn_on zero i j h e = let z = deep zero i h in absurd (let no : ⊥ = omega arith in no)
  turn_on (suc d) i j h e =
      ap (λ (r : ℕ). elim r as (λ x. List ℕ) [ zero ↦ s ++ next (suc d) i ∷ [] | suc j ↦ unrank on d (s ++ next (suc d) i ∷ []) j ]) e
      ∙ ap (λ (k : ℕ). unrank on k (s ++ next (suc d) i ∷ []) j) (let f : d ≡ suc d - 1 = omega arith in f)

  pub there_on :
      (d i j : ℕ) → i < length (below on d s) → i % series (length on - 1) d ≡ suc j → j < length (below on (d - 1) (s ++ next d i ∷ []))
  there_on zero i j h e = let z = deep zero i h in absurd (let no : ⊥ = omega arith in no)
  there_on (suc d) i j h e =
      let p : next (suc d) i < length on = nth_below (may on s) (length on) (i / series (length on - 1) (suc d)) (next_less (suc d) i h) in
      let f : d ≡ suc d - 1 = omega arith in
      let b = series_suc (length on - 1) d in
      let r = mod-lt i (subst (λ (n : ℕ). zero < n) (sym b) (zero-lt-suc ((length on - 1) * series (length on - 1) d))) in
      subst (λ (k : ℕ). j < length (below on k (s ++ next (suc d) i ∷ []))) f
      (let l = below_length on d s (next (suc d) i) p in omega arith)

-- ---- the state of the loop

pub record Walk (on : List ℕ) (order place : ℕ) (planes : List ℕ) (len rest d : ℕ) : Type 0 where
  pub goes : unrank on d (take len planes) rest ≡ unrank on order [] place
  pub there : rest < length (below on d (take len planes))
  pub low : rest < most
  pub depth : len + d ≡ order
  pub long : length planes ≡ most_order
  pub zeros : drop len planes ≡ replicate (most_order - len) 0

pub walk_start : (on : List ℕ) (order place : ℕ) → Placed on order place → Walk on order place (replicate most_order 0) 0 place order
walk_start on order place h = record {
  goes = refl;
  there = h.there;
  low = h.low;
  depth = omega arith;
  long = refl;
  zeros = refl;
}

zeros_less : (n : ℕ) → drop {A = ℕ} 1 (replicate n 0) ≡ replicate (n - 1) 0
zeros_less zero = refl
zeros_less (suc n) = ap (λ (k : ℕ). replicate k 0) (let e : n ≡ suc n - 1 = omega arith in e)

module _ (on : List ℕ) (order place : ℕ) (placed : Placed on order place) (planes : List ℕ) (len rest d : ℕ)
    (w : Walk on order place planes len rest d) where
  pub walk_deep : 1 ≤ d
  walk_deep = deep on (take len planes) d rest w.there

  pub walk_in : len < most_order
  walk_in = let a = walk_deep in let b = w.depth in let c = placed.within in omega arith

  module _ (b : ℕ) (is : b ≡ block_of (length on - 1) d) where
    pub walk_some : 1 ≤ b
    walk_some = let a = block_some (length on - 1) d walk_deep in omega arith

    pub walk_follows : Followed on planes len (rest / b)
    walk_follows = record {
      within = let a = walk_in in omega arith;
      few = placed.few;
      less =
          subst (λ (q : ℕ). q < count (may on (take len planes)) (length on))
          (sym (ap (λ (n : ℕ). rest / n) is ∙ block_div (length on - 1) d rest w.low)) (next_less on (take len planes) d rest w.there);
    }

    module _ (p : ℕ) (at : p ≡ nth (may on (take len planes)) (length on) (rest / b)) where
      here : p ≡ next on (take len planes) d rest
      here =
          at
          ∙ ap (λ (q : ℕ). nth (may on (take len planes)) (length on) q)
          (ap (λ (n : ℕ). rest / n) is ∙ block_div (length on - 1) d rest w.low)

      left : rest % b ≡ rest % series (length on - 1) d
      left = ap (λ (n : ℕ). rest % n) is ∙ block_mod (length on - 1) d rest w.low

      put : take (len + 1) (set planes len p) ≡ take len planes ++ next on (take len planes) d rest ∷ []
      put =
          ap (λ (n : ℕ). take n (set planes len p)) (add-one len)
          ∙ take-suc-set planes len p (let a = walk_in in let l = w.long in omega arith)
          ∙ ap (λ (q : ℕ). take len planes ++ q ∷ []) here

      behind : drop (len + 1) planes ≡ replicate (most_order - (len + 1)) 0
      behind =
          sym (drop-drop 1 len planes) ∙ ap (drop 1) w.zeros ∙ zeros_less (most_order - len)
          ∙ ap (λ (k : ℕ). replicate k 0) (let e : most_order - len - 1 ≡ most_order - (len + 1) = omega arith in e)

      pub walk_end : rest % b ≡ 0 → record { len = len + 1; planes = set planes len p } ≡ walls_from (unrank on order [] place)
      walk_end z =
          let s : List ℕ = take len planes ++ next on (take len planes) d rest ∷ [] in
          let e : s ≡ unrank on order [] place = sym (turn_end on (take len planes) d rest w.there (sym left ∙ z)) ∙ w.goes in
          let l : length s ≡ len + 1 =
          length-append (take len planes) (next on (take len planes) d rest ∷ [])
          ∙ ap (λ (n : ℕ). n + 1) (length-take-le len planes (let a = walk_in in let g = w.long in omega arith)) in
          let f : set planes len p ≡ padded s =
          set_split planes len p (let a = walk_in in let g = w.long in omega arith)
          ∙ ap (λ (n : ℕ). take len planes ++ p ∷ drop n planes) (sym (add-one len))
          ∙ ap (λ (zs : List ℕ). take len planes ++ p ∷ zs) (behind ∙ ap (λ (n : ℕ). replicate (most_order - n) 0) (sym l))
          ∙ ap (λ (q : ℕ). take len planes ++ q ∷ replicate (most_order - length s) 0) here
          ∙ sym (append_one (take len planes) (next on (take len planes) d rest) (replicate (most_order - length s) 0)) in
          (λ i. record { len = sym l i; planes = f i }) ∙ ap walls_from e
        where
          append_one : (a : List ℕ) (x : ℕ) (zs : List ℕ) → (a ++ x ∷ []) ++ zs ≡ a ++ x ∷ zs
          append_one [] x zs = refl
          append_one (y ∷ a) x zs = ap (λ (l : List ℕ). y ∷ l) (append_one a x zs)

      pub walk_on : (rest % b ≡ 0 → ⊥) → Walk on order place (set planes len p) (len + 1) (rest % b - 1) (d - 1)
      walk_on ne = by (rest % b) refl
        where
          by : (r : ℕ) → rest % b ≡ r → Walk on order place (set planes len p) (len + 1) (r - 1) (d - 1)
          by zero e = absurd (ne e)
          by (suc j) e =
              let k : suc j - 1 ≡ j = omega arith in
              let o : rest % series (length on - 1) d ≡ suc j = sym left ∙ e in
              record {
                goes =
                    ap (λ (i : ℕ). unrank on (d - 1) (take (len + 1) (set planes len p)) i) k
                    ∙ ap (λ (s : List ℕ). unrank on (d - 1) s j) put ∙ sym (turn_on on (take len planes) d rest j w.there o) ∙ w.goes;
                there =
                    subst (λ (s : List ℕ). suc j - 1 < length (below on (d - 1) s)) (sym put)
                    (let t = there_on on (take len planes) d rest j w.there o in omega arith);
                low = let t = mod-le rest b in let l = w.low in omega arith;
                depth = let a = walk_deep in let f = w.depth in omega arith;
                long = length-set planes len p ∙ w.long;
                zeros = drop-set-lt (len + 1) planes len p (omega arith) ∙ behind;
              }
