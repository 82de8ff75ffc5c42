-- The loop that grows a group breadth first, and its start.
use mathlib.Core.Path.{◌≡◌, refl, sym, ap, ◌∙◌}
use mathlib.Core.Bool.{Bool, true, not, ◌&&◌}
use mathlib.Core.List.{List, [], ◌∷◌, ◌++◌, append-nil}
use Prim.Native.Nat.{ℕ, zero, suc, ◌+◌, ◌-◌, ◌<◌, ◌≤◌}
use native.Mathlib.Nat.{le_refl}
use native.Mathlib.Numerals.{add-one}
use native.Mathlib.Omega.{arith}
use lib.Dec.{eqb}
use lib.ListN.{length, get_or, take, drop, set}
use lib.Seq.{take-suc, append_snoc, drop-cons, get_or-take, length-take-le, take-set-le}
use Rattle.order.specs.Sort.{Below}
use Rattle.order.specs.Runs.{up_to}
use Rattle.planes_patches.specs.Lists.{filter_by}
use Rattle.planes_links.specs.Words.{part_of, lows, row_in}
use Rattle.planes_groups.specs.Groups.{grown_of}
use Rattle.planes_groups.specs.Rows.{is_free_at, free_of, Queue, LetIn, Grown, RowsOf}
use Rattle.planes_groups.proofs.Growing.{free_seed}
use Rattle.planes_groups.proofs.Queueing.{part_drop, take_kept, part_more, part_new, push_take}

-- the queue from head on and what is free give what the whole gives
abbrev pub SoFar : ℕ → (ℕ → ℕ → Bool) → (ℕ → Bool) → List ℕ → List ℕ → ℕ → ℕ → List ℕ → List ℕ → ℕ → ℕ → Type 0
SoFar np adj fit col0 queue0 from to col queue head tail = (fuel : ℕ) → fuel + head ≡ np + from
    → (take head queue ++ (grown_of fuel adj fit (part_of queue head tail) (free_of np col)).0 ≡ take from queue0 ++ (grown_of np adj fit (part_of queue0 from to) (free_of np col0)).0)
    × ((grown_of fuel adj fit (part_of queue head tail) (free_of np col)).1 ≡ (grown_of np adj fit (part_of queue0 from to) (free_of np col0)).1)

pub record Breadth (np : ℕ) (fit : ℕ → Bool) (asorted astarts col0 queue0 : List ℕ) (from to : ℕ) (col queue : List ℕ) (head tail : ℕ) : Type 0 where
  pub within : head ≤ tail
  pub first : from ≤ head
  pub rise : to ≤ tail
  pub queue_is : Queue np col queue tail
  pub is : (adj : ℕ → ℕ → Bool) → RowsOf np asorted astarts adj → SoFar np adj fit col0 queue0 from to col queue head tail

pub breadth_none : (np : ℕ) (fit : ℕ → Bool) (asorted astarts col queue : List ℕ) (from to : ℕ) → from ≤ to → Queue np col queue to → Breadth np fit asorted astarts col queue from to col queue from to
breadth_none np fit asorted astarts col queue from to h q =
    record {
      within = h;
      first = le_refl from;
      rise = le_refl to;
      queue_is = q;
      is = λ adj rows fuel e. let s : fuel ≡ np = omega arith in
          (ap (λ (k : ℕ). take from queue ++ (grown_of k adj fit (part_of queue from to) (free_of np col)).0) s, ap (λ (k : ℕ). (grown_of k adj fit (part_of queue from to) (free_of np col)).1) s);
    }

pub grown_open : (n : ℕ) (adj : ℕ → ℕ → Bool) (fit : ℕ → Bool) (p : ℕ) (queue free : List ℕ)
    → grown_of (suc n) adj fit (p ∷ queue) free ≡ (p ∷ (grown_of n adj fit (queue ++ filter_by (λ q. adj p q && fit q) free) (filter_by (λ q. not (adj p q && fit q)) free)).0, (grown_of n adj fit (queue ++ filter_by (λ q. adj p q && fit q) free) (filter_by (λ q. not (adj p q && fit q)) free)).1)
unfolding grown_of
grown_open n adj fit p queue free = refl

grown_end : (n : ℕ) (adj : ℕ → ℕ → Bool) (fit : ℕ → Bool) (free : List ℕ) → grown_of n adj fit [] free ≡ ([], free)
unfolding grown_of
grown_end zero adj fit free = refl
grown_end (suc n) adj fit free = refl

module _ (np : ℕ) (fit : ℕ → Bool) (asorted astarts col0 queue0 : List ℕ) (from to : ℕ) (col queue : List ℕ) (head tail : ℕ)
    (m : Breadth np fit asorted astarts col0 queue0 from to col queue head tail) where
  queue_long : tail ≤ length queue
  queue_long = let r = m.queue_is.room in let t = m.queue_is.total in omega arith

  pub head_below : head < tail → get_or queue head 0 < np
  unfolding Below
  head_below h =
      let l = length-take-le tail queue queue_long in
      let b = m.queue_is.below head (omega arith) in
      let e = get_or-take tail queue head 0 h in
      omega arith

  pub breadth_more : (h : head < tail) (col2 queue2 : List ℕ) (r : ℕ) → tail ≤ r → Queue np col2 queue2 r
      → ((adj : ℕ → Bool) → lows (part_of asorted (get_or astarts (get_or queue head 0) 0) (get_or astarts (get_or queue head 0 + 1) 0)) ≡ filter_by adj (up_to np) → LetIn np fit adj col queue tail col2 queue2 r)
      → Breadth np fit asorted astarts col0 queue0 from to col2 queue2 (head + 1) r
  unfolding row_in
  breadth_more h col2 queue2 r le q2 lets =
      let f = m.first in
      let u = m.rise in
      record { within = omega arith; first = omega arith; rise = omega arith; queue_is = q2; is = λ adj rows fuel e. step adj rows fuel e }
    where
      step : (adj : ℕ → ℕ → Bool) → RowsOf np asorted astarts adj → SoFar np adj fit col0 queue0 from to col2 queue2 (head + 1) r
      step adj rows fuel e =
          let p = get_or queue head 0 in
          let below = head_below h in
          let long = queue_long in
          let in2 = lets (adj p) (rows p below) in
          let new = filter_by (λ q. adj p q && fit q) (free_of np col) in
          let free = filter_by (λ q. not (adj p q && fit q)) (free_of np col) in
          let old = m.is adj rows (suc fuel) (omega arith) in
          let lt : head < length (take tail queue) = let l = length-take-le tail queue long in omega arith in
          let part : part_of queue head tail ≡ p ∷ part_of queue (head + 1) tail =
          part_drop head tail queue ∙ drop-cons (take tail queue) head 0 lt
          ∙ ap (λ (x : ℕ). x ∷ drop (suc head) (take tail queue)) (get_or-take tail queue head 0 h)
          ∙ ap (λ (l : List ℕ). p ∷ l) (ap (λ (k : ℕ). drop k (take tail queue)) (sym (add-one head)) ∙ sym (part_drop (head + 1) tail queue)) in
          let part2 : part_of queue2 (head + 1) r ≡ part_of queue (head + 1) tail ++ new = part_more queue queue2 new tail r in2.added le long (head + 1) (omega arith) in
          let take2 : take (head + 1) queue2 ≡ take head queue ++ (p ∷ []) =
          take_kept queue queue2 new tail r in2.added le long (head + 1) (omega arith) ∙ ap (λ (k : ℕ). take k queue) (add-one head) ∙ take-suc queue head 0 (omega arith) in
          let g = grown_of fuel adj fit (part_of queue (head + 1) tail ++ new) free in
          let opened : grown_of (suc fuel) adj fit (part_of queue head tail) (free_of np col) ≡ (p ∷ g.0, g.1) =
          ap (λ (l : List ℕ). grown_of (suc fuel) adj fit l (free_of np col)) part ∙ grown_open fuel adj fit p (part_of queue (head + 1) tail) (free_of np col) in
          let now : grown_of fuel adj fit (part_of queue2 (head + 1) r) (free_of np col2) ≡ g = ap (λ (l : List ℕ). grown_of fuel adj fit l (free_of np col2)) part2 ∙ ap (grown_of fuel adj fit (part_of queue (head + 1) tail ++ new)) in2.left in (
            ap (λ (x : List ℕ × List ℕ). take (head + 1) queue2 ++ x.0) now ∙ ap (λ (l : List ℕ). l ++ g.0) take2 ∙ append_snoc (take head queue) p g.0
                ∙ ap (λ (x : List ℕ × List ℕ). take head queue ++ x.0) (sym opened) ∙ old.0,
            ap (λ (x : List ℕ × List ℕ). x.1) now ∙ ap (λ (x : List ℕ × List ℕ). x.1) (sym opened) ∙ old.1,
          )

  pub breadth_done : tail ≤ head → (adj : ℕ → ℕ → Bool) → RowsOf np asorted astarts adj → Grown np adj fit (take from queue0) (part_of queue0 from to) (free_of np col0) col queue tail
  breadth_done h adj rows =
      let w = m.within in
      let t = m.queue_is.total in
      let same : head ≡ tail = omega arith in
      let zero : tail - head ≡ 0 = omega arith in
      let old = m.is adj rows (np + from - head) (omega arith) in
      let none : part_of queue head tail ≡ [] = ap (λ (k : ℕ). take k (drop head queue)) zero in
      let end : grown_of (np + from - head) adj fit (part_of queue head tail) (free_of np col) ≡ ([], free_of np col) =
      ap (λ (l : List ℕ). grown_of (np + from - head) adj fit l (free_of np col)) none ∙ grown_end (np + from - head) adj fit (free_of np col) in
      record {
        group = ap (λ (k : ℕ). take k queue) (sym same) ∙ sym (append-nil (take head queue)) ∙ ap (λ (x : List ℕ × List ℕ). take head queue ++ x.0) (sym end) ∙ old.0;
        left = ap (λ (x : List ℕ × List ℕ). x.1) (sym end) ∙ old.1;
      }

-- ---- from a seed

module _ (np : ℕ) (adj : ℕ → ℕ → Bool) (fit : ℕ → Bool) (mark : ℕ) (pos : 0 < mark) (col queue : List ℕ) (from seed : ℕ) (m : Queue np col queue from) (h : seed < np) (free : is_free_at col seed ≡ true) where
  pub seed_grown : (col2 queue2 : List ℕ) (r : ℕ)
      → Grown np adj fit (take from (set queue from seed)) (part_of (set queue from seed) from (from + 1)) (free_of np (set col seed mark)) col2 queue2 r
      → Grown np adj fit (take from queue) (seed ∷ []) (filter_by (λ q. not (eqb seed q)) (free_of np col)) col2 queue2 r
  seed_grown col2 queue2 r g =
      let c = m.column in
      let long : from ≤ length queue = let w = m.room in let t = m.total in omega arith in
      let whole = push_take np mark pos col queue from seed m h free in
      let before : take from (set queue from seed) ≡ take from queue = take-set-le from queue from seed (le_refl from) in
      let part : part_of (set queue from seed) from (from + 1) ≡ seed ∷ [] = part_new queue (set queue from seed) (seed ∷ []) from (from + 1) whole (omega arith) long in
      let left : free_of np (set col seed mark) ≡ filter_by (λ q. not (eqb seed q)) (free_of np col) = free_seed mark pos np col seed (omega arith) in
      rw (← before, ← part, ← left) g
