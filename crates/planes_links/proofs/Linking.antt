-- The loops that link the patches of one vertex.
use mathlib.Core.Path.{◌≡◌, refl, sym, ap, ◌∙◌}
use mathlib.Core.Bool.{Bool, true, false, not, ◌||◌, ◌&&◌}
use mathlib.Core.List.{List, [], ◌∷◌, ◌++◌}
use Prim.Native.Nat.{ℕ, suc, ◌+◌, ◌-◌, ◌%◌, ◌<◌, ◌≤◌}
use native.Mathlib.Numerals.{add-one}
use native.Mathlib.Omega.{arith}
use lib.Dec.{eqb}
use lib.ListN.{length, get_or, take, drop, length-map, length-take, length-drop, get_or-map}
use lib.Seq.{drop-cons, take_all}
use borrow.Author.Tests.{eq-eqb, ne_eqb, le-leb, lt-leb}
use Rattle.order.specs.Runs.{any_by}
use Rattle.order.proofs.Stable.{by-eq}
use Rattle.planes_links.specs.Words.{has, word_of, uppers, lows, part_of, row_in}
use Rattle.planes_links.specs.Links.{follow, is_linked, links_from, links_all, links_next}
use Rattle.planes_links.proofs.Filters.{eqb_turn, has_more}
use Rattle.planes_links.proofs.Pushing.{push_has}

pub low_at_lem : (row : List ℕ) (i : ℕ) → get_or (lows row) i 0 ≡ get_or row i 0 % 4096
unfolding lows
low_at_lem row i = get_or-map (λ w. w % 4096) row i 0

pub lows_length : (row : List ℕ) → length (lows row) ≡ length row
unfolding lows
lows_length row = length-map row (λ w. w % 4096)

-- w2 has, beside the first k words of w, those of the pairs that pass
abbrev pub Added : (ℕ → ℕ → Bool) → List ℕ → ℕ → List ℕ → ℕ → Type 0
Added f w k w2 r = (a b : ℕ) → b < 4096 → has (word_of a b) (uppers w2 r) ≡ has (word_of a b) (uppers w k) || f a b

or_none : (b : Bool) → b ≡ b || false
or_none true = refl
or_none false = refl

or_assoc : (a b c : Bool) → (a || b) || c ≡ a || (b || c)
or_assoc true b c = refl
or_assoc false b c = refl

-- ---- from one patch

module _ (p : ℕ) (row w0 : List ℕ) (k0 : ℕ) where
  pub from_none : Added (links_from p (take 0 (lows row))) w0 k0 w0 k0
  unfolding links_from any_by
  from_none a b h = or_none (has (word_of a b) (uppers w0 k0)) ∙ ap (λ (t : Bool). has (word_of a b) (uppers w0 k0) || t) (nothing (eqb a p) (not (eqb a b)))
    where
      nothing : (x y : Bool) → false ≡ x && (y && false)
      nothing true true = refl
      nothing true false = refl
      nothing false y = refl

  module _ (w : List ℕ) (k j : ℕ) (m : Added (links_from p (take j (lows row))) w0 k0 w k) (h : j < length row) where
    more : (b : ℕ) → has b (take (j + 1) (lows row)) ≡ has b (take j (lows row)) || eqb b (get_or row j 0 % 4096)
    more b = has_more b j (lows row) (rw (lows_length row) h) ∙ ap (λ (y : ℕ). has b (take j (lows row)) || eqb b y) (low_at_lem row j)

    pub from_skip : get_or row j 0 % 4096 ≡ p → Added (links_from p (take (j + 1) (lows row))) w0 k0 w k
    unfolding links_from
    from_skip e a b l =
        m a b l ∙ ap (λ (t : Bool). has (word_of a b) (uppers w0 k0) || t)
        (rw (more b, e)
        (by-eq a p
        (λ s. rw (eq-eqb a p s) (by-eq b p
        (λ u. rw (eq-eqb a b (s ∙ sym u)))
        (λ d. rw (ne_eqb b p d) (ap (λ (t : Bool). not (eqb a b) && t) (or_none (has b (take j (lows row))))))))
        (λ d. rw (ne_eqb a p d))))

    pub from_more : (get_or row j 0 % 4096 ≡ p → ⊥) → (w2 : List ℕ) (r : ℕ) → uppers w2 r ≡ uppers w k ++ (word_of p (get_or row j 0 % 4096) ∷ [])
        → Added (links_from p (take (j + 1) (lows row))) w0 k0 w2 r
    unfolding links_from
    from_more ne w2 r e a b l =
        let y = get_or row j 0 % 4096 in
        push_has w w2 k r p y e (omega arith) a b l ∙ ap (λ (t : Bool). t || (eqb a p && eqb b y)) (m a b l)
        ∙ or_assoc (has (word_of a b) (uppers w0 k0)) (eqb a p && (not (eqb a b) && has b (take j (lows row)))) (eqb a p && eqb b y)
        ∙ ap (λ (t : Bool). has (word_of a b) (uppers w0 k0) || t)
        (rw (more b)
        (by-eq a p
        (λ s. rw (eq-eqb a p s) (by-eq b y
        (λ u. rw (eq-eqb b y u, ne_eqb a b (λ q. ne (sym u ∙ sym q ∙ s))) (either (has b (take j (lows row)))))
        (λ d. rw (ne_eqb b y d) (sides (not (eqb a b)) (has b (take j (lows row)))))))
        (λ d. rw (ne_eqb a p d))))
      where
        either : (t : Bool) → t || true ≡ t || true
        either t = refl

        sides : (x t : Bool) → (x && t) || false ≡ x && (t || false)
        sides true t = refl
        sides false t = refl

  pub from_all : (w : List ℕ) (k j : ℕ) → length row ≤ j → Added (links_from p (take j (lows row))) w0 k0 w k → Added (links_from p (lows row)) w0 k0 w k
  from_all w k j h m a b l = m a b l ∙ ap (λ (t : List ℕ). has (word_of a b) (uppers w0 k0) || links_from p t a b) (take_all j (lows row) (rw (lows_length row) h))

-- ---- all to all

-- what the patches of `some` are linked to
abbrev pub links_some : List ℕ → List ℕ → ℕ → ℕ → Bool
links_some some run a b = has a some && (not (eqb a b) && has b run)

module _ (row w0 : List ℕ) (k0 : ℕ) where
  pub all_none : Added (links_some (take 0 (lows row)) (lows row)) w0 k0 w0 k0
  unfolding any_by
  all_none a b h = or_none (has (word_of a b) (uppers w0 k0))

  pub all_more : (w w2 : List ℕ) (k r i : ℕ) → i < length row → Added (links_some (take i (lows row)) (lows row)) w0 k0 w k → Added (links_from (get_or row i 0 % 4096) (lows row)) w k w2 r
      → Added (links_some (take (i + 1) (lows row)) (lows row)) w0 k0 w2 r
  unfolding links_from
  all_more w w2 k r i h m e a b l =
      let y = get_or row i 0 % 4096 in
      e a b l ∙ ap (λ (t : Bool). t || (eqb a y && (not (eqb a b) && has b (lows row)))) (m a b l)
      ∙ or_assoc (has (word_of a b) (uppers w0 k0)) (has a (take i (lows row)) && (not (eqb a b) && has b (lows row))) (eqb a y && (not (eqb a b) && has b (lows row)))
      ∙ ap (λ (t : Bool). has (word_of a b) (uppers w0 k0) || t)
      (sym (ap (λ (t : Bool). t && (not (eqb a b) && has b (lows row))) (has_more a i (lows row) (rw (lows_length row) h) ∙ ap (λ (z : ℕ). has a (take i (lows row)) || eqb a z) (low_at_lem row i))
      ∙ spread (has a (take i (lows row))) (eqb a y) (not (eqb a b) && has b (lows row))))
    where
      spread : (u v z : Bool) → (u || v) && z ≡ (u && z) || (v && z)
      spread true true true = refl
      spread true true false = refl
      spread true false true = refl
      spread true false false = refl
      spread false v z = refl

  pub all_done : (w : List ℕ) (k i : ℕ) → length row ≤ i → Added (links_some (take i (lows row)) (lows row)) w0 k0 w k → Added (links_all (lows row)) w0 k0 w k
  unfolding links_all
  all_done w k i h m a b l =
      m a b l ∙ ap (λ (t : List ℕ). has (word_of a b) (uppers w0 k0) || links_some t (lows row) a b) (take_all i (lows row) (rw (lows_length row) h))
      ∙ ap (λ (t : Bool). has (word_of a b) (uppers w0 k0) || t) (turn (has a (lows row)) (not (eqb a b)) (has b (lows row)))
    where
      turn : (x c d : Bool) → x && (c && d) ≡ c && x && d
      turn true true d = refl
      turn true false d = refl
      turn false true d = refl
      turn false false d = refl

-- ---- neighbours

module _ (row w0 : List ℕ) (k0 : ℕ) where
  -- what is there, and what the rest will add, is the whole
  abbrev pub Adding : List ℕ → ℕ → ℕ → Type 0
  Adding w k i = (a b : ℕ) → b < 4096 → has (word_of a b) (uppers w k) || links_next (drop i (lows row)) a b ≡ has (word_of a b) (uppers w0 k0) || links_next (lows row) a b

  next_open : (i a b : ℕ) → i + 1 < length row → follow (drop i (lows row)) a b ≡ (eqb a (get_or row i 0 % 4096) && eqb b (get_or row (i + 1) 0 % 4096)) || follow (drop (i + 1) (lows row)) a b
  unfolding follow
  next_open i a b h =
      let x = get_or row i 0 % 4096 in
      let y = get_or row (i + 1) 0 % 4096 in
      let len = lows_length row in
      let second : drop (suc i) (lows row) ≡ y ∷ drop (suc (suc i)) (lows row) =
      drop-cons (lows row) (suc i) 0 (omega arith) ∙ ap (λ (z : ℕ). z ∷ drop (suc (suc i)) (lows row)) (low_at_lem row (suc i) ∙ ap (λ (n : ℕ). get_or row n 0 % 4096) (sym (add-one i))) in
      let first : drop i (lows row) ≡ x ∷ y ∷ drop (suc (suc i)) (lows row) =
      drop-cons (lows row) i 0 (omega arith) ∙ ap (λ (z : ℕ). z ∷ drop (suc i) (lows row)) (low_at_lem row i) ∙ ap (λ (l : List ℕ). x ∷ l) second in
      ap (λ (l : List ℕ). follow l a b) first
      ∙ ap (λ (l : List ℕ). (eqb x a && eqb y b) || follow l a b) (sym second)
      ∙ ap (λ (n : ℕ). (eqb x a && eqb y b) || follow (drop n (lows row)) a b) (sym (add-one i))
      ∙ rw (eqb_turn x a, eqb_turn y b)

  pub next_more : (w w1 w2 : List ℕ) (k r1 r2 i : ℕ) → i + 1 < length row
      → uppers w1 r1 ≡ uppers w k ++ (word_of (get_or row i 0 % 4096) (get_or row (i + 1) 0 % 4096) ∷ [])
      → uppers w2 r2 ≡ uppers w1 r1 ++ (word_of (get_or row (i + 1) 0 % 4096) (get_or row i 0 % 4096) ∷ []) → Adding w k i → Adding w2 r2 (i + 1)
  unfolding links_next
  next_more w w1 w2 k r1 r2 i h e1 e2 m a b l =
      let x = get_or row i 0 % 4096 in
      let y = get_or row (i + 1) 0 % 4096 in
      ap (λ (t : Bool). t || (follow (drop (i + 1) (lows row)) a b || follow (drop (i + 1) (lows row)) b a))
      (push_has w1 w2 r1 r2 y x e2 (omega arith) a b l ∙ ap (λ (t : Bool). t || (eqb a y && eqb b x)) (push_has w w1 k r1 x y e1 (omega arith) a b l))
      ∙ mix (has (word_of a b) (uppers w k)) (eqb a x) (eqb b y) (eqb a y) (eqb b x) (follow (drop (i + 1) (lows row)) a b) (follow (drop (i + 1) (lows row)) b a)
      ∙ ap (λ (t : Bool). has (word_of a b) (uppers w k) || (t || ((eqb b x && eqb a y) || follow (drop (i + 1) (lows row)) b a))) (sym (next_open i a b h))
      ∙ ap (λ (t : Bool). has (word_of a b) (uppers w k) || (follow (drop i (lows row)) a b || t)) (sym (next_open i b a h))
      ∙ m a b l
    where
      tail : (a c d e f g : Bool) → ((a && c) || (d && e)) || (f || g) ≡ ((a && c) || f) || ((e && d) || g)
      tail true true d e f g = refl
      tail true false true true true g = refl
      tail true false true true false g = refl
      tail true false true false true g = refl
      tail true false true false false g = refl
      tail true false false true true g = refl
      tail true false false true false g = refl
      tail true false false false true g = refl
      tail true false false false false g = refl
      tail false c true true true g = refl
      tail false c true true false g = refl
      tail false c true false true g = refl
      tail false c true false false g = refl
      tail false c false true true g = refl
      tail false c false true false g = refl
      tail false c false false true g = refl
      tail false c false false false g = refl

      mix : (t a c d e f g : Bool) → ((t || (a && c)) || (d && e)) || (f || g) ≡ t || (((a && c) || f) || ((e && d) || g))
      mix true a c d e f g = refl
      mix false a c d e f g = tail a c d e f g

  pub next_done : (w : List ℕ) (k i : ℕ) → length row ≤ i + 1 → Adding w k i → (a b : ℕ) → b < 4096 → has (word_of a b) (uppers w k) ≡ has (word_of a b) (uppers w0 k0) || links_next (lows row) a b
  unfolding links_next follow
  next_done w k i h m a b l = or_none (has (word_of a b) (uppers w k)) ∙ ap (λ (t : Bool). has (word_of a b) (uppers w k) || t) (sym (short (drop i (lows row)) (rest i h))) ∙ m a b l
    where
      rest : (i : ℕ) → length row ≤ i + 1 → length (drop i (lows row)) ≤ 1
      rest i h = let len = lows_length row in let d = length-drop i (lows row) in omega arith

      short : (xs : List ℕ) → length xs ≤ 1 → follow xs a b || follow xs b a ≡ false
      short [] h = refl
      short (x ∷ []) h = refl
      short (x ∷ y ∷ r) h = absurd (let g : suc (suc (length r)) ≤ 1 = h in omega arith)

-- ---- one vertex

pub row_all : (run : List ℕ) (a b : ℕ) → length run ≤ 8 → links_all run a b ≡ is_linked run a b
unfolding is_linked links_all
row_all run a b h = rw (le-leb (length run) 8 h)

pub row_next : (run : List ℕ) (a b : ℕ) → 8 < length run → links_next run a b ≡ is_linked run a b
unfolding is_linked links_next
row_next run a b h = rw (lt-leb (length run) 8 h)

-- ---- all vertices

pub length_part : (xs : List ℕ) (a b : ℕ) → length (part_of xs a b) ≤ b - a
length_part xs a b = let l = length-take (b - a) (drop a xs) in omega arith

pub rows_link : (sorted starts : List ℕ) (v : ℕ) (w w2 : List ℕ) (k r : ℕ) → Added (is_linked (lows (part_of sorted (get_or starts v 0) (get_or starts (v + 1) 0)))) w k w2 r → Added (is_linked (row_in sorted starts v)) w k w2 r
unfolding row_in
rows_link sorted starts v w w2 k r m = m
