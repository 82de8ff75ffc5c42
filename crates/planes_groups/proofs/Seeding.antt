-- The keys of the patches as seeds, and their sort.
use mathlib.Core.Path.{◌≡◌, sym, ap, ◌∙◌}
use mathlib.Core.List.{List, [], ◌∷◌, ◌++◌}
use Prim.Native.Nat.{ℕ, ◌+◌, ◌-◌, ◌%◌, ◌<◌, ◌≤◌}
use native.Mathlib.Nat.{add-zero}
use native.Mathlib.Numerals.{add-one}
use native.Mathlib.Omega.{arith}
use lib.ListN.{length, get_or, take, drop, set}
use lib.Seq.{get_or-take, get_or-drop, get_or-set_same, get_or-set_other, take-suc-set}
use Rattle.order.specs.Sort.{Below}
use Rattle.order.specs.Runs.{head_or, up_to}
use Rattle.order.proofs.Stable.{by-eq}
use Rattle.order.proofs.Runs.{head_at}
use Rattle.planes_links.specs.Words.{lows, part_of, row_in}
use Rattle.planes_links.proofs.Linking.{low_at_lem}
use Rattle.planes_groups.specs.Rows.{Table}

-- ---- a row of a table

pub table_part : (rows bound : ℕ) (sorted starts : List ℕ) (r : ℕ) → Table rows bound sorted starts → r < rows
    → Below bound (lows (part_of sorted (get_or starts r 0) (get_or starts (r + 1) 0)))
unfolding row_in
table_part rows bound sorted starts r t h = t.below r h

pub head_some : (sorted starts : List ℕ) (r : ℕ) → get_or starts r 0 < get_or starts (r + 1) 0 → get_or sorted (get_or starts r 0) 0 % 4096 ≡ head_or 0 (row_in sorted starts r)
unfolding row_in
head_some sorted starts r h =
    let a = get_or starts r 0 in
    let b = get_or starts (r + 1) 0 in
    let pos : 0 < b - a = omega arith in
    let at : get_or (part_of sorted a b) 0 0 ≡ get_or sorted a 0 = get_or-take (b - a) (drop a sorted) 0 0 pos ∙ get_or-drop a sorted 0 0 ∙ ap (λ (k : ℕ). get_or sorted k 0) (add-zero a) in
    sym (head_at (lows (part_of sorted a b)) ∙ low_at_lem (part_of sorted a b) 0 ∙ ap (λ (x : ℕ). x % 4096) at)

pub head_none : (sorted starts : List ℕ) (r : ℕ) → get_or starts (r + 1) 0 ≤ get_or starts r 0 → 0 ≡ head_or 0 (row_in sorted starts r)
unfolding row_in lows head_or
head_none sorted starts r h =
    let e : get_or starts (r + 1) 0 - get_or starts r 0 ≡ 0 = omega arith in
    ap (λ (k : ℕ). head_or 0 (lows (take k (drop (get_or starts r 0) sorted)))) (sym e)

-- ---- the loop

pub counted_more : (order : List ℕ) (p : ℕ) → p < length order → take p order ≡ up_to p → take (p + 1) (set order p p) ≡ up_to (p + 1)
unfolding up_to
counted_more order p h e =
    ap (λ (k : ℕ). take k (set order p p)) (add-one p) ∙ take-suc-set order p p h ∙ ap (λ (l : List ℕ). l ++ (p ∷ [])) e ∙ ap up_to (sym (add-one p))

pub keys_more : (f : ℕ → ℕ) (keys : List ℕ) (p : ℕ) → p < length keys → ((q : ℕ) → q < p → get_or keys q 0 ≡ f q) → (v : ℕ) → v ≡ f p
    → (q : ℕ) → q < p + 1 → get_or (set keys p v) q 0 ≡ f q
keys_more f keys p h m v e q l =
    by-eq q p (λ s. ap (λ (k : ℕ). get_or (set keys p v) k 0) s ∙ get_or-set_same keys p v 0 h ∙ e ∙ ap f (sym s))
    (λ d. get_or-set_other keys p q v 0 d ∙ m q (omega arith))
