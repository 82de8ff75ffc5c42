-- Handles that were cleared from m on: `clear_from`, and what is read of them.
use mathlib.Core.Path.{◌≡◌, refl, ap, ◌∙◌}
use mathlib.Core.Bool.{Bool, true, false}
use mathlib.Core.List.{List, [], ◌++◌, append-nil}
use Prim.Native.Nat.{ℕ, zero, suc, ◌+◌, ◌-◌, ◌<◌, ◌≤◌}
use native.Mathlib.Nat.{le_refl}
use native.Mathlib.Omega.{arith}
use lib.Dec.{leb}
use borrow.Author.Tests.{leb-true, leb-false}
use lib.ListN.{length, get_or, take, drop, replicate, length-drop, length-append, length-replicate, drop_of_length-le, get_or-append}
use lib.Seq.{length-take-le, take_all, get_or-take, get_or-append-add}
use borrow.Rule.Slice.PartMut.{put_mid}
use Rattle.scene_bvh.specs.SceneTree.{cleared_from}

zeros : (k i : ℕ) → ◌≡◌ {A = ℕ} (get_or (replicate k 0) i 0) 0
zeros zero i = refl
zeros (suc k) zero = refl
zeros (suc k) (suc i) = zeros k i

-- as many as were found
pub cleared_length : (m : ℕ) (found : List ℕ) → length (cleared_from m found) ≡ length found
unfolding cleared_from
cleared_length m found = length-append (take m found) (replicate (length found - m) 0) ∙ go (leb m (length found)) refl
  where
    go : (b : Bool) → leb m (length found) ≡ b → length (take m found) + length {A = ℕ} (replicate (length found - m) 0) ≡ length found
    go true e =
        let h = leb-true m (length found) e in
        let front = length-take-le m found h in
        let back = length-replicate {A = ℕ} (length found - m) 0 in
        omega arith
    go false e =
        let h = leb-false m (length found) e in
        let front = ap length (take_all m found (omega arith)) in
        let back = length-replicate {A = ℕ} (length found - m) 0 in
        omega arith

-- the part from m on lent, cleared and put back
pub cleared_is :
    (m : ℕ) (handles ys : List ℕ) → ys ≡ replicate (length (take (length handles - m) (drop m handles))) 0 → put_mid m (length handles - m) handles ys ≡ cleared_from m handles
unfolding cleared_from
cleared_is m handles ys e =
    let whole : take (length handles - m) (drop m handles) ≡ drop m handles = take_all (length handles - m) (drop m handles) (rw length-drop (le_refl (length handles - m))) in
    let none : drop (length handles - m) (drop m handles) ≡ [] = drop_of_length-le (drop m handles) {i = length handles - m} (rw length-drop (le_refl (length handles - m))) in
    let size : length (take (length handles - m) (drop m handles)) ≡ length handles - m = rw (whole, length-drop) in
    ap (λ (l : List ℕ). take m handles ++ (ys ++ l)) none ∙ ap (λ (l : List ℕ). take m handles ++ l) (append-nil ys ∙ e) ∙ ap (λ (k : ℕ). take m handles ++ replicate k 0) size

module _ (m : ℕ) (handles : List ℕ) (room : m ≤ length handles) where
  pub below_kept : (i : ℕ) → i < m → get_or (cleared_from m handles) i 0 ≡ get_or handles i 0
  unfolding cleared_from
  below_kept i h =
      let len = length-take-le m handles room in
      get_or-append (take m handles) (replicate (length handles - m) 0) 0 i (omega arith) ∙ get_or-take m handles i 0 h

  pub above_zero : (i : ℕ) → m ≤ i → get_or (cleared_from m handles) i 0 ≡ 0
  unfolding cleared_from
  above_zero i h =
      let len = length-take-le m handles room in
      let e : i ≡ length (take m handles) + (i - m) = omega arith in
      ap (λ (k : ℕ). get_or (take m handles ++ replicate (length handles - m) 0) k 0) e
      ∙ get_or-append-add (take m handles) (replicate (length handles - m) 0) (i - m) 0 ∙ zeros (length handles - m) (i - m)
