-- The count at the first edge of a side is the number of sides of its plane that lie on it (`once_counted_lem`): each of the 3 m edges counts
-- where it is in the plane and on the side, and these are the sides of the plane's triangles.
use mathlib.Core.Path.{◌≡◌, refl, sym, ap, ◌∙◌}
use mathlib.Core.Bool.{Bool, true, false, ◌&&◌}
use mathlib.Core.List.{List, [], ◌∷◌, ◌++◌, flat_map, append_assoc}
use Prim.Native.Nat.{ℕ, zero, suc, ◌+◌, ◌*◌, ◌<◌, ◌≤◌}
use native.Mathlib.Nat.{add-zero}
use native.Mathlib.Omega.{arith}
use lib.Dec.{eqb}
use lib.Ieee.{Float}
use lib.ListN.{length, get_or}
use Rattle.laws.proofs.Lists.{get_or_inside}
use Rattle.order.specs.Sort.{Below}
use Rattle.order.specs.Runs.{up_to, first_at}
use Rattle.order.proofs.Runs.{first_same, first_le}
use Rattle.planes_faces.specs.Numbers.{Numbered, number_in, place_in}
use Rattle.planes_patches.specs.Lists.{keep_if, filter_by, count_by}
use Rattle.planes_patches.specs.Rows.{none_of, tris_in}
use Rattle.planes_patches.proofs.Lists.{filter_more}
use Rattle.planes_borders.specs.Border.{keyed_of, is_same_edge, edge_key}
use Rattle.planes_borders.specs.Uses.{next_of, side_number, count_in, is_once_in, side_in, sides_in, OnceCounted}
use Rattle.planes_borders.proofs.Ends.{edge_same}
use Rattle.planes_borders.proofs.Keying.{by_side}
use Rattle.planes_borders.proofs.Counting.{bit, count_cons, count_append, count_more, count_under}

pub flat_append : {A B : Type 0} (f : A → List B) (xs ys : List A) → flat_map f (xs ++ ys) ≡ flat_map f xs ++ flat_map f ys
unfolding flat_map
flat_append f [] ys = refl
flat_append {B = B} f (x ∷ xs) ys = ap (λ (l : List B). f x ++ l) (flat_append f xs ys) ∙ sym (append_assoc (f x) (flat_map f xs) (flat_map f ys))

-- ---- the edges of all triangles, and the sides of those in a plane

module _ {A : Type 0} (test : ℕ → Bool) (p : A → Bool) (side : ℕ → ℕ → A) (on : ℕ → Bool) where
  abbrev sides : ℕ → List A
  sides t = side t 0 ∷ side t 1 ∷ side t 2 ∷ []

  one_plane : (b : Bool) (t : ℕ) → count_by p (flat_map sides (keep_if b t [])) ≡ bit (b && p (side t 0)) + bit (b && p (side t 1)) + bit (b && p (side t 2))
  unfolding flat_map count_by
  one_plane true t =
      let a : count_by p (side t 0 ∷ side t 1 ∷ side t 2 ∷ []) ≡ bit (p (side t 0)) + count_by p (side t 1 ∷ side t 2 ∷ []) = count_cons p (side t 0) (side t 1 ∷ side t 2 ∷ []) in
      let b : count_by p (side t 1 ∷ side t 2 ∷ []) ≡ bit (p (side t 1)) + count_by p (side t 2 ∷ []) = count_cons p (side t 1) (side t 2 ∷ []) in
      let c : count_by p (side t 2 ∷ []) ≡ bit (p (side t 2)) + 0 = count_cons p (side t 2) [] in
      a ∙ rw (b, c) (omega arith)
  one_plane false t = omega arith

  pub sides_counted : (m : ℕ) → ((t j : ℕ) → t < m → j < 3 → test (3 * t + j) ≡ on t && p (side t j)) → count_by test (up_to (3 * m)) ≡ count_by p (flat_map sides (filter_by on (up_to m)))
  unfolding up_to filter_by flat_map count_by
  sides_counted zero e = refl
  sides_counted (suc m) e =
      let less : count_by test (up_to (3 * m)) ≡ count_by p (flat_map sides (filter_by on (up_to m))) = sides_counted m (λ t j h. e t j (omega arith)) in
      let len : 3 * suc m ≡ 3 * m + 1 + 1 + 1 = omega arith in
      let two : 3 * m + 1 + 1 ≡ 3 * m + 2 = omega arith in
      let x0 : test (3 * m) ≡ on m && p (side m 0) = ap test (sym (add-zero (3 * m))) ∙ e m 0 (omega arith) (omega arith) in
      let x1 : test (3 * m + 1) ≡ on m && p (side m 1) = e m 1 (omega arith) (omega arith) in
      let x2 : test (3 * m + 1 + 1) ≡ on m && p (side m 2) = ap test two ∙ e m 2 (omega arith) (omega arith) in
      let left : count_by test (up_to (3 * suc m)) ≡ count_by test (up_to (3 * m)) + bit (test (3 * m)) + bit (test (3 * m + 1)) + bit (test (3 * m + 1 + 1)) =
      ap (λ (k : ℕ). count_by test (up_to k)) len ∙ count_more test (3 * m + 1 + 1)
      ∙ ap (λ (z : ℕ). z + bit (test (3 * m + 1 + 1))) (count_more test (3 * m + 1) ∙ ap (λ (z : ℕ). z + bit (test (3 * m + 1))) (count_more test (3 * m))) in
      let right : count_by p (flat_map sides (filter_by on (up_to (suc m)))) ≡ count_by p (flat_map sides (filter_by on (up_to m))) + count_by p (flat_map sides (keep_if (on m) m [])) =
      ap (λ (l : List ℕ). count_by p (flat_map sides l)) (filter_more on m)
      ∙ ap (count_by p) (flat_append sides (filter_by on (up_to m)) (keep_if (on m) m []))
      ∙ count_append p (flat_map sides (filter_by on (up_to m))) (flat_map sides (keep_if (on m) m [])) in
      let here = one_plane (on m) m in
      left ∙ rw (x0, x1, x2, less) (omega (arith, here)) ∙ sym right

-- ---- the sides by number

module _ (area : List Float) (n k m : ℕ) (id of : List ℕ) (num : Numbered edge_key area n k id) (small : 3 * n ≤ 4294967296) (mk : m ≤ k) (mn : m ≤ n) (long : m ≤ length of) where
  number_low : (j t : ℕ) → j < 3 → t < m → number_in id n j t < 4294967296
  unfolding place_in
  number_low j t h l =
      by_side (λ j. number_in id n j t < 4294967296)
      (let a = num.low t (omega arith) in omega arith) (let a = num.low (n + t) (omega arith) in omega arith) (let a = num.low (2 * n + t) (omega arith) in omega arith) j h

  next_low : (j : ℕ) → j < 3 → next_of j < 3
  next_low = by_side (λ j. next_of j < 3) (omega arith) (omega arith) (omega arith)

  side_same : (t j u i : ℕ) → t < m → j < 3 → u < m → i < 3
      → eqb (side_number id n of u i) (side_number id n of t j) ≡ eqb (get_or of u 0) (get_or of t 0) && is_same_edge (side_in area n t j) (side_in area n u i)
  unfolding side_number side_in is_same_edge keyed_of
  side_same t j u i ht hj hu hi =
      let nj = next_low j hj in
      let ni = next_low i hi in
      edge_same (get_or of t 0) (get_or of u 0) (number_in id n j t) (number_in id n (next_of j) t) (number_in id n i u) (number_in id n (next_of i) u)
      (number_low j t hj ht) (number_low (next_of j) t nj ht) (number_low i u hi hu) (number_low (next_of i) u ni hu)
      ∙ rw (
        num.same j i t u hj hi (omega arith) (omega arith),
        num.same (next_of j) (next_of i) t u nj ni (omega arith) (omega arith),
        num.same j (next_of i) t u hj ni (omega arith) (omega arith),
        num.same (next_of j) i t u nj hi (omega arith) (omega arith),
      )

  pub once_counted_lem : (key : ℕ → ℕ) (first uses : List ℕ)
      → ((t j : ℕ) → t < m → j < 3 → key (3 * t + j) ≡ side_number id n of t j)
      → ((e : ℕ) → e < 3 * m → get_or first e 0 ≡ first_at key e)
      → ((e : ℕ) → e < 3 * m → get_or uses e 0 ≡ count_in first e (3 * m))
      → OnceCounted area n of m first uses
  unfolding OnceCounted is_once_in count_in tris_in sides_in
  once_counted_lem key first uses keys firsts counts g t j ht hj plane =
      let e = 3 * t + j in
      let he : 3 * t + j < 3 * m = omega arith in
      let low : get_or first (3 * t + j) 0 < 3 * m = rw (firsts (3 * t + j) he) (let l = first_le key (3 * t + j) in omega arith) in
      let count : get_or uses (get_or first (3 * t + j) 0) 0 ≡ count_by (λ d. eqb (get_or first d 0) (get_or first (3 * t + j) 0)) (up_to (3 * m)) = counts (get_or first (3 * t + j) 0) low in
      let by_key : count_by (λ d. eqb (get_or first d 0) (get_or first (3 * t + j) 0)) (up_to (3 * m)) ≡ count_by (λ d. eqb (key d) (key (3 * t + j))) (up_to (3 * m)) =
      count_under (λ d. eqb (get_or first d 0) (get_or first (3 * t + j) 0)) (λ d. eqb (key d) (key (3 * t + j))) (3 * m)
      (λ d h. rw (firsts d h, firsts (3 * t + j) he) (first_same key d (3 * t + j))) in
      let at_plane : get_or of t 0 ≡ g = get_or_inside of t 0 none_of (omega arith) ∙ plane in
      let by_side : count_by (λ d. eqb (key d) (key (3 * t + j))) (up_to (3 * m)) ≡ count_by (is_same_edge (side_in area n t j)) (flat_map (λ u. side_in area n u 0 ∷ side_in area n u 1 ∷ side_in area n u 2 ∷ []) (filter_by (λ u. eqb (get_or of u none_of) g) (up_to m))) =
      sides_counted (λ d. eqb (key d) (key (3 * t + j))) (is_same_edge (side_in area n t j)) (side_in area n) (λ u. eqb (get_or of u none_of) g) m
      (λ u i hu hi. rw (keys u i hu hi, keys t j ht hj, ← get_or_inside of u 0 none_of (omega arith), ← at_plane) (side_same t j u i ht hj hu hi)) in
      ap (λ (z : ℕ). eqb z 1) (count ∙ by_key ∙ by_side)

pub firsts_low : (m : ℕ) (key : ℕ → ℕ) (first : List ℕ) → length first ≡ 3 * m → ((e : ℕ) → e < 3 * m → get_or first e 0 ≡ first_at key e) → Below (3 * m) first
unfolding Below
firsts_low m key first len firsts e h = rw (firsts e (omega arith)) (let l = first_le key e in omega arith)
