-- The ranked planes: their triangles are at most all triangles (`counts_all`), and with their borders they are those of the definition
-- (`ranked_is`).
use mathlib.Core.Path.{◌≡◌, refl, sym, ap, ◌∙◌}
use mathlib.Core.Bool.{Bool, true, false}
use mathlib.Core.List.{List, [], ◌∷◌, ◌++◌, map}
use Prim.Native.Nat.{ℕ, zero, suc, ◌+◌, ◌<◌, ◌≤◌}
use native.Mathlib.Nat.{le_refl}
use native.Mathlib.Omega.{arith}
use lib.Dec.{eqb, leb}
use lib.ListN.{length, get_or, take, drop, length-drop, length-append}
use lib.Seq.{length-take-le, take_all, take-suc, take-append-le}
use lib.Ieee.{Float}
use borrow.Author.Tests.{eqb-true, leb-true, leb-false}
use Rattle.order.specs.Sort.{Perm, Below, key_of}
use Rattle.order.specs.Sort.Perm.{none, skip, swap, then}
use Rattle.order.specs.Runs.{up_to}
use Rattle.order.proofs.Laws.{length_sort, below_head, below_tail, below_sort, below_take}
use Rattle.order.proofs.Stable.{sort_perm}
use Rattle.order.proofs.Positions.{up_to_length, up_to_positions}
use Rattle.planes_patches.specs.Lists.{keep_if, filter_by}
use Rattle.planes_patches.specs.Rows.{none_of, tris_in}
use Rattle.planes_patches.specs.Triangles.{triangles_in}
use Rattle.planes_patches.proofs.Lists.{filter_more, length_up_to, map_under}
use Rattle.mirror.specs.Plane.{Plane, nth_plane}
use Rattle.geometry.specs.declared.Triangle.{Triangle}
use Rattle.mirror.specs.Rows.{row_of, tris_of, row_plane, plane_in, planes_in, PlanesHeld}
use Rattle.mirror.proofs.Laws.{plane_at_lem}
use Rattle.planes_importance.specs.Importance.{scene_box_of, key_of_plane, ranking_of, ranked_of}
use Rattle.planes_borders.specs.Border.{border_of, bordered_of}
use Rattle.planes_borders.specs.Uses.{border_in, OnceCounted}
use Rattle.planes_borders.proofs.Bordering.{border_is}
use Rattle.planes_ranked.specs.Areas.{sum_counts, bordered_in}
use Rattle.planes_ranked.proofs.Ranking.{sum_snoc, sum_le}

-- ---- a triangle counts for one plane

abbrev bit : Bool → ℕ
bit true = 1
bit false = 0

-- of the planes below k, those with the number v
marks : ℕ → ℕ → ℕ
marks v zero = 0
marks v (suc k) = marks v k + bit (eqb v k)

-- the triangles of the planes below k
abbrev counted : List ℕ → ℕ → ℕ → ℕ
counted of m zero = 0
counted of m (suc k) = counted of m k + length (tris_in of m k)

no_marks : (v k : ℕ) → k ≤ v → marks v k ≡ 0
unfolding marks
no_marks v zero h = refl
no_marks v (suc k) h = go (eqb v k) refl (no_marks v k (omega arith))
  where
    go : (b : Bool) → eqb v k ≡ b → marks v k ≡ 0 → marks v k + bit (eqb v k) ≡ 0
    go true e none_before = let same = eqb-true v k e in absurd (omega arith)
    go false e none_before = rw e (omega arith)

one_mark : (v k : ℕ) → marks v k ≤ 1
unfolding marks
one_mark v zero = omega arith
one_mark v (suc k) = go (eqb v k) refl (one_mark v k)
  where
    go : (b : Bool) → eqb v k ≡ b → marks v k ≤ 1 → marks v k + bit (eqb v k) ≤ 1
    go true e before = let same = eqb-true v k e in let none_before = no_marks v k (omega arith) in rw e (omega arith)
    go false e before = rw e (omega arith)

tris_more : (of : List ℕ) (m g : ℕ) → length (tris_in of (suc m) g) ≡ length (tris_in of m g) + bit (eqb (get_or of m none_of) g)
unfolding tris_in
tris_more of m g =
    let on : ℕ → Bool = λ i. eqb (get_or of i none_of) g in
    ap length (filter_more on m) ∙ length-append (filter_by on (up_to m)) (keep_if (on m) m []) ∙ ap (λ k. length (filter_by on (up_to m)) + k) (one (on m))
  where
    one : (b : Bool) → length (keep_if b m []) ≡ bit b
    one true = refl
    one false = refl

counted_more : (of : List ℕ) (m k : ℕ) → counted of (suc m) k ≡ counted of m k + marks (get_or of m none_of) k
unfolding marks
counted_more of m zero = refl
counted_more of m (suc k) = let before = counted_more of m k in let here = tris_more of m k in omega arith

no_counted : (of : List ℕ) (k : ℕ) → counted of zero k ≡ 0
unfolding tris_in up_to filter_by
no_counted of zero = refl
no_counted of (suc k) = ap (λ j. j + 0) (no_counted of k)

counted_all : (of : List ℕ) (m k : ℕ) → counted of m k ≤ m
counted_all of zero k = let none_yet = no_counted of k in omega arith
counted_all of (suc m) k = let more = counted_more of m k in let less = counted_all of m k in let one = one_mark (get_or of m none_of) k in omega arith

-- ---- a list by its numbers

map_snoc : {A : Type 0} (f : ℕ → A) (xs : List ℕ) (x : ℕ) → map f (xs ++ (x ∷ [])) ≡ map f xs ++ (f x ∷ [])
map_snoc f [] x = refl
map_snoc {A = A} f (y ∷ xs) x = ap (λ (l : List A). f y ∷ l) (map_snoc f xs x)

map_read : {A : Type 0} (f : ℕ → A) (xs : List ℕ) (k : ℕ) → k ≤ length xs → map (λ r. f (get_or xs r 0)) (up_to k) ≡ map f (take k xs)
unfolding up_to
map_read f xs zero h = refl
map_read {A = A} f xs (suc k) h =
    map_snoc (λ r. f (get_or xs r 0)) (up_to k) k ∙ ap (λ (l : List A). l ++ (f (get_or xs k 0) ∷ [])) (map_read f xs k (omega arith))
    ∙ sym (ap (map f) (take-suc xs k 0 (omega arith)) ∙ map_snoc f (take k xs) (get_or xs k 0))

-- ---- the planes of a scene

module _ (area : List Float) (handles : List ℕ) (n m : ℕ) (gfloats : List Float) (gwords members numbers : List ℕ) (ng : ℕ)
    (held : PlanesHeld gfloats gwords members [] m ng) (tris : (g : ℕ) → g < ng → tris_of (row_of gfloats gwords g) members ≡ tris_in numbers m g) where
  abbrev scene : List Triangle
  scene = triangles_in area handles n m

  abbrev planes_of_groups : List Plane
  planes_of_groups = planes_in gfloats gwords members [] ng

  abbrev keys_of : List Plane → List ℕ
  keys_of ps = map (key_of_plane scene (scene_box_of scene)) ps

  abbrev ranking : List ℕ
  ranking = ranking_of scene planes_of_groups

  count_is : (g : ℕ) → g < ng → (row_of gfloats gwords g).count ≡ length (tris_in numbers m g)
  unfolding tris_of
  count_is g l =
      let row = row_of gfloats gwords g in
      let room = (held.runs g l).members_room in
      let left = length-drop row.first members in
      sym (length-take-le row.count (drop row.first members) (omega arith)) ∙ ap length (tris g l)

  sum_perm : {xs ys : List ℕ} → Perm xs ys → sum_counts gfloats gwords xs ≡ sum_counts gfloats gwords ys
  unfolding sum_counts
  sum_perm none = refl
  sum_perm (skip {x = x} p) = ap (λ k. (row_of gfloats gwords x).count + k) (sum_perm p)
  sum_perm swap = omega arith
  sum_perm (then p q) = sum_perm p ∙ sum_perm q

  sum_up_to : (k : ℕ) → k ≤ ng → sum_counts gfloats gwords (up_to k) ≡ counted numbers m k
  unfolding sum_counts up_to
  sum_up_to zero h = refl
  sum_up_to (suc k) h =
      let before = sum_up_to k (omega arith) in
      let here = count_is k (omega arith) in
      let more = sum_snoc gfloats gwords (up_to k) k in
      omega arith

  long : length planes_of_groups ≡ ng
  unfolding planes_in
  long = length_up_to (plane_in gfloats gwords members []) ng

  -- ALL TRIANGLES of the planes of an order are at most those of the scene
  pub counts_all : (few : ℕ) → sum_counts gfloats gwords (take few ranking) ≤ m
  unfolding ranking_of
  counts_all few =
      let whole = sum_perm (sort_perm (key_of (keys_of planes_of_groups)) (up_to (length planes_of_groups))) in
      let part = sum_le gfloats gwords ranking few in
      let up = ap (λ (k : ℕ). sum_counts gfloats gwords (up_to k)) long in
      let sum = sum_up_to ng (omega arith) in
      let all = counted_all numbers m ng in
      omega arith

  pub ranking_long : length ranking ≡ ng
  unfolding ranking_of
  ranking_long = length_sort (key_of (keys_of planes_of_groups)) (up_to (length planes_of_groups)) ∙ up_to_length (length planes_of_groups) ∙ long

  pub ranking_below : Below ng ranking
  unfolding ranking_of
  ranking_below = below_sort (key_of (keys_of planes_of_groups)) ng (up_to (length planes_of_groups)) (rw (long) (up_to_positions ng))

  module _ (first uses : List ℕ) (once : OnceCounted area n numbers m first uses) where
    abbrev bordered : ℕ → Plane
    bordered = bordered_in area n gfloats gwords members first uses

    bordered_is : (g : ℕ) → g < ng → bordered g ≡ bordered_of scene (nth_plane planes_of_groups g)
    unfolding bordered_in bordered_of plane_in
    bordered_is g l =
        let row = row_of gfloats gwords g in
        let is = tris_of row members in
        let edges : border_in area n first uses is ≡ border_of scene is =
        ap (border_in area n first uses) (tris g l) ∙ border_is area handles n m numbers first uses g once ∙ sym (ap (border_of scene) (tris g l)) in
        ap (row_plane row is) edges ∙ sym (ap (bordered_of scene) (plane_at_lem gfloats gwords members [] ng g l))

    all_bordered : (xs : List ℕ) → Below ng xs → map bordered xs ≡ map (bordered_of scene) (map (nth_plane planes_of_groups) xs)
    all_bordered [] b = refl
    all_bordered (g ∷ xs) b = both (bordered_is g (below_head ng g xs b)) (all_bordered xs (below_tail ng g xs b))
      where
        both : {p q : Plane} {ps qs : List Plane} → p ≡ q → ps ≡ qs → p ∷ ps ≡ q ∷ qs
        both e f = rw (e, f)

    -- THE planeOfS with their borders, where each of the first `few` in the areas is one of the order's
    pub ranked_is :
        (floats : List Float) (words : List ℕ) (edges : List Float) (most few : ℕ) → few ≤ ng → take few ranking ≡ take most ranking →
        ((r : ℕ) → r < few → plane_in floats words members edges r ≡ bordered (get_or (take few ranking) r 0)) →
        planes_in floats words members edges few ≡ map (bordered_of scene) (ranked_of scene most planes_of_groups)
    unfolding planes_in ranked_of
    ranked_is floats words edges most few low same each =
        let xs = take few ranking in
        let count : length xs ≡ few = length-take-le few ranking (rw (ranking_long) low) in
        map_under _ (λ r. bordered (get_or xs r 0)) few each ∙ map_read bordered xs few (rw (count) (le_refl few)) ∙ ap (map bordered) (take_all few xs (rw (count) (le_refl few)))
        ∙ all_bordered xs (below_take ng few ranking ranking_below) ∙ ap (λ (l : List ℕ). map (bordered_of scene) (map (nth_plane planes_of_groups) l)) same

    -- the same, where the numbers stand in an area
    pub stored_is :
        (index : List ℕ) (floats : List Float) (words : List ℕ) (edges : List Float) (most few : ℕ) → index ≡ take few ranking → few ≤ ng → take few ranking ≡ take most ranking →
        ((r : ℕ) → r < length index → plane_in floats words members edges r ≡ bordered (get_or index r 0)) →
        planes_in floats words members edges few ≡ map (bordered_of scene) (ranked_of scene most planes_of_groups)
    stored_is index floats words edges most few e low same each =
        let count : length index ≡ few = ap length e ∙ length-take-le few ranking (rw (ranking_long) low) in
        ranked_is floats words edges most few low same (λ r l. each r (rw (count) l) ∙ ap (λ (xs : List ℕ). bordered (get_or xs r 0)) e)

  -- the ranking as the sort leaves it, with what the area holds beyond
  pub order_is : (xs ys : List ℕ) (k few : ℕ) → xs ≡ ranking_of scene (planes_in gfloats gwords members [] k) → k ≡ ng → few ≤ ng → take few (xs ++ ys) ≡ take few ranking
  order_is xs ys k few e c low =
      let is : xs ≡ ranking = e ∙ ap (λ (j : ℕ). ranking_of scene (planes_in gfloats gwords members [] j)) c in
      take-append-le few xs ys (rw (is, ranking_long) low) ∙ ap (take few) is

  -- the first `most` planes are all of them, where there are no more
  pub cut_is : (few most : ℕ) → (ng ≤ most → few ≡ ng) → (most ≤ ng → few ≡ most) → take few ranking ≡ take most ranking
  cut_is few most all cut = go (leb ng most) refl
    where
      go : (b : Bool) → leb ng most ≡ b → take few ranking ≡ take most ranking
      go true e =
          let h = leb-true ng most e in
          ap (λ (k : ℕ). take k ranking) (all h) ∙ take_all ng ranking (rw (ranking_long) (le_refl ng)) ∙ sym (take_all most ranking (rw (ranking_long) h))
      go false e = let h = leb-false ng most e in ap (λ (k : ℕ). take k ranking) (cut (omega arith))
