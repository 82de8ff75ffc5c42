-- Rows of floats, each stored by one run (`sets`): what is read of the row just stored, and of those before it.
use mathlib.Core.Path.{◌≡◌, refl, ap, ◌∙◌}
use mathlib.Core.List.{List}
use Prim.Native.Nat.{ℕ, suc, ◌+◌, ◌*◌, ◌<◌, ◌≤◌}
use native.Mathlib.Omega.{arith}
use lib.Ieee.{Float, nan}
use lib.ListN.{length, get_or, set}
use lib.Seq.{sets}
use Rattle.vector.specs.declared.Vec3.{Vec3}
use Rattle.geometry.specs.declared.Aabb.{Aabb}
use Rattle.geometry.specs.declared.Edges.{Edges}
use Rattle.tree_split.specs.Split.{aabb_at_of, centroid_at_of}
use Rattle.tree_build.specs.Areas.{box_at_of}
use Rattle.tree_build.proofs.Stores.{sets_at, sets_low}
use Rattle.tree_trace.specs.Leaf.{corner_at_of, edges_at_of}
use Rattle.bvh.specs.Bvh.{box_row, extent_row, edges_row}

-- float j of a row of w floats, at row i and at a row before it
module _ (w : ℕ) (l vs : List Float) (i : ℕ) (size : length vs ≡ w) where
  pub row_at : (j : ℕ) → w * i + w ≤ length l → j < w → get_or (sets l (w * i) vs) (w * i + j) nan ≡ get_or vs j nan
  row_at j h k = sets_at nan vs l (w * i) j (omega arith) (omega arith)

  pub row_first : w * i + w ≤ length l → 0 < w → get_or (sets l (w * i) vs) (w * i) nan ≡ get_or vs 0 nan
  row_first h k = ap (λ (p : ℕ). get_or (sets l (w * i) vs) p nan) {x = w * i} {y = w * i + 0} (omega arith) ∙ row_at 0 h k

-- ---- boxes and centroids
module _ (l : List Float) (i : ℕ) (b : Aabb) (c : Vec3) where
  abbrev nine : List Float
  nine = sets l (9 * i) (extent_row b c)

  pub extent_stores :
      set (set (set (set (set (set (set (set (set l (9 * i) b.min.x) (9 * i + 1) b.min.y) (9 * i + 2) b.min.z) (9 * i + 3) b.max.x) (9 * i + 4) b.max.y) (9 * i + 5) b.max.z) (9 * i + 6) c.x) (9 * i + 7) c.y) (9 * i + 8) c.z
      ≡ nine
  extent_stores =
      let e1 : 9 * i + 1 ≡ suc (9 * i) = omega arith in
      let e2 : 9 * i + 2 ≡ suc (suc (9 * i)) = omega arith in
      let e3 : 9 * i + 3 ≡ suc (suc (suc (9 * i))) = omega arith in
      let e4 : 9 * i + 4 ≡ suc (suc (suc (suc (9 * i)))) = omega arith in
      let e5 : 9 * i + 5 ≡ suc (suc (suc (suc (suc (9 * i))))) = omega arith in
      let e6 : 9 * i + 6 ≡ suc (suc (suc (suc (suc (suc (9 * i)))))) = omega arith in
      let e7 : 9 * i + 7 ≡ suc (suc (suc (suc (suc (suc (suc (9 * i))))))) = omega arith in
      let e8 : 9 * i + 8 ≡ suc (suc (suc (suc (suc (suc (suc (suc (9 * i)))))))) = omega arith in
      rw (e1, e2, e3, e4, e5, e6, e7, e8)

  module _ (room : 9 * i + 9 ≤ length l) where
    nine_at : (j : ℕ) → j < 9 → get_or nine (9 * i + j) nan ≡ get_or (extent_row b c) j nan
    nine_at j h = row_at 9 l (extent_row b c) i refl j room h

    pub aabb_here : aabb_at_of nine i ≡ b
    unfolding aabb_at_of
    aabb_here =
        let e0 : get_or nine (9 * i) nan ≡ b.min.x = row_first 9 l (extent_row b c) i refl room (omega arith) in
        let e1 : get_or nine (9 * i + 1) nan ≡ b.min.y = nine_at 1 (omega arith) in
        let e2 : get_or nine (9 * i + 2) nan ≡ b.min.z = nine_at 2 (omega arith) in
        let e3 : get_or nine (9 * i + 3) nan ≡ b.max.x = nine_at 3 (omega arith) in
        let e4 : get_or nine (9 * i + 4) nan ≡ b.max.y = nine_at 4 (omega arith) in
        let e5 : get_or nine (9 * i + 5) nan ≡ b.max.z = nine_at 5 (omega arith) in
        rw (e0, e1, e2, e3, e4, e5)

    pub centroid_here : centroid_at_of nine i ≡ c
    unfolding centroid_at_of
    centroid_here =
        let e6 : get_or nine (9 * i + 6) nan ≡ c.x = nine_at 6 (omega arith) in
        let e7 : get_or nine (9 * i + 7) nan ≡ c.y = nine_at 7 (omega arith) in
        let e8 : get_or nine (9 * i + 8) nan ≡ c.z = nine_at 8 (omega arith) in
        rw (e6, e7, e8)

  nine_low : (k : ℕ) → k < i → (j : ℕ) → j < 9 → get_or nine (9 * k + j) nan ≡ get_or l (9 * k + j) nan
  nine_low k h j s = sets_low nan (extent_row b c) l (9 * i) (9 * k + j) (omega arith)

  pub aabb_before : (k : ℕ) → k < i → aabb_at_of nine k ≡ aabb_at_of l k
  unfolding aabb_at_of
  aabb_before k h =
      let e0 : get_or nine (9 * k) nan ≡ get_or l (9 * k) nan = sets_low nan (extent_row b c) l (9 * i) (9 * k) (omega arith) in
      rw (e0, nine_low k h 1 (omega arith), nine_low k h 2 (omega arith), nine_low k h 3 (omega arith), nine_low k h 4 (omega arith), nine_low k h 5 (omega arith))

  pub centroid_before : (k : ℕ) → k < i → centroid_at_of nine k ≡ centroid_at_of l k
  unfolding centroid_at_of
  centroid_before k h = rw (nine_low k h 6 (omega arith), nine_low k h 7 (omega arith), nine_low k h 8 (omega arith))

-- ---- boxes
module _ (l : List Float) (i : ℕ) (b : Aabb) where
  abbrev six : List Float
  six = sets l (6 * i) (box_row b)

  pub box_stores :
      set (set (set (set (set (set l (6 * i) b.min.x) (6 * i + 1) b.min.y) (6 * i + 2) b.min.z) (6 * i + 3) b.max.x) (6 * i + 4) b.max.y) (6 * i + 5) b.max.z ≡ six
  box_stores =
      let e1 : 6 * i + 1 ≡ suc (6 * i) = omega arith in
      let e2 : 6 * i + 2 ≡ suc (suc (6 * i)) = omega arith in
      let e3 : 6 * i + 3 ≡ suc (suc (suc (6 * i))) = omega arith in
      let e4 : 6 * i + 4 ≡ suc (suc (suc (suc (6 * i)))) = omega arith in
      let e5 : 6 * i + 5 ≡ suc (suc (suc (suc (suc (6 * i))))) = omega arith in
      rw (e1, e2, e3, e4, e5)

  pub box_here : 6 * i + 6 ≤ length l → box_at_of six i ≡ b
  unfolding box_at_of
  box_here room =
      let at : (j : ℕ) → j < 6 → get_or six (6 * i + j) nan ≡ get_or (box_row b) j nan = λ j h. row_at 6 l (box_row b) i refl j room h in
      let e0 : get_or six (6 * i) nan ≡ b.min.x = row_first 6 l (box_row b) i refl room (omega arith) in
      let e1 : get_or six (6 * i + 1) nan ≡ b.min.y = at 1 (omega arith) in
      let e2 : get_or six (6 * i + 2) nan ≡ b.min.z = at 2 (omega arith) in
      let e3 : get_or six (6 * i + 3) nan ≡ b.max.x = at 3 (omega arith) in
      let e4 : get_or six (6 * i + 4) nan ≡ b.max.y = at 4 (omega arith) in
      let e5 : get_or six (6 * i + 5) nan ≡ b.max.z = at 5 (omega arith) in
      rw (e0, e1, e2, e3, e4, e5)

  pub box_before : (k : ℕ) → k < i → box_at_of six k ≡ box_at_of l k
  unfolding box_at_of
  box_before k h =
      let low : (j : ℕ) → j < 6 → get_or six (6 * k + j) nan ≡ get_or l (6 * k + j) nan = λ j s. sets_low nan (box_row b) l (6 * i) (6 * k + j) (omega arith) in
      let e0 : get_or six (6 * k) nan ≡ get_or l (6 * k) nan = sets_low nan (box_row b) l (6 * i) (6 * k) (omega arith) in
      rw (e0, low 1 (omega arith), low 2 (omega arith), low 3 (omega arith), low 4 (omega arith), low 5 (omega arith))

-- ---- corners and edges
module _ (l : List Float) (i : ℕ) (a : Vec3) (e : Edges) where
  abbrev ten : List Float
  ten = sets l (10 * i) (edges_row a e)

  pub row_stores_lem :
      set (set (set (set (set (set (set (set (set (set l (10 * i) a.x) (10 * i + 1) a.y) (10 * i + 2) a.z) (10 * i + 3) e.edge1.x) (10 * i + 4) e.edge1.y) (10 * i + 5) e.edge1.z) (10 * i + 6) e.edge2.x) (10 * i + 7) e.edge2.y) (10 * i + 8) e.edge2.z) (10 * i + 9) e.least_det
      ≡ ten
  row_stores_lem =
      let e1 : 10 * i + 1 ≡ suc (10 * i) = omega arith in
      let e2 : 10 * i + 2 ≡ suc (suc (10 * i)) = omega arith in
      let e3 : 10 * i + 3 ≡ suc (suc (suc (10 * i))) = omega arith in
      let e4 : 10 * i + 4 ≡ suc (suc (suc (suc (10 * i)))) = omega arith in
      let e5 : 10 * i + 5 ≡ suc (suc (suc (suc (suc (10 * i))))) = omega arith in
      let e6 : 10 * i + 6 ≡ suc (suc (suc (suc (suc (suc (10 * i)))))) = omega arith in
      let e7 : 10 * i + 7 ≡ suc (suc (suc (suc (suc (suc (suc (10 * i))))))) = omega arith in
      let e8 : 10 * i + 8 ≡ suc (suc (suc (suc (suc (suc (suc (suc (10 * i)))))))) = omega arith in
      let e9 : 10 * i + 9 ≡ suc (suc (suc (suc (suc (suc (suc (suc (suc (10 * i))))))))) = omega arith in
      rw (e1, e2, e3, e4, e5, e6, e7, e8, e9)

  module _ (room : 10 * i + 10 ≤ length l) where
    ten_at : (j : ℕ) → j < 10 → get_or ten (10 * i + j) nan ≡ get_or (edges_row a e) j nan
    ten_at j h = row_at 10 l (edges_row a e) i refl j room h

    pub corner_here : corner_at_of ten i ≡ a
    unfolding corner_at_of
    corner_here =
        let e0 : get_or ten (10 * i) nan ≡ a.x = row_first 10 l (edges_row a e) i refl room (omega arith) in
        let e1 : get_or ten (10 * i + 1) nan ≡ a.y = ten_at 1 (omega arith) in
        let e2 : get_or ten (10 * i + 2) nan ≡ a.z = ten_at 2 (omega arith) in
        rw (e0, e1, e2)

    pub edges_here : edges_at_of ten i ≡ e
    unfolding edges_at_of
    edges_here =
        let e3 : get_or ten (10 * i + 3) nan ≡ e.edge1.x = ten_at 3 (omega arith) in
        let e4 : get_or ten (10 * i + 4) nan ≡ e.edge1.y = ten_at 4 (omega arith) in
        let e5 : get_or ten (10 * i + 5) nan ≡ e.edge1.z = ten_at 5 (omega arith) in
        let e6 : get_or ten (10 * i + 6) nan ≡ e.edge2.x = ten_at 6 (omega arith) in
        let e7 : get_or ten (10 * i + 7) nan ≡ e.edge2.y = ten_at 7 (omega arith) in
        let e8 : get_or ten (10 * i + 8) nan ≡ e.edge2.z = ten_at 8 (omega arith) in
        let e9 : get_or ten (10 * i + 9) nan ≡ e.least_det = ten_at 9 (omega arith) in
        rw (e3, e4, e5, e6, e7, e8, e9)

  ten_low : (k : ℕ) → k < i → (j : ℕ) → j < 10 → get_or ten (10 * k + j) nan ≡ get_or l (10 * k + j) nan
  ten_low k h j s = sets_low nan (edges_row a e) l (10 * i) (10 * k + j) (omega arith)

  pub corner_before : (k : ℕ) → k < i → corner_at_of ten k ≡ corner_at_of l k
  unfolding corner_at_of
  corner_before k h =
      let e0 : get_or ten (10 * k) nan ≡ get_or l (10 * k) nan = sets_low nan (edges_row a e) l (10 * i) (10 * k) (omega arith) in
      rw (e0, ten_low k h 1 (omega arith), ten_low k h 2 (omega arith))

  pub edges_before : (k : ℕ) → k < i → edges_at_of ten k ≡ edges_at_of l k
  unfolding edges_at_of
  edges_before k h =
      rw (ten_low k h 3 (omega arith), ten_low k h 4 (omega arith), ten_low k h 5 (omega arith), ten_low k h 6 (omega arith), ten_low k h 7 (omega arith), ten_low k h 8 (omega arith), ten_low k h 9 (omega arith))
