-- The laws of `trace_tree` over a tree that is read from areas, by cases on its tests and on the two forms of a node:
--     trace_none, trace_leaf, trace_node     the tree at a node: out of fuel, a leaf, and an inner node with its children in turn
--     visit_step, visit_done                 one more triangle of a leaf
--     trace_padded                           padded boxes and their test give what plain boxes and `intersect_tof` give
use mathlib.Core.Path.{◌≡◌, refl, sym, ap, ◌∙◌}
use mathlib.Core.Logic.{⊎_elim}
use mathlib.Core.Bool.{Bool, true, false, cond}
use mathlib.Core.List.{List, [], ◌∷◌, foldl}
use Prim.Native.Nat.{ℕ, zero, suc, ◌+◌, ◌-◌, ◌<◌, ◌≤◌}
use native.Mathlib.Omega.{arith}
use lib.Ieee.{Float, le}
use lib.ListN.{length, take, drop, get_or}
use lib.Seq.{drop-cons}
use borrow.Author.Tests.{eq-eqb, ne_eqb}
use Rattle.vector.specs.declared.Vec3.{Vec3}
use Rattle.vector.specs.declared.Ray.{Ray}
use Rattle.geometry.specs.declared.Aabb.{Aabb}
use Rattle.geometry.specs.declared.Triangle.{Triangle}
use Rattle.std.specs.Prelude.{Option, None, Some, is_some}
use Rattle.geometry.specs.Slab.{padded_of, slab_of, intersect_tof}
use Rattle.geometry.specs.Intersect.{intersect_max_of}
use Rattle.tree_build.specs.Tree.{Tree, leaf, node, box_of}
use Rattle.tree_build.specs.Areas.{box_at_of, links_at_of, read_of, tree_at_of, Sound}
use Rattle.tree_build.proofs.Frame.{tree_box, read_node, read_leaf}
use Rattle.tree_trace.specs.declared.Closest.{Closest}
use Rattle.tree_trace.specs.Leaf.{visit_edges_of, visit_of, visit_all_of, corner_at_of, edges_at_of, RowAt}
use Rattle.vector.specs.Ray.{point_at_of}
use Rattle.tree_trace.specs.Trace.{Test, near_first, trace_tree, none, intersect_of, padded_tree_of}

-- ---- the triangles of a leaf

-- a triangle by its row
pub visit_row : (t : Triangle) (rows : List Float) (k i : ℕ) (ray : Ray) (best : Closest) → RowAt rows k t →
    visit_edges_of (corner_at_of rows k) (edges_at_of rows k) ray i best ≡ visit_of t ray i best
unfolding visit_edges_of visit_of intersect_max_of
visit_row t rows k i ray best h = rw (h.corner, h.edges)

-- the rest of a leaf, from k up to `end`
pub visit_step : (tri : ℕ → Triangle) (ray : Ray) (p : List ℕ) (k end : ℕ) (best : Closest) → k < end → end ≤ length p →
    visit_all_of tri ray (take (end - k) (drop k p)) best ≡ visit_all_of tri ray (take (end - (k + 1)) (drop (k + 1) p)) (visit_of (tri (get_or p k 0)) ray (get_or p k 0) best)
unfolding visit_all_of
visit_step tri ray p k end best h l =
    let e : end - k ≡ suc (end - (k + 1)) = omega arith in
    let f : suc k ≡ k + 1 = omega arith in
    rw (e, drop-cons p k 0 (omega arith), f)

pub visit_done : (tri : ℕ → Triangle) (ray : Ray) (p : List ℕ) (k end : ℕ) (best : Closest) → end ≤ k → visit_all_of tri ray (take (end - k) (drop k p)) best ≡ best
unfolding visit_all_of
visit_done tri ray p k end best h = let e : end - k ≡ 0 = omega arith in rw e

-- ---- the children in turn

-- the children as numbers: what `on` does to the trees that they stand for
turn_map : (a b : Option Float) (l r : ℕ) (on : ℕ → Closest → Closest) (best : Closest) →
    foldl (λ (x : Closest) (j : ℕ). on j x) best (near_first a b l r) ≡ foldl (λ (x : Closest) (f : Closest → Closest). f x) best (near_first a b (on l) (on r))
turn_map None None l r on best = refl
turn_map None (Some y) l r on best = refl
turn_map (Some x) None l r on best = refl
turn_map (Some x) (Some y) l r on best = go (le x y)
  where
    go : (t : Bool) → foldl (λ (x : Closest) (j : ℕ). on j x) best (cond t (l ∷ r ∷ []) (r ∷ l ∷ [])) ≡ foldl (λ (x : Closest) (f : Closest → Closest). f x) best (cond t (on l ∷ on r ∷ []) (on r ∷ on l ∷ []))
    go true = refl
    go false = refl

-- what does the same for each closest may stand for the other
pub turn_same : (a b : Option Float) (f g f' g' : Closest → Closest) (best : Closest) → ((x : Closest) → f x ≡ f' x) → ((x : Closest) → g x ≡ g' x) →
    foldl (λ (x : Closest) (h : Closest → Closest). h x) best (near_first a b f g) ≡ foldl (λ (x : Closest) (h : Closest → Closest). h x) best (near_first a b f' g')
turn_same None None f g f' g' best p q = refl
turn_same None (Some y) f g f' g' best p q = q best
turn_same (Some x) None f g f' g' best p q = p best
turn_same (Some x) (Some y) f g f' g' best p q = go (le x y)
  where
    go : (t : Bool) → foldl (λ (x : Closest) (h : Closest → Closest). h x) best (cond t (f ∷ g ∷ []) (g ∷ f ∷ [])) ≡ foldl (λ (x : Closest) (h : Closest → Closest). h x) best (cond t (f' ∷ g' ∷ []) (g' ∷ f' ∷ []))
    go true = q (f best) ∙ ap g' (p best)
    go false = p (g best) ∙ ap f' (q best)

-- ---- a node
module _ (test : Test) (tri : ℕ → Triangle) (ray : Ray) where
  -- a box that is not entered
  missed : (t : Tree) (best : Closest) → is_some (test (box_of t) ray best.distance) ≡ false → best ≡ trace_tree test tri ray t best
  unfolding trace_tree
  missed (leaf b xs) best e = rw e
  missed (node b l r) best e = rw e

  at_leaf : (b : Aabb) (xs : List ℕ) (best : Closest) → is_some (test b ray best.distance) ≡ true → visit_all_of tri ray xs best ≡ trace_tree test tri ray (leaf b xs) best
  unfolding trace_tree
  at_leaf b xs best e = rw e

  empty_leaf : (b : Aabb) (best : Closest) → best ≡ trace_tree test tri ray (leaf b []) best
  unfolding trace_tree visit_all_of
  empty_leaf b best = go (is_some (test b ray best.distance))
    where
      go : (t : Bool) → best ≡ cond t best best
      go true = refl
      go false = refl

  at_node : (b : Aabb) (l r : Tree) (best : Closest) → is_some (test b ray best.distance) ≡ true →
      foldl (λ x f. f x) best (near_first (test (box_of l) ray best.distance) (test (box_of r) ray best.distance) (trace_tree test tri ray l) (trace_tree test tri ray r))
      ≡ trace_tree test tri ray (node b l r) best
  unfolding trace_tree
  at_node b l r best e = rw e

  module _ (b : List Float) (l p : List ℕ) (fuel i : ℕ) (best : Closest) where
    pub trace_none : fuel ≡ 0 → best ≡ trace_tree test tri ray (tree_at_of b l p fuel i) best
    unfolding tree_at_of
    trace_none e = rw e (empty_leaf (box_at_of b i) best)

    pub trace_miss : is_some (test (box_at_of b i) ray best.distance) ≡ false → best ≡ trace_tree test tri ray (tree_at_of b l p fuel i) best
    trace_miss e = missed (tree_at_of b l p fuel i) best (rw (tree_box b l p fuel i) e)

    open_tree : (fuel ≡ 0 → ⊥) → read_of (box_at_of b i) (links_at_of l i) p (tree_at_of b l p (fuel - 1)) ≡ tree_at_of b l p fuel i
    unfolding tree_at_of
    open_tree ne = go fuel ne
      where
        go : (f : ℕ) → (f ≡ 0 → ⊥) → read_of (box_at_of b i) (links_at_of l i) p (tree_at_of b l p (f - 1)) ≡ tree_at_of b l p f i
        go zero ne = absurd (ne refl)
        go (suc f) ne = let e : suc f - 1 ≡ f = omega arith in rw e

    pub trace_leaf :
        (fuel ≡ 0 → ⊥) → is_some (test (box_at_of b i) ray best.distance) ≡ true → ((links_at_of l i).len ≡ 0 → ⊥) →
        visit_all_of tri ray (take (links_at_of l i).len (drop (links_at_of l i).start p)) best ≡ trace_tree test tri ray (tree_at_of b l p fuel i) best
    trace_leaf ne e some =
        at_leaf (box_at_of b i) (take (links_at_of l i).len (drop (links_at_of l i).start p)) best e
        ∙ ap (λ (t : Tree). trace_tree test tri ray t best) (sym (read_leaf (box_at_of b i) (links_at_of l i) p (tree_at_of b l p (fuel - 1)) some) ∙ open_tree ne)

    pub trace_node :
        (fuel ≡ 0 → ⊥) → is_some (test (box_at_of b i) ray best.distance) ≡ true → (links_at_of l i).len ≡ 0 → (js : List ℕ) →
        js ≡ near_first (test (box_at_of b (links_at_of l i).left) ray best.distance) (test (box_at_of b (links_at_of l i).right) ray best.distance) (links_at_of l i).left (links_at_of l i).right →
        foldl (λ x j. trace_tree test tri ray (tree_at_of b l p (fuel - 1) j) x) best js ≡ trace_tree test tri ray (tree_at_of b l p fuel i) best
    trace_node ne e none js o =
        let f = fuel - 1 in
        let lt = (links_at_of l i).left in
        let rt = (links_at_of l i).right in
        let on : ℕ → Closest → Closest = λ j. trace_tree test tri ray (tree_at_of b l p f j) in
        let d = best.distance in
        ap (λ (js : List ℕ). foldl (λ (x : Closest) (j : ℕ). on j x) best js) o
        ∙ turn_map (test (box_at_of b lt) ray d) (test (box_at_of b rt) ray d) lt rt on best
        ∙ ap (λ (v : Aabb). foldl (λ (x : Closest) (g : Closest → Closest). g x) best (near_first (test v ray d) (test (box_at_of b rt) ray d) (on lt) (on rt))) (sym (tree_box b l p f lt))
        ∙ ap (λ (v : Aabb). foldl (λ (x : Closest) (g : Closest → Closest). g x) best (near_first (test (box_of (tree_at_of b l p f lt)) ray d) (test v ray d) (on lt) (on rt))) (sym (tree_box b l p f rt))
        ∙ at_node (box_at_of b i) (tree_at_of b l p f lt) (tree_at_of b l p f rt) best e
        ∙ ap (λ (t : Tree). trace_tree test tri ray t best) (sym (read_node (box_at_of b i) (links_at_of l i) p (tree_at_of b l p f) none) ∙ open_tree ne)

-- ---- within the nodes
pub children : (l : List ℕ) (nodes i k : ℕ) → Sound l 0 nodes 0 k → i < nodes → (links_at_of l i).len ≡ 0 → ((links_at_of l i).left < nodes) × ((links_at_of l i).right < nodes)
unfolding Sound
children l nodes i k s h e =
    ⊎_elim (λ w. (w.2, w.4)) (λ w. absurd (let z = w.0 in let y = e in no z y)) (s i (omega arith) h)
  where
    no : {a : ℕ} → 0 < a → a ≡ 0 → ⊥
    no x y = omega arith

pub triangles : (l : List ℕ) (nodes i k : ℕ) → Sound l 0 nodes 0 k → i < nodes → ((links_at_of l i).len ≡ 0 → ⊥) → (links_at_of l i).start + (links_at_of l i).len ≤ k
unfolding Sound
triangles l nodes i k s h ne = ⊎_elim (λ w. absurd (ne w.0)) (λ w. w.2) (s i (omega arith) h)

-- ---- padded boxes

padded_box : (t : Tree) → box_of (padded_tree_of t) ≡ padded_of (box_of t)
unfolding padded_tree_of
padded_box (leaf b xs) = refl
padded_box (node b l r) = refl

pub trace_padded : (tri : ℕ → Triangle) (ray : Ray) (t : Tree) (best : Closest) → trace_tree slab_of tri ray (padded_tree_of t) best ≡ trace_tree intersect_tof tri ray t best
unfolding padded_tree_of trace_tree intersect_tof
trace_padded tri ray (leaf b xs) best = refl
trace_padded tri ray (node b l r) best =
    rw (padded_box l, padded_box r)
    (ap (λ (x : Closest). cond (is_some (slab_of (padded_of b) ray best.distance)) x best)
    (turn_same (slab_of (padded_of (box_of l)) ray best.distance) (slab_of (padded_of (box_of r)) ray best.distance)
    (trace_tree slab_of tri ray (padded_tree_of l)) (trace_tree slab_of tri ray (padded_tree_of r)) (trace_tree intersect_tof tri ray l) (trace_tree intersect_tof tri ray r) best
    (trace_padded tri ray l) (trace_padded tri ray r)))

-- ---- the answer

-- what was traced in a padded tree is the trace of the plain one
pub plain_trace : (tri : ℕ → Triangle) (ray : Ray) (t p : Tree) (c : Closest) → c ≡ trace_tree slab_of tri ray p (none ray) → p ≡ padded_tree_of t → c ≡ trace_tree intersect_tof tri ray t (none ray)
plain_trace tri ray t p c e q = e ∙ ap (λ (x : Tree). trace_tree slab_of tri ray x (none ray)) q ∙ trace_padded tri ray t (none ray)

module _ (tri : ℕ → Triangle) (ray : Ray) (t : Tree) (c : Closest) (e : c ≡ trace_tree intersect_tof tri ray t (none ray)) where
  pub hit_found : (c.found ≡ 0 → ⊥) → (p : Vec3) → p ≡ point_at_of ray c.distance → (h : ℕ) → h ≡ (tri c.index).material_handle →
      Some (record { distance = c.distance; point = p; triangle = c.index; material_handle = h }) ≡ intersect_of tri ray t
  unfolding intersect_of
  hit_found f p ep h eh = rw (← e, ne_eqb c.found 0 f, ep, eh)

  pub hit_nothing : c.found ≡ 0 → None ≡ intersect_of tri ray t
  unfolding intersect_of
  hit_nothing f = rw (← e, eq-eqb c.found 0 f)
