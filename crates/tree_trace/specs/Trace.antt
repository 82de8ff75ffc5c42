-- The nearest hit of a ray in a tree, by recursion: `FlatBvh::intersect`, whose stack is this recursion (`stack_is_trace` of
-- `proofs/Stack.antt`): the child that is popped first is visited with all below it, then the other. `test` is the test of a ray and a
-- box, so that the tree may have padded boxes and the test of those.
use Rattle.std.specs.Prelude.{ℕ, ◌*◌, ◌<◌, ◌≤◌, ◌≡◌, ⊤, true, Float, eqb, length, cond, List, [], ◌∷◌, Option, None, Some, is_some}
use Rattle.std.specs.Float.Ieee.{le}
use mathlib.Core.List.{foldl}
use Rattle.vector.specs.declared.Ray.{Ray}
use Rattle.vector.specs.Ray.{point_at_of}
use Rattle.geometry.specs.declared.Aabb.{Aabb}
use Rattle.geometry.specs.declared.Triangle.{Triangle}
use Rattle.geometry.specs.Slab.{padded_of, intersect_tof}
use Rattle.tree_build.specs.Tree.{Tree, leaf, node, box_of}
use Rattle.tree_build.specs.Areas.{Sound}
use Rattle.tree_trace.specs.declared.Turns.{Turns}
use Rattle.tree_trace.specs.declared.Turns.TheVariants.{Neither, One, Both}
use Rattle.tree_trace.specs.declared.Closest.{Closest}
use Rattle.tree_trace.specs.declared.RayHit.{RayHit}
use Rattle.tree_trace.specs.Leaf.{visit_all_of}
use Rattle.tree_trace.specs.declared.FlatBvh.{FlatBvh}

abbrev pub Test : Type 0
Test = Aabb → Ray → Float → Option Float

-- the children that are entered, nearer first, and the left one first where both are as near: `if a <= b`
abbrev pub near_first : {A : Type 0} → Option Float → Option Float → A → A → List A
near_first None None l r = []
near_first (Some a) None l r = l ∷ []
near_first None (Some b) l r = r ∷ []
near_first (Some a) (Some b) l r = cond (le a b) (l ∷ r ∷ []) (r ∷ l ∷ [])

-- each node's box is tested when it is visited, with the closest of then
unfoldable pub trace_tree : Test → (ℕ → Triangle) → Ray → Tree → Closest → Closest
trace_tree test tri ray (leaf b xs) best = cond (is_some (test b ray best.distance)) (visit_all_of tri ray xs best) best
trace_tree test tri ray (node b l r) best =
    cond (is_some (test b ray best.distance))
    (foldl (λ x f. f x) best
    (near_first (test (box_of l) ray best.distance) (test (box_of r) ray best.distance) (trace_tree test tri ray l) (trace_tree test tri ray r)))
    best

-- nothing found, and the ray's whole length to go
abbrev pub none : Ray → Closest
none ray = record { distance = ray.max_distance; index = 0; found = 0 }

-- `RayHit`, with the triangle's index
abbrev pub hit_of : (ℕ → Triangle) → Ray → Closest → Option RayHit
hit_of tri ray c =
    cond (eqb c.found 0)
    None
    (Some (record { distance = c.distance; point = point_at_of ray c.distance; triangle = c.index; material_handle = (tri c.index).material_handle }))

-- `FlatBvh::intersect`
unfoldable pub intersect_of : (ℕ → Triangle) → Ray → Tree → Option RayHit
intersect_of tri ray t = hit_of tri ray (trace_tree intersect_tof tri ray t (none ray))

-- a tree with its boxes padded
unfoldable pub padded_tree_of : Tree → Tree
padded_tree_of (leaf b xs) = leaf (padded_of b) xs
padded_tree_of (node b l r) = node (padded_of b) (padded_tree_of l) (padded_tree_of r)

-- ---- contracts

abbrev pub list_of : Turns → List ℕ
list_of Neither = []
list_of (One i) = i ∷ []
list_of (Both i j far) = i ∷ j ∷ []

-- the children that are visited are entered, where `entry` says of each child where its box is entered: the second one at `far`
abbrev pub Entered : (ℕ → Option Float) → Turns → Type 0
Entered entry Neither = ⊤
Entered entry (One i) = is_some (entry i) ≡ true
Entered entry (Both i j far) = (is_some (entry i) ≡ true) × (entry j ≡ Some far)

-- they are below m
abbrev pub Within : ℕ → Turns → Type 0
Within m Neither = ⊤
Within m (One i) = i < m
Within m (Both i j far) = (i < m) × (j < m)

-- the areas of a tree of so many nodes
pub record Held (padded : List Float) (nodes perm : List ℕ) (rows : List Float) (count : ℕ) : Type 0 where
  pub boxes_room : 6 * count ≤ length padded
  pub nodes_room : 4 * count ≤ length nodes
  pub rows_room : 10 * length perm ≤ length rows
  pub sound : Sound nodes 0 count 0 (length perm)

-- the tree that is lent
abbrev pub BvhHeld : FlatBvh → Type 0
BvhHeld b = Held b.padded.now b.nodes.now b.leaf_order.now b.leaves.now b.count
