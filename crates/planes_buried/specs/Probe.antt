-- The probe of the buried patches: a ray's nearest hit in the tree of the scene.
use Rattle.std.specs.Prelude.{ℕ, ◌≡◌, Bool, ◌&&◌, List, Float, get_or, is_some}
use Rattle.std.specs.Float.Ieee.{neg}
use Rattle.float.specs.Literals.{one32}
use Rattle.vector.specs.declared.Ray.{Ray}
use Rattle.geometry.specs.declared.Triangle.{Triangle}
use Rattle.tree_build.specs.Tree.{Tree}
use Rattle.tree_build.specs.Areas.{tree_at_of}
use Rattle.tree_trace.specs.Leaf.{LeafRows}
use Rattle.tree_trace.specs.Trace.{intersect_of, padded_tree_of}
use Rattle.planes_buried.specs.Buried.{probe_ray_of}
use Rattle.tree_trace.specs.declared.FlatBvh.{FlatBvh}

-- `probe`
unfoldable pub probe_of : (ℕ → Triangle) → Tree → Ray → Bool
probe_of tri t ray = is_some (intersect_of tri ray t)

-- the areas hold the tree of these triangles
pub record TreeHeld (tri : ℕ → Triangle) (t : Tree) (padded : List Float) (nodes perm : List ℕ) (leaves : List Float) (handles : List ℕ) : Type 0 where
  pub rows : LeafRows tri perm leaves
  pub handled : (i : ℕ) → (tri i).material_handle ≡ get_or handles i 0
  pub tree : tree_at_of padded nodes perm 33 0 ≡ padded_tree_of t

-- a probe finds something on both sides of a triangle
unfoldable pub lies_between : (Ray → Bool) → Triangle → Float → Bool
lies_between probe t reach = probe (probe_ray_of t reach one32) && probe (probe_ray_of t reach (neg one32))

-- the tree that is lent holds these triangles
abbrev pub BvhTreeHeld : (ℕ → Triangle) → Tree → FlatBvh → Type 0
BvhTreeHeld tri t b = TreeHeld tri t b.padded.now b.nodes.now b.leaf_order.now b.leaves.now b.handles.now
