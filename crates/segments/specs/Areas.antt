-- What a trace asks of the areas that it is lent, and what they read as.
use Rattle.std.specs.Prelude.{ℕ, ◌+◌, ◌*◌, ◌≤◌, ◌<◌, Float, length, get_or, ◌≡◌, List, Option}
use Rattle.vector.specs.declared.Ray.{Ray}
use Rattle.geometry.specs.declared.Triangle.{Triangle}
use Rattle.tree_build.specs.Tree.{Tree}
use Rattle.tree_build.specs.Areas.{tree_at_of}
use Rattle.tree_trace.specs.declared.RayHit.{RayHit}
use Rattle.tree_trace.specs.Leaf.{LeafRows}
use Rattle.tree_trace.specs.Trace.{intersect_of, padded_tree_of, Held}
use Rattle.segments.specs.Materials.{material_floats}
use Rattle.tree_trace.specs.declared.FlatBvh.{FlatBvh}

-- the trace of a tree over triangles
abbrev pub trace_in : (ℕ → Triangle) → Tree → Ray → Option RayHit
trace_in tri t ray = intersect_of tri ray t

-- the areas read as the tree t over the triangles tri
pub record TreeReads (padded : List Float) (nodes perm : List ℕ) (rows : List Float) (handles : List ℕ) (tri : ℕ → Triangle) (t : Tree) : Type 0 where
  pub rows_of : LeafRows tri perm rows
  pub handles_of : (i : ℕ) → (tri i).material_handle ≡ get_or handles i 0
  pub tree_held : tree_at_of padded nodes perm 33 0 ≡ padded_tree_of t

-- they hold a tree of `count` nodes, which reads as some tree over some triangles, and each handle has its row of the material table
pub record Traceable (padded : List Float) (nodes perm : List ℕ) (rows : List Float) (handles : List ℕ) (count : ℕ) (materials : List Float) : Type 0 where
  pub held : Held padded nodes perm rows count
  pub some : 0 < count
  pub tri : ℕ → Triangle
  pub tree : Tree
  pub reads : TreeReads padded nodes perm rows handles tri tree
  pub materials_room : (i : ℕ) → material_floats * get_or handles i 0 + material_floats ≤ length materials

-- the same of the tree that is lent
abbrev pub BvhReads : FlatBvh → (ℕ → Triangle) → Tree → Type 0
BvhReads b tri t = TreeReads b.padded.now b.nodes.now b.leaf_order.now b.leaves.now b.handles.now tri t

abbrev pub BvhTraceable : FlatBvh → List Float → Type 0
BvhTraceable b materials = Traceable b.padded.now b.nodes.now b.leaf_order.now b.leaves.now b.handles.now b.count materials
