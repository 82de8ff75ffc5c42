-- What `validate_image_path` asks of the areas, and what they read as.
use Rattle.std.specs.Prelude.{ℕ, Float, List}
use Rattle.geometry.specs.declared.Triangle.{Triangle}
use Rattle.tree_build.specs.Tree.{Tree}
use Rattle.vector.specs.declared.Vec3.{Vec3}
use Rattle.segments.specs.declared.Transmission.{Transmission}
use Rattle.segments.specs.Materials.{transmission_of_handle}
use Rattle.segments.specs.Segment.{segment_soft_transmission_of}
use Rattle.segments.specs.Areas.{trace_in, TreeReads, Traceable}
use Rattle.bounces.specs.Areas.{PlanesLent, PlanesRead}
use Rattle.tree_trace.specs.declared.FlatBvh.{FlatBvh}
use Rattle.bounces.specs.declared.PlaneTable.{PlaneTable}

-- what is left along a segment of the scene, with so many crossings of a half segment, and probes so far out
abbrev pub soft_in : ℕ → Float → (ℕ → Triangle) → Tree → List Float → Vec3 → Vec3 → Transmission
soft_in limit radius tri t materials = segment_soft_transmission_of (trace_in tri t) (transmission_of_handle materials) limit radius

-- a tree of `nodes_count` nodes with its materials, columns of n triples, and `count` planes
pub record SceneLent (padded : List Float) (nodes perm : List ℕ) (rows : List Float) (handles : List ℕ) (nodes_count : ℕ) (materials columns : List Float) (n : ℕ) (floats : List Float) (words members : List ℕ) (edges : List Float) (count : ℕ) : Type 0 where
  pub traceable : Traceable padded nodes perm rows handles nodes_count materials
  pub planes : PlanesLent columns n floats words members edges count

-- they read as the tree t over the triangles tri
pub record ReadAs (padded : List Float) (nodes perm : List ℕ) (rows : List Float) (handles : List ℕ) (columns : List Float) (n : ℕ) (floats : List Float) (words members : List ℕ) (count : ℕ) (tri : ℕ → Triangle) (t : Tree) : Type 0 where
  pub tree : TreeReads padded nodes perm rows handles tri t
  pub planes : PlanesRead tri columns n floats words members count

-- the same of tree and planes that are lent
abbrev pub SearchLent : FlatBvh → List Float → PlaneTable → Type 0
SearchLent b materials p = SceneLent b.padded.now b.nodes.now b.leaf_order.now b.leaves.now b.handles.now b.count materials p.triangles.now p.n p.floats.now p.words.now p.members.now p.edges.now p.count

abbrev pub SearchReads : FlatBvh → PlaneTable → (ℕ → Triangle) → Tree → Type 0
SearchReads b p tri t = ReadAs b.padded.now b.nodes.now b.leaf_order.now b.leaves.now b.handles.now p.triangles.now p.n p.floats.now p.words.now p.members.now p.count tri t
