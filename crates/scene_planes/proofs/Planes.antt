-- The planes that `build_planes` leaves over a scene's tree are those of its triangles.
use mathlib.Core.Path.{◌≡◌, ap, ◌∙◌}
use mathlib.Core.List.{List}
use Prim.Native.Nat.{ℕ}
use lib.Ieee.{Float}
use Rattle.geometry.specs.declared.Triangle.{Triangle}
use Rattle.scene.specs.declared.Settings.{Settings}
use Rattle.tree_build.specs.Tree.{Tree}
use Rattle.planes_patches.specs.Triangles.{nth_triangle, triangles_in}
use Rattle.planes_buried.specs.Probe.{probe_of, TreeHeld}
use Rattle.mirror.specs.Rows.{planes_in}
use Rattle.planes.specs.Build.{plane_settings, planes_of_triangles}
use Rattle.scene_bvh.specs.SceneTree.{tree_of, TrianglesRead, TreeStands}
use Rattle.scene_planes.specs.ScenePlanes.{planes_for}

module _ (ts : List Triangle) (columns : List Float) (handles : List ℕ) (n m : ℕ) (materials : List Float) (read : TrianglesRead ts columns handles n m materials) where
  pub planes_are :
      (st : Settings) (padded : List Float) (nodes perm : List ℕ) (leaves : List Float) (nodes_count : ℕ) (floats : List Float) (words members : List ℕ)
      (edges : List Float) (count : ℕ) →
      TreeStands ts padded nodes perm leaves handles nodes_count →
      ((tri : ℕ → Triangle) (k : Tree) → TreeHeld tri k padded nodes perm leaves handles →
      planes_in floats words members edges count ≡ planes_of_triangles (plane_settings st) (probe_of tri k) (triangles_in columns handles n m)) →
      planes_in floats words members edges count ≡ planes_for st ts
  unfolding planes_for
  planes_are st padded nodes perm leaves nodes_count floats words members edges count tree are =
      are (nth_triangle ts) (tree_of ts) (record { rows = tree.reads.rows_of; handled = tree.reads.handles_of; tree = tree.reads.tree_held })
      ∙ ap (planes_of_triangles (plane_settings st) (probe_of (nth_triangle ts) (tree_of ts))) read.all
