-- What the planes and the search ask of the areas, from `SceneTree`: padded is `padded_in m tree`, what `&tree[..12 * m]` reads as, and rows is
-- `rows_in m tree`, what `&tree[12 * m..22 * m]` reads as.
use mathlib.Core.Path.{◌≡◌, sym, ap, subst}
use mathlib.Core.List.{List}
use Prim.Native.Nat.{ℕ, ◌-◌, ◌*◌}
use native.Mathlib.Omega.{arith}
use lib.Ieee.{Float}
use lib.ListN.{get_or, take, drop}
use Rattle.order.specs.Sort.{Below}
use Rattle.scene.specs.Scene.{Scene}
use Rattle.placing.specs.Corners.{triangles}
use Rattle.planes_patches.specs.Triangles.{nth_triangle}
use Rattle.mirror.specs.Rows.{AllRead}
use Rattle.segments.specs.Areas.{Traceable}
use Rattle.planes_buried.specs.Probe.{TreeHeld}
use Rattle.bvh.specs.Bvh.{padded_in, rows_in}
use Rattle.scene_bvh.specs.SceneTree.{tree_of, SceneTree}

-- A `&mut` area of which both parts are lent at once has to be cut as `&tree[0..12 * m]` and `&tree[12 * m..22 * m]`; the first then reads so:
pub from_zero : (m : ℕ) (tree : List Float) → take (12 * m - 0) (drop 0 tree) ≡ padded_in m tree
from_zero m tree = let e : 12 * m - 0 ≡ 12 * m = omega arith in ap (λ (k : ℕ). take k tree) e

pub scene_tree_from_zero :
    (s : Scene) (columns : List Float) (handles : List ℕ) (n m : ℕ) (nodes perm : List ℕ) (tree : List Float) (count : ℕ) →
    SceneTree s columns handles n m (padded_in m tree) nodes perm (rows_in m tree) count →
    SceneTree s columns handles n m (take (12 * m - 0) (drop 0 tree)) nodes perm (rows_in m tree) count
scene_tree_from_zero s columns handles n m nodes perm tree count t =
    subst (λ (l : List Float). SceneTree s columns handles n m l nodes perm (rows_in m tree) count) (sym (from_zero m tree)) t

module _
    (s : Scene) (columns : List Float) (handles : List ℕ) (n m : ℕ) (padded : List Float) (nodes perm : List ℕ) (rows : List Float) (count : ℕ)
    (t : SceneTree s columns handles n m padded nodes perm rows count)
  where
    -- the segments and the search
    pub traceable : Traceable padded nodes perm rows handles count s.materials
    traceable =
        record {
          held = t.tree.held;
          some = t.tree.some;
          tri = nth_triangle (triangles s);
          tree = tree_of (triangles s);
          reads = t.tree.reads;
          materials_room = t.triangles_read.materials_room;
        }

    -- the buried planes
    pub traced : TreeHeld (nth_triangle (triangles s)) (tree_of (triangles s)) padded nodes perm rows handles
    traced =
        record {
          rows = t.tree.reads.rows_of;
          handled = t.tree.reads.handles_of;
          tree = t.tree.reads.tree_held;
        }

    -- the bounces: the triangles of a plane, numbers below m
    pub all_read_as : (is : List ℕ) → Below m is → AllRead (nth_triangle (triangles s)) columns n is
    unfolding AllRead Below
    all_read_as is inside k h = t.triangles_read.reads (get_or is k 0) (inside k h)
