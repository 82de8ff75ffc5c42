-- What `build_scene` leaves is what the search asks for, and the search over it is that over the scene's triangles.
use mathlib.Core.Path.{◌≡◌, ap, subst, ◌∙◌}
use mathlib.Core.List.{List}
use Prim.Native.Nat.{ℕ, ◌*◌, ◌≤◌}
use native.Mathlib.Nat.{lt_of_lt_of_le}
use lib.ListN.{length, get_or}
use lib.Ieee.{Float}
use Rattle.order.specs.Sort.{Below}
use Rattle.vector.specs.declared.Vec3.{Vec3}
use Rattle.columns.specs.Columns.{column_count}
use Rattle.scene.specs.declared.Settings.{Settings}
use Rattle.scene.specs.Scene.{Scene}
use Rattle.placing.specs.Corners.{triangles}
use Rattle.planes_patches.specs.Triangles.{nth_triangle}
use Rattle.mirror.specs.Plane.{Plane}
use Rattle.mirror.specs.Rows.{row_of, tris_of, planes_in, PlanesHeld, AllRead}
use Rattle.segments.specs.Areas.{Traceable}
use Rattle.bounces.specs.Areas.{PlanesRead}
use Rattle.paths.specs.Areas.{SceneLent, ReadAs}
use Rattle.claim.specs.Query.{Search, searched}
use Rattle.search.specs.Outcome.{on_bytes, outcomes_of}
use Rattle.scene_bvh.specs.SceneTree.{tree_of, SceneTree}
use Rattle.scene_bvh.proofs.Asked.{traceable}
use Rattle.scene_planes.specs.ScenePlanes.{planes_for}
use Rattle.answer.specs.Query.{search_for}

-- triangles below m are below n
held_wider : (floats : List Float) (words members : List ℕ) (edges : List Float) (m n count : ℕ) → m ≤ n → PlanesHeld floats words members edges m count → PlanesHeld floats words members edges n count
unfolding Below
held_wider floats words members edges m n count h k =
    record {
      floats_room = k.floats_room;
      words_room = k.words_room;
      runs = λ p l. let r = k.runs p l in record { members_room = r.members_room; edges_room = r.edges_room; below = λ i j. lt_of_lt_of_le (r.below i j) h };
    }

module _
    (s : Scene) (columns : List Float) (handles : List ℕ) (n m : ℕ) (padded : List Float) (nodes perm : List ℕ) (leaves : List Float) (nodes_count : ℕ)
    (floats : List Float) (words members : List ℕ) (edges : List Float) (count : ℕ) (t : SceneTree s columns handles n m padded nodes perm leaves nodes_count)
    (held : PlanesHeld floats words members edges m count)
  where
    pub search_lent :
        (materials : List Float) → s.materials ≡ materials → column_count * n ≤ length columns → m ≤ n →
        SceneLent padded nodes perm leaves handles nodes_count materials columns n floats words members edges count
    search_lent materials same wide fewer =
        record {
          traceable = subst (λ (ms : List Float). Traceable padded nodes perm leaves handles nodes_count ms) same (traceable s columns handles n m padded nodes perm leaves nodes_count t);
          planes = record { columns_room = wide; held = held_wider floats words members edges m n count fewer held };
        }

    planes_read : PlanesRead (nth_triangle (triangles s)) columns n floats words members count
    unfolding PlanesRead AllRead Below
    planes_read p l k h = t.triangles_read.reads (get_or (tris_of (row_of floats words p) members) k 0) ((held.runs p l).below k h)

    pub search_reads : ReadAs padded nodes perm leaves handles columns n floats words members count (nth_triangle (triangles s)) (tree_of (triangles s))
    search_reads = record { tree = t.tree.reads; planes = planes_read }

    pub search_for_lem :
        (st : Settings) (materials : List Float) (source listener : Vec3) (order room : ℕ) (w : Search) →
        w ≡ searched (on_bytes (planes_in floats words members edges count) source) order room
        (outcomes_of st (planes_in floats words members edges count) (nth_triangle (triangles s)) (tree_of (triangles s)) materials source listener) →
        planes_in floats words members edges count ≡ planes_for st (triangles s) → w ≡ search_for st (triangles s) materials source listener order room
    search_for_lem st materials source listener order room w e are =
        e ∙ ap (λ (ps : List Plane). searched (on_bytes ps source) order room (outcomes_of st ps (nth_triangle (triangles s)) (tree_of (triangles s)) materials source listener)) are
