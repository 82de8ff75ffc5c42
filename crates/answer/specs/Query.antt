-- What a query searches, over the list of a scene's triangles: the path of each sequence of its planes, and the search of them.
use Rattle.std.specs.Prelude.{ℕ, List, Float}
use Rattle.vector.specs.declared.Vec3.{Vec3}
use Rattle.geometry.specs.declared.Triangle.{Triangle}
use Rattle.scene.specs.declared.Settings.{Settings}
use Rattle.planes_patches.specs.Triangles.{nth_triangle}
use Rattle.scene_bvh.specs.SceneTree.{tree_of}
use Rattle.scene_planes.specs.ScenePlanes.{planes_for}
use Rattle.claim.specs.Answer.{Outcome}
use Rattle.claim.specs.Query.{Search, searched}
use Rattle.search.specs.Outcome.{on_bytes, outcomes_of}

-- what the path by way of a sequence comes to; nothing of any other sequence is given
abbrev pub path_for : Settings → List Triangle → List Float → Vec3 → Vec3 → List ℕ → Outcome
path_for st ts materials source listener = outcomes_of st (planes_for st ts) (nth_triangle ts) (tree_of ts) materials source listener

-- `expand_images` over sequences of up to `order` planes, with room for `room` candidates
abbrev pub search_for : Settings → List Triangle → List Float → Vec3 → Vec3 → ℕ → ℕ → Search
search_for st ts materials source listener order room = searched (on_bytes (planes_for st ts) source) order room (path_for st ts materials source listener)
