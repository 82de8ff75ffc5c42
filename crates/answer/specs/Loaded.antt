-- A loaded scene: what is asked of it and of the areas, the end of the search over it, and the answer.
use Rattle.std.specs.Prelude.{ℕ, ◌≤◌, ◌≡◌, Bool, List, Float}
use Rattle.vector.specs.declared.Vec3.{Vec3}
use Rattle.scene.specs.declared.Settings.{Settings}
use Rattle.scene.specs.Limits.{most_crossings}
use Rattle.scene.specs.Scene.{Scene}
use Rattle.placing.specs.Corners.{triangles}
use Rattle.planes_ranked.specs.Areas.{TrianglesLent}
use Rattle.planes.specs.Areas.{PlanesRoom}
use Rattle.sequences.specs.Allowed.{most_planes}
use Rattle.ranking.specs.Rows.{CandidateRows, candidates_in}
use Rattle.claim.specs.Query.{search}
use Rattle.search.specs.declared.Found.{Found}
use Rattle.front.specs.Asked.{silent_of, used_order, order_of_search, limit_of}
use Rattle.scene_bvh.specs.SceneTree.{cleared_from, SceneLoaded}
use Rattle.scene_planes.specs.ScenePlanes.{TreeRoom}
use Rattle.answer.specs.declared.Answered.{Answered}
use Rattle.answer.specs.Query.{search_for}
use Rattle.answer.specs.Answer.{query_for, by_refusal, Answers, Sane, SendRoom}

-- ---- the search

-- the columns and handles are those of some scene with these materials, the handles past its triangles 0
pub record HeldScene (columns : List Float) (handles : List ℕ) (n m : ℕ) (materials : List Float) : Type 0 where
  pub scene : Scene
  pub found : List ℕ
  pub loaded : SceneLoaded scene columns found n m
  pub cleared : handles ≡ cleared_from m found
  pub same : scene.materials ≡ materials

-- where something is searched: such a scene, and room for its tree, its planes and the candidates
pub record Heard
    (st : Settings) (n m room : ℕ) (columns : List Float) (handles : List ℕ) (materials tree : List Float) (nodes leaf_order keys low_keys words scratch index numbers adjacency queue offsets plane_triangles plane_words : List ℕ) (plane_floats floats plane_edges : List Float)
    : Type 0 where
  pub held : HeldScene columns handles n m materials
  pub lent : TrianglesLent columns handles n m
  pub for_tree : TreeRoom n tree nodes leaf_order
  pub for_planes : PlanesRoom n keys low_keys words scratch index numbers adjacency queue offsets plane_triangles plane_words plane_floats floats plane_edges
  pub few : st.max_reflection_planes ≤ most_planes
  pub crossings : st.crossing_limit ≤ most_crossings
  pub for_found : CandidateRows room floats numbers

-- the search's end is that over the triangles of the scene that was loaded
pub record Finds
    (st : Settings) (source listener : Vec3) (separated : Bool) (room n m : ℕ) (columns : List Float) (handles : List ℕ) (materials : List Float) (r : Found) (floats : List Float)
    (numbers : List ℕ)
    : Type 0 where
  pub over : (s : Scene) (found : List ℕ) → SceneLoaded s columns found n m → handles ≡ cleared_from m found → s.materials ≡ materials →
      search r.images r.rays (candidates_in r.found floats numbers) r.over ≡
      search_for st (triangles s) s.materials source listener (used_order (silent_of separated source listener m) (order_of_search st)) room

-- ---- the answer

-- the columns and handles are as `load_scene` left them for some scene with these materials
pub record LoadedScene (columns : List Float) (handles : List ℕ) (n m : ℕ) (materials : List Float) : Type 0 where
  pub scene : Scene
  pub loaded : SceneLoaded scene columns handles n m
  pub same : scene.materials ≡ materials

-- where no refusal of 1 to 6 applies: such a scene, settings within their limits, and room for all
pub record Ready
    (st : Settings) (n m room : ℕ) (columns : List Float) (handles : List ℕ) (materials tree : List Float) (nodes leaf_order keys low_keys words scratch index numbers adjacency queue offsets plane_triangles plane_words : List ℕ) (plane_floats floats plane_edges : List Float)
    (out : List ℕ)
    : Type 0 where
  pub scene : LoadedScene columns handles n m materials
  pub lent : TrianglesLent columns handles n m
  pub for_tree : TreeRoom n tree nodes leaf_order
  pub for_planes : PlanesRoom n keys low_keys words scratch index numbers adjacency queue offsets plane_triangles plane_words plane_floats floats plane_edges
  pub few : st.max_reflection_planes ≤ most_planes
  pub crossings : st.crossing_limit ≤ most_crossings
  pub for_found : CandidateRows room floats numbers
  pub sane : Sane st
  pub for_list : SendRoom room (limit_of st) keys queue words scratch out

-- the answer is the refusal k, or where that is 0 that of the query over the triangles of the scene that was loaded
pub record AnswersLoaded
    (k : ℕ) (st : Settings) (source listener : Vec3) (separated : Bool) (room n m : ℕ) (columns : List Float) (handles : List ℕ) (materials : List Float) (r : Answered)
    (out out' : List ℕ)
    : Type 0 where
  pub over : (s : Scene) → (k ≡ 0 → SceneLoaded s columns handles n m) → s.materials ≡ materials →
      Answers
      (by_refusal k (query_for st (triangles s) s.materials source listener (used_order (silent_of separated source listener m) (order_of_search st)) room (limit_of st))) r
      out out'
