-- The planes of a scene over the list of its triangles alone; what building asks of a loaded scene and of the areas, and what then stands in them.
use Rattle.std.specs.Prelude.{ℕ, ◌*◌, ◌<◌, ◌≤◌, ◌≡◌, List, Float, length, take}
use Rattle.order.specs.Open.{Open}
use Rattle.geometry.specs.declared.Triangle.{Triangle}
use Rattle.scene.specs.declared.Settings.{Settings}
use Rattle.scene.specs.Scene.{Scene}
use Rattle.placing.specs.Corners.{triangles}
use Rattle.bvh.specs.Bvh.{padded_in, rows_in}
use Rattle.planes_patches.specs.Triangles.{nth_triangle}
use Rattle.planes_buried.specs.Probe.{probe_of}
use Rattle.mirror.specs.Plane.{Plane}
use Rattle.mirror.specs.Rows.{planes_in, PlanesHeld}
use Rattle.planes_ranked.specs.Areas.{TrianglesLent}
use Rattle.planes.specs.Build.{plane_settings, planes_of_triangles}
use Rattle.planes.specs.Areas.{PlanesRoom}
use Rattle.scene_bvh.specs.SceneTree.{tree_of, cleared_from, SceneLoaded, SceneTree}
use Rattle.scene_planes.specs.declared.Built.{Built}

-- `build_bvh`, `build_planes`: the mirror planes of the triangles
unfoldable pub planes_for : Settings → List Triangle → List Plane
planes_for st ts = planes_of_triangles (plane_settings st) (probe_of (nth_triangle ts) (tree_of ts)) ts

-- ---- what is asked

-- what the tree takes beside the areas of the planes, for columns of n triples: padded boxes and rows of the leaves' triangles, links, leaf order
pub record TreeRoom (n : ℕ) (tree : List Float) (nodes leaf_order : List ℕ) : Type 0 where
  pub tree_room : 22 * n ≤ length tree
  pub nodes_room : 8 * n ≤ length nodes
  pub leaf_order_room : n ≤ length leaf_order

-- the columns and handles are those of some scene with a triangle, the handles past its triangles 0, and there is room for its tree and its planes
pub record PlanesReady
    (n m : ℕ) (columns : List Float) (handles : List ℕ) (tree : List Float) (nodes leaf_order keys low_keys words scratch index numbers adjacency queue offsets plane_triangles plane_words : List ℕ)
    (plane_floats floats plane_edges : List Float)
    : Type 0 where
  pub scene : Scene
  pub found : List ℕ
  pub loaded : SceneLoaded scene columns found n m
  pub cleared : handles ≡ cleared_from m found
  pub some : 0 < m
  pub lent : TrianglesLent columns handles n m
  pub for_tree : TreeRoom n tree nodes leaf_order
  pub for_planes : PlanesRoom n keys low_keys words scratch index numbers adjacency queue offsets plane_triangles plane_words plane_floats floats plane_edges

-- ---- what then stands in the areas

-- r planes: those of the scene that was loaded
pub record PlanesStand
    (st : Settings) (n m : ℕ) (columns : List Float) (handles : List ℕ) (plane_floats : List Float) (plane_words plane_triangles : List ℕ) (plane_edges : List Float) (r : ℕ)
    : Type 0 where
  pub are : (s : Scene) (found : List ℕ) → SceneLoaded s columns found n m → handles ≡ cleared_from m found → planes_in plane_floats plane_words plane_triangles plane_edges r ≡ planes_for st (triangles s)
  pub most : r ≤ st.max_reflection_planes
  pub held : PlanesHeld plane_floats plane_words plane_triangles plane_edges m r

-- the tree of the scene that was loaded, its triangles, and its planes. What stands in these areas beside them is open, and so are the others (`rest`): a
-- step serves itself of areas that earlier ones are done with
pub record SceneBuilt
    (st : Settings) (n m : ℕ) (columns : List Float) (handles : List ℕ) (tree : List Float) (nodes leaf_order : List ℕ) (plane_floats : List Float) (plane_words plane_triangles : List ℕ)
    (plane_edges : List Float)
    (keys keys' low_keys low_keys' words words' scratch scratch' index index' numbers numbers' adjacency adjacency' queue queue' offsets offsets' : List ℕ) (floats floats' : List Float)
    (r : Built)
    : Type 0 where
  pub tree_stands : (s : Scene) (found : List ℕ) → SceneLoaded s columns found n m → handles ≡ cleared_from m found →
      SceneTree s columns handles n m (padded_in m tree) nodes (take m leaf_order) (rows_in m tree) r.nodes
  pub planes_stand : PlanesStand st n m columns handles plane_floats plane_words plane_triangles plane_edges r.planes
  pub rest : Open keys keys' × Open low_keys low_keys' × Open words words' × Open scratch scratch' × Open index index' × Open numbers numbers' × Open adjacency adjacency' × Open queue queue' × Open offsets offsets' × Open floats floats'
