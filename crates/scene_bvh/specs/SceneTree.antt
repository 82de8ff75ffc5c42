-- The tree of a loaded scene, over the list of its triangles alone, and what the areas then read as.
use Rattle.std.specs.Prelude.{ℕ, ◌+◌, ◌-◌, ◌*◌, ◌<◌, ◌≤◌, Float, length, get_or, take, replicate, ◌≡◌, List, ◌++◌}
use Rattle.geometry.specs.declared.Triangle.{Triangle}
use Rattle.geometry.specs.Triangle.{centroid_of}
use Rattle.columns.specs.Columns.{column_count, triangle_at_of}
use Rattle.scene.specs.declared.Settings.{Settings}
use Rattle.scene.specs.Scene.{Scene}
use Rattle.placing.specs.Corners.{triangles}
use Rattle.placing.specs.Loading.{Triangles, first_refusal, Loading}
use Rattle.tree_build.specs.Tree.{Tree, build_of}
use Rattle.tree_trace.specs.Trace.{Held}
use Rattle.planes_patches.specs.Triangles.{nth_triangle, box_of, triangles_in}
use Rattle.mirror.specs.Rows.{ReadsAs}
use Rattle.segments.specs.Materials.{material_floats}
use Rattle.segments.specs.Areas.{TreeReads}

-- `BvhNode::build` over the triangles of a list
unfoldable pub tree_of : List Triangle → Tree
tree_of ts = build_of (λ i. box_of (nth_triangle ts i)) (λ i. centroid_of (nth_triangle ts i)) (length ts)

-- handles with those from m on set to 0
unfoldable pub cleared_from : ℕ → List ℕ → List ℕ
cleared_from m handles = take m handles ++ replicate (length handles - m) 0

-- columns of n triples, and room for m triangles, at least one, in each area
pub record Roomy
    (columns : List Float) (handles : List ℕ) (n m : ℕ) (extents : List Float) (keys perm words scratch : List ℕ) (areas boxes : List Float) (nodes : List ℕ)
    (tree : List Float)
    : Type 0 where
  pub wide : column_count * n ≤ length columns
  pub named : n ≤ length handles
  pub some : 0 < m
  pub fewer : m ≤ n
  pub few : m < 65536
  pub extents_room : 9 * m ≤ length extents
  pub keys_room : 3 * m ≤ length keys
  pub perm_room : m ≤ length perm
  pub words_room : m ≤ length words
  pub scratch_room : m ≤ length scratch
  pub areas_room : m ≤ length areas
  pub boxes_room : 12 * m ≤ length boxes
  pub nodes_room : 8 * m ≤ length nodes
  pub tree_room : 22 * m ≤ length tree

-- `load_scene` took the scene s, with some settings and areas, and left these columns of n triples with m triangles, and these handles
pub record SceneLoaded (s : Scene) (columns : List Float) (handles : List ℕ) (n m : ℕ) : Type 0 where
  pub settings : Settings
  pub candidates : ℕ
  pub areas : List ℕ
  pub found_columns : List Float
  pub found_handles : List ℕ
  pub placings : ℕ
  pub loading : Loading (first_refusal settings candidates s areas) s found_columns found_handles (Triangles m placings n) columns handles

-- the columns and handles read as the m triangles ts, and any handle has its row of the material table
pub record TrianglesRead (ts : List Triangle) (columns : List Float) (handles : List ℕ) (n m : ℕ) (materials : List Float) : Type 0 where
  pub count : m ≡ length ts
  pub all : triangles_in columns handles n m ≡ ts
  pub triangle : (i : ℕ) → i < m → triangle_at_of columns handles n i ≡ nth_triangle ts i
  pub reads : (i : ℕ) → i < m → ReadsAs columns n i (nth_triangle ts i)
  pub materials_room : (i : ℕ) → material_floats * get_or handles i 0 + material_floats ≤ length materials

-- a tree of `count` nodes stands in the areas, which read as the tree of the triangles ts
pub record TreeStands (ts : List Triangle) (padded : List Float) (nodes perm : List ℕ) (rows : List Float) (handles : List ℕ) (count : ℕ) : Type 0 where
  pub reads : TreeReads padded nodes perm rows handles (nth_triangle ts) (tree_of ts)
  pub held : Held padded nodes perm rows count
  pub some : 0 < count
  pub most : count ≤ 2 * length ts

-- for the scene s: its triangles, and their tree; perm is its part of m words
pub record SceneTree
    (s : Scene) (columns : List Float) (handles : List ℕ) (n m : ℕ) (padded : List Float) (nodes perm : List ℕ) (rows : List Float) (count : ℕ)
    : Type 0 where
  pub triangles_read : TrianglesRead (triangles s) columns handles n m s.materials
  pub tree : TreeStands (triangles s) padded nodes perm rows handles count
