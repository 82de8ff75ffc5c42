-- The tree of the triangles that stand in columns, and what a trace reads of it: `build_flat_bvh`.
use Rattle.std.specs.Prelude.{ℕ, zero, suc, ◌-◌, ◌*◌, ◌<◌, ◌≤◌, Float, length, take, drop, ◌≡◌, Bool, true, false, ◌&&◌, List, [], ◌∷◌}
use Rattle.float.specs.Compare.{is_finite}
use Rattle.order.specs.Sort.{Below}
use Rattle.vector.specs.declared.Vec3.{Vec3}
use Rattle.vector.specs.Vector.{axis_of}
use Rattle.geometry.specs.declared.Aabb.{Aabb}
use Rattle.geometry.specs.declared.Edges.{Edges}
use Rattle.geometry.specs.Aabb.{from_corners_of}
use Rattle.geometry.specs.Triangle as triangle
use Rattle.geometry.specs.Intersect.{edges_of_corners}
use Rattle.columns.specs.Columns.{column_count, triangle_at_of, edges_at_of}
use Rattle.tree_split.specs.Split.{KeysInOrder}
use Rattle.tree_build.specs.Tree.{Tree, build_of}
use Rattle.tree_build.specs.Areas.{part, tree_at_of, Sound}
use Rattle.tree_trace.specs.Leaf.{LeafRows}
use Rattle.tree_trace.specs.Trace.{padded_tree_of, Held}

-- the box of triangle i (`Triangle::aabb`), and its centroid
unfoldable pub aabb_of : List Float → List ℕ → ℕ → ℕ → Aabb
aabb_of columns handles n i = let t = triangle_at_of columns handles n i in from_corners_of t.a t.b t.c

unfoldable pub centroid_in : List Float → List ℕ → ℕ → ℕ → Vec3
centroid_in columns handles n i = triangle.centroid_of (triangle_at_of columns handles n i)

-- `BvhNode::build` over m of them
unfoldable pub tree_in : List Float → List ℕ → ℕ → ℕ → Tree
tree_in columns handles n m = build_of (aabb_of columns handles n) (centroid_in columns handles n) m

-- ---- rows

abbrev pub box_row : Aabb → List Float
box_row b = b.min.x ∷ b.min.y ∷ b.min.z ∷ b.max.x ∷ b.max.y ∷ b.max.z ∷ []

abbrev pub extent_row : Aabb → Vec3 → List Float
extent_row b c = b.min.x ∷ b.min.y ∷ b.min.z ∷ b.max.x ∷ b.max.y ∷ b.max.z ∷ c.x ∷ c.y ∷ c.z ∷ []

abbrev pub edges_row : Vec3 → Edges → List Float
edges_row a e =
    a.x ∷ a.y ∷ a.z ∷ e.edge1.x ∷ e.edge1.y ∷ e.edge1.z ∷ e.edge2.x ∷ e.edge2.y ∷ e.edge2.z ∷ e.least_det ∷ []

-- ---- keys

-- the values of the first m are finite
unfoldable pub all_finite : (ℕ → Float) → ℕ → Bool
all_finite f zero = true
all_finite f (suc m) = all_finite f m && is_finite (f m)

-- no centroid of the first m has a NaN or an infinite part; the Rust's sorts panic on a NaN
unfoldable pub finite_of : (ℕ → Vec3) → ℕ → Bool
finite_of mid m = all_finite (λ i. axis_of (mid i) 0) m && (all_finite (λ i. axis_of (mid i) 1) m && all_finite (λ i. axis_of (mid i) 2) m)

-- keys in the order of the centroids
pub record Keys (mid : ℕ → Vec3) (m : ℕ) (kx ky kz : List ℕ) : Type 0 where
  pub xo : KeysInOrder m kx (λ i. axis_of (mid i) 0)
  pub yo : KeysInOrder m ky (λ i. axis_of (mid i) 1)
  pub zo : KeysInOrder m kz (λ i. axis_of (mid i) 2)

-- the same, of m words each, one axis after another in one area
unfoldable pub KeysIn : (ℕ → Vec3) → ℕ → List ℕ → Type 0
KeysIn mid m keys = Keys mid m (part 0 m keys) (part m (2 * m) keys) (part (2 * m) (3 * m) keys)

-- ---- the area of a tree of m triangles: the nodes' padded boxes, `&tree[..12 * m]`, and the leaves' rows, `&tree[12 * m..22 * m]`

abbrev pub padded_in : ℕ → List Float → List Float
padded_in m tree = take (12 * m) tree

abbrev pub rows_in : ℕ → List Float → List Float
rows_in m tree = take (22 * m - 12 * m) (drop (12 * m) tree)

-- ---- what the functions ask: columns of n triples, and room for as many triangles as perm is long
pub record BvhLent (columns : List Float) (handles : List ℕ) (n : ℕ) (extents : List Float) (keys perm words scratch : List ℕ) (areas boxes : List Float) (nodes : List ℕ) : Type 0 where
  pub wide : column_count * n ≤ length columns
  pub named : n ≤ length handles
  pub some : 0 < length perm
  pub fewer : length perm ≤ n
  pub few : length perm < 65536
  pub extents_room : 9 * length perm ≤ length extents
  pub keys_room : 3 * length perm ≤ length keys
  pub words_room : length perm ≤ length words
  pub scratch_room : length perm ≤ length scratch
  pub areas_room : length perm ≤ length areas
  pub boxes_room : 12 * length perm ≤ length boxes
  pub nodes_room : 8 * length perm ≤ length nodes

-- ---- what they leave

-- a tree of `count` nodes stands in the areas
pub record TreeStands (columns : List Float) (handles : List ℕ) (n m : ℕ) (boxes : List Float) (nodes perm : List ℕ) (count : ℕ) : Type 0 where
  pub tree : tree_at_of boxes nodes perm 33 0 ≡ tree_in columns handles n m
  pub some : 0 < count
  pub most : count ≤ 2 * m
  pub boxes_room : 6 * count ≤ length boxes
  pub nodes_room : 4 * count ≤ length nodes
  pub inside : Below m perm
  pub size : length perm ≡ m
  pub sound : Sound nodes 0 count 0 m

-- the answer is 0 where a centroid is not finite, and there only
pub record TreeOf (columns : List Float) (handles : List ℕ) (n m : ℕ) (boxes : List Float) (nodes perm : List ℕ) (r : ℕ) : Type 0 where
  pub built : finite_of (centroid_in columns handles n) m ≡ true → TreeStands columns handles n m boxes nodes perm r
  pub none : finite_of (centroid_in columns handles n) m ≡ false → r ≡ 0

-- the edges that stand in the columns are those of the triangles
unfoldable pub Edged : List Float → List ℕ → ℕ → ℕ → Type 0
Edged columns handles n m =
    (i : ℕ) → i < m → let t = triangle_at_of columns handles n i in edges_at_of columns n i ≡ edges_of_corners t.a t.b t.c

-- what a trace of it reads
pub record TraceReads (columns : List Float) (handles : List ℕ) (n m : ℕ) (nodes perm : List ℕ) (padded rows : List Float) (count : ℕ) : Type 0 where
  pub tree : tree_at_of padded nodes perm 33 0 ≡ padded_tree_of (tree_in columns handles n m)
  pub held : Held padded nodes perm rows count
  pub rows_of : Edged columns handles n m → LeafRows (triangle_at_of columns handles n) perm rows

pub record BvhOf (columns : List Float) (handles : List ℕ) (n m : ℕ) (boxes : List Float) (nodes perm : List ℕ) (padded rows : List Float) (r : ℕ) : Type 0 where
  pub built : finite_of (centroid_in columns handles n) m ≡ true → TreeStands columns handles n m boxes nodes perm r
  pub traced : finite_of (centroid_in columns handles n) m ≡ true → TraceReads columns handles n m nodes perm padded rows r
  pub none : finite_of (centroid_in columns handles n) m ≡ false → r ≡ 0
