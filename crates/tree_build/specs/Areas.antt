-- How a tree stands in areas: six floats a node (its box), four numbers a node (its links, as in `FlatNode`), and the order of the
-- triangles, of which a leaf has a part.
use Rattle.std.specs.Prelude.{ℕ, zero, suc, ◌+◌, ◌-◌, ◌*◌, ◌^◌, ◌<◌, ◌≤◌, Float, eqb, length, take, drop, get_or, ◌≡◌, ◌⊎◌, cond, List, []}
use Rattle.std.specs.Float.{nan}
use Rattle.order.specs.Sort.{Below}
use Rattle.vector.specs.declared.Vec3.{Vec3}
use Rattle.vector.specs.Vector.{vec}
use Rattle.geometry.specs.declared.Aabb.{Aabb}
use Rattle.geometry.specs.Aabb.{box}
use Rattle.tree_split.specs.Split.{Keyed, divided, split_of}
use Rattle.tree_build.specs.declared.Links.{Links}
use Rattle.tree_build.specs.Tree.{Tree, leaf, node, leaf_of, build_sah_of}

-- ---- reading

unfoldable pub box_at_of : List Float → ℕ → Aabb
box_at_of b i =
    box (vec (get_or b (6 * i) nan) (get_or b (6 * i + 1) nan) (get_or b (6 * i + 2) nan))
    (vec (get_or b (6 * i + 3) nan) (get_or b (6 * i + 4) nan) (get_or b (6 * i + 5) nan))

abbrev pub links_of : ℕ → ℕ → ℕ → ℕ → Links
links_of l r s c = record { left = l; right = r; start = s; len = c }

unfoldable pub links_at_of : List ℕ → ℕ → Links
links_at_of l i = links_of (get_or l (4 * i) 0) (get_or l (4 * i + 1) 0) (get_or l (4 * i + 2) 0) (get_or l (4 * i + 3) 0)

-- the elements from lo up to hi
abbrev pub part : ℕ → ℕ → List ℕ → List ℕ
part lo hi p = take (hi - lo) (drop lo p)

-- a node that has triangles is a leaf
abbrev pub read_of : Aabb → Links → List ℕ → (ℕ → Tree) → Tree
read_of b k p on = cond (eqb k.len 0) (node b (on k.left) (on k.right)) (leaf b (take k.len (drop k.start p)))

-- the tree that the areas have at node i, to a depth of `fuel` nodes
unfoldable pub tree_at_of : List Float → List ℕ → List ℕ → ℕ → ℕ → Tree
tree_at_of b l p zero i = leaf (box_at_of b i) []
tree_at_of b l p (suc fuel) i = read_of (box_at_of b i) (links_at_of l i) p (tree_at_of b l p fuel)

-- ---- what stays

-- two lists are the same from lo up to hi
unfoldable pub Same : {A : Type 0} → A → ℕ → ℕ → List A → List A → Type 0
Same d lo hi a b = (k : ℕ) → lo ≤ k → k < hi → get_or a k d ≡ get_or b k d

-- a node's links stay within the nodes from lo up to hi, and its triangles within from plo up to phi
abbrev pub Linked : ℕ → ℕ → ℕ → ℕ → Links → Type 0
Linked lo hi plo phi k =
    ((k.len ≡ 0) × (lo ≤ k.left) × (k.left < hi) × (lo ≤ k.right) × (k.right < hi))
    ⊎ ((0 < k.len) × (plo ≤ k.start) × (k.start + k.len ≤ phi))

unfoldable pub Sound : List ℕ → ℕ → ℕ → ℕ → ℕ → Type 0
Sound l lo hi plo phi = (j : ℕ) → lo ≤ j → j < hi → Linked lo hi plo phi (links_at_of l j)

-- ---- what the functions ask: the triangles from lo up to hi of the order p are to be built, from node `next` on

pub record Listed (extents : List Float) (n lo hi : ℕ) (p : List ℕ) : Type 0 where
  pub wide : 9 * n ≤ length extents
  pub few : n < 65536
  pub some : lo < hi
  pub within : hi ≤ length p
  pub size : length p ≡ n
  pub inside : Below n p

pub record Sorts (kx ky kz : List ℕ) (extents : List Float) (n : ℕ) (words scratch : List ℕ) (areas : List Float) : Type 0 where
  pub keyed : Keyed extents n kx ky kz
  pub words_room : n ≤ length words
  pub scratch_room : n ≤ length scratch
  pub areas_room : n ≤ length areas

pub record Room (lo hi : ℕ) (boxes : List Float) (nodes : List ℕ) (next : ℕ) : Type 0 where
  pub boxes_room : 6 * (next + 2 * (hi - lo)) ≤ length boxes
  pub nodes_room : 4 * (next + 2 * (hi - lo)) ≤ length nodes
  pub small : next + 2 * (hi - lo) < 2 ^ 32

-- ---- what they leave

-- node i was written, and nothing else
pub record Wrote (i : ℕ) (v : Aabb) (k : Links) (b b' : List Float) (l l' : List ℕ) : Type 0 where
  pub row : box_at_of b' i ≡ v
  pub links : links_at_of l' i ≡ k
  pub row_low : Same nan 0 (6 * i) b b'
  pub row_high : Same nan (6 * i + 6) (length b) b b'
  pub link_low : Same 0 0 (4 * i) l l'
  pub link_high : Same 0 (4 * i + 4) (length l) l l'

-- the areas have the tree t at node `next`, within the nodes up to r and the triangles from lo up to hi, and hold before and beside
-- that what they held
pub record Built (t : Tree) (fuel : ℕ) (n lo hi next r : ℕ) (p p' : List ℕ) (b b' : List Float) (l l' : List ℕ) : Type 0 where
  pub tree : tree_at_of b' l' p' fuel next ≡ t
  pub more : next < r
  pub room : r + 1 ≤ next + 2 * (hi - lo)
  pub sound : Sound l' next r lo hi
  pub inside : Below n p'
  pub rows : Same nan 0 (6 * next) b b'
  pub links : Same 0 0 (4 * next) l l'
  pub low : Same 0 0 lo p p'
  pub high : Same 0 hi (length p) p p'

-- the part from lo up to hi was sorted and split
pub record Parted (b : ℕ → Aabb) (mid : ℕ → Vec3) (n lo hi r : ℕ) (p p' : List ℕ) : Type 0 where
  pub done : divided (part lo hi p') r ≡ split_of b mid (part lo hi p)
  pub inside : Below n p'
  pub low : Same 0 0 lo p p'
  pub high : Same 0 hi (length p) p p'
  pub within : r < hi - lo

-- the part from lo up to hi is to be a leaf (r is 0), or was sorted and split
pub record Chosen (b : ℕ → Aabb) (mid : ℕ → Vec3) (levels n lo hi r : ℕ) (p p' : List ℕ) : Type 0 where
  pub leaf_built : r ≡ 0 → leaf_of b (part lo hi p') ≡ build_sah_of b mid levels (part lo hi p)
  pub deep : (r ≡ 0 → ⊥) → levels ≡ 0 → ⊥
  pub many : (r ≡ 0 → ⊥) → 4 < hi - lo
  pub done : (r ≡ 0 → ⊥) → divided (part lo hi p') r ≡ split_of b mid (part lo hi p)
  pub inside : Below n p'
  pub low : Same 0 0 lo p p'
  pub high : Same 0 hi (length p) p p'
  pub within : r < hi - lo
