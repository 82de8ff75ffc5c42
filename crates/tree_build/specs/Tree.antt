-- The tree of `BvhNode::build_sah` over lists of triangle indices. A triangle's box and centroid are functions of its index.
use Rattle.std.specs.Prelude.{ℕ, zero, suc, leb, eqb, length, take, drop, cond, List, [], ◌∷◌, ◌++◌}
use Rattle.vector.specs.declared.Vec3.{Vec3}
use Rattle.geometry.specs.declared.Aabb.{Aabb}
use Rattle.geometry.specs.Aabb.{union_of}
use Rattle.tree_split.specs.Split.{Divided, bounds_of, split_of}

-- `BvhNode`
pub data Tree : Type 0 where
  leaf : Aabb → List ℕ → Tree
  node : Aabb → Tree → Tree → Tree

-- `BvhNode::aabb`
abbrev pub box_of : Tree → Aabb
box_of (leaf b xs) = b
box_of (node b l r) = b

-- the triangles of its leaves, left before right: `FlatBvh::triangles`
unfoldable pub leaves_of : Tree → List ℕ
leaves_of (leaf b xs) = xs
leaves_of (node b l r) = leaves_of l ++ leaves_of r

abbrev pub leaf_of : (ℕ → Aabb) → List ℕ → Tree
leaf_of b xs = leaf (bounds_of b xs) xs

abbrev pub inner_of : Tree → Tree → Tree
inner_of l r = node (union_of (box_of l) (box_of r)) l r

-- a list that was split, with `on` for the trees of its halves; a leaf where there is no split
abbrev pub branch_of : (ℕ → Aabb) → (List ℕ → Tree) → Divided → Tree
branch_of b on c = cond (eqb c.at 0) (leaf_of b c.list) (inner_of (on (take c.at c.list)) (on (drop c.at c.list)))

-- `leaf_threshold` and `max_depth`
abbrev pub leaf_threshold : ℕ
leaf_threshold = 4

abbrev pub max_depth : ℕ
max_depth = 32

-- `BvhNode::build_sah`: the tree of a list of triangles, at most so many levels below
unfoldable pub build_sah_of : (ℕ → Aabb) → (ℕ → Vec3) → ℕ → List ℕ → Tree
build_sah_of b mid zero xs = leaf_of b xs
build_sah_of b mid (suc d) xs = cond (leb (length xs) leaf_threshold) (leaf_of b xs) (branch_of b (build_sah_of b mid d) (split_of b mid xs))

-- 0, 1, .. up to n - 1
unfoldable pub count_to : ℕ → ℕ → List ℕ
count_to i zero = []
count_to i (suc n) = i ∷ count_to (suc i) n

-- `BvhNode::build`: the tree of n triangles
abbrev pub build_of : (ℕ → Aabb) → (ℕ → Vec3) → ℕ → Tree
build_of b mid n = build_sah_of b mid max_depth (count_to 0 n)
