-- The split of `BvhNode::build_sah`: a list of triangle indices is sorted along each axis in turn, and each place of it is tried for the
-- least cost. Everything is over two functions of a triangle's index: its box (`Triangle::aabb`) and its centroid.
use Rattle.std.specs.Prelude.{ℕ, zero, suc, ◌+◌, ◌-◌, ◌*◌, ◌<◌, ◌≤◌, Float, pos, leb, eqb, length, take, drop, get_or, ◌≡◌, cond, List, [], ◌∷◌}
use Rattle.std.specs.Float.{binary32, nan}
use Rattle.std.specs.Float.Ieee.{add, sub, mul, div, lt, le, of_bits, of_int}
use mathlib.Core.List.{foldl}
use Rattle.float.specs.Literals.{one32}
use Rattle.order.specs.Sort.{Below}
use Rattle.vector.specs.declared.Vec3.{Vec3}
use Rattle.vector.specs.Vector.{vec, axis_of}
use Rattle.geometry.specs.declared.Aabb.{Aabb}
use Rattle.geometry.specs.Aabb.{box, most, new_empty_of, union_of, surface_area_of, from_point_of}
use Rattle.tree_split.specs.declared.BestSplit.{BestSplit}

-- ---- an area of nine floats a triangle: the ends of its box, and its centroid

unfoldable pub aabb_at_of : List Float → ℕ → Aabb
aabb_at_of e i =
    box (vec (get_or e (9 * i) nan) (get_or e (9 * i + 1) nan) (get_or e (9 * i + 2) nan))
    (vec (get_or e (9 * i + 3) nan) (get_or e (9 * i + 4) nan) (get_or e (9 * i + 5) nan))

unfoldable pub centroid_at_of : List Float → ℕ → Vec3
centroid_at_of e i = vec (get_or e (9 * i + 6) nan) (get_or e (9 * i + 7) nan) (get_or e (9 * i + 8) nan)

-- ---- `sort_by` with `partial_cmp`, which is stable: x goes before the first element whose value is not below its own

unfoldable pub insert_on : (ℕ → Float) → ℕ → List ℕ → List ℕ
insert_on f x [] = x ∷ []
insert_on f x (y ∷ ys) = cond (le (f x) (f y)) (x ∷ y ∷ ys) (y ∷ insert_on f x ys)

unfoldable pub sort_on : (ℕ → Float) → List ℕ → List ℕ
sort_on f [] = []
sort_on f (x ∷ xs) = insert_on f x (sort_on f xs)

-- keys that have the order of the values, for triangles below n
unfoldable pub KeysInOrder : ℕ → List ℕ → (ℕ → Float) → Type 0
KeysInOrder n keys f = (i j : ℕ) → i < n → j < n → leb (get_or keys i 0) (get_or keys j 0) ≡ le (f i) (f j)

-- ---- boxes of a list

-- from the front, as `prefix_aabb` and a leaf's `aabb`
unfoldable pub bounds_of : (ℕ → Aabb) → List ℕ → Aabb
bounds_of b xs = foldl (λ acc i. union_of acc (b i)) new_empty_of xs

-- from the back, as `suffix_aabb`
unfoldable pub suffix_of : (ℕ → Aabb) → List ℕ → Aabb
suffix_of b [] = new_empty_of
suffix_of b (x ∷ xs) = union_of (suffix_of b xs) (b x)

-- ---- one axis

-- a count as a float: exact up to 2 ^ 24
abbrev pub count_of : ℕ → Float
count_of n = of_int binary32 (pos n)

-- `cost`
unfoldable pub cost_of : Float → Float → ℕ → ℕ → Float
cost_of left right i n =
    add binary32 one32
    (div binary32 (add binary32 (mul binary32 left (count_of i)) (mul binary32 right (count_of (n - i)))) (count_of n))

abbrev pub best_split : Float → ℕ → ℕ → BestSplit
best_split c a i = record { cost = c; axis = a; at = i }

-- `if cost < best_cost`
unfoldable pub better_of : Float → ℕ → ℕ → BestSplit → BestSplit
better_of cost a i c = cond (lt cost c.cost) (best_split cost a i) c

-- the split before position i
unfoldable pub try_of : (ℕ → Aabb) → ℕ → List ℕ → ℕ → BestSplit → BestSplit
try_of b a xs i c = better_of (cost_of (surface_area_of (bounds_of b (take i xs))) (surface_area_of (suffix_of b (drop i xs))) i (length xs)) a i c

-- the splits before positions 1 .. k, in this order: `for i in 1..n`
unfoldable pub sweep_of : (ℕ → Aabb) → ℕ → List ℕ → ℕ → BestSplit → BestSplit
sweep_of b a xs zero c = c
sweep_of b a xs (suc k) c = try_of b a xs (suc k) (sweep_of b a xs k c)

pub record Swept : Type 0 where
  pub list : List ℕ
  pub best : BestSplit

abbrev pub swept : List ℕ → BestSplit → Swept
swept xs c = record { list = xs; best = c }

-- 1e-8
abbrev pub least_span : Float
least_span = of_bits binary32 0x322b_cc77

-- an axis along which the centroids lie within 1e-8 is left out; else the list is sorted by it and each split is tried
unfoldable pub search_axis_of : (ℕ → Aabb) → (ℕ → Vec3) → ℕ → Float → Swept → Swept
search_axis_of b mid a span s =
    let xs = sort_on (λ i. axis_of (mid i) a) s.list in
    cond (lt span least_span) s (swept xs (sweep_of b a xs (length xs - 1) s.best))

-- ---- the three axes, one after the other on the same list: `for axis in 0..3u8`

abbrev pub span_of : (ℕ → Vec3) → ℕ → List ℕ → Float
span_of mid a xs =
    let m = bounds_of (λ i. from_point_of (mid i)) xs in
    sub binary32 (axis_of m.max a) (axis_of m.min a)

unfoldable pub search_axes_of : (ℕ → Aabb) → (ℕ → Vec3) → List ℕ → Swept
search_axes_of b mid xs =
    search_axis_of b mid 2 (span_of mid 2 xs)
    (search_axis_of b mid 1 (span_of mid 1 xs) (search_axis_of b mid 0 (span_of mid 0 xs) (swept xs (best_split most 0 0))))

-- the list as the sorts left it, and where it is split: 0 is nowhere
pub record Divided : Type 0 where
  pub list : List ℕ
  pub at : ℕ

abbrev pub divided : List ℕ → ℕ → Divided
divided xs i = record { list = xs; at = i }

-- the last sort, along the axis of the best split
abbrev pub last_sort : (ℕ → Vec3) → Swept → Divided
last_sort mid s =
    cond (eqb s.best.at 0) (divided s.list 0)
    (divided (sort_on (λ i. axis_of (mid i) s.best.axis) s.list) s.best.at)

unfoldable pub split_of : (ℕ → Aabb) → (ℕ → Vec3) → List ℕ → Divided
split_of b mid xs = last_sort mid (search_axes_of b mid xs)

-- ---- what the functions ask

-- the keys of the three axes
pub record Keyed (extents : List Float) (n : ℕ) (kx ky kz : List ℕ) : Type 0 where
  pub xs : n ≤ length kx
  pub ys : n ≤ length ky
  pub zs : n ≤ length kz
  pub xo : KeysInOrder n kx (λ i. axis_of (centroid_at_of extents i) 0)
  pub yo : KeysInOrder n ky (λ i. axis_of (centroid_at_of extents i) 1)
  pub zo : KeysInOrder n kz (λ i. axis_of (centroid_at_of extents i) 2)

-- a list of triangles below n, and room to sort and to sweep it
pub record Splits (kx ky kz : List ℕ) (extents : List Float) (n : ℕ) (part words scratch : List ℕ) (areas : List Float) : Type 0 where
  pub wide : 9 * n ≤ length extents
  pub inside : Below n part
  pub some : 0 < length part
  pub few : length part < 65536
  pub words_room : length part ≤ length words
  pub scratch_room : length part ≤ length scratch
  pub areas_room : length part ≤ length areas
  pub keyed : Keyed extents n kx ky kz
