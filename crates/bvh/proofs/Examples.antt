-- A worked tree, by computing: five boxes in a row, given from the far end. The two nearest go left and the other three right, each in the
-- sorted order.
use mathlib.Core.Path.{◌≡◌, refl}
use mathlib.Core.List.{[], ◌∷◌}
use Prim.Native.Nat.{ℕ, ◌-◌}
use lib.Ieee.{of_bits, of_int, add, sub, mul, div, lt, le, is_nan}
use Rattle.float.specs.Compare.{min_of, max_of}
use Rattle.vector.specs.declared.Vec3.{Vec3}
use Rattle.vector.specs.Vector.{vec, axis_of}
use Rattle.geometry.specs.declared.Aabb.{Aabb}
use Rattle.geometry.specs.Aabb.{box, low_of, high_of, new_empty_of, union_of, grow_of, extent_of, surface_area_of, from_point_of}
use Rattle.tree_split.specs.Split.{count_of, insert_on, sort_on, bounds_of, suffix_of, cost_of, better_of, try_of, sweep_of, search_axis_of, search_axes_of, split_of}
use Rattle.tree_build.specs.Tree.{leaf, node, build_sah_of, count_to, build_of}

-- from i to j along x, from 0 to 1 along y and z
abbrev run : ℕ → ℕ → Aabb
run i j = box (vec (count_of i) (count_of 0) (count_of 0)) (vec (count_of j) (count_of 1) (count_of 1))

abbrev boxes : ℕ → Aabb
boxes i = run (4 - i) (5 - i)

abbrev centroids : ℕ → Vec3
centroids i = vec (count_of (4 - i)) (count_of 0) (count_of 0)

five : build_of boxes centroids 5 ≡ node (run 0 5) (leaf (run 0 2) (4 ∷ 3 ∷ [])) (leaf (run 2 5) (2 ∷ 1 ∷ 0 ∷ []))
unfolding build_sah_of count_to insert_on sort_on bounds_of suffix_of axis_of cost_of better_of try_of sweep_of search_axis_of search_axes_of split_of low_of high_of new_empty_of union_of grow_of extent_of surface_area_of from_point_of min_of max_of of_bits of_int add sub mul div lt le is_nan
five = refl
