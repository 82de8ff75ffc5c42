-- Case A's tree: one leaf of both triangles.
use mathlib.Core.Path.{◌≡◌, refl, sym, ◌∙◌}
use mathlib.Core.List.{[], ◌∷◌}
use native.Mathlib.Omega.{arith}
use lib.Ieee.{lt, is_nan, of_bits}
use Rattle.float.specs.Compare.{min_of, max_of}
use Rattle.geometry.specs.Aabb.{box, low_of, high_of, new_empty_of, union_of, grow_of, from_corners_of}
use Rattle.geometry.specs.Triangle.{centroid_of}
use Rattle.planes_patches.specs.Triangles.{nth_triangle, box_of}
use Rattle.tree_split.specs.Split.{bounds_of}
use Rattle.tree_build.specs.Tree.{Tree, leaf, leaf_of, count_to}
use Rattle.tree_build.proofs.Grows.{build_few}
use Rattle.scene_bvh.specs.SceneTree.{tree_of}
use Rattle.known_points.proofs.Scene.{corner0, corner2, two}

abbrev pub tree : Tree
tree = leaf (box corner0 corner2) (0 ∷ 1 ∷ [])

bounds : leaf_of (λ i. box_of (nth_triangle two i)) (0 ∷ 1 ∷ []) ≡ tree
unfolding bounds_of box_of nth_triangle from_corners_of grow_of union_of new_empty_of low_of high_of min_of max_of lt is_nan of_bits
bounds = refl

pub tree_is : tree_of two ≡ tree
unfolding tree_of count_to
tree_is =
    sym (build_few (λ i. box_of (nth_triangle two i)) (λ i. centroid_of (nth_triangle two i)) 32 (0 ∷ 1 ∷ []) (λ e. omega arith) (omega arith)) ∙ bounds
