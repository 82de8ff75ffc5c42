-- `tree_split::centroid_aabb` meets its contract: what is gathered so far is the box of the centroids so far.
use mathlib.Core.Path.{◌≡◌}
use Prim.Native.Nat.{◌≤◌}
use lib.ListN.{length, take}
use Rattle.geometry.specs.Aabb.{from_point_of}
use Rattle.tree_split.specs.Split.{centroid_at_of, bounds_of}
use Rattle.tree_split.proofs.centroid_aabb.Given as goal

abbrev pub invariant-loop-tri : goal.invariant-loop-tri
invariant-loop-tri l = (l.tri-index ≤ length l.part) × (l.acc ≡ bounds_of (λ j. from_point_of (centroid_at_of l.extents j)) (take l.tri-index l.part))
