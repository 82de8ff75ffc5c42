-- `tree_split::bounds` meets its contract: what is gathered so far is the box of the triangles so far.
use mathlib.Core.Path.{◌≡◌}
use Prim.Native.Nat.{◌≤◌}
use lib.ListN.{length, take}
use Rattle.tree_split.specs.Split.{aabb_at_of, bounds_of}
use Rattle.tree_split.proofs.bounds.Given as goal

abbrev pub invariant-loop-tri : goal.invariant-loop-tri
invariant-loop-tri l = (l.tri-index ≤ length l.part) × (l.acc ≡ bounds_of (aabb_at_of l.extents) (take l.tri-index l.part))
