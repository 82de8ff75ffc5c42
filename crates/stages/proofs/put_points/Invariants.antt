-- `stages::put_points` meets its contract: the points before k stand in their places.
use Prim.Native.Nat.{ℕ, ◌≤◌, ◌<◌}
use mathlib.Core.Path.{◌≡◌}
use lib.ListN.{length, get_or}
use Rattle.mirror.specs.Plane.{no_point}
use Rattle.bounces.specs.Areas.{max_order, point_in}
use Rattle.stages.proofs.put_points.Given as goal

abbrev pub invariant-loop-k : goal.invariant-loop-k
invariant-loop-k l =
    (l.k ≤ max_order)
    × (length l.points ≡ length l.initial.points)
    × ((j : ℕ) → j < l.k → point_in l.points j ≡ get_or l.fn.all j no_point)
