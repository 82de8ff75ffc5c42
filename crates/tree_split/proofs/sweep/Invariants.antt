-- `tree_split::sweep` meets its contract: the best so far is that of the splits so far.
use mathlib.Core.Path.{◌≡◌}
use Prim.Native.Nat.{◌<◌}
use lib.ListN.{length, take}
use Rattle.tree_split.specs.Split.{aabb_at_of, bounds_of, sweep_of}
use Rattle.tree_split.proofs.sweep.Given as goal

abbrev pub invariant-loop-k : goal.invariant-loop-k
invariant-loop-k l =
    (l.k < length l.part) × (l.acc ≡ bounds_of (aabb_at_of l.extents) (take l.k l.part)) × (l.s ≡ sweep_of (aabb_at_of l.extents) l.axis l.part l.k l.initial.s)
