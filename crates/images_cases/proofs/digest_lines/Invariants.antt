-- `images_cases::digest_lines` is safe and ends: a chunk with a line ends past where it began and within the total.
use Prim.Native.Nat.{◌-◌, ◌<◌}
use mathlib.Core.Path.{◌≡◌}
use lib.ListN.{length}
use Rattle.images_cases.proofs.digest_lines.Given as goal

abbrev pub invariant-loop-from : goal.invariant-loop-from
invariant-loop-from l = (length l.out ≡ length l.initial.out) × (l.sum < 4294967291)

abbrev pub decreases-loop-from : goal.decreases-loop-from
decreases-loop-from l = l.total - l.from
