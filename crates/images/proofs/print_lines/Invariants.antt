-- The loop of `images::print_lines`: the area for lines keeps its length, and each turn ends past where it began.
use Rattle.std.proofs.Common.{◌≡◌, ◌-◌, length}
use Rattle.images.proofs.print_lines.Given as goal

abbrev pub invariant-loop-from : goal.invariant-loop-from
invariant-loop-from g l = length l.out ≡ length l.initial.out

abbrev pub decreases-loop-from : goal.decreases-loop-from
decreases-loop-from g l = l.total - l.from
