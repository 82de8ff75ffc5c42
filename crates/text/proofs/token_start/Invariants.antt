-- `text::token_start` meets its contract: the place is within the text.
use Rattle.std.proofs.Common.{◌-◌, length}
use Rattle.text.proofs.token_start.Given as goal

abbrev pub invariant-loop-i : goal.invariant-loop-i
invariant-loop-i l = Unit {0}
