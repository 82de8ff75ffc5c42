-- `planes_patches::is_match` meets its contract, by its calls and its test.
use mathlib.Core.Path.{sym}
use Rattle.laws.proofs.Bools.{and_false}
use Rattle.planes_patches.specs.Grid.{match_at}
use Rattle.planes_patches.proofs.Lists.{and_true}
use Rattle.planes_patches.proofs.is_match.Goals as goal

pub returns-then-is_coplanar : goal.returns-then-is_coplanar
unfolding match_at
returns-then-is_coplanar c = rw (← c.is_coplanar.ensures, c.if-is_coplanar.true, ← c.in_cell.ensures) (sym (and_true _))

pub returns : goal.returns
unfolding match_at
returns c = rw (← c.is_coplanar.ensures, c.if-is_coplanar.false, and_false)
