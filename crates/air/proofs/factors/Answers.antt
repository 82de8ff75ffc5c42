-- `air::factors` meets its contract: the table of the code is that of the definition.
use Rattle.std.proofs.Common.{refl}
use Rattle.air.specs.Table.{factor_table}
use Rattle.air.proofs.factors.Goals as goal

pub returns : goal.returns
unfolding factor_table
returns c = refl
