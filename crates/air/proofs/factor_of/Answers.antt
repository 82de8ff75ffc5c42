-- `air::factor_of` meets its contract: from the table, and nothing past it.
use Rattle.std.proofs.Common.{sym, arith}
use Rattle.air.proofs.Nothing.{none_left}
use Rattle.air.proofs.factor_of.Goals as goal

pub factor-requires : goal.factor-requires
factor-requires c = record {
  table_value = c.factors-table.ensures;
  steps_le_most_steps = let h = c.if-steps.true in omega (arith, h);
}

pub returns-then-steps : goal.returns-then-steps
returns-then-steps c = c.factor.ensures

pub returns : goal.returns
returns c = sym (none_left c.args.steps c.if-steps.false)
