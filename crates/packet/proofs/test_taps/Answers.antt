-- `packet::test_taps` meets its contract: each return is the first test that fails. Where the floats are valid the gains have squares.
use Rattle.std.proofs.Common.{sym, ◌∙◌, arith}
use Rattle.packet.proofs.Areas.{valid_finite}
use Rattle.packet.proofs.test_taps.Goals as goal

pub are_sums_valid-requires : goal.are_sums_valid-requires
are_sums_valid-requires c = (omega arith, valid_finite _ (sym c.all_floats_valid.ensures ∙ c.if-not-all_floats_valid.false))
