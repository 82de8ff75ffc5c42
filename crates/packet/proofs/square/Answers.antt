-- `packet::square` meets its contract: a finite float is no NaN, so its bits may be taken as a float.
use Rattle.packet.proofs.Sums.{finite_not_nan}
use Rattle.packet.proofs.square.Goals as goal

pub float_from_bits-result : goal.float_from_bits-result
float_from_bits-result c = finite_not_nan c.args.g c.requires

pub float_from_bits-result-2 : goal.float_from_bits-result-2
float_from_bits-result-2 c = finite_not_nan c.args.g c.requires
