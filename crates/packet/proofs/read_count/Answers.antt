-- `packet::read_count` meets its contract: two bytes are summed.
use native.Mathlib.Omega.{arith}
use Rattle.packet.proofs.FromBytes.{count_at}
use Rattle.packet.proofs.read_count.Goals as goal

pub returns : goal.returns
returns c = count_at _ c.args.b.now (omega arith)
