-- `packet::tap_size` meets its contract: by the eight bits.
use native.Mathlib.Omega.{arith}
use Rattle.packet.specs.Bytes.{ones}
use Rattle.packet.proofs.tap_size.Goals as goal

pub returns : goal.returns
unfolding ones
returns c = omega arith
