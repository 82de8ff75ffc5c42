-- `packet::read_word` meets its contract: four bytes are summed.
use native.Mathlib.Omega.{arith}
use Rattle.packet.proofs.FromBytes.{word_at}
use Rattle.packet.proofs.read_word.Goals as goal

pub returns : goal.returns
returns c =
    word_at _ c.args.at c.args.b.now (omega arith)
