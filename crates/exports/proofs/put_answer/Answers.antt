-- `exports::put_answer` meets its contract: the four numbers are stored as they are read.
use mathlib.Core.Path.{refl}
use Rattle.exports.proofs.put_answer.Goals as goal

pub returns : goal.returns
returns c = refl
