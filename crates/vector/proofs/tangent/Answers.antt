-- `vector::tangent` meets its contract: by its test for an axis next to -z, either the fixed direction or the computed one.
use Rattle.vector.specs.Basis.{tangent_of}
use Rattle.vector.proofs.tangent.Goals as goal

pub returns-then-axis : goal.returns-then-axis
unfolding tangent_of
returns-then-axis c = rw c.if-axis.true

pub returns : goal.returns
unfolding tangent_of
returns c = rw c.if-axis.false
