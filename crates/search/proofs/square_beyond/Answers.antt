-- `search::square_beyond` meets its contract: by the root of the bound, or nothing is above it.
use mathlib.Core.Path.{sym, ap, ◌∙◌}
use lib.Ieee.{lt}
use Rattle.float.proofs.Beyond.{root_beyond, none_beyond}
use Rattle.search.proofs.square_beyond.Goals as goal

pub returns-then-sqrt-far : goal.returns-then-sqrt-far
returns-then-sqrt-far c = let far = c.args.far in λ x h. root_beyond far _ x (ap (lt far) (sym c.sqrt.ensures) ∙ c.if-sqrt-far.true) h

pub returns : goal.returns
returns c = let far = c.args.far in rw c.infinity.ensures (none_beyond far)

pub sqrt-requires : goal.sqrt-requires
sqrt-requires c = tt

pub infinity-requires : goal.infinity-requires
infinity-requires c = tt
