-- `planes_fit::words_of` meets its contract: by that of `flag`; a small row loses nothing in 32 bits.
use native.Mathlib.Omega.{arith}
use Rattle.planes_fit.proofs.words_of.Goals as goal

pub overflow_cast-result : goal.overflow_cast-result
overflow_cast-result c = omega (arith, c.requires.first_small)

pub overflow_cast-result-2 : goal.overflow_cast-result-2
overflow_cast-result-2 c = omega (arith, c.requires.count_small)

pub overflow_cast-result-3 : goal.overflow_cast-result-3
overflow_cast-result-3 c = omega (arith, c.requires.edge_small)

pub overflow_cast-result-4 : goal.overflow_cast-result-4
overflow_cast-result-4 c = omega (arith, c.requires.edges_small)

pub returns : goal.returns
returns c = rw c.flag-fitted.ensures

pub flag-fitted-requires : goal.flag-fitted-requires
flag-fitted-requires c = tt
