-- `planes_patches::cell_part` meets its contract, by that of `whole`.
use native.Mathlib.Omega.{arith}
use Rattle.planes_faces.specs.Key.{step_of}
use Rattle.planes_patches.proofs.cell_part.Goals as goal

pub returns : goal.returns
unfolding step_of
returns c = (c.whole.ensures, omega arith)

pub whole-requires : goal.whole-requires
whole-requires c = tt
