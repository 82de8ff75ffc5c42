-- `planes_patches::is_coplanar` meets its contract, by its calls and tests.
use mathlib.Core.Path.{sym}
use Rattle.laws.proofs.Bools.{and_false}
use Rattle.planes_patches.specs.Patches.{lies_in_plane}
use Rattle.planes_patches.specs.Rows.{patch_in}
use Rattle.planes_patches.specs.Grid.{coplanar_at}
use Rattle.planes_patches.proofs.Lists.{and_true}
use Rattle.planes_patches.proofs.is_coplanar.Goals as goal

pub returns-then-abs : goal.returns-then-abs
unfolding coplanar_at lies_in_plane patch_in
returns-then-abs c = rw (← c.abs.ensures, c.if-abs.true, ← c.vec_in.ensures, ← c.dot3.ensures) (sym (and_true _))

pub returns : goal.returns
unfolding coplanar_at lies_in_plane patch_in
returns c = rw (← c.abs.ensures, c.if-abs.false, and_false)

pub abs-requires : goal.abs-requires
abs-requires c = tt

pub dot3-requires : goal.dot3-requires
dot3-requires c = tt
