-- `planes_borders::is_once` meets its contract: two reads.
use mathlib.Core.Path.{refl}
use native.Mathlib.Omega.{arith}
use lib.ListN.{length}
use Rattle.planes_borders.proofs.Counting.{below_at}
use Rattle.planes_borders.specs.Uses.{is_once_in}
use Rattle.planes_borders.proofs.is_once.Goals as goal

pub overflow_cast-k : goal.overflow_cast-k
overflow_cast-k c = let b = below_at (length c.args.uses.now) c.args.first.now c.args.e c.requires.below c.requires.e_in_bounds in omega arith

pub offset_bounds-uses-k : goal.offset_bounds-uses-k
offset_bounds-uses-k c = let b = below_at (length c.args.uses.now) c.args.first.now c.args.e c.requires.below c.requires.e_in_bounds in omega arith

pub bounds-uses-k : goal.bounds-uses-k
bounds-uses-k c = let b = below_at (length c.args.uses.now) c.args.first.now c.args.e c.requires.below c.requires.e_in_bounds in omega arith

pub returns : goal.returns
unfolding is_once_in
returns c = refl
