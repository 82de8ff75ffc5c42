-- `planes_groups::rank` meets its contract: by the test for NaN.
use Rattle.planes_groups.specs.Groups.{rank_of}
use Rattle.planes_groups.proofs.rank.Goals as goal

pub returns-then-is_nan : goal.returns-then-is_nan
unfolding rank_of
returns-then-is_nan c = rw (← c.is_nan.ensures, c.if-is_nan.true)

pub float_key-requires : goal.float_key-requires
float_key-requires c = rw (← c.is_nan.ensures, c.if-is_nan.false) tt

pub returns : goal.returns
unfolding rank_of
returns c = rw (← c.is_nan.ensures, c.if-is_nan.false) c.float_key.ensures

pub is_nan-requires : goal.is_nan-requires
is_nan-requires c = tt
