-- `planes_patches::canonical` meets its contract, by its test.
use Rattle.planes_patches.specs.Normal.{canonical_of, neg3_of}
use Rattle.planes_patches.proofs.canonical.Goals as goal

pub is_turned-requires : goal.is_turned-requires
unfolding canonical_of neg3_of
is_turned-requires c = tt

pub returns-then-is_turned : goal.returns-then-is_turned
unfolding canonical_of neg3_of
returns-then-is_turned c = rw (← c.is_turned.ensures, c.if-is_turned.true)

pub returns : goal.returns
unfolding canonical_of neg3_of
returns c = rw (← c.is_turned.ensures, c.if-is_turned.false)
