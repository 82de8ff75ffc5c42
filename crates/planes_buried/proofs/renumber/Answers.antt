-- `planes_buried::renumber` meets its contract: the loop holds it for the triangles before i.
use lib.ListN.{length}
use Rattle.planes_buried.proofs.Best.{numbered_at}
use Rattle.planes_buried.proofs.Closing.{renumbering_at}
use Rattle.planes_buried.proofs.renumber.Goals as goal

pub renumbered-requires : goal.renumbered-requires
renumbered-requires c = let h = c.loop-i-test.true in
    rw (renumbering_at c.args.numbers.now c.args.of.now c.loop-i.of c.loop-i.i c.loop-i.invariant.1) (numbered_at c.args.of.now c.args.m (length
    c.args.numbers.now) c.loop-i.i c.requires.numbered h c.requires.m_in_bounds)
