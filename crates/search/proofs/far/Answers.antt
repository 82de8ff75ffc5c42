-- `search::far` meets its contract: the square of the way from the image to the listener.
use Rattle.search.proofs.far.Goals as goal

pub returns : goal.returns
returns c = rw (c.dot3.ensures, c.sub3-way.ensures)

pub sub3-way-requires : goal.sub3-way-requires
sub3-way-requires c = tt

pub dot3-requires : goal.dot3-requires
dot3-requires c = tt
