-- `air::bands_after` meets its contract, band by band.
use Rattle.air.specs.Air.{bands_of}
use Rattle.air.proofs.bands_after.Goals as goal

pub returns : goal.returns
unfolding bands_of
returns c =
    rw (
      c.band.ensures,
      c.band-2.ensures,
      c.band-3.ensures,
      c.band-4.ensures,
      c.band-5.ensures,
      c.band-6.ensures,
      c.band-7.ensures,
      c.band-8.ensures,
    )
