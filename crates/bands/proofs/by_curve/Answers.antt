-- `bands::by_curve` meets its contract: by the curve, the contract of `inverse` or of `linear`.
use Rattle.bands.specs.Distance.{curve_of}
use Rattle.bands.proofs.by_curve.Goals as goal

pub inverse-requires : goal.inverse-requires
unfolding curve_of
inverse-requires c = tt

pub linear-requires : goal.linear-requires
unfolding curve_of
linear-requires c = tt

pub returns-in-Inverse : goal.returns-in-Inverse
unfolding curve_of
returns-in-Inverse c = rw (c.in-Inverse.is, ← c.inverse.ensures)

pub returns-in-Linear : goal.returns-in-Linear
unfolding curve_of
returns-in-Linear c = rw (c.in-Linear.is, ← c.linear.ensures)
