-- `air::air_gain` meets its contract: nothing is taken where all coefficients are 0, and a longer path than the code counts leaves as little.
use Rattle.std.proofs.Common.{sym, ap, ◌∙◌, arith}
use Rattle.air.specs.Air.{millimetres_of, bands_of, air_gain_of}
use Rattle.air.proofs.Nothing.{cut_bands}
use Rattle.air.proofs.Quiet.{still_bands}
use Rattle.air.proofs.air_gain.Goals as goal

pub returns-then-still : goal.returns-then-still
unfolding air_gain_of
returns-then-still c =
    c.splat.ensures
    ∙ sym (still_bands c.args.air (millimetres_of c.args.total) (sym c.still.ensures ∙ c.if-still.true))

pub bands_after-requires : goal.bands_after-requires
bands_after-requires c = rw c.millimetres.ensures (omega arith)

pub returns : goal.returns
unfolding air_gain_of
returns c =
    c.bands_after.ensures ∙ ap (bands_of c.args.air) c.millimetres.ensures
    ∙ cut_bands c.args.air (millimetres_of c.args.total)
