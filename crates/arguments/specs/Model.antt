-- The distance model as numbers: its curve is 0 for Inverse, else Linear.
use Rattle.std.specs.Prelude.{ℕ, Float, cond, eqb}
use Rattle.bands.specs.declared.DistanceCurve.{DistanceCurve}
use Rattle.bands.specs.declared.DistanceCurve.TheVariants.{Inverse, Linear}
use Rattle.bands.specs.declared.DistanceModel.{DistanceModel}

-- the curve of a number
unfoldable pub curve_of_number : ℕ → DistanceCurve
curve_of_number n = cond (eqb n 0) Inverse Linear

-- the model of a curve's number and document 01's four numbers
abbrev pub model_of : ℕ → Float → Float → Float → Float → DistanceModel
model_of n reference rolloff least greatest =
    record { curve = curve_of_number n; reference_distance = reference; rolloff_factor = rolloff; min_distance = least; max_distance = greatest }
