-- Worked examples of the distance model, which antt computes: both curves, a distance that is no number, and the ranges.
use mathlib.Core.Path.{◌≡◌, refl}
use mathlib.Core.Bool.{false}
use lib.Ieee.{Float, nan, inf, is_nan, binary32, of_bits, add, sub, mul, div, lt}
use Rattle.float.specs.Literals.{zero32, one32}
use Rattle.float.specs.Compare.{min_of, max_of, is_finite}
use Rattle.bands.specs.Distance.{held_of, furthest_of, between_of, inverse_of, linear_of, curve_of, gain_of}
use Rattle.bands.specs.declared.DistanceCurve.TheVariants.{Inverse, Linear}
use Rattle.bands.specs.declared.DistanceModel.{DistanceModel}

-- the Rust's default: reference, rolloff and least distance 1, greatest 10,000
abbrev model : Float → DistanceModel
model far = record { curve = Inverse; reference_distance = one32; rolloff_factor = one32; min_distance = one32; max_distance = far }

-- reference 1, rolloff 1, least 0, greatest 11
abbrev line : DistanceModel
line = record { curve = Linear; reference_distance = one32; rolloff_factor = one32; min_distance = zero32; max_distance = of_bits binary32 0x4130_0000 }

-- a tenth at ten metres
tenth : gain_of (model (of_bits binary32 0x461c_4000)) (of_bits binary32 0x4120_0000) ≡ of_bits binary32 0x3dcc_cccd
unfolding gain_of held_of furthest_of between_of inverse_of curve_of min_of max_of is_finite is_nan of_bits add sub mul div lt
tenth = refl

-- a NaN reads as the least distance
at_nan : gain_of (model (of_bits binary32 0x461c_4000)) nan ≡ one32
unfolding gain_of held_of furthest_of between_of inverse_of curve_of min_of max_of is_finite is_nan of_bits add sub mul div lt
at_nan = refl

-- no greatest distance: nothing is heard at infinity
far_away : gain_of (model nan) (inf false) ≡ of_bits binary32 0x0020_0000
unfolding gain_of held_of furthest_of between_of inverse_of curve_of min_of max_of is_finite is_nan of_bits add sub mul div lt
far_away = refl

-- at the greatest distance the line is at 0, and below the reference distance it is above 1
end_of_line : gain_of line (of_bits binary32 0x42c8_0000) ≡ zero32
unfolding gain_of held_of furthest_of between_of linear_of curve_of min_of max_of is_finite is_nan of_bits add sub mul div lt
end_of_line = refl

near : gain_of line zero32 ≡ of_bits binary32 0x3f8c_cccd
unfolding gain_of held_of furthest_of between_of linear_of curve_of min_of max_of is_finite is_nan of_bits add sub mul div lt
near = refl
