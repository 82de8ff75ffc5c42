-- The limits of document 01, section 'Scene and settings', and of document 02's Notes 4, 5 and 12, each named once. A comparison with a NaN is false, so a NaN lies outside every limit.
use Rattle.std.specs.Prelude.{ℕ, Float, ltb, Bool, not, ◌&&◌}
use Rattle.std.specs.Float.{binary32}
use Rattle.std.specs.Float.Ieee.{le, lt, neg, of_bits}
use Rattle.float.specs.Literals.{zero32, one32}
use Rattle.float.specs.Compare.{is_finite}
use Rattle.bands.specs.declared.DistanceModel.{DistanceModel}
use Rattle.air.specs.declared.Air.{Air}
use Rattle.sequences.specs.Allowed.{most}
pub use Rattle.sequences.specs.Allowed.{most_planes}
use Rattle.scene.specs.declared.Settings.{Settings}

-- C 0 to 250,000, as many as images are visited (`max_reflection_planes` 0 to 256, as many as `sequences` takes)
abbrev pub most_candidates : ℕ
most_candidates = most

-- the whole index triples of a scene, at most
abbrev pub most_triples : ℕ
most_triples = 4096

-- `max_reflection_distance` above 0, at most 1,000
abbrev pub most_distance : Float
most_distance = of_bits binary32 0x447a_0000

-- temperature −20 to 50
abbrev pub least_temperature : Float
least_temperature = of_bits binary32 0xc1a0_0000

abbrev pub most_temperature : Float
most_temperature = of_bits binary32 0x4248_0000

-- sample rate 8,000 to 192,000
abbrev pub least_rate : Float
least_rate = of_bits binary32 0x45fa_0000

abbrev pub most_rate : Float
most_rate = of_bits binary32 0x483b_8000

-- the distance model's four numbers 0 to 1,000,000
abbrev pub most_model_number : Float
most_model_number = of_bits binary32 0x4974_2400

-- the crossings of a half segment, 1 to 32
abbrev pub least_crossings : ℕ
least_crossings = 1

abbrev pub most_crossings : ℕ
most_crossings = 32

-- `OCCLUSION_MAX_CROSSINGS` and `REFLECTION_VISIBILITY_RADIUS`, 0.06: the Rust's crossing limit and probe radius
abbrev pub max_crossings : ℕ
max_crossings = 8

abbrev pub visibility_radius : Float
visibility_radius = of_bits binary32 0x3d75_c28f

-- the air's coefficients, in millionths of a decibel per metre: 0 to 1,000,000 (document 02, Note 5)
abbrev pub most_coefficient : ℕ
most_coefficient = 1000000

-- from `low` to `high`
unfoldable pub between_of : Float → Float → Float → Bool
between_of x low high = le low x && le x high

-- above 0 and at most `high`
unfoldable pub above_zero_of : Float → Float → Bool
above_zero_of x high = lt zero32 x && le x high

-- planes and candidates within their limits
unfoldable pub counts_of : ℕ → ℕ → Bool
counts_of planes c = not (ltb most_planes planes) && not (ltb most_candidates c)

-- the reflection distance, the temperature and the sample rate within theirs
unfoldable pub rates_of : Float → Float → Float → Bool
rates_of distance temperature rate = above_zero_of distance most_distance && (between_of temperature least_temperature most_temperature && between_of rate least_rate most_rate)

-- cosine −1 to 1; fade, merge offset and buried distance finite
unfoldable pub merges_of : Float → Float → Float → Float → Bool
merges_of cosine fade offset buried = between_of cosine (neg one32) one32 && (is_finite fade && (is_finite offset && is_finite buried))

unfoldable pub model_number_of : Float → Bool
model_number_of x = between_of x zero32 most_model_number

-- the distance model's numbers within theirs; its curve is Inverse or Linear by its type
unfoldable pub model_numbers_of : DistanceModel → Bool
model_numbers_of m =
    model_number_of m.reference_distance
    && (model_number_of m.rolloff_factor && (model_number_of m.min_distance && model_number_of m.max_distance))

-- the crossing limit within its limits, the probe radius 0 to 1
unfoldable pub probe_settings_of : ℕ → Float → Bool
probe_settings_of limit radius = not (ltb limit least_crossings) && (not (ltb most_crossings limit) && between_of radius zero32 one32)

-- a coefficient of the air within its limit
unfoldable pub air_number_of : ℕ → Bool
air_number_of x = not (ltb most_coefficient x)

-- all eight, four and four
unfoldable pub low_air_of : Air → Bool
low_air_of a = air_number_of a.a0 && (air_number_of a.a1 && (air_number_of a.a2 && air_number_of a.a3))

unfoldable pub high_air_of : Air → Bool
high_air_of a = air_number_of a.a4 && (air_number_of a.a5 && (air_number_of a.a6 && air_number_of a.a7))

-- the settings of Notes 12 and 5: the probes and the air
unfoldable pub later_settings_of : Settings → Bool
later_settings_of s = probe_settings_of s.crossing_limit s.probe_radius && (low_air_of s.air && high_air_of s.air)

-- every setting, and the candidate room c, within its limits; order and `max_reflections` may be any
unfoldable pub settings_of : Settings → ℕ → Bool
settings_of s c =
    counts_of s.max_reflection_planes c
    && (rates_of s.max_reflection_distance s.temperature_celsius s.sample_rate
    && (merges_of s.plane_merge_cos s.reflection_edge_fade s.plane_merge_offset s.plane_buried_distance
    && (model_numbers_of s.distance_model && later_settings_of s)))
