-- Which setting refusal 1 is about: the tests of `scene`'s Limits one by one, in the order in which they stand there, and the first that fails.
use Rattle.std.specs.Prelude.{ℕ, suc, ltb, Bool, cond, not, ◌&&◌, List, [], ◌∷◌}
use Rattle.float.specs.Literals.{zero32, one32}
use Rattle.float.specs.Compare.{is_finite}
use Rattle.air.specs.declared.Air.{Air}
use Rattle.scene.specs.declared.Settings.{Settings}
use Rattle.scene.specs.Limits.{most_planes, most_candidates, most_distance, least_temperature, most_temperature, least_rate, most_rate, least_crossings, most_crossings}
use Rattle.scene.specs.Limits.{between_of, above_zero_of, model_number_of, air_number_of}
use Rattle.std.specs.Float.Ieee.{neg}

-- 0 where all tests hold, else the number of the first that does not; the first test's number is k
abbrev pub first_failed : ℕ → List Bool → ℕ
first_failed k [] = 0
first_failed k (b ∷ bs) = cond b (first_failed (suc k) bs) k

-- 1 `max_reflection_planes`
unfoldable pub planes_in_bounds : ℕ → Bool
planes_in_bounds planes = not (ltb most_planes planes)

-- 2 the candidate room
unfoldable pub room_in_bounds : ℕ → Bool
room_in_bounds c = not (ltb most_candidates c)

-- 14 `crossing_limit`
unfoldable pub crossings_in_bounds : ℕ → Bool
crossings_in_bounds limit = not (ltb limit least_crossings) && not (ltb most_crossings limit)

-- 20 to 23, the last four of the air's coefficients
unfoldable pub high_air_tests : Air → List Bool
high_air_tests a = air_number_of a.a4 ∷ air_number_of a.a5 ∷ air_number_of a.a6 ∷ air_number_of a.a7 ∷ []

-- 16 to 23, all eight
unfoldable pub air_tests : Air → List Bool
air_tests a = air_number_of a.a0 ∷ air_number_of a.a1 ∷ air_number_of a.a2 ∷ air_number_of a.a3 ∷ high_air_tests a

-- 14 and 15, `crossing_limit` and `probe_radius`, and what follows
unfoldable pub probe_tests : Settings → List Bool
probe_tests s = crossings_in_bounds s.crossing_limit ∷ between_of s.probe_radius zero32 one32 ∷ air_tests s.air

-- 10 to 13, the distance model's four numbers, and what follows
unfoldable pub model_tests : Settings → List Bool
model_tests s =
    model_number_of s.distance_model.reference_distance ∷ model_number_of s.distance_model.rolloff_factor
    ∷ model_number_of s.distance_model.min_distance ∷ model_number_of s.distance_model.max_distance ∷ probe_tests s

-- 6 `plane_merge_cos`, 7 `reflection_edge_fade`, 8 `plane_merge_offset`, 9 `plane_buried_distance`, and what follows
unfoldable pub merge_tests : Settings → List Bool
merge_tests s =
    between_of s.plane_merge_cos (neg one32) one32 ∷ is_finite s.reflection_edge_fade ∷ is_finite s.plane_merge_offset
    ∷ is_finite s.plane_buried_distance ∷ model_tests s

-- 3 `max_reflection_distance`, 4 `temperature_celsius`, 5 `sample_rate`, and what follows
unfoldable pub rate_tests : Settings → List Bool
rate_tests s =
    above_zero_of s.max_reflection_distance most_distance ∷ between_of s.temperature_celsius least_temperature most_temperature
    ∷ between_of s.sample_rate least_rate most_rate ∷ merge_tests s

-- all of them
unfoldable pub setting_tests : Settings → ℕ → List Bool
setting_tests s c = planes_in_bounds s.max_reflection_planes ∷ room_in_bounds c ∷ rate_tests s

-- the number of the first setting outside its limits, 0 where none is
unfoldable pub fault_of : Settings → ℕ → ℕ
fault_of s c = first_failed 1 (setting_tests s c)
