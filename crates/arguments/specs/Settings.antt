-- Settings as two lists: counts (order, reflections, planes, merge, curve, crossing limit, the air's eight coefficients) and floats (fade, distance, temperature, rate, cosine, offset,
-- buried distance, the distance model's four, and the probe radius).
use Rattle.std.specs.Prelude.{ℕ, Float, get_or, eqb, not, List}
use Rattle.std.specs.Float.{nan}
use Rattle.air.specs.declared.Air.{Air}
use Rattle.scene.specs.declared.Settings.{Settings}
use Rattle.arguments.specs.Model.{model_of}

-- the air's coefficients, counts 6 to 13
unfoldable pub given_air : List ℕ → Air
given_air counts =
    record {
      a0 = get_or counts 6 0;
      a1 = get_or counts 7 0;
      a2 = get_or counts 8 0;
      a3 = get_or counts 9 0;
      a4 = get_or counts 10 0;
      a5 = get_or counts 11 0;
      a6 = get_or counts 12 0;
      a7 = get_or counts 13 0;
    }

unfoldable pub given_settings : List ℕ → List Float → Settings
given_settings counts floats =
    record {
      max_reflection_order = get_or counts 0 0;
      max_reflections = get_or counts 1 0;
      max_reflection_planes = get_or counts 2 0;
      reflection_edge_fade = get_or floats 0 nan;
      max_reflection_distance = get_or floats 1 nan;
      temperature_celsius = get_or floats 2 nan;
      sample_rate = get_or floats 3 nan;
      plane_merge_cos = get_or floats 4 nan;
      plane_merge = not (eqb (get_or counts 3 0) 0);
      plane_merge_offset = get_or floats 5 nan;
      plane_buried_distance = get_or floats 6 nan;
      distance_model = model_of (get_or counts 4 0) (get_or floats 7 nan) (get_or floats 8 nan) (get_or floats 9 nan) (get_or floats 10 nan);
      crossing_limit = get_or counts 5 0;
      probe_radius = get_or floats 11 nan;
      air = given_air counts;
    }
