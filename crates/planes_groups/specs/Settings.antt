-- What the settings say of planes.
use Rattle.std.specs.Prelude.{ℕ, Bool, Float}

-- `max_reflection_planes`, whether `plane_merge_angle_deg` is above 0 and the cosine of that angle, `plane_merge_offset`,
-- `plane_buried_distance`
pub record Settings : Type 0 where
  pub most : ℕ
  pub merge_on : Bool
  pub merge_cos : Float
  pub merge_offset : Float
  pub buried : Float
