-- Vertex keys in the Rust's words: `vertex_key` rounds each coordinate to an `i64`, `x.round() as i64`.
use Rattle.std.specs.Prelude.{min, ℤ, pos, negsuc, Float}
use Rattle.std.specs.Float.{binary32}
use Rattle.std.specs.Float.Ieee.{mul}
use Rattle.vector.specs.declared.Vec3.{Vec3}
use Rattle.float.specs.Round.{round_of}
use Rattle.planes_faces.specs.Key.{vertex_steps_per_metre}
use Rattle.bounds.specs.Bounds.{Within}

-- an `i64` held to the range of an `i32`
abbrev pub held_to32 : ℤ → ℤ
held_to32 (pos n) = pos (min n 2147483647)
held_to32 (negsuc n) = negsuc (min n 2147483647)

-- `(p[k] * PLANE_VERTEX_QUANT).round() as i64`
abbrev pub rust_step : Float → ℤ
rust_step x = round_of (mul binary32 x vertex_steps_per_metre)

-- `vertex_key`
pub record RustKey : Type 0 where
  pub x : ℤ
  pub y : ℤ
  pub z : ℤ

abbrev pub rust_key : Vec3 → RustKey
rust_key p = record { x = rust_step p.x; y = rust_step p.y; z = rust_step p.z }

-- a corner that passes refusal 6: within 10,000 m on each axis
pub record Near (p : Vec3) : Type 0 where
  pub near_x : Within 10000 p.x
  pub near_y : Within 10000 p.y
  pub near_z : Within 10000 p.z
