-- Points as whole numbers: what makes two vertices the same. The Rust rounds vertices to `i64`; here as its cells to `i32`, counted from the
-- lowest, which is the same wherever a corner is within 10,000 m: it has at most 10 ^ 8 steps of 1 mm or 0.1 mm.
use Rattle.std.specs.Prelude.{ℕ, Bool, ◌&&◌, eqb, Float}
use Rattle.std.specs.Float.{binary32}
use Rattle.std.specs.Float.Ieee.{mul, of_bits}
use Rattle.vector.specs.declared.Vec3.{Vec3}
use Rattle.planes_faces.specs.Whole.{whole_of, place_of}

-- `(x * k).round()`
unfoldable pub step_of : Float → Float → ℕ
step_of k x = place_of (whole_of (mul binary32 x k))

-- a point in steps of a grid
pub record Key : Type 0 where
  pub x : ℕ
  pub y : ℕ
  pub z : ℕ

-- a point times k, each part rounded
unfoldable pub key_by : Float → Vec3 → Key
key_by k p = record { x = step_of k p.x; y = step_of k p.y; z = step_of k p.z }

unfoldable pub same_key : Key → Key → Bool
same_key a b = eqb a.x b.x && eqb a.y b.y && eqb a.z b.z

-- 1e3: steps of 1 mm
abbrev pub vertex_steps_per_metre : Float
vertex_steps_per_metre = of_bits binary32 0x447a_0000

-- `vertex_key`
unfoldable pub vertex_key : Vec3 → Key
vertex_key p = key_by vertex_steps_per_metre p
