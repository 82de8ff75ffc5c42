-- The speed of sound by the thermometer; document 02, Note 4: "343.2 times the square root of (t + 273.15) / 293.15, each operation rounded once in f32 in that order".
-- `proofs/Speed.antt` proves each number the `f32` nearest to its decimal.
use Rattle.std.specs.Prelude.{Float}
use Rattle.std.specs.Float.{binary32}
use Rattle.std.specs.Float.Ieee.{add, mul, div, of_bits}
use Rattle.float.specs.Sqrt.{sqrt_of}

-- 343.2, metres a second at 20 degrees
abbrev pub reference_speed : Float
reference_speed = of_bits binary32 0x43ab_999a

-- 273.15, kelvins at 0 degrees
abbrev pub zero_celsius : Float
zero_celsius = of_bits binary32 0x4388_9333

-- 293.15, kelvins at 20 degrees
abbrev pub reference_kelvin : Float
reference_kelvin = of_bits binary32 0x4392_9333

-- metres a second at t degrees Celsius
unfoldable pub speed_of : Float → Float
speed_of t = mul binary32 reference_speed (sqrt_of (div binary32 (add binary32 t zero_celsius) reference_kelvin))
