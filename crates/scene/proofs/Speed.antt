-- The numbers of `speed_of` are the nearest to their decimals, and its value at the ends of the limit, at 0 and at 20 degrees.
use mathlib.Core.Path.{◌≡◌, refl}
use mathlib.Core.Bool.{false}
use lib.IntN.{pos}
use lib.Ieee.{fin, binary32, add, mul, div, of_bits, round}
use Rattle.float.specs.Literals.{zero32}
use Rattle.float.specs.Sqrt.{sqrt_of, root_of, isqrt}
use Rattle.scene.specs.Limits.{least_temperature, most_temperature}
use Rattle.scene.specs.Speed.{reference_speed, zero_celsius, reference_kelvin, speed_of}

speed_nearest : reference_speed ≡ round binary32 false 3432 10
unfolding of_bits round
speed_nearest = refl

zero_nearest : zero_celsius ≡ round binary32 false 27315 100
unfolding of_bits round
zero_nearest = refl

kelvin_nearest : reference_kelvin ≡ round binary32 false 29315 100
unfolding of_bits round
kelvin_nearest = refl

-- −20 degrees: 318.92703
at_least : speed_of least_temperature ≡ of_bits binary32 0x439f_76a9
unfolding speed_of sqrt_of root_of isqrt add mul div of_bits round
at_least = refl

-- 0 degrees: 331.28589
at_zero : speed_of zero32 ≡ of_bits binary32 0x43a5_a498
unfolding speed_of sqrt_of root_of isqrt add mul div of_bits round
at_zero = refl

-- 20 degrees: the float nearest to 343.2, as the quotient is 1
at_twenty : speed_of (fin false 5 (pos 2)) ≡ reference_speed
unfolding speed_of sqrt_of root_of isqrt add mul div of_bits round
at_twenty = refl

-- 50 degrees: 360.33331
at_most : speed_of most_temperature ≡ of_bits binary32 0x43b4_2aaa
unfolding speed_of sqrt_of root_of isqrt add mul div of_bits round
at_most = refl
