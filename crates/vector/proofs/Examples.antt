-- Worked examples of the definitions on vectors, which antt computes: where the sums are rounded, and the two fixed directions.
use mathlib.Core.Path.{◌≡◌, refl}
use lib.Ieee.{binary32, of_bits, add, sub, mul, div, neg, lt}
use Rattle.float.specs.Literals.{zero32, one32}
use Rattle.float.specs.Sqrt.{sqrt_of}
use Rattle.vector.specs.Vector.{vec, dot3_of, cross3_of, length3_of, normalize3_of}
use Rattle.vector.specs.Basis.{tangent_of, probe_basis_of, probe_angle_of, angle}

-- (1.5, 2.5, -1) · (0.1, 1, 3), rounded four times
rounded_product :
    dot3_of (vec (of_bits binary32 0x3fc0_0000) (of_bits binary32 0x4020_0000) (of_bits binary32 0xbf80_0000)) (vec (of_bits binary32 0x3dcc_cccd) one32 (of_bits binary32 0x4040_0000))
    ≡ of_bits binary32 0xbeb3_3330
unfolding dot3_of of_bits add mul
rounded_product = refl

-- (3, 0, 4) has length 5 and direction (0.6, 0, 0.8)
direction :
    normalize3_of (vec (of_bits binary32 0x4040_0000) zero32 (of_bits binary32 0x4080_0000))
    ≡ vec (of_bits binary32 0x3f19_999a) zero32 (of_bits binary32 0x3f4c_cccd)
unfolding normalize3_of length3_of dot3_of sqrt_of of_bits add mul div lt
direction = refl

-- a vector of no length has direction +z
no_direction : normalize3_of (vec zero32 zero32 zero32) ≡ vec zero32 zero32 one32
unfolding normalize3_of length3_of dot3_of sqrt_of of_bits add mul lt
no_direction = refl

-- along -z the first direction is the fixed one, and the second is -z × (0, -1, 0), whose zeros have signs
pole : probe_basis_of (vec zero32 zero32 (neg one32)) ≡ record { u = vec zero32 (neg one32) zero32; w = vec (neg one32) (neg zero32) (neg zero32) }
unfolding probe_basis_of tangent_of cross3_of of_bits add sub mul neg lt
pole = refl

-- the third angle's cosine is not 0: the angle is the f32 nearest to a right angle
third : probe_angle_of 2 ≡ angle 0x3f80_0000 0xb33b_bd2e
unfolding probe_angle_of
third = refl
