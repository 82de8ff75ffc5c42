-- Document 02's rule on numerals: halves go up, the exact value counts and not a rounded product, nothing is taken over no step, and little is left of much.
use Rattle.std.proofs.Common.{◌≡◌, refl}
use lib.Ieee.{binary32, mul, div, of_int, of_bits}
use Rattle.float.specs.Literals.{zero32}
use Rattle.air.specs.Table.{factor_table}
use Rattle.air.specs.Air.{millimetres_of, steps_in, steps_of, factor_of_steps, band_of}

-- 0.0625 m are 62.5 mm
half_up : millimetres_of (of_bits binary32 0x3d80_0000) ≡ 63
unfolding millimetres_of of_bits
half_up = refl

-- 12.345499.. m: 12,345.49999 mm, while the product with 1,000 rounds to 12,345.5
not_the_product : millimetres_of (of_bits binary32 0x4145_872b) ≡ 12345
unfolding millimetres_of of_bits
not_the_product = refl

rounded_product : mul binary32 (of_bits binary32 0x4145_872b) (of_bits binary32 0x447a_0000) ≡ of_bits binary32 0x4640_e600
unfolding mul of_bits
rounded_product = refl

-- which a coefficient can tell
steps_of_it : steps_of 402981 12345 ≡ 99
unfolding steps_in
steps_of_it = refl

steps_of_the_product : steps_of 402981 12346 ≡ 100
unfolding steps_in
steps_of_the_product = refl

-- over a kilometre the largest coefficient leaves nothing
nothing_left : band_of 1000000 1000000 ≡ zero32
unfolding band_of steps_in factor_of_steps factor_table of_int div of_bits
nothing_left = refl

-- twelve metres at 0.1 dB a metre, 24 steps: 10^(-0.06) of the amplitude
twelve_metres : factor_of_steps (steps_of 100000 12000) ≡ 14612344
unfolding steps_in factor_of_steps factor_table
twelve_metres = refl
