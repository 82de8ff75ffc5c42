-- Document 02, Note 5: what the air leaves of an amplitude over a path, band by band.
use Rattle.std.specs.Prelude.{ℕ, suc, ◌+◌, ◌*◌, ◌/◌, ◌%◌, ◌^◌, ◌<◌, ◌≤◌, cond, pos, slice_index, Float}
use Rattle.std.specs.Float.{nan, inf, fin, binary32}
use Rattle.std.specs.Float.Ieee.{up, down, div, of_int, of_bits}
use Rattle.bands.specs.declared.Band8.{Band8}
use Rattle.air.specs.Table.{factor_table}
use Rattle.air.specs.declared.Air.{Air}

-- "The path total's exact value is rounded to whole millimetres, halves up": m * up e / down e metres; a total that is no length has none
unfoldable pub millimetres_of : Float → ℕ
millimetres_of nan = 0
millimetres_of (inf s) = 0
millimetres_of (fin s m e) = cond s 0 ((2 * (m * up e * 1000) + down e) / (2 * down e))

-- "Steps of 0.05 dB are s = (coefficient × millimetres + 25,000,000) / 50,000,000, rounded down"
unfoldable pub steps_in : ℕ → ℕ
steps_in product = (product + 25000000) / 50000000

abbrev pub steps_of : ℕ → ℕ → ℕ
steps_of coefficient millimetres = steps_in (coefficient * millimetres)

-- "k is the whole number with k^400 × 10^s at most 2^9600 and (k + 1)^400 × 10^s above it"
pub record Serves (s k : ℕ) : Type 0 where
  pub low : k ^ 400 * 10 ^ s ≤ 2 ^ 9600
  pub high : 2 ^ 9600 < suc k ^ 400 * 10 ^ s

-- "A table holds the 400 values of k for s from 0 to 399 .. Larger s divides by ten for each 400 steps, rounding down"
unfoldable pub factor_of_steps : ℕ → ℕ
factor_of_steps s = slice_index factor_table (s % 400) / 10 ^ (s / 400)

-- "The band's factor is k / 2^24"
unfoldable pub band_of : ℕ → ℕ → Float
band_of coefficient millimetres = div binary32 (of_int binary32 (pos (factor_of_steps (steps_of coefficient millimetres)))) (of_bits binary32 0x4b80_0000)

-- all bands
unfoldable pub bands_of : Air → ℕ → Band8
bands_of a n =
    record {
      b0 = band_of a.a0 n;
      b1 = band_of a.a1 n;
      b2 = band_of a.a2 n;
      b3 = band_of a.a3 n;
      b4 = band_of a.a4 n;
      b5 = band_of a.a5 n;
      b6 = band_of a.a6 n;
      b7 = band_of a.a7 n;
    }

-- what the air leaves over a path, "where the Rust has its air gain"
unfoldable pub air_gain_of : Air → Float → Band8
air_gain_of a total = bands_of a (millimetres_of total)
