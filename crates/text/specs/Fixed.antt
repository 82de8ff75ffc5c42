-- A float with a fixed count of decimals.
use Rattle.std.specs.Prelude.{ℕ, zero, suc, ◌+◌, ◌/◌, ◌%◌, ◌^◌, cond, List, [], ◌∷◌, ◌++◌, pos, ◌==◌, from_bits, Float, Option, Some, None}
use Rattle.std.specs.Option.{option_map_or}
use Rattle.std.specs.Float.{binary32, binary64}
use Rattle.std.specs.Float.Ieee.{of_int, add, mul, lt, neg, to_unsigned}
use Rattle.float.specs.Compare.{abs_of}
use Rattle.listing.specs.Text.{digits_of}

-- |x| * tens + 1/2 in binary64; the product is exact, since tens is at most 10 ^ 6
abbrev pub shifted : Float → ℕ → Float
shifted x tens = add binary64 (mul binary64 (abs_of x) (of_int binary64 (pos tens))) (from_bits binary64 4602678819172646912)

-- its whole part: |x| * tens to the nearest whole number, a half going up; none where that is too large, or x is no number
unfoldable pub scaled_of : Float → ℕ → Option ℕ
scaled_of x tens =
    cond (lt (neg (from_bits binary64 4607182418800017408)) (shifted x tens))
    (cond (lt (shifted x tens) (from_bits binary64 4895412794951729152)) (Some (to_unsigned 64 (shifted x tens))) None)
    None

-- a minus where x is below 0 and does not print as 0
unfoldable pub sign_of : Float → ℕ → List ℕ
sign_of x m = cond (m == 0) [] (cond (lt x (from_bits binary32 0)) (45 ∷ []) [])

-- the last k digits of n
unfoldable pub last_digits : ℕ → ℕ → List ℕ
last_digits zero n = []
last_digits (suc k) n = last_digits k (n / 10) ++ (48 + n % 10) ∷ []

-- m / 10 ^ k with its k decimals
unfoldable pub parts_of : ℕ → ℕ → List ℕ
parts_of m k = (digits_of 20 (m / 10 ^ k) ++ 46 ∷ []) ++ last_digits k m

-- x with k decimals, `-` where it is NaN or too large
unfoldable pub fixed_of : Float → ℕ → List ℕ
fixed_of x k = option_map_or (λ m. sign_of x m ++ parts_of m k) (scaled_of x (10 ^ k)) (45 ∷ [])
