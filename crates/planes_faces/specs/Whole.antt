-- The whole number nearest to a float: Rust's `x.round() as i32`.
use Rattle.std.specs.Prelude.{ℕ, ◌+◌, ◌-◌, ◌*◌, ◌/◌, min, cond, ℤ, pos, negsuc, neg_ℤ, Float}
use Rattle.std.specs.Float.{nan, inf, fin}
use Rattle.std.specs.Float.Ieee.{up, down}

-- the whole number nearest to m * 2 ^ e, a half going up
abbrev pub half_up : ℕ → ℤ → ℕ
half_up m e = (m * up e * 2 + down e) / (down e * 2)

-- `x.round() as i32`: the nearest whole number, a half away from zero, held to the range, and 0 for NaN
unfoldable pub whole_of : Float → ℤ
whole_of nan = pos 0
whole_of (inf s) = cond s (negsuc 2147483647) (pos 2147483647)
whole_of (fin s m e) = cond s (neg_ℤ (pos (min (half_up m e) 2147483648))) (pos (min (half_up m e) 2147483647))

-- its size
unfoldable pub size_of : Float → ℕ
size_of nan = 0
size_of (inf s) = 2147483648
size_of (fin s m e) = min (half_up m e) 2147483648

-- a number from -2 ^ 31 up, counted from there
abbrev pub place_of : ℤ → ℕ
place_of (pos n) = n + 2147483648
place_of (negsuc n) = 2147483647 - n
