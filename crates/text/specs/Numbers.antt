-- The numbers of a text: whole numbers of 32 bits, and floats as decimals or by their bits.
use Rattle.std.specs.Prelude.{ℕ, suc, ◌+◌, ◌-◌, ◌*◌, ◌%◌, ◌/◌, ◌^◌, min, Bool, true, cond, not, ◌&&◌, List, [], ◌∷◌, length, take, drop, pos, ◌==◌, Option, Some, None, fold, position, Float, from_bits, nat_le, nat_lt, slice_index, slice_set}
use Rattle.std.specs.Option.{is_some, unwrap_or, option_map, option_map_or}
use Rattle.std.specs.List.{list_all}
use Rattle.std.specs.Float.{binary32}
use Rattle.std.specs.Float.Ieee.{of_int, div, neg}
use Rattle.listing.specs.Request.{is_decimal_text}

-- 2 ^ 32
abbrev pub word_end : ℕ
word_end = 4294967296

-- a number with one digit more, up to 2 ^ 32, which no number of nine digits reaches
unfoldable pub push : ℕ → ℕ → ℕ
push n d = min (n * 10 + (d - 48)) word_end

-- a whole number: digits alone, and below 2 ^ 32
unfoldable pub whole_of : List ℕ → Option ℕ
whole_of w = cond (is_decimal_text w) (cond (nat_lt (fold push 0 w) word_end) (Some (fold push 0 w)) None) None

-- 2 ^ 24: every whole number below it is a float
abbrev pub exact_end : ℕ
exact_end = 16777216

-- v / 10 ^ k, rounded once: v is below 2 ^ 24 and k at most 9, so both are floats
unfoldable pub divided : ℕ → ℕ → Option Float
divided v k = cond (nat_lt v exact_end) (Some (div binary32 (of_int binary32 (pos v)) (of_int binary32 (pos (10 ^ k))))) None

-- digits, a point, digits: one or more on each side, at most nine behind it
unfoldable pub parted : List ℕ → List ℕ → Option Float
parted a b =
    cond (nat_lt 9 (length b)) None
    (cond (is_decimal_text a) (cond (is_decimal_text b) (divided (fold push (fold push 0 a) b) (length b)) None) None)

-- one to seven digits
unfoldable pub unparted : List ℕ → Option Float
unparted w = cond (nat_lt 7 (length w)) None (cond (is_decimal_text w) (divided (fold push 0 w) 0) None)

-- a decimal without a sign
unfoldable pub unsigned : List ℕ → Option Float
unsigned w = option_map_or (λ p. parted (take p w) (drop (suc p) w)) (position (λ b. b == 46) w) (unparted w)

abbrev pub negated : Option Float → Option Float
negated x = option_map neg x

-- a decimal: a minus or none before it
unfoldable pub decimal_of : List ℕ → Option Float
decimal_of [] = None
decimal_of (b ∷ l) = cond (b == 45) (negated (unsigned l)) (unsigned (b ∷ l))

-- the value of a hexadecimal digit
unfoldable pub hex_digit_of : ℕ → Option ℕ
hex_digit_of b =
    cond (nat_lt b 48) None
    (cond (nat_le b 57) (Some (b - 48)) (cond (nat_lt b 97) None (cond (nat_le b 102) (Some (b - 97 + 10)) None)))

unfoldable pub all_hex : List ℕ → Bool
all_hex w = list_all (λ b. is_some (hex_digit_of b)) w

-- a number of 32 bits with one hexadecimal digit more, the first one going
unfoldable pub push_hex_digit : ℕ → ℕ → ℕ
push_hex_digit n b = n % 268435456 * 16 + unwrap_or (hex_digit_of b) 0

unfoldable pub hex_value_of : List ℕ → ℕ
hex_value_of w = fold push_hex_digit 0 w

-- `0x` before it
unfoldable pub prefixed : List ℕ → Bool
prefixed w = slice_index w 0 == 48 && slice_index w 1 == 120

-- a float by its bits, hexadecimal digits
unfoldable pub bits_of_hex : List ℕ → Option Float
bits_of_hex w = cond (all_hex w) (Some (from_bits binary32 (hex_value_of w))) None

-- `0x` and eight hexadecimal digits are a float's bits; anything else is a decimal, so that eight digits alone are no float
unfoldable pub number_of : List ℕ → Option Float
number_of w = cond (length w == 10) (cond (prefixed w) (bits_of_hex (drop 2 w)) (decimal_of w)) (decimal_of w)

-- one byte of a line of hexadecimal digits: a digit goes on in its word, eight to a word, and is counted; another byte is passed over
abbrev pub hex_step : List ℕ × ℕ → ℕ → List ℕ × ℕ
hex_step s b =
    cond (is_some (hex_digit_of b)) (slice_set s.0 (s.1 / 8) (push_hex_digit (slice_index s.0 (s.1 / 8)) b), s.1 + 1) s

-- the words of a line's hexadecimal digits, from words as they are, and how many digits there are
abbrev pub hex_words_of : List ℕ → List ℕ → List ℕ × ℕ
hex_words_of line words = fold hex_step (words, 0) line
