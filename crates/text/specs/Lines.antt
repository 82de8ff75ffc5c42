-- The lines of a text.
use Rattle.std.specs.Prelude.{ℕ, suc, List, length, ◌==◌, position}
use Rattle.std.specs.Option.{option_map_or}

-- how many bytes the first line has, with its line feed if it has one
unfoldable pub line_length : List ℕ → ℕ
line_length l = option_map_or suc (position (λ b. b == 10) l) (length l)
