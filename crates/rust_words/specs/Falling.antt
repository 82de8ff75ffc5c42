-- The order of seeds and planes in the Rust's words: `b.area.partial_cmp(&a.area).unwrap_or(Equal).then(..)`, larger first, and of equal ones the lower number.
use Rattle.std.specs.Prelude.{ℕ, Bool, ltb, Float}
use Rattle.std.specs.Float.Ieee.{lt}
use Rattle.ranking.specs.Candidate.{decides}

-- the one with the float x and the number i comes before the one with y and j
abbrev pub comes_first : Float → ℕ → Float → ℕ → Bool
comes_first x i y j = decides (lt y x) (lt x y) (ltb i j)
