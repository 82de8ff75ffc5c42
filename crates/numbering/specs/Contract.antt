-- What the functions behind `sequence_of` ask, and the cut of the block sizes.
use Rattle.std.specs.Prelude.{ℕ, suc, ◌≤◌, ◌<◌, min, List, length, take}
use Rattle.sequences.specs.Allowed.{may, allowed, most, most_order, most_planes}
use Rattle.sequences.specs.Count.{count, series}

-- a block of so many or more is past every number: sizes are cut here
abbrev pub cap : ℕ
cap = suc most

-- `block`: 1 + m + .. + m^(d−1), cut
unfoldable pub block_of : ℕ → ℕ → ℕ
block_of m d = min cap (series m d)

-- `walls_at`: planes and an order within their limits, and a place, from 0, that has an image
pub record Placed (on : List ℕ) (order place : ℕ) : Type 0 where
  pub within : order ≤ most_order
  pub some : 1 ≤ length on
  pub few : length on ≤ most_planes
  pub low : place < most
  pub there : place < length (allowed on order)

-- `plane_at`: q of the planes that may follow the first `len` are smaller than another that may
pub record Followed (on planes : List ℕ) (len q : ℕ) : Type 0 where
  pub within : len ≤ most_order
  pub few : length on ≤ most_planes
  pub less : q < count (may on (take len planes)) (length on)
