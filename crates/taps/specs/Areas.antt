-- What the functions of `taps` ask of the lent areas.
use Rattle.std.specs.Prelude.{ℕ, ◌+◌, ◌<◌, ◌≤◌, List, map, length, get_or, take, Float}
use Rattle.std.specs.Float.{nan}
use Rattle.bands.specs.declared.Band8.{Band8}
use Rattle.packet.specs.Limits.{most_taps, out_bytes}
use Rattle.packet.specs.Tap.{Tap}
use Rattle.ranking.specs.Rows.{Sortable, candidate_at, candidates_in}
use Rattle.taps.specs.Tap.{sent_tap}
use Rattle.taps.specs.Sendable.{Sound, Sendable}

-- the gains of a row that starts at p
abbrev pub gains_at : List Float → ℕ → Band8
gains_at fs p =
    record {
      b0 = get_or fs (p + 5) nan;
      b1 = get_or fs (p + 6) nan;
      b2 = get_or fs (p + 7) nan;
      b3 = get_or fs (p + 8) nan;
      b4 = get_or fs (p + 9) nan;
      b5 = get_or fs (p + 10) nan;
      b6 = get_or fs (p + 11) nan;
      b7 = get_or fs (p + 12) nan;
    }

-- the taps of the rows at the first `count` positions
abbrev pub taps_at : List Float → List ℕ → ℕ → List ℕ → List Tap
taps_at fs ws count positions = map (λ i. sent_tap (candidate_at fs ws i)) (take count positions)

-- the first `count` positions are those of rows that are sound
pub record Pointing (n count : ℕ) (fs : List Float) (ws positions : List ℕ) : Type 0 where
  pub room : count ≤ length positions
  pub inside : (i : ℕ) → i < count → get_or positions i 0 < n
  pub sound : (i : ℕ) → i < n → Sound (candidate_at fs ws i)

-- what sending n rows asks: what ranking them asks, rows that can be sent, and room for the longest packet
pub record Sends (n limit images : ℕ) (fs : List Float) (ws keys index words scratch out : List ℕ) : Type 0 where
  pub sortable : Sortable n fs ws keys
  pub for_index : n ≤ length index
  pub for_words : n ≤ length words
  pub for_scratch : n ≤ length scratch
  pub sendable : Sendable images (candidates_in n fs ws)
  pub few : limit ≤ most_taps
  pub for_out : out_bytes ≤ length out
