-- The answer of a query, over any function that judges one sequence's path.
use Rattle.std.specs.Prelude.{ℕ, suc, ◌+◌, not, List, [], ◌∷◌, length, T, Float}
use Rattle.std.specs.Float.{binary32}
use Rattle.std.specs.Float.Ieee.{fits, is_nan}
use Rattle.vector.specs.declared.Vec3.{Vec3}
use Rattle.bands.specs.declared.Band8.{Band8}
use Rattle.sequences.specs.Allowed.{visited}
use Rattle.ranking.specs.declared.Candidate.{Candidate}
use Rattle.ranking.specs.Candidate.{ranked}

-- what a path that passes gives
pub record Found : Type 0 where
  pub energy : Float
  pub delay : Float
  pub direction : Vec3
  pub gains : Band8

-- a path fails or passes; either way some rays were traced for it
pub data Outcome : Type 0 where
  fails : ℕ → Outcome
  passes : ℕ → Found → Outcome

unfoldable pub rays_of : Outcome → ℕ
rays_of (fails r) = r
rays_of (passes r f) = r

-- "the path then gives one candidate tap, with its image's number": that of the image number n, whose sequence is s
abbrev pub tap_of : ℕ → List ℕ → Found → Candidate
tap_of n s f =
    record {
      energy = f.energy;
      order = length s;
      delay = f.delay;
      direction = f.direction;
      gains = f.gains;
      number = n;
    }

-- the tap of a path that passes goes before the others
abbrev pub add_tap : Outcome → ℕ → List ℕ → List Candidate → List Candidate
add_tap (fails r) n s cs = cs
add_tap (passes r f) n s cs = tap_of n s f ∷ cs

-- the taps of the sequences whose paths pass; the sequences are numbered from n
unfoldable pub found : (List ℕ → Outcome) → ℕ → List (List ℕ) → List Candidate
found path n [] = []
found path n (s ∷ ss) = add_tap (path s) n s (found path (suc n) ss)

-- the rays of all their paths
unfoldable pub rays_for : (List ℕ → Outcome) → List (List ℕ) → ℕ
unfolding rays_of
rays_for path [] = 0
rays_for path (s ∷ ss) = rays_of (path s) + rays_for path ss

pub record Answer : Type 0 where
  pub images : ℕ
  pub rays : ℕ
  pub taps : List Candidate

-- `on` has a byte for each plane, 0 where the plane may come first
abbrev pub answer_of : List ℕ → ℕ → Float → Float → ℕ → (List ℕ → Outcome) → Answer
answer_of on order speed rate limit path =
    record {
      images = length (visited on order);
      rays = rays_for path (visited on order);
      taps = ranked speed rate limit (found path 1 (visited on order));
    }

-- what the claim asks of a path that passes: its energy and delay are values of the format, and not NaN
pub record Proper (f : Found) : Type 0 where
  pub energy_fits : T (fits binary32 f.energy)
  pub energy_number : T (not (is_nan f.energy))
  pub delay_fits : T (fits binary32 f.delay)
  pub delay_number : T (not (is_nan f.delay))
