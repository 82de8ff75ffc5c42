-- What a forecast says of the images that a query visits: of every scene with as many planes, as many of which may come first.
use Rattle.std.specs.Prelude.{ℕ, suc, ◌+◌, ◌<◌, ◌≡◌, cond, Result, Ok, List, [], ◌∷◌, length, get_or, eqb}
use Rattle.sequences.specs.Allowed.{visited, most_order}
use Rattle.sequences.specs.Count.{firsts}
use Rattle.scene.specs.Areas.{work_words}
use Rattle.refusals.specs.declared.Refusal.{Refusal}
use Rattle.cost.specs.Cost.{rays_at, cost_of}
use Rattle.cost.specs.declared.Cost.{Cost}

-- how many of the sequences have n planes
unfoldable pub of_length : ℕ → List (List ℕ) → ℕ
of_length n [] = 0
of_length n (q ∷ qs) = cond (eqb (length q) n) 1 0 + of_length n qs

-- the rays that the sequences cost at most
unfoldable pub most_rays : ℕ → List (List ℕ) → ℕ
most_rays limit [] = 0
most_rays limit (q ∷ qs) = rays_at limit (length q) + most_rays limit qs

-- the sum
unfoldable pub total : List ℕ → ℕ
total [] = 0
total (k ∷ ks) = k + total ks

-- the figures are those of the images that are visited, `seen`
pub record Counts (limit triples : ℕ) (seen : List (List ℕ)) (r : Cost) : Type 0 where
  -- "each equals the number of visited sequences of that length"
  pub each : (k : ℕ) → k < most_order → get_or r.counts k 0 ≡ of_length (suc k) seen
  -- "the eight counts add up to images"
  pub sum : total r.counts ≡ length seen
  -- "their sum as the bound on candidates"
  pub candidates : r.candidates ≡ length seen
  pub rays : r.rays ≡ most_rays limit seen
  -- "the words of work area for a given count of triples and that many candidates": of the areas that refusal 5 tests
  pub words : r.words ≡ work_words triples (length seen)

-- WHAT `query_cost` ANSWERS
pub record Forecast (limit planes first order triples : ℕ) (r : Result Cost Refusal) : Type 0 where
  pub answer : r ≡ cost_of limit planes first order triples
  -- and what it says where it is no refusal: `on` has a byte for each plane, 0 where it may come first
  pub counts :
      (cost : Cost) → r ≡ Ok cost → (on : List ℕ) → length on ≡ planes → firsts on ≡ first → Counts limit triples (visited on order) cost
