-- Document 02, Notes 8 and 12: the figures of a forecast, worked out from crossing limit, planes, first planes allowed, order and triples.
use Rattle.std.specs.Prelude.{ℕ, zero, suc, ◌+◌, ◌-◌, ◌*◌, ◌/◌, ◌%◌, min, Bool, cond, ◌&&◌, List, [], ◌∷◌, ◌++◌, replicate, leb, Result, Ok, Err}
use Rattle.refusals.specs.declared.Refusal.{Refusal}
use Rattle.refusals.specs.declared.Refusal.TheVariants.{Forecast}
use Rattle.sequences.specs.Allowed.{most_order, most_planes}
use Rattle.sequences.specs.Count.{series, images}
use Rattle.scene.specs.Limits.{most_crossings, most_triples}
use Rattle.scene.specs.Areas.{work_words}
use Rattle.cost.specs.declared.Cost.{Cost}

-- How many stand on each of the next r levels. Under each there are m on the level below, so that one with all that goes on from it for r levels is
-- `series m r`. On the first level `full` are visited with all that goes on from them, and of one more and what goes on from it the first `rest`
-- are visited, it itself first; of the others none.
unfoldable pub levels : ℕ → ℕ → ℕ → ℕ → List ℕ
levels m zero full rest = []
levels m (suc r) full rest =
    (full + min 1 rest) ∷ levels m r (m * full + (rest - 1) / series m r) ((rest - 1) % series m r)

-- the same of the first i of all
unfoldable pub levels_of : ℕ → ℕ → ℕ → List ℕ
levels_of m r i = levels m r (i / series m r) (i % series m r)

-- "how many of the visited images have each order", from 1 to `order`, of n planes of which e may come first
abbrev pub counts_by_order : ℕ → ℕ → ℕ → List ℕ
counts_by_order n e order = levels_of (n - 1) order (images n e order)

-- "each order from 1 to 8": zeros behind `order`
abbrev pub to_eight : ℕ → List ℕ → List ℕ
to_eight order counts = counts ++ replicate (most_order - order) 0

-- "An image of order n then costs at most 18 × (limit + 1) × (n + 1) rays"
abbrev pub rays_at : ℕ → ℕ → ℕ
rays_at limit n = 18 * (limit + 1) * (n + 1)

-- the rays of so many images of order n, so many of order n + 1, ..
unfoldable pub rays_over : ℕ → ℕ → List ℕ → ℕ
rays_over limit n [] = 0
rays_over limit n (k ∷ ks) = rays_at limit n * k + rays_over limit (suc n) ks

-- from 1 to `most`
unfoldable pub within : ℕ → ℕ → Bool
within x most = leb 1 x && leb x most

-- what is not turned away with 14: "planes or order outside those limits, more first planes than planes, or over 4,096 triples", and "a limit outside 1 to 32"
unfoldable pub takes : ℕ → ℕ → ℕ → ℕ → ℕ → Bool
takes limit planes first order triples =
    within limit most_crossings && (within planes most_planes && (within order most_order && (leb first planes && leb triples most_triples)))

-- refusal 14
abbrev pub turned_away : Refusal
turned_away = Forecast

-- the figures for so many crossings of a half segment
abbrev pub figures_of : ℕ → ℕ → ℕ → ℕ → ℕ → Cost
figures_of limit planes first order triples =
    let counts = to_eight order (counts_by_order planes first order) in
    record {
      counts = counts;
      candidates = images planes first order;
      rays = rays_over limit 1 counts;
      words = work_words triples (images planes first order);
    }

-- the answer
unfoldable pub cost_of : ℕ → ℕ → ℕ → ℕ → ℕ → Result Cost Refusal
cost_of limit planes first order triples =
    cond (takes limit planes first order triples) (Ok (figures_of limit planes first order triples)) (Err turned_away)
