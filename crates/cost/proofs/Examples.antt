-- Forecasts of some crossing limits, numbers of planes, first planes, order and triples, each computed by the definition; the sums are document 01's table.
use Prim.Native.Nat.{ℕ}
use mathlib.Core.Path.{◌≡◌, refl}
use mathlib.Core.List.{List, [], ◌∷◌}
use lib.ListN.{replicate}
use Rattle.std.proofs.Common.{Result, Ok, Err}
use Rattle.refusals.specs.declared.Refusal.{Refusal}
use Rattle.sequences.specs.Count.{series}
use Rattle.scene.specs.Areas.{words_in}
use Rattle.cost.specs.Cost.{levels, levels_of, rays_over, within, takes, turned_away, cost_of}
use Rattle.cost.specs.declared.Cost.{Cost}

abbrev answer : List ℕ → ℕ → ℕ → ℕ → Result Cost Refusal
answer counts candidates rays words = Ok (record { counts = counts; candidates = candidates; rays = rays; words = words })

abbrev none : Result Cost Refusal
none = Err turned_away

six_six_eight : cost_of 8 6 6 8 12 ≡ answer (3 ∷ 13 ∷ 64 ∷ 320 ∷ 1600 ∷ 8000 ∷ 40000 ∷ 200000 ∷ []) 250000 354375162 5502966
unfolding cost_of takes within levels_of levels series rays_over words_in
six_six_eight = refl

many_eight : cost_of 8 256 256 8 4096 ≡ answer (1 ∷ 1 ∷ 1 ∷ 1 ∷ 1 ∷ 4 ∷ 977 ∷ 249014 ∷ []) 250000 364336380 6511714
unfolding cost_of takes within levels_of levels series rays_over words_in
many_eight = refl

many_four : cost_of 8 32 32 4 64 ≡ answer (9 ∷ 252 ∷ 7805 ∷ 241934 ∷ 0 ∷ 0 ∷ 0 ∷ 0 ∷ []) 250000 201149568 5515810
unfolding cost_of takes within levels_of levels series rays_over words_in
many_four = refl

many_three : cost_of 8 32 32 3 64 ≡ answer (32 ∷ 992 ∷ 30752 ∷ 0 ∷ 0 ∷ 0 ∷ 0 ∷ 0 ∷ []) 31776 20419776 714882
unfolding cost_of takes within levels_of levels series rays_over words_in
many_three = refl

six_seven : cost_of 8 6 6 7 12 ≡ answer (6 ∷ 30 ∷ 150 ∷ 750 ∷ 3750 ∷ 18750 ∷ 93750 ∷ 0 ∷ []) 117186 147128724 2581058
unfolding cost_of takes within levels_of levels series rays_over words_in
six_seven = refl

six_three : cost_of 8 6 6 3 12 ≡ answer (6 ∷ 30 ∷ 150 ∷ 0 ∷ 0 ∷ 0 ∷ 0 ∷ 0 ∷ []) 186 113724 7058
unfolding cost_of takes within levels_of levels series rays_over words_in
six_three = refl

five_three : cost_of 8 6 5 3 12 ≡ answer (5 ∷ 25 ∷ 125 ∷ 0 ∷ 0 ∷ 0 ∷ 0 ∷ 0 ∷ []) 155 94770 6376
unfolding cost_of takes within levels_of levels series rays_over words_in
five_three = refl

two : cost_of 8 2 2 8 4 ≡ answer (2 ∷ 2 ∷ 2 ∷ 2 ∷ 2 ∷ 2 ∷ 2 ∷ 2 ∷ []) 16 14256 1342
unfolding cost_of takes within levels_of levels series rays_over words_in
two = refl

one : cost_of 8 1 1 8 2 ≡ answer (1 ∷ 0 ∷ 0 ∷ 0 ∷ 0 ∷ 0 ∷ 0 ∷ 0 ∷ []) 1 324 518
unfolding cost_of takes within levels_of levels series rays_over words_in
one = refl

-- no plane may come first: no image, and the words of the triples alone
no_first : cost_of 8 6 0 8 12 ≡ answer (replicate 8 0) 0 0 2966
unfolding cost_of takes within levels_of levels series rays_over words_in
no_first = refl

-- with 32 crossings of a half segment
crossings : cost_of 32 6 6 8 12 ≡ answer (3 ∷ 13 ∷ 64 ∷ 320 ∷ 1600 ∷ 8000 ∷ 40000 ∷ 200000 ∷ []) 250000 1299375594 5502966
unfolding cost_of takes within levels_of levels series rays_over words_in
crossings = refl

no_planes : cost_of 8 0 0 8 12 ≡ none
unfolding cost_of takes within
no_planes = refl

too_many_planes : cost_of 8 257 6 8 12 ≡ none
unfolding cost_of takes within
too_many_planes = refl

order_none : cost_of 8 6 6 0 12 ≡ none
unfolding cost_of takes within
order_none = refl

order_nine : cost_of 8 6 6 9 12 ≡ none
unfolding cost_of takes within
order_nine = refl

more_first : cost_of 8 6 7 8 12 ≡ none
unfolding cost_of takes within
more_first = refl

too_many_triples : cost_of 8 6 6 8 4097 ≡ none
unfolding cost_of takes within
too_many_triples = refl

-- the crossing limit: 1 and 32 are taken, 0 and 33 are not
one_crossing : cost_of 1 1 1 8 2 ≡ answer (1 ∷ 0 ∷ 0 ∷ 0 ∷ 0 ∷ 0 ∷ 0 ∷ 0 ∷ []) 1 72 518
unfolding cost_of takes within levels_of levels series rays_over words_in
one_crossing = refl

most_rays_lem : cost_of 32 256 256 8 4096 ≡ answer (1 ∷ 1 ∷ 1 ∷ 1 ∷ 1 ∷ 4 ∷ 977 ∷ 249014 ∷ []) 250000 1335900060 6511714
unfolding cost_of takes within levels_of levels series rays_over words_in
most_rays_lem = refl

no_crossings : cost_of 0 6 6 8 12 ≡ none
unfolding cost_of takes within
no_crossings = refl

too_many_crossings : cost_of 33 6 6 8 12 ≡ none
unfolding cost_of takes within
too_many_crossings = refl
