-- The answers of the calls that give a number and store others.
use Rattle.std.specs.Prelude.{ℕ, List, [], ◌∷◌, get_or, replicate, Result, Ok, Err}
use Rattle.sequences.specs.Allowed.{most_order}
use Rattle.refusals.specs.declared.Refusal.{Refusal}
use Rattle.cost.specs.declared.Cost.{Cost}
use Rattle.answer.specs.declared.Answered.{Answered}

-- of the whole call: the refusal; then count, images, rays and the packet's length
abbrev pub answered_from : ℕ → List ℕ → Answered
answered_from r found = record { refusal = r; count = get_or found 0 0; images = get_or found 1 0; rays = get_or found 2 0; bytes = get_or found 3 0 }

-- of a forecast: the eight counts; then candidates, rays and words; zeros after a refusal
abbrev pub counts_told : Result Cost Refusal → List ℕ
counts_told (Ok c) = c.counts
counts_told (Err r) = replicate most_order 0

abbrev pub figures_told : Result Cost Refusal → List ℕ
figures_told (Ok c) = c.candidates ∷ c.rays ∷ c.words ∷ []
figures_told (Err r) = 0 ∷ 0 ∷ 0 ∷ []
