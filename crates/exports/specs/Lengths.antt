-- The least lengths of the areas, as a list: those of scene's table, which refusal 5 tests.
use Rattle.std.specs.Prelude.{ℕ, leb, Bool, cond, List, map, ◌≡◌}
use Rattle.scene.specs.Areas.{Area, area_table, least_of}
use Rattle.scene.specs.Limits.{most_triples}

abbrev pub least_lengths_of : ℕ → ℕ → List ℕ
least_lengths_of t c = map (λ (a : Area). least_of a t c) area_table

-- what `biv_area_lengths` answers, and leaves of the lengths it was given
pub record LengthsSet (t c : ℕ) (before : List ℕ) (answer : Bool) (after : List ℕ) : Type 0 where
  pub answered : answer ≡ leb t most_triples
  pub lengths : after ≡ cond answer (least_lengths_of t c) before
