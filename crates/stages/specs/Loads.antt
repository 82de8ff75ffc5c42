-- What `biv_load_scene` answers for k the first refusal of a scene: k itself, the areas as `placing` leaves them, and where there is no
-- refusal the counts of triangles, placings and whole triples.
use Rattle.std.specs.Prelude.{ℕ, eqb, Float, length, ◌≡◌, cond, List, [], ◌∷◌}
use Rattle.std.proofs.lemmas.List.Edits.{sets}
use Rattle.float.specs.Literals.{zero32}
use Rattle.scene.specs.Scene.{Scene}
use Rattle.scene.specs.Refusals.{triples_in}
use Rattle.placing.specs.Corners.{triangles, placings}
use Rattle.placing.specs.Passing.{put_all, put_handles}
use Rattle.placing.specs.Loading.{left}

pub record Loads
    (k : ℕ) (s : Scene) (columns : List Float) (handles found : List ℕ) (r : ℕ) (columns' : List Float) (handles' found' : List ℕ)
    : Type 0 where
  pub refusal : r ≡ k
  pub filled : columns' ≡ left k zero32 columns (put_all columns (triples_in s) 0 (triangles s))
  pub named : handles' ≡ left k 0 handles (put_handles handles 0 (triangles s))
  pub counts : found' ≡ cond (eqb k 0) (sets found 0 (length (triangles s) ∷ placings s ∷ triples_in s ∷ [])) found
