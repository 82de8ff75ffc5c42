-- What `biv_triangles_from_scene` answers of meshes: 6 or 0 and the two counts, by the answer of the pass, and the areas as the pass leaves them.
use Rattle.std.specs.Prelude.{ℕ, Float, ◌≡◌, List, [], ◌∷◌}
use Rattle.std.proofs.lemmas.List.Edits.{sets}
use Rattle.scene.specs.Scene.{Mesh}
use Rattle.placing.specs.Corners.{corners_all}
use Rattle.placing.specs.Passing.{placed_of, PassedOver}
use Rattle.placing.specs.TwoPasses.{refusal_of, kept_of, placings_of}

pub record Passes
    (ms : List Mesh) (n : ℕ) (columns : List Float) (handles found : List ℕ) (r : ℕ) (columns' : List Float) (handles' found' : List ℕ)
    : Type 0 where
  pub passed : PassedOver (corners_all ms) n columns handles (placed_of (corners_all ms)) columns' handles'
  pub refusal : r ≡ refusal_of (placed_of (corners_all ms))
  pub counts : found' ≡ sets found 0 (kept_of (placed_of (corners_all ms)) ∷ placings_of (placed_of (corners_all ms)) ∷ [])
