-- The front of a query: the refusals 1 to 6, the answer and the areas, for any input.
use Rattle.std.specs.Prelude.{ℕ, zero, suc, ◌<◌, eqb, Float, length, get_or, replicate, ◌≡◌, cond, List, [], ◌∷◌, Result, Ok, Err}
use Rattle.float.specs.Literals.{zero32}
use Rattle.geometry.specs.declared.Triangle.{Triangle}
use Rattle.scene.specs.declared.Settings.{Settings}
use Rattle.scene.specs.Scene.{Scene}
use Rattle.scene.specs.Refusals.{refusal1, refusal2, refusal3, refusal4, refusal5, first, triples_in}
use Rattle.placing.specs.Corners.{refusal6, triangles, placings}
use Rattle.placing.specs.Passing.{put_all, put_handles, Reads}
use Rattle.refusals.specs.declared.Refusal.{Refusal}
use Rattle.refusals.specs.Numbers.{number_of}
use Rattle.placing.specs.declared.Loaded.{Loaded}

-- the number of the first of 1 to 6 that applies, 0 where none does; `lens` are the lengths of the areas
unfoldable pub first_refusal : Settings → ℕ → Scene → List ℕ → ℕ
first_refusal st c s lens = first 1 (refusal1 st c ∷ refusal2 s ∷ refusal3 s ∷ refusal4 s ∷ refusal5 s c lens ∷ refusal6 s ∷ [])

-- what loading answers: a refusal's number, or how many triangles, placings and whole triples there are
pub data LoadSaid : Type 0 where
  Refused : ℕ → LoadSaid
  Triangles : ℕ → ℕ → ℕ → LoadSaid

-- that of a result
abbrev pub load_said : Result Loaded Refusal → LoadSaid
load_said (Ok l) = Triangles l.triangles l.placings l.triples
load_said (Err r) = Refused (number_of r)

-- the answer: the refusal, or how many triangles, placings and whole triples there are
abbrev pub loaded_of : ℕ → Scene → LoadSaid
loaded_of zero s = Triangles (length (triangles s)) (placings s) (triples_in s)
loaded_of (suc k) s = Refused (suc k)

-- an area afterwards: as found after the refusals 1 to 5, zero after 6, filled where there is none
abbrev pub left : {A : Type 0} → ℕ → A → List A → List A → List A
left k z found filled = cond (eqb k 0) filled (cond (eqb k 6) (replicate (length found) z) found)

-- for k the first refusal: the answer, the areas, and what is read from them
pub record Loading (k : ℕ) (s : Scene) (columns : List Float) (handles : List ℕ) (r : LoadSaid) (columns' : List Float) (handles' : List ℕ) : Type 0 where
  pub answer : r ≡ loaded_of k s
  pub filled : columns' ≡ left k zero32 columns (put_all columns (triples_in s) 0 (triangles s))
  pub named : handles' ≡ left k 0 handles (put_handles handles 0 (triangles s))
  pub reads : k ≡ 0 → (i : ℕ) (d : Triangle) → i < length (triangles s) → Reads columns' handles' (triples_in s) i (get_or (triangles s) i d)
