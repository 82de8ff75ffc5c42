-- The refusals 1 to 5, each in document 01's words and decided as if the others were not there, and the first that applies.
use Rattle.std.specs.Prelude.{ℕ, zero, suc, ◌*◌, ltb, eqb, length, Bool, false, cond, not, ◌&&◌, ◌||◌, List, [], ◌∷◌, Result, Ok, Err}
use Rattle.refusals.specs.declared.Refusal.{Refusal}
use Rattle.refusals.specs.Numbers.{number_of}
use Rattle.scene.specs.declared.Settings.{Settings}
use Rattle.scene.specs.Limits.{settings_of, most_triples}
use Rattle.scene.specs.Areas.{short_of}
use Rattle.scene.specs.Scene.{Scene, Header, headers, vertex_sum, index_sum, triple_sum}

-- 1. a setting lies outside the limits (NaN always does)
unfoldable pub refusal1 : Settings → ℕ → Bool
refusal1 s c = not (settings_of s c)

-- 2. a lent scene part has not the length that its counts say
unfoldable pub meshes_are_whole : List ℕ → Bool
meshes_are_whole ms = eqb (length ms) (3 * length (headers ms))

unfoldable pub transforms_are_right : List ℕ → ℕ → Bool
transforms_are_right ms n = eqb n (16 * length (headers ms))

unfoldable pub positions_are_right : List ℕ → ℕ → Bool
positions_are_right ms n = eqb n (3 * vertex_sum (headers ms))

unfoldable pub indices_are_right : List ℕ → ℕ → Bool
indices_are_right ms n = eqb n (index_sum (headers ms))

unfoldable pub materials_are_right : ℕ → ℕ → Bool
materials_are_right rows n = eqb n (16 * rows)

unfoldable pub lengths_right_of : List ℕ → ℕ → ℕ → ℕ → ℕ → ℕ → Bool
lengths_right_of ms transforms positions indices materials rows =
    meshes_are_whole ms && (transforms_are_right ms transforms && (positions_are_right ms positions && (indices_are_right ms indices && materials_are_right rows materials)))

abbrev pub lengths_are_right : Scene → Bool
lengths_are_right s = lengths_right_of s.meshes (length s.transforms) (length s.positions) (length s.indices) (length s.materials) s.rows

unfoldable pub refusal2 : Scene → Bool
refusal2 s = not (lengths_are_right s)

-- 3. a mesh has a handle without a row
unfoldable pub has_unknown_handle : ℕ → List Header → Bool
has_unknown_handle rows [] = false
has_unknown_handle rows (h ∷ hs) = not (ltb h.handle rows) || has_unknown_handle rows hs

unfoldable pub refusal3 : Scene → Bool
refusal3 s = has_unknown_handle s.rows (headers s.meshes)

-- 4. the meshes hold more than 4,096 whole index triples
abbrev pub triples_in : Scene → ℕ
triples_in s = triple_sum (headers s.meshes)

unfoldable pub refusal4 : Scene → Bool
refusal4 s = ltb most_triples (triples_in s)

-- 5. the output area is under 55,306 bytes, or a work area is shorter than its formula; `lens` are their lengths
unfoldable pub refusal5 : Scene → ℕ → List ℕ → Bool
refusal5 s c lens = short_of (triples_in s) c lens

-- the number of the first that applies, 0 where none does
abbrev pub first : ℕ → List Bool → ℕ
first k [] = 0
first k (b ∷ bs) = cond b k (first (suc k) bs)

unfoldable pub first_of_five : Settings → ℕ → Scene → List ℕ → ℕ
first_of_five st c s lens = first 1 (refusal1 st c ∷ refusal2 s ∷ refusal3 s ∷ refusal4 s ∷ refusal5 s c lens ∷ [])

-- what is answered: a refusal's number, or the count of whole triples
pub data Checked : Type 0 where
  Refused : ℕ → Checked
  Accepted : ℕ → Checked

-- that of a result
abbrev pub checked : Result ℕ Refusal → Checked
checked (Ok t) = Accepted t
checked (Err r) = Refused (number_of r)

-- the answer with a refusal's number, or with the count of whole triples
abbrev pub answer : ℕ → ℕ → Checked
answer zero t = Accepted t
answer (suc k) t = Refused (suc k)

unfoldable pub check_of : Settings → ℕ → Scene → List ℕ → Checked
check_of st c s lens = answer (first_of_five st c s lens) (triples_in s)
