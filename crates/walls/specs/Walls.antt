-- The planes of a scene, built as the query builds them.
use Rattle.std.specs.Prelude.{ℕ, ◌*◌, ◌<◌, ◌≤◌, ◌≡◌, cond, List, [], ◌∷◌, eqb, Float, length, replicate, Result, Ok, Err}
use Rattle.float.specs.Literals.{zero32}
use Rattle.scene.specs.declared.Settings.{Settings}
use Rattle.scene.specs.Scene.{Scene}
use Rattle.packet.specs.Limits.{out_bytes}
use Rattle.placing.specs.Corners.{triangles}
use Rattle.placing.specs.Loading.{first_refusal}
use Rattle.mirror.specs.Rows.{plane_float_count, plane_word_count, planes_in}
use Rattle.sequences.specs.Allowed.{most_planes}
use Rattle.scene_planes.specs.ScenePlanes.{planes_for}
use Rattle.query.specs.Areas.{Work, work}
use Rattle.refusals.specs.declared.Refusal.{Refusal}

-- the lengths of the areas, and that of an output area which is long enough
abbrev pub lens_of : Work → List ℕ
lens_of w =
    length w.triangles ∷
    length w.handles ∷
    length w.tree ∷
    length w.nodes ∷
    length w.leaf_order ∷
    length w.keys ∷
    length w.low_keys ∷
    length w.words ∷
    length w.scratch ∷
    length w.index ∷
    length w.numbers ∷
    length w.adjacency ∷
    length w.queue ∷
    length w.offsets ∷
    length w.floats ∷
    length w.plane_triangles ∷
    length w.plane_floats ∷
    length w.plane_words ∷
    length w.plane_edges ∷
    out_bytes ∷ []

-- the areas with other columns and handles
abbrev pub with_scene : Work → List Float → List ℕ → Work
with_scene w columns handles =
    work columns handles w.tree w.nodes w.leaf_order w.keys w.low_keys w.words w.scratch w.index w.numbers w.adjacency w.queue w.offsets w.floats
    w.plane_triangles w.plane_floats w.plane_words w.plane_edges

-- the areas where nothing is built, for k the first refusal: as found, after 6 with columns and handles zero
abbrev pub unbuilt_of : ℕ → Work → Work
unbuilt_of k w = cond (eqb k 6) (with_scene w (replicate (length w.triangles) zero32) (replicate (length w.handles) 0)) w

-- how many planes an answer says, none after a refusal
abbrev pub count_told : Result ℕ Refusal → ℕ
count_told (Ok n) = n
count_told (Err r) = 0

-- where no refusal of 1 to 6 applies and a triangle is kept, the planes in the areas are those of the query, and what stands in the areas beside them is
-- open: later steps serve themselves of areas that earlier ones are done with. Else there are none
pub record PlanesOf (st : Settings) (c : ℕ) (s : Scene) (found left : Work) (number count : ℕ) : Type 0 where
  pub refusal : number ≡ first_refusal st c s (lens_of found)
  pub are : first_refusal st c s (lens_of found) ≡ 0 → 0 < length (triangles s) → planes_in left.plane_floats left.plane_words left.plane_triangles left.plane_edges count ≡ planes_for st (triangles s)
  pub refused : (first_refusal st c s (lens_of found) ≡ 0 → ⊥) → count ≡ 0
  pub bare : length (triangles s) ≡ 0 → count ≡ 0
  pub unbuilt : (first_refusal st c s (lens_of found) ≡ 0 → length (triangles s) ≡ 0) → left ≡ unbuilt_of (first_refusal st c s (lens_of found)) found
  pub few : count ≤ most_planes
  pub floats_room : plane_float_count * count ≤ length left.plane_floats
  pub words_room : plane_word_count * count ≤ length left.plane_words
