-- The one pass over the triples, held against two plain ones (document 02, note 6): a testing pass followed by a keeping pass; and its placings.
use Rattle.std.specs.Prelude.{ℕ, ◌+◌, ◌<◌, Float, length, get_or, replicate, ◌≡◌, Bool, true, false, cond, not, ◌&&◌, ◌||◌, List, [], ◌∷◌, ◌++◌, map, Result, Ok, Err}
use Rattle.float.specs.Literals.{zero32}
use Rattle.geometry.specs.declared.Triangle.{Triangle}
use Rattle.geometry.specs.Triangle.{is_degenerate_of, triangle_of_corners}
use Rattle.columns.specs.Columns.{triangle_at_of}
use Rattle.scene.specs.Scene.{Scene, Mesh, meshes_of}
use Rattle.scene.specs.Refusals.{triples_in}
use Rattle.placing.specs.Corners.{Triple, triples, Corners, corners3, corner_of, in_range, far_in}
use Rattle.placing.specs.declared.Placed.{Placed}
use Rattle.refusals.specs.declared.Refusal.{Refusal}
use Rattle.refusals.specs.Numbers.{number_of, number_told}
use Rattle.placing.specs.Loading.{LoadSaid, Refused, Triangles}

-- a triple with the mesh that it is of
pub record MeshTriple : Type 0 where
  pub mesh : Mesh
  pub triple : Triple

abbrev pub mesh_triple : Mesh → Triple → MeshTriple
mesh_triple m t = record { mesh = m; triple = t }

-- the whole triples of meshes, mesh after mesh
unfoldable pub mesh_triples : List Mesh → List MeshTriple
mesh_triples [] = []
mesh_triples (m ∷ ms) = map (mesh_triple m) (triples m.indices) ++ mesh_triples ms

abbrev pub scene_triples : Scene → List MeshTriple
scene_triples s = mesh_triples (meshes_of s)

-- a "triple with all indices in range"
abbrev pub ranged : MeshTriple → Bool
ranged x = in_range x.mesh.vertices x.triple

-- its three corners placed
abbrev pub placed : MeshTriple → Corners
placed x =
    corners3 (corner_of x.mesh.positions x.mesh.transform x.triple.i) (corner_of x.mesh.positions x.mesh.transform x.triple.j)
    (corner_of x.mesh.positions x.mesh.transform x.triple.k) x.mesh.handle

-- the testing pass: whether refusal 6 meets one of the triples
unfoldable pub test_pass : List MeshTriple → Bool
test_pass [] = false
test_pass (x ∷ xs) = (ranged x && far_in (placed x)) || test_pass xs

abbrev pub degenerate_in : Corners → Bool
degenerate_in q = is_degenerate_of q.a q.b q.c

-- the keeping pass: the triangles of the triples in range, but for the degenerate ones
unfoldable pub keep_pass : List MeshTriple → List Triangle
keep_pass [] = []
keep_pass (x ∷ xs) =
    cond (ranged x && not (degenerate_in (placed x)))
    (triangle_of_corners (placed x).a (placed x).b (placed x).c (placed x).handle ∷ keep_pass xs)
    (keep_pass xs)

-- the placings: "three for each triple with all indices in range, up to and with the first that refusal 6 meets"
unfoldable pub placings_for : List MeshTriple → ℕ
placings_for [] = 0
placings_for (x ∷ xs) = cond (ranged x) (3 + cond (far_in (placed x)) 0 (placings_for xs)) (placings_for xs)

-- an answer of the one pass: document 01's number of its refusal, what it kept, what it placed
abbrev pub refusal_of : Placed → ℕ
refusal_of r = number_told r.kept

abbrev pub count_told : Result ℕ Refusal → ℕ
count_told (Err e) = 0
count_told (Ok k) = k

abbrev pub kept_of : Placed → ℕ
kept_of r = count_told r.kept

abbrev pub placings_of : Placed → ℕ
placings_of r = r.placings

-- Of the triples of a scene, for the answer r of `triangles_from_scene` and its areas afterwards, whose columns have n floats each: "its refusal, or else
-- its triangles, are those of a testing pass followed by a keeping pass", and its placings are as many as the note says. What else the areas hold is in `Passed`.
pub record AsTwoPasses (xs : List MeshTriple) (n : ℕ) (r : Placed) (columns : List Float) (handles : List ℕ) : Type 0 where
  pub refusal : refusal_of r ≡ cond (test_pass xs) 6 0
  -- after a refusal the areas are zero
  pub cleared : test_pass xs ≡ true → (columns ≡ replicate (length columns) zero32) × (handles ≡ replicate (length handles) 0)
  pub kept : test_pass xs ≡ false → kept_of r ≡ length (keep_pass xs)
  pub triangles : test_pass xs ≡ false → (i : ℕ) (d : Triangle) → i < length (keep_pass xs) → triangle_at_of columns handles n i ≡ get_or (keep_pass xs) i d
  pub placings : placings_of r ≡ placings_for xs

-- `load_scene`'s answer by that of the pass
abbrev pub loaded_with : ℕ → ℕ → Result ℕ Refusal → LoadSaid
loaded_with n p (Err e) = Refused (number_of e)
loaded_with n p (Ok k) = Triangles k p n

abbrev pub loaded_by : ℕ → Placed → LoadSaid
loaded_by n r = loaded_with n r.placings r.kept

-- The same of `load_scene`, where none of the refusals 1 to 5 applies: it answers what the pass answered. Its refusal 6 has no counts, as document 01 says, so that
-- the placings of a refused scene are those of the pass alone.
pub record LoadsAsTwoPasses (s : Scene) (r : LoadSaid) (columns : List Float) (handles : List ℕ) : Type 0 where
  pub pass : Placed
  pub answer : r ≡ loaded_by (triples_in s) pass
  pub passes : AsTwoPasses (scene_triples s) (triples_in s) pass columns handles
