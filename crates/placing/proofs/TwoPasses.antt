-- The one pass answers as a testing pass followed by a keeping pass (document 02, note 6).
--     two_passes         what the contract of `triangles_from_scene` promises is what two passes give, with three placings a triple in range
--     load_two_passes    the same of `load_scene`
use Prim.Native.Nat.{ℕ, ◌+◌, ◌*◌, ◌<◌}
use mathlib.Core.Path.{◌≡◌, refl, sym, ap, ◌∙◌}
use mathlib.Core.Bool.{Bool, true, false, cond, not, ◌&&◌, ◌||◌}
use mathlib.Core.List.{List, [], ◌∷◌, ◌++◌, map}
use native.Mathlib.Omega.{arith}
use lib.Ieee.{Float}
use lib.ListN.{length, get_or, replicate}
use Rattle.laws.proofs.Lists.{zero_of}
use Rattle.float.specs.Literals.{zero32}
use Rattle.geometry.specs.declared.Triangle.{Triangle}
use Rattle.geometry.specs.Triangle.{is_degenerate_of, triangle_of_corners}
use Rattle.columns.specs.Columns.{triangle_at_of}
use Rattle.scene.specs.Scene.{Scene, Mesh, meshes_of}
use Rattle.scene.specs.declared.Settings.{Settings}
use Rattle.scene.specs.Refusals.{refusal1, refusal2, refusal3, refusal4, refusal5, first, first_of_five, triples_in}
use Rattle.placing.specs.Corners.{Triple, triples, Corners, far_in, corners_in, corners_of, corners_all, corners, any_far, triangles_of, triangles, up_to_far, placings, refusal6, in_range}
use Rattle.placing.specs.Passing.{put_all, put_handles, pass, placed_of, PassedOver}
use Rattle.placing.specs.Loading.{LoadSaid, first_refusal, loaded_of, left, Loading}
use Rattle.placing.specs.declared.Placed.{Placed}
use Rattle.placing.specs.TwoPasses.{MeshTriple, mesh_triple, mesh_triples, ranged, placed, test_pass, keep_pass, placings_for, refusal_of, kept_of, placings_of, AsTwoPasses, loaded_by, LoadsAsTwoPasses}

-- ---- the corners of the triples in range

unfoldable corners_for : List MeshTriple → List Corners
corners_for [] = []
corners_for (x ∷ xs) = cond (ranged x) (placed x ∷ corners_for xs) (corners_for xs)

one_more : (b : Bool) (q : Corners) (l l' r : List Corners) → l ≡ l' ++ r → cond b (q ∷ l) l ≡ (cond b (q ∷ []) [] ++ l') ++ r
one_more true q l l' r e = ap (λ (k : List Corners). q ∷ k) e
one_more false q l l' r e = e

mesh_corners :
    (m : Mesh) (ts : List Triple) (xs : List MeshTriple) →
    corners_for (map (mesh_triple m) ts ++ xs) ≡ corners_of m.vertices m.positions m.transform m.handle ts ++ corners_for xs
unfolding corners_for corners_of corners_in
mesh_corners m [] xs = refl
mesh_corners m (t ∷ ts) xs =
    one_more (in_range m.vertices t) (placed (mesh_triple m t)) (corners_for (map (mesh_triple m) ts ++ xs))
    (corners_of m.vertices m.positions m.transform m.handle ts) (corners_for xs) (mesh_corners m ts xs)

all_corners : (ms : List Mesh) → corners_for (mesh_triples ms) ≡ corners_all ms
unfolding corners_for mesh_triples corners_all
all_corners [] = refl
all_corners (m ∷ ms) =
    mesh_corners m (triples m.indices) (mesh_triples ms)
    ∙ ap (λ (l : List Corners). corners_of m.vertices m.positions m.transform m.handle (triples m.indices) ++ l) (all_corners ms)

-- ---- each pass is over them

test_step : (b f : Bool) (t : Bool) (q : Corners) (qs : List Corners) → f ≡ far_in q → t ≡ any_far qs → ((b && f) || t) ≡ any_far (cond b (q ∷ qs) qs)
unfolding any_far
test_step true f t q qs e g = rw (e, g)
test_step false f t q qs e g = g

test_is : (xs : List MeshTriple) → test_pass xs ≡ any_far (corners_for xs)
unfolding test_pass any_far corners_for
test_is [] = refl
test_is (x ∷ xs) = test_step (ranged x) (far_in (placed x)) (test_pass xs) (placed x) (corners_for xs) refl (test_is xs)

keep_step :
    (b d : Bool) (t : Triangle) (ts : List Triangle) (q : Corners) (qs : List Corners) →
    is_degenerate_of q.a q.b q.c ≡ d → t ≡ triangle_of_corners q.a q.b q.c q.handle → ts ≡ triangles_of qs →
    cond (b && not d) (t ∷ ts) ts ≡ triangles_of (cond b (q ∷ qs) qs)
unfolding triangles_of
keep_step true true t ts q qs e f g = rw (e, g)
keep_step true false t ts q qs e f g = rw (e, f, g)
keep_step false d t ts q qs e f g = g

keep_is : (xs : List MeshTriple) → keep_pass xs ≡ triangles_of (corners_for xs)
unfolding keep_pass triangles_of corners_for
keep_is [] = refl
keep_is (x ∷ xs) =
    let q = placed x in
    keep_step (ranged x) (is_degenerate_of q.a q.b q.c) (triangle_of_corners q.a q.b q.c q.handle) (keep_pass xs) q (corners_for xs) refl refl (keep_is xs)

place_step : (b f : Bool) (n : ℕ) (q : Corners) (qs : List Corners) → far_in q ≡ f → n ≡ 3 * up_to_far qs → cond b (3 + cond f 0 n) n ≡ 3 * up_to_far (cond b (q ∷ qs) qs)
unfolding up_to_far
place_step true true n q qs e g = rw (e)
place_step true false n q qs e g = rw (e, g) (omega arith)
place_step false f n q qs e g = g

place_is : (xs : List MeshTriple) → placings_for xs ≡ 3 * up_to_far (corners_for xs)
unfolding placings_for up_to_far corners_for
place_is [] = refl
place_is (x ∷ xs) = place_step (ranged x) (far_in (placed x)) (placings_for xs) (placed x) (corners_for xs) refl (place_is xs)

-- the same of a scene's meshes
module _ (ms : List Mesh) where
  test_all : test_pass (mesh_triples ms) ≡ any_far (corners_all ms)
  test_all = test_is (mesh_triples ms) ∙ ap any_far (all_corners ms)

  keep_all : keep_pass (mesh_triples ms) ≡ triangles_of (corners_all ms)
  keep_all = keep_is (mesh_triples ms) ∙ ap triangles_of (all_corners ms)

  place_all_lem : placings_for (mesh_triples ms) ≡ 3 * up_to_far (corners_all ms)
  place_all_lem = place_is (mesh_triples ms) ∙ ap (λ (l : List Corners). 3 * up_to_far l) (all_corners ms)

-- ---- the pass

refusal_is : (b : Bool) (p k : ℕ) → refusal_of (pass b p k) ≡ cond b 6 0
refusal_is true p k = refl
refusal_is false p k = refl

placed_is : (b : Bool) (p k : ℕ) → placings_of (pass b p k) ≡ p
placed_is true p k = refl
placed_is false p k = refl

kept_is : (b : Bool) (p k : ℕ) → b ≡ false → kept_of (pass b p k) ≡ k
kept_is b p k e = rw (e)

-- what is to be read of triangles whose list has another name
read_as :
    (columns : List Float) (handles : List ℕ) (n : ℕ) (ts us : List Triangle) → ts ≡ us →
    ((i : ℕ) (d : Triangle) → i < length us → triangle_at_of columns handles n i ≡ get_or us i d) →
    (i : ℕ) (d : Triangle) → i < length ts → triangle_at_of columns handles n i ≡ get_or ts i d
read_as columns handles n ts us e f = rw (e) f

module _ (ms : List Mesh) (n : ℕ) (columns : List Float) (handles : List ℕ) where
  -- for any answer that is as `placed_of` says, and areas that read as the triangles
  as_two :
      (r : Placed) → r ≡ placed_of (corners_all ms) →
      (any_far (corners_all ms) ≡ true → (columns ≡ replicate (length columns) zero32) × (handles ≡ replicate (length handles) 0)) →
      (any_far (corners_all ms) ≡ false → (i : ℕ) (d : Triangle) → i < length (triangles_of (corners_all ms)) → triangle_at_of columns handles n i ≡ get_or (triangles_of (corners_all ms)) i d) →
      AsTwoPasses (mesh_triples ms) n r columns handles
  as_two r answer cleared reads =
      let far = any_far (corners_all ms) in
      let made = 3 * up_to_far (corners_all ms) in
      let count = length (triangles_of (corners_all ms)) in
      record {
        refusal = ap refusal_of answer ∙ refusal_is far made count ∙ ap (λ (b : Bool). cond b 6 0) (sym (test_all ms));
        cleared = λ h. cleared (sym (test_all ms) ∙ h);
        kept = λ h. ap kept_of answer ∙ kept_is far made count (sym (test_all ms) ∙ h) ∙ ap length (sym (keep_all ms));
        triangles = λ h. read_as columns handles n (keep_pass (mesh_triples ms)) (triangles_of (corners_all ms)) (keep_all ms) (reads (sym (test_all ms) ∙ h));
        placings = ap placings_of answer ∙ placed_is far made count ∙ sym (place_all_lem ms);
      }

  pub two_passes :
      (columns₀ : List Float) (handles₀ : List ℕ) (r : Placed) → PassedOver (corners_all ms) n columns₀ handles₀ r columns handles → AsTwoPasses (mesh_triples ms) n r columns handles
  two_passes columns₀ handles₀ r passed =
      as_two r passed.answer
      (λ h. (
        zero_of zero32 (length columns₀) columns (passed.filled ∙ ap (λ (b : Bool). cond b (replicate (length columns₀) zero32) (put_all columns₀ n 0 (triangles_of (corners_all ms)))) h),
        zero_of 0 (length handles₀) handles (passed.named ∙ ap (λ (b : Bool). cond b (replicate (length handles₀) 0) (put_handles handles₀ 0 (triangles_of (corners_all ms)))) h),
      ))
      (λ h i d k. (passed.reads h i d k).triangle)

-- ---- the front of a query

-- where none of the first five refuses, the sixth decides
sixth : (b1 b2 b3 b4 b5 b6 : Bool) → first 1 (b1 ∷ b2 ∷ b3 ∷ b4 ∷ b5 ∷ []) ≡ 0 → first 1 (b1 ∷ b2 ∷ b3 ∷ b4 ∷ b5 ∷ b6 ∷ []) ≡ cond b6 6 0
sixth true b2 b3 b4 b5 b6 e = absurd (let n : ⊥ = omega arith in n)
sixth false true b3 b4 b5 b6 e = absurd (let n : ⊥ = omega arith in n)
sixth false false true b4 b5 b6 e = absurd (let n : ⊥ = omega arith in n)
sixth false false false true b5 b6 e = absurd (let n : ⊥ = omega arith in n)
sixth false false false false true b6 e = absurd (let n : ⊥ = omega arith in n)
sixth false false false false false b6 e = refl

loaded_is : (b : Bool) (s : Scene) (n p k : ℕ) → n ≡ length (triangles s) → p ≡ placings s → k ≡ cond b 6 0 → loaded_of k s ≡ loaded_by (triples_in s) (pass b p n)
loaded_is true s n p k e f g = rw (g)
loaded_is false s n p k e f g = rw (g, e, f)

module _ (st : Settings) (c : ℕ) (s : Scene) (lens : List ℕ) where
  pub load_two_passes :
      (columns₀ columns : List Float) (handles₀ handles : List ℕ) (r : LoadSaid) → first_of_five st c s lens ≡ 0 →
      Loading (first_refusal st c s lens) s columns₀ handles₀ r columns handles → LoadsAsTwoPasses s r columns handles
  unfolding first_of_five first_refusal
  load_two_passes columns₀ columns handles₀ handles r none loading =
      let k : first_refusal st c s lens ≡ cond (refusal6 s) 6 0 =
      sixth (refusal1 st c) (refusal2 s) (refusal3 s) (refusal4 s) (refusal5 s c lens) (refusal6 s) none in
      record {
        pass = placed_of (corners s);
        answer = loading.answer ∙ loaded_is (refusal6 s) s (length (triangles s)) (placings s) (first_refusal st c s lens) refl refl k;
        passes =
            as_two (meshes_of s) (triples_in s) columns handles (placed_of (corners s)) refl
            (λ h. (
              zero_of zero32 (length columns₀) columns (loading.filled ∙ ap (λ (j : ℕ). left j zero32 columns₀ (put_all columns₀ (triples_in s) 0 (triangles s))) (k ∙ ap (λ (x : Bool). cond x 6 0) h)),
              zero_of 0 (length handles₀) handles (loading.named ∙ ap (λ (j : ℕ). left j 0 handles₀ (put_handles handles₀ 0 (triangles s))) (k ∙ ap (λ (x : Bool). cond x 6 0) h)),
            ))
            (λ h i d b. (loading.reads (k ∙ ap (λ (x : Bool). cond x 6 0) h) i d b).triangle);
      }
