-- Where loading refuses a scene or keeps no triangle the areas are as it leaves them.
use Prim.Native.Nat.{ℕ, zero, suc}
use mathlib.Core.Path.{◌≡◌, refl, ap, ◌∙◌}
use mathlib.Core.Bool.{Bool, true, false, cond}
use mathlib.Core.List.{List, [], ◌∷◌}
use native.Mathlib.Omega.{arith}
use borrow.Author.Tests.{ne_eqb}
use lib.Dec.{eqb}
use lib.Ieee.{Float}
use lib.ListN.{length, replicate}
use Rattle.float.specs.Literals.{zero32}
use Rattle.geometry.specs.declared.Triangle.{Triangle}
use Rattle.scene.specs.Scene.{Scene}
use Rattle.scene.specs.Refusals.{triples_in}
use Rattle.placing.specs.Corners.{triangles}
use Rattle.placing.specs.Passing.{put_all, put_handles}
use Rattle.placing.specs.Loading.{LoadSaid, left, Loading}
use Rattle.scene.specs.declared.Settings.{Settings}
use Rattle.placing.specs.Loading.{first_refusal}
use Rattle.front.specs.Asked.{front_of_loaded}
use Rattle.query.specs.Areas.{Work}
use Rattle.query.proofs.Call.{front_refusal, fronted}
use Rattle.walls.specs.Walls.{lens_of, with_scene, unbuilt_of, PlanesOf}

none_put : (area : List Float) (n : ℕ) (ts : List Triangle) → length ts ≡ 0 → put_all area n 0 ts ≡ area
unfolding put_all
none_put area n [] e = refl
none_put area n (t ∷ ts) e = absurd (let no : ⊥ = omega arith in no)

none_named : (hs : List ℕ) (ts : List Triangle) → length ts ≡ 0 → put_handles hs 0 ts ≡ hs
unfolding put_handles
none_named hs [] e = refl
none_named hs (t ∷ ts) e = absurd (let no : ⊥ = omega arith in no)

left_unbuilt : {A : Type 0} (k : ℕ) (z : A) (l filled : List A) → (k ≡ 0 → filled ≡ l) → left k z l filled ≡ cond (eqb k 6) (replicate (length l) z) l
left_unbuilt zero z l filled e = e refl
left_unbuilt (suc k) z l filled e = rw (ne_eqb (suc k) 0 (λ n0. omega arith))

both_unbuilt :
    (b : Bool) (w : Work) (columns : List Float) (handles : List ℕ) →
    ◌≡◌ {A = Work} (with_scene w (cond b columns w.triangles) (cond b handles w.handles)) (cond b (with_scene w columns handles) w)
both_unbuilt true w columns handles = refl
both_unbuilt false w columns handles = refl

pub work_unbuilt :
    (k : ℕ) (s : Scene) (w : Work) (r : LoadSaid) (columns' : List Float) (handles' : List ℕ) → Loading k s w.triangles w.handles r columns' handles' → (k ≡ 0 → length (triangles s) ≡ 0) →
    ◌≡◌ {A = Work} (with_scene w columns' handles') (unbuilt_of k w)
work_unbuilt k s w r columns' handles' l none =
    let cs : columns' ≡ cond (eqb k 6) (replicate (length w.triangles) zero32) w.triangles =
    l.filled ∙ left_unbuilt k zero32 w.triangles (put_all w.triangles (triples_in s) 0 (triangles s)) (λ z. none_put w.triangles (triples_in s) (triangles s) (none z)) in
    let hs : handles' ≡ cond (eqb k 6) (replicate (length w.handles) 0) w.handles =
    l.named ∙ left_unbuilt k 0 w.handles (put_handles w.handles 0 (triangles s)) (λ z. none_named w.handles (triangles s) (none z)) in
    ap (λ (l : List Float). with_scene w l handles') cs
    ∙ ap (λ (l : List ℕ). with_scene w (cond (eqb k 6) (replicate (length w.triangles) zero32) w.triangles) l) hs
    ∙ both_unbuilt (eqb k 6) w (replicate (length w.triangles) zero32) (replicate (length w.handles) 0)

-- and there are no planes
pub none_built :
    (st : Settings) (c : ℕ) (s : Scene) (found : Work) (r : LoadSaid) (columns' : List Float) (handles' : List ℕ) →
    Loading (first_refusal st c s (lens_of found)) s found.triangles found.handles r columns' handles' → (front_of_loaded r).kept ≡ 0 →
    PlanesOf st c s found (with_scene found columns' handles') (front_of_loaded r).refusal 0
none_built st c s found r columns' handles' l none =
    let k = first_refusal st c s (lens_of found) in
    record {
      refusal = front_refusal k s r (front_of_loaded r) l.answer refl;
      are = λ z some. absurd (let kept = (fronted k s r (front_of_loaded r) l.answer refl z).kept in let no : ⊥ = omega (arith, kept, some, none) in no);
      refused = λ no_answer. refl;
      bare = λ empty. refl;
      unbuilt = λ empty. work_unbuilt k s found r columns' handles' l empty;
      few = omega arith;
      floats_room = omega arith;
      words_room = omega arith;
    }
