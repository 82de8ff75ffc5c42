-- Laws on the pass.
use mathlib.Core.Path.{◌≡◌, refl, ap, ◌∙◌}
use mathlib.Core.Bool.{Bool, true, false, cond}
use mathlib.Core.List.{List, [], ◌∷◌, ◌++◌}
use Prim.Native.Nat.{ℕ, suc, ◌+◌, ◌-◌, ◌*◌, ◌/◌, ◌<◌, ◌≤◌}
use native.Mathlib.Nat.{div-add-mod', mod-lt}
use native.Mathlib.Omega.{arith}
use lib.Ieee.{Float}
use lib.ListN.{length, take, drop, get_or, length-drop}
use lib.Seq.{drop-drop, length-take-le}
use Rattle.scene.specs.Scene.{Header, headers, vertex_sum, index_sum, triple_sum, cut}
use Rattle.scene.proofs.Cuts.{header_at, no_header, drop_one, vertex_step, index_step, triple_step}
use Rattle.geometry.specs.declared.Triangle.{Triangle}
use Rattle.std.specs.Prelude.{Option, None, Some}
use Rattle.placing.specs.Corners.{triple, triples, whole_triples, Corners, corners_in, corners_of, corners_all}
use Rattle.placing.specs.Passing.{World, world, state, placing, step_of, run}
use Rattle.placing.specs.declared.State.{State}
use Rattle.placing.specs.declared.Placing.{Placing}
use Rattle.vector.specs.declared.Vec3.{Vec3}

cond_is : {A : Type 0} (b : Bool) (x y : A) → b ≡ true → cond b x y ≡ x
cond_is b x y e = rw (e)

-- the point of a corner placed
pub point_of : (r : Placing) (p : Vec3) (k : ℕ) → r ≡ placing p k → r.point ≡ p
point_of r p k e = ap (λ (x : Placing). x.point) e

-- what an answer of `triangle_of` says of the corners
pub record Proper-as (b : Bool) (t u : Triangle) : Type 0 where
  pub proper : b ≡ false
  pub same : u ≡ t

pub told_degenerate : (b : Bool) (t : Triangle) (r : Option Triangle) → r ≡ cond b None (Some t) → r ≡ None → b ≡ true
told_degenerate true t r e f = refl
told_degenerate false t r e f = absurd (let z : ◌≡◌ {A = ℕ} 0 1 = cc in omega arith)

pub told_proper : (b : Bool) (t u : Triangle) (r : Option Triangle) → r ≡ cond b None (Some t) → r ≡ Some u → Proper-as b t u
told_proper true t u r e f = absurd (let z : ◌≡◌ {A = ℕ} 0 1 = cc in omega arith)
told_proper false t u r e f = record { proper = refl; same = cc }

pub run_none : (n : ℕ) (w : World) → run n w [] ≡ w
unfolding run
run_none n w = refl

pub run_one : (n : ℕ) (w : World) (q : Corners) → run n w (q ∷ []) ≡ step_of n w q
unfolding run
run_one n w q = refl

-- after a far corner nothing changes
pub run_far : (n : ℕ) (w : World) (qs : List Corners) → w.state.far ≡ true → run n w qs ≡ w
unfolding run step_of
run_far n w [] e = refl
run_far n w (q ∷ qs) e = ap (λ v. run n v qs) (cond_is w.state.far w _ e) ∙ run_far n w qs e

-- three indices are a triple
pub triple_at :
    (l : List ℕ) (at : ℕ) → at + 3 ≤ length l →
    triples (drop at l) ≡ triple (get_or l at 0) (get_or l (at + 1) 0) (get_or l (at + 2) 0) ∷ triples (drop (at + 3) l)
unfolding triples
triple_at l at h =
    let a : at < length l = omega arith in
    let b : at + 1 < length l = omega arith in
    let c : at + 2 < length l = omega arith in
    let e2 : at + 1 + 1 ≡ at + 2 = omega arith in
    let e3 : at + 2 + 1 ≡ at + 3 = omega arith in
    rw (drop_one l at a, drop_one l (at + 1) b, e2, drop_one l (at + 2) c, e3)

short : (l : List ℕ) → length l < 3 → triples l ≡ []
unfolding triples
short [] h = refl
short (v ∷ []) h = refl
short (v ∷ n ∷ []) h = refl
short (v ∷ n ∷ k ∷ ms) h = absurd (omega arith)

pub no_triple : (l : List ℕ) (at : ℕ) → length l < at + 3 → triples (drop at l) ≡ []
no_triple l at h = short (drop at l) (simp length-drop (omega arith))

pub record Counted (n k : ℕ) : Type 0 where
  pub most : 3 * k ≤ n
  pub least : n < 3 * k + 3

triples_count : (l : List ℕ) → Counted (length l) (length (triples l))
unfolding triples
triples_count [] = omega arith
triples_count (v ∷ []) = omega arith
triples_count (v ∷ n ∷ []) = omega arith
triples_count (v ∷ n ∷ h ∷ ms) = let below = triples_count ms in omega arith

-- n indices are n / 3 whole triples
pub triples_third : (l : List ℕ) (n : ℕ) → length l ≡ n → length (triples l) ≡ n / 3
triples_third l n e = omega (arith, triples_count l, div-add-mod' n 3, mod-lt n {m = 3} (omega arith))

pub triples_step : (l : List ℕ) (at : ℕ) → at + 3 ≤ length l → length (triples (drop at l)) ≡ suc (length (triples (drop (at + 3) l)))
triples_step l at h = rw (triple_at l at h)

pub headers_step : (l : List ℕ) (at : ℕ) → at + 3 ≤ length l → length (headers (drop at l)) ≡ suc (length (headers (drop (at + 3) l)))
headers_step l at h = rw (header_at l at h)

-- a run of two lists is two runs
pub run_append : (n : ℕ) (w : World) (a b : List Corners) → run n w (a ++ b) ≡ run n (run n w a) b
unfolding run
run_append n w [] b = refl
run_append n w (q ∷ a) b = run_append n (step_of n w q) a b

module _ (n : ℕ) (w : World) where
  -- the rest of a mesh, one triple on
  pub mesh_step :
      (v : ℕ) (ps m : List Float) (h : ℕ) (l : List ℕ) (at : ℕ) → at + 3 ≤ length l →
      run n w (corners_of v ps m h (triples (drop at l)))
      ≡ run n (run n w (corners_in v ps m h (triple (get_or l at 0) (get_or l (at + 1) 0) (get_or l (at + 2) 0)))) (corners_of v ps m h (triples (drop (at + 3) l)))
  unfolding corners_of
  mesh_step v ps m h l at e = rw (triple_at l at e) (run_append n w _ _)

  pub mesh_done : (v : ℕ) (ps m : List Float) (h : ℕ) (l : List ℕ) (at : ℕ) → length l < at + 3 → run n w (corners_of v ps m h (triples (drop at l))) ≡ w
  unfolding corners_of run
  mesh_done v ps m h l at e = rw (no_triple l at e)

  -- the rest of a scene, one mesh on
  pub all_step :
      (ms : List ℕ) (ts ps : List Float) (is : List ℕ) (at t p x : ℕ) → at + 3 ≤ length ms →
      run n w (corners_all (cut (headers (drop at ms)) (drop t ts) (drop p ps) (drop x is)))
      ≡ run n
      (run n w
      (corners_of (get_or ms at 0) (take (3 * get_or ms at 0) (drop p ps)) (take 16 (drop t ts)) (get_or ms (at + 2) 0) (triples (take (get_or ms (at + 1) 0) (drop x is)))))
      (corners_all (cut (headers (drop (at + 3) ms)) (drop (t + 16) ts) (drop (p + 3 * get_or ms at 0) ps) (drop (x + get_or ms (at + 1) 0) is)))
  unfolding corners_all cut
  all_step ms ts ps is at t p x e =
      rw (header_at ms at e, drop-drop 16 t ts, drop-drop (3 * get_or ms at 0) p ps, drop-drop (get_or ms (at + 1) 0) x is) (run_append n w _ _)

  pub all_done :
      (ms : List ℕ) (ts ps : List Float) (is : List ℕ) (at : ℕ) → length ms < at + 3 → run n w (corners_all (cut (headers (drop at ms)) ts ps is)) ≡ w
  unfolding corners_all cut run
  all_done ms ts ps is at e = rw (no_header ms at e)

-- what one mesh takes off each sum
pub record Steps (ms : List ℕ) (at : ℕ) : Type 0 where
  pub meshes : length (headers (drop at ms)) ≡ suc (length (headers (drop (at + 3) ms)))
  pub vertices : vertex_sum (headers (drop at ms)) ≡ get_or ms at 0 + vertex_sum (headers (drop (at + 3) ms))
  pub indices : index_sum (headers (drop at ms)) ≡ get_or ms (at + 1) 0 + index_sum (headers (drop (at + 3) ms))
  pub triples : triple_sum (headers (drop at ms)) ≡ get_or ms (at + 1) 0 / 3 + triple_sum (headers (drop (at + 3) ms))

pub steps : (ms : List ℕ) (at : ℕ) → at + 3 ≤ length ms → Steps ms at
steps ms at h =
    record {
      meshes = headers_step ms at h;
      vertices = vertex_step ms at h;
      indices = index_step ms at h;
      triples = triple_step ms at h;
    }

-- the length of a part
pub part_length : {A : Type 0} (l : List A) (a e : ℕ) → a ≤ e → e ≤ length l → length (take (e - a) (drop a l)) ≡ e - a
part_length l a e h k = length-take-le (e - a) (drop a l) (simp length-drop (omega arith))

-- the pass at a mesh
pub record Going
    (n : ℕ) (ms : List ℕ) (ts ps : List Float) (is : List ℕ) (columns₀ : List Float) (handles₀ : List ℕ) (columns : List Float) (handles : List ℕ) (st : State)
    (at t p x : ℕ)
    : Type 0 where
  pub inside : at ≤ length ms
  pub wide : length columns ≡ length columns₀
  pub long : length handles ≡ length handles₀
  pub placed : t + 16 * length (headers (drop at ms)) ≡ length ts
  pub points : p + 3 * vertex_sum (headers (drop at ms)) ≡ length ps
  pub listed : x + index_sum (headers (drop at ms)) ≡ length is
  pub some : st.kept + triple_sum (headers (drop at ms)) ≤ n
  pub few : st.placings + 3 * triple_sum (headers (drop at ms)) ≤ 3 * n
  pub ran :
      run n (world columns handles st) (corners_all (cut (headers (drop at ms)) (drop t ts) (drop p ps) (drop x is)))
      ≡ run n (world columns₀ handles₀ (state 0 0 false)) (corners_all (cut (headers ms) ts ps is))

-- the headers count the whole triples of the meshes
pub whole_triples_lem : (hs : List Header) (ts ps : List Float) (is : List ℕ) → index_sum hs ≤ length is → whole_triples (cut hs ts ps is) ≡ triple_sum hs
unfolding index_sum triple_sum cut whole_triples
whole_triples_lem [] ts ps is e = refl
whole_triples_lem (h ∷ hs) ts ps is e =
    let front : length (triples (take h.count is)) ≡ h.count / 3 = triples_third (take h.count is) h.count (length-take-le h.count is (omega arith)) in
    let rest = whole_triples_lem hs (drop 16 ts) (drop (3 * h.vertices) ps) (drop h.count is) (simp length-drop (omega arith)) in
    rw (front, rest)
