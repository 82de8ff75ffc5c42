-- The triangles that are kept of a scene's corners: at most its whole triples, bounded where refusal 6 does not apply, and with handles of
-- the material table where refusal 3 does not.
use mathlib.Core.Path.{◌≡◌, refl, sym, ◌∙◌}
use mathlib.Core.Bool.{Bool, true, false, cond, not, ◌||◌}
use mathlib.Core.List.{List, [], ◌∷◌, ◌++◌}
use Prim.Native.Nat.{ℕ, zero, suc, ◌*◌, ◌<◌, ◌≤◌}
use native.Mathlib.Nat.{not-suc-le-zero, le_of_suc-le-suc}
use native.Mathlib.Omega.{arith}
use borrow.Author.Tests.{ltb-true, not-false}
use lib.Dec.{ltb}
use lib.IntN.{pos}
use lib.Ieee.{Float, nan, inf, fin, lt, of_bits}
use lib.ListN.{length, get_or, take, drop, length-append}
use Rattle.laws.proofs.Bools.{neither}
use Rattle.float.specs.Compare.{abs_of, is_finite}
use Rattle.bounds.specs.Bounds.{Within}
use Rattle.bounds.proofs.Operations.{tested_within}
use Rattle.vector.specs.declared.Vec3.{Vec3}
use Rattle.geometry.specs.declared.Triangle.{Triangle}
use Rattle.geometry.specs.Triangle.{is_degenerate_of, triangle_of_corners}
use Rattle.scene.specs.Scene.{Header, Mesh, cut}
use Rattle.scene.specs.Refusals.{has_unknown_handle}
use Rattle.placing.specs.Corners.{Triple, triples, whole_triples, Corners, in_range, corners_in, corners_of, corners_all, triangles_of, farthest, far_of, is_far_corner, has_far_corner, any_far}
use Rattle.bvh.proofs.Finite.{Near, NearTriangle}

-- each of a list
unfoldable pub Each : (Corners → Type 0) → List Corners → Type 0
Each Q [] = Unit {0}
Each Q (q ∷ qs) = Q q × Each Q qs

module _ (P : Triangle → Type 0) (Q : Corners → Type 0) (gives : (q : Corners) → Q q → P (triangle_of_corners q.a q.b q.c q.handle)) where
  one_more :
      (b : Bool) (t : Triangle) (ts : List Triangle) → P t → ((i : ℕ) (d : Triangle) → i < length ts → P (get_or ts i d)) →
      (i : ℕ) (d : Triangle) → i < length (cond b ts (t ∷ ts)) → P (get_or (cond b ts (t ∷ ts)) i d)
  one_more true t ts p rest i d h = rest i d h
  one_more false t ts p rest zero d h = p
  one_more false t ts p rest (suc i) d h = rest i d (le_of_suc-le-suc h)

  -- what holds of all corners holds of the triangles kept
  pub every : (qs : List Corners) → Each Q qs → (i : ℕ) (d : Triangle) → i < length (triangles_of qs) → P (get_or (triangles_of qs) i d)
  unfolding triangles_of Each
  every [] e i d h = absurd (not-suc-le-zero h)
  every (q ∷ qs) e i d h =
      one_more (is_degenerate_of q.a q.b q.c) (triangle_of_corners q.a q.b q.c q.handle) (triangles_of qs) (gives q e.0) (every qs e.1) i d h

-- ---- bounds

-- 10,000 by its whole number
far_is : (x : Float) → lt farthest x ≡ lt (fin false 10000 (pos 0)) x
unfolding lt of_bits
far_is nan = refl
far_is (inf s) = refl
far_is (fin s m e) = refl

near_float : (x : Float) → far_of x ≡ false → Within 10000 x
unfolding far_of
near_float x h =
    let n = neither (not (is_finite x)) (lt farthest (abs_of x)) h in
    tested_within 10000 x (not-false (is_finite x) n.one) (sym (far_is (abs_of x)) ∙ n.two)

near_corner : (v : Vec3) → is_far_corner v ≡ false → Near 10000 v
unfolding is_far_corner
near_corner v h =
    let p = neither (far_of v.x) (far_of v.y || far_of v.z) h in
    let q = neither (far_of v.y) (far_of v.z) p.two in
    record { x = near_float v.x p.one; y = near_float v.y q.one; z = near_float v.z q.two }

-- the three corners are near
pub record NearCorners (q : Corners) : Type 0 where
  pub a : Near 10000 q.a
  pub b : Near 10000 q.b
  pub c : Near 10000 q.c

near_corners : (q : Corners) → has_far_corner q.a q.b q.c ≡ false → NearCorners q
unfolding has_far_corner
near_corners q h =
    let p = neither (is_far_corner q.a) (is_far_corner q.b || is_far_corner q.c) h in
    let r = neither (is_far_corner q.b) (is_far_corner q.c) p.two in
    record { a = near_corner q.a p.one; b = near_corner q.b r.one; c = near_corner q.c r.two }

all_near : (qs : List Corners) → any_far qs ≡ false → Each NearCorners qs
unfolding any_far Each
all_near [] h = tt
all_near (q ∷ qs) h =
    let n = neither (has_far_corner q.a q.b q.c) (any_far qs) h in
    (near_corners q n.one, all_near qs n.two)

near_kept : (q : Corners) → NearCorners q → NearTriangle 10000 (triangle_of_corners q.a q.b q.c q.handle)
unfolding triangle_of_corners
near_kept q n = record { a = n.a; b = n.b; c = n.c }

pub near_triangles : (qs : List Corners) → any_far qs ≡ false → (i : ℕ) (d : Triangle) → i < length (triangles_of qs) → NearTriangle 10000 (get_or (triangles_of qs) i d)
near_triangles qs h = every (NearTriangle 10000) NearCorners near_kept qs (all_near qs h)

-- ---- handles

module _ (rows : ℕ) where
  abbrev Known : Corners → Type 0
  Known q = q.handle < rows

  each_append : (ps qs : List Corners) → Each Known ps → Each Known qs → Each Known (ps ++ qs)
  unfolding Each
  each_append [] qs a b = b
  each_append (p ∷ ps) qs a b = (a.0, each_append ps qs a.1 b)

  one_or_none : (b : Bool) (q : Corners) → Known q → Each Known (cond b (q ∷ []) [])
  unfolding Each
  one_or_none true q k = (k, tt)
  one_or_none false q k = tt

  known_in : (v : ℕ) (ps m : List Float) (h : ℕ) (t : Triple) → h < rows → Each Known (corners_in v ps m h t)
  unfolding corners_in
  known_in v ps m h t k = one_or_none (in_range v t) _ k

  known_of : (v : ℕ) (ps m : List Float) (h : ℕ) (ts : List Triple) → h < rows → Each Known (corners_of v ps m h ts)
  unfolding corners_of Each
  known_of v ps m h [] k = tt
  known_of v ps m h (t ∷ ts) k = each_append (corners_in v ps m h t) (corners_of v ps m h ts) (known_in v ps m h t k) (known_of v ps m h ts k)

  known_all : (hs : List Header) (ts ps : List Float) (is : List ℕ) → has_unknown_handle rows hs ≡ false → Each Known (corners_all (cut hs ts ps is))
  unfolding has_unknown_handle cut corners_all Each
  known_all [] ts ps is e = tt
  known_all (h ∷ hs) ts ps is e =
      let n = neither (not (ltb h.handle rows)) (has_unknown_handle rows hs) e in
      let k : h.handle < rows = ltb-true h.handle rows (not-false (ltb h.handle rows) n.one) in
      each_append (corners_of h.vertices (take (3 * h.vertices) ps) (take 16 ts) h.handle (triples (take h.count is))) _
      (known_of h.vertices (take (3 * h.vertices) ps) (take 16 ts) h.handle (triples (take h.count is)) k)
      (known_all hs (drop 16 ts) (drop (3 * h.vertices) ps) (drop h.count is) n.two)

  known_kept : (q : Corners) → Known q → (triangle_of_corners q.a q.b q.c q.handle).material_handle < rows
  unfolding triangle_of_corners
  known_kept q k = k

  pub known_handles :
      (hs : List Header) (ts ps : List Float) (is : List ℕ) → has_unknown_handle rows hs ≡ false →
      (i : ℕ) (d : Triangle) → i < length (triangles_of (corners_all (cut hs ts ps is))) → (get_or (triangles_of (corners_all (cut hs ts ps is))) i d).material_handle < rows
  known_handles hs ts ps is e = every (λ t. t.material_handle < rows) Known known_kept (corners_all (cut hs ts ps is)) (known_all hs ts ps is e)

-- ---- counts

fewer_by : (b : Bool) (t : Triangle) (ts : List Triangle) (k : ℕ) → length ts ≤ k → length (cond b ts (t ∷ ts)) ≤ suc k
fewer_by true t ts k h = omega arith
fewer_by false t ts k h = omega arith

kept_fewer : (qs : List Corners) → length (triangles_of qs) ≤ length qs
unfolding triangles_of
kept_fewer [] = omega arith
kept_fewer (q ∷ qs) = fewer_by (is_degenerate_of q.a q.b q.c) (triangle_of_corners q.a q.b q.c q.handle) (triangles_of qs) (length qs) (kept_fewer qs)

append_fewer : (b : Bool) (q : Corners) (qs : List Corners) (k : ℕ) → length qs ≤ k → length (cond b (q ∷ []) [] ++ qs) ≤ suc k
append_fewer true q qs k h = omega arith
append_fewer false q qs k h = omega arith

corners_fewer : (v : ℕ) (ps m : List Float) (h : ℕ) (ts : List Triple) → length (corners_of v ps m h ts) ≤ length ts
unfolding corners_of corners_in
corners_fewer v ps m h [] = omega arith
corners_fewer v ps m h (t ∷ ts) = append_fewer (in_range v t) _ (corners_of v ps m h ts) (length ts) (corners_fewer v ps m h ts)

all_fewer : (ms : List Mesh) → length (corners_all ms) ≤ whole_triples ms
unfolding corners_all whole_triples
all_fewer [] = omega arith
all_fewer (m ∷ ms) =
    let a = corners_fewer m.vertices m.positions m.transform m.handle (triples m.indices) in
    let b = all_fewer ms in
    rw (length-append) (omega arith)

-- at most as many triangles as whole triples
pub triangles_fewer : (ms : List Mesh) → length (triangles_of (corners_all ms)) ≤ whole_triples ms
triangles_fewer ms = omega (arith, kept_fewer (corners_all ms), all_fewer ms)
