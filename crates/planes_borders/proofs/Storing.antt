-- Storing edges: a point, an edge, and runs of edges after one another (`Appended`).
use mathlib.Core.Path.{◌≡◌, refl, sym, ap, ◌∙◌}
use mathlib.Core.Logic.{inl, inr, ⊎_elim}
use mathlib.Core.Bool.{Bool, true, false}
use mathlib.Core.List.{List, [], ◌∷◌, ◌++◌, flat_map, append-nil}
use Prim.Native.Nat.{ℕ, zero, suc, ◌+◌, ◌*◌, ◌<◌, ◌≤◌}
use native.Mathlib.Nat.{add-zero}
use native.Mathlib.Omega.{arith}
use native.Mathlib.Numerals.{add-one}
use lib.Ieee.{Float, nan}
use lib.ListN.{length, get_or, set, take, length-append}
use lib.Seq.{take-suc, take_all}
use Rattle.vector.specs.declared.Vec3.{Vec3}
use Rattle.vector.specs.Vector.{vec}
use Rattle.planes_patches.specs.Lists.{keep_if}
use Rattle.planes_patches.specs.Rows.{Beside}
use Rattle.mirror.specs.Plane.{Edge}
use Rattle.mirror.specs.Rows.{edge_floats, vec_of_floats, edge_in, edges_in}
use Rattle.planes_borders.specs.Uses.{is_once_in, edge_at, border_sides, border_in, Appended}
use Rattle.planes_borders.proofs.Keying.{three_first, three_second, three_third, three_other}
use Rattle.planes_borders.proofs.Once.{flat_append}

-- ---- points and edges

pub point_stored : (l : List Float) (at : ℕ) (x y z : Float) → at + 3 ≤ length l → vec_of_floats (set (set (set l at x) (at + 1) y) (at + 2) z) at ≡ vec x y z
unfolding vec_of_floats
point_stored l at x y z h =
    let l1 = set l at x in let l2 = set l1 (at + 1) y in let l3 = set l2 (at + 2) z in
    let a : get_or l3 at nan ≡ x = three_first nan l l1 l2 l3 at x y z refl refl refl (omega arith) in
    let b : get_or l3 (at + 1) nan ≡ y = three_second nan l l1 l2 l3 at x y z refl refl refl (omega arith) in
    let c : get_or l3 (at + 2) nan ≡ z = three_third nan l l1 l2 l3 at x y z refl refl refl (omega arith) in
    rw (a, b, c)

pub point_beside : (l : List Float) (at : ℕ) (x y z : Float) → Beside at 3 l (set (set (set l at x) (at + 1) y) (at + 2) z)
unfolding Beside
point_beside l at x y z =
    three_other nan l (set l at x) (set (set l at x) (at + 1) y) (set (set (set l at x) (at + 1) y) (at + 2) z) at x y z refl refl refl

pub edge_stored : (l l1 l2 : List Float) (k : ℕ) (a b : Vec3) → vec_of_floats l1 (6 * k) ≡ a → vec_of_floats l2 (6 * k + 3) ≡ b → Beside (6 * k + 3) 3 l1 l2 → edge_in l2 k ≡ record { start = a; end = b }
unfolding edge_in vec_of_floats Beside
edge_stored l l1 l2 k a b ea eb keep =
    let x = keep (6 * k) (inl (omega arith)) in
    let y = keep (6 * k + 1) (inl (omega arith)) in
    let z = keep (6 * k + 2) (inl (omega arith)) in
    rw (eb, x, y, z) (ap (λ (v : Vec3). record { start = v; end = b }) ea)

pub edge_beside : (l l1 l2 : List Float) (k : ℕ) → Beside (6 * k) 3 l l1 → Beside (6 * k + 3) 3 l1 l2 → Beside (edge_floats * k) edge_floats l l2
unfolding Beside
edge_beside l l1 l2 k p q i h = ⊎_elim (λ b. q i (inl (omega (arith, b))) ∙ p i (inl b)) (λ a. q i (inr (omega (arith, a))) ∙ p i (inr (omega (arith, a)))) h

-- ---- runs of edges

edge_same : (old new : List Float) (k e : ℕ) → ((q : ℕ) → q < edge_floats * k → get_or new q nan ≡ get_or old q nan) → e < k → edge_in new e ≡ edge_in old e
unfolding edge_in vec_of_floats
edge_same old new k e f h =
    rw (f (6 * e) (omega arith), f (6 * e + 1) (omega arith), f (6 * e + 2) (omega arith), f (6 * e + 3) (omega arith), f (6 * e + 3 + 1) (omega arith), f (6 * e + 3 + 2) (omega arith))

-- a run of edges below edge number k stays where what is below k does
pub edges_same : (old new : List Float) (k e n : ℕ) → ((q : ℕ) → q < edge_floats * k → get_or new q nan ≡ get_or old q nan) → e + n ≤ k → edges_in new e n ≡ edges_in old e n
unfolding edges_in
edges_same old new k e zero f h = refl
edges_same old new k e (suc n) f h =
    ap (λ (x : Edge). x ∷ edges_in new (e + 1) n) (edge_same old new k e f (omega arith)) ∙ ap (λ (l : List Edge). edge_in old e ∷ l) (edges_same old new k (e + 1) n f (omega arith))

edges_append : (l : List Float) (k a b : ℕ) → edges_in l k (a + b) ≡ edges_in l k a ++ edges_in l (k + a) b
unfolding edges_in
edges_append l k zero b = rw (add-zero k) (ap (edges_in l k) (let e : 0 + b ≡ b = omega arith in e))
edges_append l k (suc a) b =
    let s : suc a + b ≡ suc (a + b) = omega arith in
    let t : k + 1 + a ≡ k + suc a = omega arith in
    ap (edges_in l k) s ∙ ap (λ (es : List Edge). edge_in l k ∷ es) (edges_append l (k + 1) a b ∙ ap (λ (i : ℕ). edges_in l (k + 1) a ++ edges_in l i b) t)

pub appended_none : (l : List Float) (k : ℕ) → Appended l l k k []
unfolding edges_in
appended_none l k = record { count = sym (add-zero k); stored = refl; before = λ q h. refl; after = λ q h. refl }

pub appended_one : (old new : List Float) (k : ℕ) (e : Edge) → edge_in new k ≡ e → Beside (edge_floats * k) edge_floats old new → Appended old new k (k + 1) (e ∷ [])
unfolding edges_in Beside
appended_one old new k e s b = record { count = refl; stored = ap (λ (x : Edge). x ∷ []) s; before = λ q h. b q (inl h); after = λ q h. b q (inr (omega (arith, h))) }

pub appended_more : (l0 l1 l2 : List Float) (k r s : ℕ) (es fs : List Edge) → Appended l0 l1 k r es → Appended l1 l2 r s fs → Appended l0 l2 k s (es ++ fs)
appended_more l0 l1 l2 k r s es fs a b =
    let ca = a.count in
    let cb = b.count in
    let len : length (es ++ fs) ≡ length es + length fs = length-append es fs in
    record {
      count = rw len (omega arith);
      stored =
          ap (edges_in l2 k) len ∙ edges_append l2 k (length es) (length fs)
          ∙ ap (λ (x : List Edge). x ++ edges_in l2 (k + length es) (length fs)) (edges_same l1 l2 r k (length es) b.before (omega arith) ∙ a.stored)
          ∙ ap (λ (i : ℕ). es ++ edges_in l2 i (length fs)) (sym ca) ∙ ap (λ (x : List Edge). es ++ x) b.stored;
      before = λ q h. b.before q (omega arith) ∙ a.before q h;
      after = λ q h. b.after q h ∙ a.after q (omega arith);
    }

-- three sides of a triangle
keeps : {A : Type 0} (b c d : Bool) (x y z : A) → keep_if b x [] ++ (keep_if c y [] ++ keep_if d z []) ≡ keep_if b x (keep_if c y (keep_if d z []))
keeps true true d x y z = refl
keeps true false d x y z = refl
keeps false true d x y z = refl
keeps false false d x y z = refl

pub appended_sides : (area : List Float) (n : ℕ) (first uses : List ℕ) (t : ℕ) (l0 l1 l2 l3 : List Float) (k r s v : ℕ)
    → Appended l0 l1 k r (keep_if (is_once_in first uses (3 * t)) (edge_at area n t (t + 3 * n)) [])
    → Appended l1 l2 r s (keep_if (is_once_in first uses (3 * t + 1)) (edge_at area n (t + 3 * n) (t + 6 * n)) [])
    → Appended l2 l3 s v (keep_if (is_once_in first uses (3 * t + 2)) (edge_at area n (t + 6 * n) t) [])
    → Appended l0 l3 k v (border_sides area n first uses t)
unfolding border_sides
appended_sides area n first uses t l0 l1 l2 l3 k r s v a b c =
    let x = keep_if (is_once_in first uses (3 * t)) (edge_at area n t (t + 3 * n)) [] in
    let y = keep_if (is_once_in first uses (3 * t + 1)) (edge_at area n (t + 3 * n) (t + 6 * n)) [] in
    let z = keep_if (is_once_in first uses (3 * t + 2)) (edge_at area n (t + 6 * n) t) [] in
    let all : Appended l0 l3 k v (x ++ (y ++ z)) = appended_more l0 l1 l3 k r v x (y ++ z) a (appended_more l1 l2 l3 r s v y z b c) in
    rw (keeps (is_once_in first uses (3 * t)) (is_once_in first uses (3 * t + 1)) (is_once_in first uses (3 * t + 2)) (edge_at area n t (t + 3 * n)) (edge_at area n (t + 3 * n) (t + 6 * n)) (edge_at area n (t + 6 * n) t)) at all

-- one more triangle of a list
pub border_none : (area : List Float) (n : ℕ) (first uses is : List ℕ) (l : List Float) (at : ℕ) → Appended l l at at (border_in area n first uses (take 0 is))
unfolding border_in flat_map
border_none area n first uses is l at = appended_none l at

pub border_more : (area : List Float) (n : ℕ) (first uses is : List ℕ) (k : ℕ) (l0 l1 l2 : List Float) (at r s : ℕ) → k < length is
    → Appended l0 l1 at r (border_in area n first uses (take k is)) → Appended l1 l2 r s (border_sides area n first uses (get_or is k 0))
    → Appended l0 l2 at s (border_in area n first uses (take (k + 1) is))
unfolding border_in flat_map
border_more area n first uses is k l0 l1 l2 at r s h a b =
    let f = border_sides area n first uses in
    let e : take (k + 1) is ≡ take k is ++ (get_or is k 0 ∷ []) = ap (λ (i : ℕ). take i is) (add-one k) ∙ take-suc is k 0 h in
    let es : flat_map f (take (k + 1) is) ≡ flat_map f (take k is) ++ f (get_or is k 0) =
    ap (flat_map f) e ∙ flat_append f (take k is) (get_or is k 0 ∷ []) ∙ ap (λ (l : List Edge). flat_map f (take k is) ++ l) (append-nil (f (get_or is k 0))) in
    rw es (appended_more l0 l1 l2 at r s (flat_map f (take k is)) (f (get_or is k 0)) a b)

pub border_all : (area : List Float) (n : ℕ) (first uses is : List ℕ) (k : ℕ) (l0 l1 : List Float) (at r : ℕ) → length is ≤ k
    → Appended l0 l1 at r (border_in area n first uses (take k is)) → Appended l0 l1 at r (border_in area n first uses is)
border_all area n first uses is k l0 l1 at r h a = rw (take_all k is h) at a
