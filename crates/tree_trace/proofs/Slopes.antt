-- The test of a box with the reciprocals at hand is `slab_of` (`past_is`, `cut_is`): a span that has closed on one axis stays closed on the others, so
-- that one comparison at the end tells; and an axis on which the ray does not move leaves the span as it is.
use mathlib.Core.Path.{◌≡◌, refl, sym, ap, subst, ◌∙◌}
use mathlib.Core.Bool.{Bool, true, false, cond, ◌||◌}
use lib.Dec.{T, T_not}
use lib.Ieee.{Float, nan, inf, fin, binary32, sub, mul, div, lt, is_nan}
use Rattle.float.specs.Literals.{one32}
use Rattle.float.specs.Compare.{min_of, max_of, abs_of}
use Rattle.vector.specs.declared.Ray.{Ray}
use Rattle.geometry.specs.declared.Aabb.{Aabb}
use Rattle.std.specs.Prelude.{Option, None, Some, option_map, option_and_then}
use Rattle.geometry.specs.Slab.{along_axis, narrow_of, Span, axis_of, slab_of}
use Rattle.tree_trace.specs.declared.Way.{Way}
use Rattle.tree_trace.specs.Slopes.{along_of, any_along_of, slope_of, slopes_of_direction, near_of, far_of, cut_of, beside_of, past_of, way_of}
use Rattle.tree_trace.proofs.Floats.{lt_left, lt_right, lt_trans, min_case, max_case}
use Rattle.tree_trace.proofs.Again.{cut_x, cut_y}

-- ---- a NaN

mul_nan : (x : Float) → mul binary32 x nan ≡ nan
unfolding mul
mul_nan nan = refl
mul_nan (inf s) = refl
mul_nan (fin s m e) = refl

max_nan : (x : Float) → max_of x nan ≡ x
unfolding max_of is_nan lt
max_nan nan = refl
max_nan (inf s) = refl
max_nan (fin s m e) = refl

min_nan : (x : Float) → min_of x nan ≡ x
unfolding min_of is_nan lt
min_nan nan = refl
min_nan (inf s) = refl
min_nan (fin s m e) = refl

both_nan : (min_of nan nan ≡ nan) × (max_of nan nan ≡ nan)
unfolding min_of max_of is_nan
both_nan = (refl, refl)

-- ---- a span that has closed stays closed
closes : (n f a b : Float) → T (lt f n) → T (lt (min_of f b) (max_of n a))
closes n f a b h =
    max_case (λ (x : Float). T (lt (min_of f b) x)) n a (λ k. absurd (T_not (is_nan n) (lt_right f n h) k)) (λ p l. lt_trans (min_of f b) n a lower l) (λ p l. lower)
  where
    lower : T (lt (min_of f b) n)
    lower = min_case (λ (x : Float). T (lt x n)) f b (λ k. absurd (T_not (is_nan f) (lt_left f n h) k)) (λ p l. lt_trans b f n l h) (λ p l. h)

is_closed : (b : Bool) (n f : Float) → T b → ◌≡◌ {A = Span} None (cond b None (Some (n, f)))
is_closed true n f h = refl
is_closed false n f h = absurd h

-- ---- a span by its ends, whether it is beside the box, and whether it has closed
abbrev begins : Span → Option Float
begins s = option_map {T = Float × Float} (λ x. x.0) s

abbrev then : (Float → Float → Span) → Span → Span
then f s = option_and_then {T = Float × Float} (λ x. f x.0 x.1) s

abbrev Ends : Span → Bool → Float → Float → Type 0
Ends X o n f = X ≡ cond (o || lt f n) None (Some (n, f))

narrow_ends : (X : Span) (o : Bool) (n f t1 t2 : Float) → Ends X o n f → Ends (then (λ s u. narrow_of t1 t2 s u) X) (o || false) (max_of n (min_of t1 t2)) (min_of f (max_of t1 t2))
unfolding narrow_of
narrow_ends X true n f t1 t2 h = rw h
narrow_ends X false n f t1 t2 h = rw h (go (lt f n) (closes n f (min_of t1 t2) (max_of t1 t2)))
  where
    go : (b : Bool) → (T b → T (lt (min_of f (max_of t1 t2)) (max_of n (min_of t1 t2)))) →
        then (λ s u. cond (lt (min_of u (max_of t1 t2)) (max_of s (min_of t1 t2))) None (Some (max_of s (min_of t1 t2), min_of u (max_of t1 t2)))) (cond b None (Some (n, f)))
        ≡ cond (lt (min_of f (max_of t1 t2)) (max_of n (min_of t1 t2))) None (Some (max_of n (min_of t1 t2), min_of f (max_of t1 t2)))
    go true k = is_closed (lt (min_of f (max_of t1 t2)) (max_of n (min_of t1 t2))) (max_of n (min_of t1 t2)) (min_of f (max_of t1 t2)) (k tt)
    go false k = refl

still_ends : (X : Span) (o out : Bool) (n f : Float) → Ends X o n f → Ends (then (λ s u. cond out None (Some (s, u))) X) (o || out) n f
still_ends X true out n f h = rw h
still_ends X false true n f h = rw h (go (lt f n))
  where
    go : (b : Bool) → then (λ s u. None) (cond b None (Some (n, f))) ≡ None
    go true = refl
    go false = refl
still_ends X false false n f h = rw h (go (lt f n))
  where
    go : (b : Bool) → then (λ s u. Some (s, u)) (cond b None (Some (n, f))) ≡ cond b None (Some (n, f))
    go true = refl
    go false = refl

axis_ends : (X : Span) (o : Bool) (n f low high from d : Float) → Ends X o n f →
    Ends (then (λ s u. axis_of low high from d s u) X) (o || beside_of low high from d) (near_of n low high from (slope_of d)) (far_of f low high from (slope_of d))
unfolding axis_of beside_of slope_of along_of
axis_ends X o n f low high from d h = go (lt (abs_of d) along_axis)
  where
    inv : Float
    inv = div binary32 one32 d

    out : Bool
    out = lt from low || lt high from

    go : (b : Bool) → Ends (then (λ s u. cond b (cond out None (Some (s, u))) (narrow_of (mul binary32 (sub binary32 low from) inv) (mul binary32 (sub binary32 high from) inv) s u)) X)
        (o || cond b out false) (near_of n low high from (cond b nan inv)) (far_of f low high from (cond b nan inv))
    go true = rw (mul_nan (sub binary32 low from), mul_nan (sub binary32 high from), both_nan.0, both_nan.1, max_nan n, min_nan f) (still_ends X o out n f h)
    go false = narrow_ends X o n f (mul binary32 (sub binary32 low from) inv) (mul binary32 (sub binary32 high from) inv) h

entry_ends : (x y z c : Bool) (n f : Float) →
    begins (cond ((((false || x) || y) || z) || c) None (Some (n, f))) ≡ cond x None (cond y None (cond z None (cond c None (Some n))))
entry_ends true y z c n f = refl
entry_ends false true z c n f = refl
entry_ends false false true c n f = refl
entry_ends false false false true n f = refl
entry_ends false false false false n f = refl

-- on any axes
slab_is : (b : Aabb) (ray : Ray) (t : Float) → lt t ray.min_distance ≡ false → past_of (cut_of b ray (slopes_of_direction ray.direction) t) b ray ≡ slab_of b ray t
unfolding slab_of past_of cut_of slopes_of_direction
slab_is b ray t ahead =
    let n = ray.min_distance in
    let o = ray.origin in
    let d = ray.direction in
    let x = beside_of b.min.x b.max.x o.x d.x in
    let y = beside_of b.min.y b.max.y o.y d.y in
    let z = beside_of b.min.z b.max.z o.z d.z in
    let nx = near_of n b.min.x b.max.x o.x (slope_of d.x) in
    let fx = far_of t b.min.x b.max.x o.x (slope_of d.x) in
    let ny = near_of nx b.min.y b.max.y o.y (slope_of d.y) in
    let fy = far_of fx b.min.y b.max.y o.y (slope_of d.y) in
    let nz = near_of ny b.min.z b.max.z o.z (slope_of d.z) in
    let fz = far_of fy b.min.z b.max.z o.z (slope_of d.z) in
    let begun : Ends (Some (n, t)) false n t = rw ahead in
    let by_x = axis_ends (Some (n, t)) false n t b.min.x b.max.x o.x d.x begun in
    let by_y = axis_ends (cut_x b ray t) x nx fx b.min.y b.max.y o.y d.y by_x in
    let by_z = axis_ends (cut_y b ray t) (x || y) ny fy b.min.z b.max.z o.z d.z by_y in
    sym (ap begins by_z ∙ entry_ends x y z (lt fz nz) nz fz)

-- a ray that moves on every axis runs beside no box
none_beside : (e : Option Float) (b : Aabb) (ray : Ray) → any_along_of ray.direction ≡ false → past_of e b ray ≡ e
unfolding past_of beside_of any_along_of
none_beside e b ray h = go (along_of ray.direction.x) (along_of ray.direction.y) (along_of ray.direction.z) h
  where
    out : Float → Float → Float → Bool
    out low high o = lt o low || lt high o

    go : (x y z : Bool) → cond x true (cond y true z) ≡ false →
        cond (cond x (out b.min.x b.max.x ray.origin.x) false) None
        (cond (cond y (out b.min.y b.max.y ray.origin.y) false) None (cond (cond z (out b.min.z b.max.z ray.origin.z) false) None e))
        ≡ e
    go true y z k = absurd (subst T k tt)
    go false true z k = absurd (subst T k tt)
    go false false true k = absurd (subst T k tt)
    go false false false k = refl

-- THE TEST IS `slab_of`: for a ray that may run beside the box, and for one that moves on every axis
module _ (b : Aabb) (way : Way) (t : Float) (h : way ≡ way_of way.ray) (ahead : lt t way.ray.min_distance ≡ false) where
  pub past_is : (e : Option Float) → e ≡ cut_of b way.ray way.slopes t → past_of e b way.ray ≡ slab_of b way.ray t
  unfolding way_of
  past_is e k =
      ap (λ (x : Option Float). past_of x b way.ray) (k ∙ ap (λ (w : Way). cut_of b way.ray w.slopes t) h)
      ∙ slab_is b way.ray t ahead

  pub cut_is : (e : Option Float) → e ≡ cut_of b way.ray way.slopes t → way.along ≡ false → e ≡ slab_of b way.ray t
  unfolding way_of
  cut_is e k none = sym (none_beside e b way.ray (sym (ap (λ (w : Way). w.along) h) ∙ none)) ∙ past_is e k
