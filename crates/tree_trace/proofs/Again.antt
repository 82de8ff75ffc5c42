-- The test of a box a second time, when something nearer may have been found since: it is entered just where nothing nearer than its entry
-- was found (`again`). The two tests are followed axis by axis. The spans begin alike; where the first one ends later, the second one ends
-- where the new distance is.
use mathlib.Core.Path.{◌≡◌, refl, sym, ap, subst}
use mathlib.Core.Logic.{◌⊎◌, inl, inr, ⊎_elim}
use mathlib.Core.Bool.{Bool, true, false, not, cond, ◌||◌}
use lib.Dec.{T, T_not, not_T}
use lib.Ieee.{Float, nan, binary32, sub, mul, div, lt, is_nan}
use Rattle.float.specs.Literals.{one32}
use Rattle.float.specs.Compare.{min_of, max_of, abs_of}
use Rattle.vector.specs.declared.Ray.{Ray}
use Rattle.geometry.specs.declared.Aabb.{Aabb}
use Rattle.std.specs.Prelude.{Option, None, Some, is_some, option_map, option_and_then}
use Rattle.geometry.specs.Slab.{along_axis, narrow_of, Span, axis_of, slab_of}
use Rattle.tree_trace.proofs.Floats.{Number, lt_left, lt_right, lt_trans, lt_between, min_case, max_case}

-- x is y, or nearer
pub record Nearer (x y : Float) : Type 0 where
  pub below : (z : Float) → T (lt z x) → T (lt z y)
  pub number : Number x → Number y
  pub number_back : Number y → Number x

-- where the spans end: g for a ray up to t, f for a ray up to something farther
record Ends (t g f : Float) : Type 0 where
  within : (x : Float) → T (lt t x) → T (lt g x)
  split : (x : Float) → T (lt g x) → T (lt f x) ⊎ T (lt t x)
  nearer : Nearer g f

-- where an entry is
begin : {s n : Float} → Some s ≡ Some n → s ≡ n
begin e = ap place e
  where
    place : Option Float → Float
    place None = nan
    place (Some x) = x

module _ (t : Float) where
  alike : (m : Float) → ((x : Float) → T (lt t x) → T (lt m x)) → Ends t m m
  alike m h = record { within = h; split = λ x l. inl l; nearer = record { below = λ z l. l; number = λ p. p; number_back = λ p. p } }

  -- one axis more
  ends_step : (g f m : Float) → Ends t g f → Ends t (min_of g m) (min_of f m)
  ends_step g f m e =
      min_case (λ (x : Float). Ends t x (min_of f m)) g m
      (λ n. min_case (λ (y : Float). Ends t m y) f m
      (λ k. alike m (λ x l. absurd (T_not (is_nan g) (lt_left g x (e.within x l)) n)))
      (λ p l. absurd (T_not (is_nan g) (e.nearer.number_back p) n))
      (λ p l. absurd (T_not (is_nan g) (e.nearer.number_back p) n)))
      (λ q l. min_case (λ (y : Float). Ends t m y) f m
      (λ n. absurd (T_not (is_nan f) (e.nearer.number q) n))
      (λ p k. alike m (λ x h. lt_trans m g x l (e.within x h)))
      (λ p k. absurd (T_not (lt m f) k (e.nearer.below m l))))
      (λ q l. min_case (λ (y : Float). Ends t g y) f m
      (λ n. absurd (T_not (is_nan f) (e.nearer.number q) n))
      (λ p k. record {
        within = e.within;
        split = λ x h. ⊎_elim (λ a. inl (lt_trans m f x k a)) (λ a. inr a) (e.split x h);
        nearer = record { below = λ z h. lt_between z g m h (lt_left m f k) l; number = λ h. lt_left m f k; number_back = λ h. q };
      })
      (λ p k. e))

  -- the first test's span and the second's: nothing is said where the first has closed
  record Kept (s f r g : Float) : Type 0 where
    same : r ≡ s
    ends : Ends t g f
    ahead : T (not (lt t s))

  abbrev Both : Span → Span → Type 0
  Both None Y = T true
  Both (Some (s, f)) None = T (lt t s)
  Both (Some (s, f)) (Some (r, g)) = Kept s f r g

  later : (s q : Float) → T (lt t s) → T (lt t (max_of s q))
  later s q h = max_case (λ (x : Float). T (lt t x)) s q (λ n. absurd (T_not (is_nan s) (lt_right t s h) n)) (λ p l. lt_trans t s q h l) (λ p l. h)

  module _ (t1 t2 s f : Float) where
    narrow_closed : T (lt t s) → Both (narrow_of t1 t2 s f) None
    unfolding narrow_of
    narrow_closed h = go (lt (min_of f (max_of t1 t2)) (max_of s (min_of t1 t2)))
      where
        go : (b : Bool) → Both (cond b None (Some (max_of s (min_of t1 t2), min_of f (max_of t1 t2)))) None
        go true = tt
        go false = later s (min_of t1 t2) h

    narrow_open : (g : Float) → Ends t g f → Both (narrow_of t1 t2 s f) (narrow_of t1 t2 s g)
    unfolding narrow_of
    narrow_open g e = go (lt (min_of f m) near) (lt (min_of g m) near) (λ h. h) (λ h. h) (λ h. h)
      where
        m : Float
        m = max_of t1 t2

        near : Float
        near = max_of s (min_of t1 t2)

        next : Ends t (min_of g m) (min_of f m)
        next = ends_step g f m e

        go : (b c : Bool) → (T (not b) → T (not (lt (min_of f m) near))) → (T c → T (lt (min_of g m) near)) → (T (not c) → T (not (lt (min_of g m) near))) →
            Both (cond b None (Some (near, min_of f m))) (cond c None (Some (near, min_of g m)))
        go true c p q r = tt
        go false true p q r = ⊎_elim (λ a. absurd (T_not (lt (min_of f m) near) (p tt) a)) (λ a. a) (next.split near (q tt))
        go false false p q r =
            record { same = refl; ends = next; ahead = not_T (lt t near) (λ a. T_not (lt (min_of g m) near) (r tt) (next.within near a)) }

  module _ (low high o d : Float) where
    -- where the ray meets an end of the box
    abbrev meets : Float → Float
    meets x = mul binary32 (sub binary32 x o) (div binary32 one32 d)

    axis_closed : (s f : Float) → T (lt t s) → Both (axis_of low high o d s f) None
    unfolding axis_of
    axis_closed s f h = go (lt (abs_of d) along_axis) (lt o low || lt high o)
      where
        go : (b c : Bool) → Both (cond b (cond c None (Some (s, f))) (narrow_of (meets low) (meets high) s f)) None
        go true true = tt
        go true false = h
        go false c = narrow_closed (meets low) (meets high) s f h

    axis_open : (s f g : Float) → Ends t g f → T (not (lt t s)) → Both (axis_of low high o d s f) (axis_of low high o d s g)
    unfolding axis_of
    axis_open s f g e a = go (lt (abs_of d) along_axis) (lt o low || lt high o)
      where
        go : (b c : Bool) → Both (cond b (cond c None (Some (s, f))) (narrow_of (meets low) (meets high) s f)) (cond b (cond c None (Some (s, g))) (narrow_of (meets low) (meets high) s g))
        go true true = tt
        go true false = record { same = refl; ends = e; ahead = a }
        go false c = narrow_open (meets low) (meets high) s f g e

    axis_both : (X Y : Span) → Both X Y → Both (option_and_then (λ s. axis_of low high o d s.0 s.1) X) (option_and_then (λ s. axis_of low high o d s.0 s.1) Y)
    axis_both None Y h = tt
    axis_both (Some (s, f)) None h = axis_closed s f h
    axis_both (Some (s, f)) (Some (r, g)) h = rw h.same (axis_open s f g h.ends h.ahead)

  entry_both : (X Y : Span) (n : Float) → Both X Y → option_map (λ s. s.0) X ≡ Some n → is_some (option_map (λ s. s.0) Y) ≡ not (lt t n)
  entry_both None Y n h e = absurd (subst T (ap is_some (sym e)) tt)
  entry_both (Some (s, f)) None n h e = go (lt t n) (subst (λ (x : Float). T (lt t x)) (begin e) h)
    where
      go : (b : Bool) → T b → false ≡ not b
      go true k = refl
      go false k = absurd k
  entry_both (Some (s, f)) (Some (r, g)) n h e = go (lt t n) (subst (λ (x : Float). T (not (lt t x))) (begin e) h.ahead)
    where
      go : (b : Bool) → T (not b) → true ≡ not b
      go true k = absurd k
      go false k = refl

-- the span of a ray up to t, cut by one axis, by two and by all
abbrev pub cut_x : Aabb → Ray → Float → Span
cut_x b ray t = axis_of b.min.x b.max.x ray.origin.x ray.direction.x ray.min_distance t

abbrev pub cut_y : Aabb → Ray → Float → Span
cut_y b ray t = option_and_then (λ s. axis_of b.min.y b.max.y ray.origin.y ray.direction.y s.0 s.1) (cut_x b ray t)

abbrev cut_z : Aabb → Ray → Float → Span
cut_z b ray t = option_and_then (λ s. axis_of b.min.z b.max.z ray.origin.z ray.direction.z s.0 s.1) (cut_y b ray t)

-- THE SECOND TEST
pub again : (b : Aabb) (ray : Ray) (far t n : Float) → Nearer t far → T (not (lt t ray.min_distance)) → slab_of b ray far ≡ Some n → is_some (slab_of b ray t) ≡ not (lt t n)
unfolding slab_of
again b ray far t n h a =
    let ends : Ends t t far = record { within = λ x l. l; split = λ x l. inr l; nearer = h } in
    entry_both t (cut_z b ray far) (cut_z b ray t) n
    (axis_both t b.min.z b.max.z ray.origin.z ray.direction.z (cut_y b ray far) (cut_y b ray t)
    (axis_both t b.min.y b.max.y ray.origin.y ray.direction.y (cut_x b ray far) (cut_x b ray t)
    (axis_open t b.min.x b.max.x ray.origin.x ray.direction.x ray.min_distance far t ends a)))
