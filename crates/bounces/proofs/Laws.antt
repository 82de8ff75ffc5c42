-- Laws on the definitions: an image in one plane more, the ways that a turn back goes, and that a way back depends only on the planes and
-- images below its start.
use mathlib.Core.Path.{◌≡◌, refl, sym, ap, subst⁻¹, ◌∙◌}
use mathlib.Core.List.{List, [], ◌∷◌, ◌++◌}
use Prim.Native.Nat.{ℕ, zero, suc, ◌+◌, ◌-◌, ◌<◌, ◌≤◌}
use native.Mathlib.Numerals.{add-one}
use native.Mathlib.Omega.{arith}
use lib.Ieee.{Float, binary32, mul}
use lib.ListN.{length, get_or, set, take, drop, length-set}
use lib.Seq.{slice, slice-cons, get_or-set_same, get_or-set_other, take-set-le, take-set-lt, take-suc-set, drop-set-lt}
use Rattle.float.proofs.Numbers.{by_order}
use Rattle.vector.specs.declared.Vec3.{Vec3}
use Rattle.geometry.specs.declared.Triangle.{Triangle}
use Rattle.mirror.specs.Plane.{Plane, no_point, nth_plane}
use Rattle.mirror.specs.Locate.{Located}
use Rattle.mirror.specs.Mirror.{mirror_of}
use Rattle.mirror.specs.Rows.{row_of, tris_of, border_of, row_plane, plane_in, planes_in}
use Rattle.mirror.proofs.Laws.{plane_at_lem}
use Rattle.bounces.specs.Image.{image_of}
use Rattle.std.specs.Prelude.{Option, None, Some, Result, Ok, Err, ok_or}
use Rattle.bounces.specs.declared.Lost.{Lost}
use Rattle.bounces.specs.declared.Lost.TheVariants.{NotCrossed, OffSurface}
use Rattle.bounces.specs.declared.Trail.{Trail}
use Rattle.bounces.specs.Bounces.{Bounce, crossed_of, bounce_of, turn_of, Bounces, then_of, back_of}
use Rattle.bounces.specs.Areas.{fate_of, ended_by, trail_of}

pub never : {A : Type 0} (x m : ℕ) → x ≡ suc m → x ≡ 0 → A
never x m a b = let no : ⊥ = omega arith in absurd no

-- ---- images

pub image_none : (planes : List Plane) (source : Vec3) → image_of planes source [] ≡ source
unfolding image_of
image_none planes source = refl

-- one plane more
pub image_next : (planes : List Plane) (source : Vec3) (seq : List ℕ) (p : ℕ) → image_of planes source (seq ++ (p ∷ [])) ≡ mirror_of (nth_plane planes p) (image_of planes source seq)
unfolding image_of
image_next planes source [] p = refl
image_next planes source (q ∷ seq) p = image_next planes (mirror_of (nth_plane planes q) source) seq p

-- the images of a sequence that gets plane p at d, and v in the place of its image: what a search holds on its way down
pub images_put :
    (planes : List Plane) (source : Vec3) (seq : List ℕ) (images : List Vec3) (d p : ℕ) (v : Vec3) → d < length seq → d + 1 < length images →
    v ≡ mirror_of (nth_plane planes p) (get_or images d no_point) →
    ((j : ℕ) → j ≤ d → get_or images j no_point ≡ image_of planes source (take j seq)) →
    (j : ℕ) → j ≤ d + 1 → get_or (set images (d + 1) v) j no_point ≡ image_of planes source (take j (set seq d p))
images_put planes source seq images d p v low high e are j h =
    by_order j d
    (λ before.
    let ne : (j ≡ d + 1 → ⊥) = λ z. omega (arith, z, before) in
    get_or-set_other images (d + 1) j v no_point ne ∙ are j before ∙ ap (image_of planes source) (sym (take-set-le j seq d p before)))
    (λ after.
    let at : j ≡ d + 1 = omega arith in
    let taken : take (d + 1) (set seq d p) ≡ take d seq ++ (p ∷ []) = rw add-one (take-suc-set seq d p low) in
    rw (at, get_or-set_same images (d + 1) v no_point high, taken, image_next planes source (take d seq) p, ← are d (omega arith)) e)

-- ---- a store in a run

pub slice_put :
    {A : Type 0} (l : List A) (x d : A) (k n : ℕ) → k < n → n ≤ length l → slice k n (set l k x) ≡ x ∷ slice (k + 1) n l
slice_put l x d k n h fits =
    let long : length (set l k x) ≡ length l = length-set l k x in
    let cons : slice k n (set l k x) ≡ get_or (set l k x) k d ∷ slice (suc k) n (set l k x) = slice-cons k n (set l k x) d h (omega arith) in
    let tail : slice (suc k) n (set l k x) ≡ slice (suc k) n l =
    ap (drop (suc k)) (take-set-lt n l k x h) ∙ drop-set-lt (suc k) (take n l) k x (omega arith) in
    rw (cons, get_or-set_same l k x d (omega arith), tail, add-one)

-- ---- a bounce, by whether its plane is crossed

pub crossed_err : (locate : Vec3 → Located) (o : Option Vec3) (e : Lost) → ok_or o NotCrossed ≡ Err e → Err e ≡ crossed_of locate o
crossed_err locate None e h = grind arith
crossed_err locate (Some b) e h = grind arith

pub crossed_ok : (o : Option Vec3) (b : Vec3) → ok_or o NotCrossed ≡ Ok b → o ≡ Some b
crossed_ok None b h = grind arith
crossed_ok (Some c) b h = grind arith

-- ---- the ways that a turn back goes

module _ (tri : ℕ → Triangle) (fade : Float) (plane : ℕ → Plane) (image : ℕ → Vec3) where
  pub back_none :
      (t : Trail) (k n : ℕ) (prev : Vec3) → k ≡ 0 →
      trail_of (Ok t) n ≡ back_of tri fade plane image k prev t.weight (slice k n t.points) (slice k n t.tris)
  unfolding trail_of back_of
  back_none t k n prev z = rw z

  module _ (k : ℕ) (prev : Vec3) (weight : Float) (ps : List Vec3) (is : List ℕ) (b : Bounce)
      (some : k ≡ 0 → ⊥) (turn : b ≡ bounce_of tri fade (plane (k - 1)) prev (image k)) where
    back_step : back_of tri fade plane image k prev weight ps is ≡ then_of (λ i w q. back_of tri fade plane image (k - 1) q (mul binary32 weight w) (q ∷ ps) (i ∷ is)) b
    unfolding back_of
    back_step = opened k some turn where
      opened :
          (k : ℕ) → (k ≡ 0 → ⊥) → b ≡ bounce_of tri fade (plane (k - 1)) prev (image k) →
          back_of tri fade plane image k prev weight ps is ≡ then_of (λ i w q. back_of tri fade plane image (k - 1) q (mul binary32 weight w) (q ∷ ps) (i ∷ is)) b
      opened zero ne e = absurd (ne refl)
      opened (suc k) ne e = let l : suc k - 1 ≡ k = omega arith in rw (e, l)

    pub back_lost : (e : Lost) → b ≡ Err e → ended_by e ≡ back_of tri fade plane image k prev weight ps is
    back_lost NotCrossed h = rw (back_step, h)
    back_lost OffSurface h = rw (back_step, h)

    pub back_on :
        (i : ℕ) (w : Float) (q : Vec3) → b ≡ Ok (i, w, q) →
        back_of tri fade plane image (k - 1) q (mul binary32 weight w) (q ∷ ps) (i ∷ is) ≡ back_of tri fade plane image k prev weight ps is
    back_on i w q h = rw (back_step, h)

-- ---- the fate of a way back, which depends on the points alone

module _ (tri : ℕ → Triangle) (fade : Float) (plane : ℕ → Plane) (image : ℕ → Vec3) where
  -- whatever weight, points and triangles there are already
  fate_any :
      (k : ℕ) (prev : Vec3) (w w' : Float) (ps ps' : List Vec3) (is is' : List ℕ) →
      fate_of (back_of tri fade plane image k prev w ps is) ≡ fate_of (back_of tri fade plane image k prev w' ps' is')
  unfolding fate_of back_of
  fate_any zero prev w w' ps ps' is is' = refl
  fate_any (suc k) prev w w' ps ps' is is' = by (bounce_of tri fade (plane k) prev (image (suc k))) (λ q v v' qs qs' js js'. fate_any k q v v' qs qs' js js') where
    by :
        (b : Bounce) →
        ((q : Vec3) (v v' : Float) (qs qs' : List Vec3) (js js' : List ℕ) →
        fate_of (back_of tri fade plane image k q v qs js) ≡ fate_of (back_of tri fade plane image k q v' qs' js')) →
        fate_of (then_of (λ i u q. back_of tri fade plane image k q (mul binary32 w u) (q ∷ ps) (i ∷ is)) b)
        ≡ fate_of (then_of (λ i u q. back_of tri fade plane image k q (mul binary32 w' u) (q ∷ ps') (i ∷ is')) b)
    by (Err NotCrossed) f = refl
    by (Err OffSurface) f = refl
    by (Ok (i, u, q)) f = f q (mul binary32 w u) (mul binary32 w' u) (q ∷ ps) (q ∷ ps') (i ∷ is) (i ∷ is')

  pub fate_none : (k : ℕ) (prev : Vec3) (w : Float) (ps : List Vec3) (is : List ℕ) → k ≡ 0 → fate_of (back_of tri fade plane image k prev w ps is) ≡ Ok tt
  unfolding fate_of back_of
  fate_none k prev w ps is z = rw z

  module _ (k : ℕ) (prev : Vec3) (w : Float) (ps : List Vec3) (is : List ℕ) (some : 0 < k) where
    -- by the turn on plane k - 1
    abbrev next : Result Vec3 Lost → Type 0
    next (Err e) = fate_of (back_of tri fade plane image k prev w ps is) ≡ Err e
    next (Ok q) = fate_of (back_of tri fade plane image k prev w ps is) ≡ fate_of (back_of tri fade plane image (k - 1) q w ps is)

    pub fate_next : (v : Vec3) (t : Result Vec3 Lost) → v ≡ image k → t ≡ turn_of (bounce_of tri fade (plane (k - 1)) prev v) → next t
    unfolding fate_of
    fate_next v t at e =
        subst⁻¹ next (e ∙ ap (λ (u : Vec3). turn_of (bounce_of tri fade (plane (k - 1)) prev u)) at) (by (bounce_of tri fade (plane (k - 1)) prev (image k)) refl)
      where
        step :
            (b : Bounce) → b ≡ bounce_of tri fade (plane (k - 1)) prev (image k) →
            back_of tri fade plane image k prev w ps is ≡ then_of (λ i u q. back_of tri fade plane image (k - 1) q (mul binary32 w u) (q ∷ ps) (i ∷ is)) b
        step b f = back_step tri fade plane image k prev w ps is b (λ z. omega arith) f

        by : (b : Bounce) → b ≡ bounce_of tri fade (plane (k - 1)) prev (image k) → next (turn_of b)
        by (Err NotCrossed) f = ap fate_of (step (Err NotCrossed) f)
        by (Err OffSurface) f = ap fate_of (step (Err OffSurface) f)
        by (Ok (i, u, q)) f = ap fate_of (step (Ok (i, u, q)) f) ∙ fate_any (k - 1) q (mul binary32 w u) w (q ∷ ps) ps (i ∷ is) is

-- ---- what a way back depends on

then_ext : (f g : ℕ → Float → Vec3 → Bounces) (b : Bounce) → ((i : ℕ) (w : Float) (q : Vec3) → f i w q ≡ g i w q) → then_of f b ≡ then_of g b
then_ext f g (Err NotCrossed) same = refl
then_ext f g (Err OffSurface) same = refl
then_ext f g (Ok (i, w, q)) same = same i w q

module _ (tri : ℕ → Triangle) (fade : Float) (plane plane' : ℕ → Plane) (image image' : ℕ → Vec3) where
  pub back_ext :
      (k : ℕ) (prev : Vec3) (weight : Float) (ps : List Vec3) (is : List ℕ) →
      ((j : ℕ) → j < k → plane j ≡ plane' j) → ((j : ℕ) → j ≤ k → image j ≡ image' j) →
      back_of tri fade plane image k prev weight ps is ≡ back_of tri fade plane' image' k prev weight ps is
  unfolding back_of
  back_ext zero prev weight ps is ep ei = refl
  back_ext (suc k) prev weight ps is ep ei =
      ap (λ (b : Bounce). then_of (λ i w q. back_of tri fade plane image k q (mul binary32 weight w) (q ∷ ps) (i ∷ is)) b) turn
      ∙ then_ext (λ i w q. back_of tri fade plane image k q (mul binary32 weight w) (q ∷ ps) (i ∷ is))
      (λ i w q. back_of tri fade plane' image' k q (mul binary32 weight w) (q ∷ ps) (i ∷ is))
      (bounce_of tri fade (plane' k) prev (image' (suc k)))
      (λ i w q. back_ext k q (mul binary32 weight w) (q ∷ ps) (i ∷ is) (λ j h. ep j (omega arith)) (λ j h. ei j (omega arith)))
    where
      turn : bounce_of tri fade (plane k) prev (image (suc k)) ≡ bounce_of tri fade (plane' k) prev (image' (suc k))
      turn = rw (ep k (omega arith), ei (suc k) (omega arith))

-- ---- planes in areas

-- `planes[p]`, from its row
pub plane_row :
    (floats : List Float) (words members : List ℕ) (edges : List Float) (count p : ℕ) → p < count →
    nth_plane (planes_in floats words members edges count) p
    ≡ row_plane (row_of floats words p) (tris_of (row_of floats words p) members) (border_of (row_of floats words p) edges)
unfolding plane_in
plane_row floats words members edges count p h = plane_at_lem floats words members edges count p h
