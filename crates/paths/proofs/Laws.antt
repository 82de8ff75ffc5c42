-- Laws on the definitions: one step of each loop, and the path of a sequence whose images stand in a list.
use mathlib.Core.Path.{◌≡◌, refl, sym, ap, ◌∙◌}
use mathlib.Core.Bool.{Bool, true, false}
use mathlib.Core.List.{List, [], ◌∷◌, foldl}
use Prim.Native.Nat.{ℕ, suc, ◌+◌, ◌-◌, ◌*◌, ◌^◌, ◌<◌, ◌≤◌}
use native.Mathlib.Nat.{mul-le-mul}
use native.Mathlib.Numerals.{add-one}
use native.Mathlib.Omega.{arith}
use lib.Ieee.{Float, le}
use lib.ListN.{length, get_or, take}
use lib.Seq.{slice, slice-cons, slice_empty, get_or-take, length-take-le, take-take}
use Rattle.float.specs.Literals.{one32}
use Rattle.vector.specs.declared.Vec3.{Vec3}
use Rattle.vector.specs.Vector.{distance3_of}
use Rattle.geometry.specs.declared.Triangle.{Triangle}
use Rattle.tree_build.specs.Tree.{Tree}
use Rattle.scene.specs.declared.Settings.{Settings}
use Rattle.mirror.specs.Plane.{Plane, no_point, nth_plane}
use Rattle.segments.specs.declared.Transmission.{Transmission}
use Rattle.bounces.specs.Image.{image_of, image_at}
use Rattle.std.specs.Prelude.{Ok}
use Rattle.bounces.specs.Bounces.{Bounces, not_crossed, off_surface, made, back_of, plane_on, bounces_of}
use Rattle.bounces.specs.Areas.{max_order, fate_of}
use Rattle.bounces.proofs.Laws.{back_ext}
use Rattle.paths.specs.declared.Way.{Way}
use Rattle.paths.specs.declared.Fate.TheVariants.{TooFar, NotCrossed, OffSurface}
use Rattle.paths.specs.declared.Verdict.{Verdict}
use Rattle.paths.specs.Visibility.{go_of, go_all_of}
use Rattle.paths.specs.Path.{verdict, bounced_of, path_with, path_of}
use Rattle.paths.specs.Areas.{soft_in}

-- ---- the loops

module _ {A : Type 0} (l : List A) (d : A) (k n : ℕ) where
  slice_up : k < n → n ≤ length l → slice k n l ≡ get_or l k d ∷ slice (k + 1) n l
  slice_up h fits = rw add-one (slice-cons k n l d h fits)

  slice_down : 0 < k → k ≤ n → n ≤ length l → slice (k - 1) n l ≡ get_or l (k - 1) d ∷ slice k n l
  slice_down low high fits =
      let next : suc (k - 1) ≡ k = omega arith in
      let below : k - 1 < n = omega arith in
      rw next at (slice-cons (k - 1) n l d below fits)

-- one segment more
pub go_step :
    (soft : Vec3 → Vec3 → Transmission) (w : Way) (points : List Vec3) (k n : ℕ) → 0 < k → k ≤ n → n ≤ length points →
    go_all_of soft w (slice (k - 1) n points) ≡ go_of soft (get_or points (k - 1) no_point) (go_all_of soft w (slice k n points))
unfolding go_all_of
go_step soft w points k n low high fits = rw (slice_down points no_point k n low high fits)

pub go_none : (soft : Vec3 → Vec3 → Transmission) (w : Way) (points : List Vec3) (n : ℕ) → go_all_of soft w (slice n n points) ≡ w
unfolding go_all_of
go_none soft w points n = rw (slice_empty n points)

-- the rays of the segments from k on, of at most m each, b before them
pub ways_more : (m b d d' n r : ℕ) → n ≤ b + m * d → r ≤ n + m → d' ≡ d + 1 → r ≤ b + m * d'
ways_more m b d d' n r h l e = rw e (let f : r ≤ b + m * (d + 1) = omega arith in f)

pub ways_fit : (m order k b n : ℕ) → n ≤ b + m * (order - k) → b ≡ 0 → order ≤ max_order → m * (max_order + 1) < 2 ^ 32 → n + m < 2 ^ 32
ways_fit m order k b n h z few fits =
    let same : m ≤ m = omega arith in
    let less : order - k ≤ max_order = omega arith in
    let a : m * (order - k) ≤ m * max_order = mul-le-mul same less in
    omega arith

pub ways_all : (m order k b n r : ℕ) → n ≤ b + m * (order - k) → b ≡ 0 → k ≡ 0 → r ≤ n + m → r ≤ m * (order + 1)
ways_all m order k b n r h z end l =
    let e : order - k ≡ order = omega arith in
    let a : n ≤ b + m * order = rw e at h in
    omega arith

-- a fold over a part of an array
module _ {B : Type 0} (f : B → ℕ → B) (g : B) (l : List ℕ) (k n : ℕ) where
  pub fold_step : k < n → n ≤ length l → foldl f g (slice k n l) ≡ foldl f (f g (get_or l k 0)) (slice (k + 1) n l)
  fold_step h fits = rw (slice_up l 0 k n h fits)

  pub fold_done : k ≡ n → foldl f g (slice k n l) ≡ g
  fold_done e = rw (e, slice_empty n l)

-- the last of the points taken
pub last_taken : (points : List Vec3) (n : ℕ) → 0 < n → get_or (take n points) (n - 1) no_point ≡ get_or points (n - 1) no_point
last_taken points n h = get_or-take n points (n - 1) no_point (omega arith)

-- ---- the path, once its images are known

-- the bounces of its sequence
pub path_bounces :
    (planes : List Plane) (tri : ℕ → Triangle) (source listener : Vec3) (seq : List ℕ) (image : ℕ → Vec3) (n : ℕ) → n ≤ length seq →
    ((j : ℕ) → j ≤ n → image j ≡ image_of planes source (take j seq)) → (fade : Float) →
    back_of tri fade (plane_on planes seq) image n listener one32 [] [] ≡ bounces_of tri fade planes source listener (take n seq)
unfolding bounces_of
path_bounces planes tri source listener seq image n fits are fade =
    let long : length (take n seq) ≡ n = length-take-le n seq fits in
    let same :
    back_of tri fade (plane_on planes seq) image n listener one32 [] []
    ≡ back_of tri fade (plane_on planes (take n seq)) (image_at planes source (take n seq)) n listener one32 [] [] =
    back_ext tri fade (plane_on planes seq) (plane_on planes (take n seq)) image (image_at planes source (take n seq)) n listener one32 [] []
    (λ j b. ap (nth_plane planes) (sym (get_or-take n seq j 0 b)))
    (λ j b. are j b ∙ ap (image_of planes source) (sym (take-take j n seq b))) in
    rw (long, same)

module _ (s : Settings) (planes : List Plane) (tri : ℕ → Triangle) (t : Tree) (materials : List Float) (source listener : Vec3) (seq : List ℕ)
    (image : ℕ → Vec3) (n : ℕ) (fits : n ≤ length seq) (are : (j : ℕ) → j ≤ n → image j ≡ image_of planes source (take j seq)) where
  pub path_far :
      le (distance3_of listener (image n)) s.max_reflection_distance ≡ false →
      verdict TooFar 0 ≡ path_of s planes tri t materials source listener (take n seq)
  unfolding path_of path_with
  path_far h = rw (← are n (omega arith), h)

  pub path_near :
      le (distance3_of listener (image n)) s.max_reflection_distance ≡ true →
      bounced_of (soft_in s.crossing_limit s.probe_radius tri t materials) s materials tri n source listener
      (back_of tri s.reflection_edge_fade (plane_on planes seq) image n listener one32 [] [])
      ≡ path_of s planes tri t materials source listener (take n seq)
  unfolding path_of path_with
  path_near h =
      let long : length (take n seq) ≡ n = length-take-le n seq fits in
      rw (long, ← are n (omega arith), h, path_bounces planes tri source listener seq image n fits are s.reflection_edge_fade)

  -- where not all bounces are made no ray is traced, whatever the distance
  pub path_lost :
      {A : Type 0} (f : Verdict → A) (x : A) → f (verdict TooFar 0) ≡ x → f (verdict NotCrossed 0) ≡ x → f (verdict OffSurface 0) ≡ x →
      (fate_of (back_of tri s.reflection_edge_fade (plane_on planes seq) image n listener one32 [] []) ≡ Ok tt → ⊥) →
      f (path_of s planes tri t materials source listener (take n seq)) ≡ x
  unfolding bounced_of fate_of
  path_lost {A} f x far uncrossed off ne = by (le (distance3_of listener (image n)) s.max_reflection_distance) refl where
    bounced :
        (b : Bounces) → (fate_of b ≡ Ok tt → ⊥) →
        f (bounced_of (soft_in s.crossing_limit s.probe_radius tri t materials) s materials tri n source listener b) ≡ x
    bounced not_crossed k = uncrossed
    bounced off_surface k = off
    bounced (made points tris weight) k = absurd (k refl)

    by : (b : Bool) → le (distance3_of listener (image n)) s.max_reflection_distance ≡ b → f (path_of s planes tri t materials source listener (take n seq)) ≡ x
    by true h = sym (ap f (path_near h)) ∙ bounced (back_of tri s.reflection_edge_fade (plane_on planes seq) image n listener one32 [] []) ne
    by false h = sym (ap f (path_far h)) ∙ far
