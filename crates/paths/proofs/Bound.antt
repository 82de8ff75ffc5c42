-- How many rays a path takes, over any limit: 'an image of order n then costs at most 18 × (limit + 1) × (n + 1) rays' (document 02, note 12).
use mathlib.Core.Path.{◌≡◌}
use mathlib.Core.List.{List, [], ◌∷◌}
use mathlib.Core.Bool.{Bool, true, false, cond}
use Prim.Native.Nat.{ℕ, zero, suc, ◌+◌, ◌*◌, ◌≤◌}
use native.Mathlib.Omega.{arith}
use lib.Ieee.{Float, le, binary32, mul}
use lib.ListN.{length}
use Rattle.float.specs.Literals.{one32}
use Rattle.vector.specs.declared.Vec3.{Vec3}
use Rattle.vector.specs.Vector.{distance3_of}
use Rattle.geometry.specs.declared.Triangle.{Triangle}
use Rattle.tree_build.specs.Tree.{Tree}
use Rattle.scene.specs.declared.Settings.{Settings}
use Rattle.mirror.specs.Plane.{Plane}
use Rattle.segments.specs.declared.Transmission.{Transmission}
use Rattle.segments.specs.Materials.{transmission_of_handle}
use Rattle.segments.specs.Segment.{segment_soft_transmission_of}
use Rattle.segments.specs.Areas.{trace_in}
use Rattle.segments.proofs.Laws.{soft_bound}
use Rattle.bounces.specs.declared.Lost.TheVariants.{NotCrossed, OffSurface}
use Rattle.std.specs.Prelude.{Ok, Err}
use Rattle.bounces.specs.Image.{image_of, image_at}
use Rattle.bounces.specs.Bounces.{Bounce, bounce_of, Bounces, not_crossed, off_surface, made, then_of, back_of, plane_on, bounces_of}
use Rattle.paths.specs.declared.Way.{Way}
use Rattle.paths.specs.declared.Fate.TheVariants.{TooFar}
use Rattle.paths.specs.Visibility.{start_of, go_of, go_all_of, way_of}
use Rattle.paths.specs.Path.{verdict, bounced_of, path_with, path_of}

-- ---- as many bounces as planes

abbrev pub Long : ℕ → Bounces → Type 0
Long n not_crossed = Unit {0}
Long n off_surface = Unit {0}
Long n (made points tris weight) = length points ≡ n

then_long : (n : ℕ) (f : ℕ → Float → Vec3 → Bounces) (b : Bounce) → ((i : ℕ) (w : Float) (q : Vec3) → Long n (f i w q)) → Long n (then_of f b)
then_long n f (Err NotCrossed) all = tt
then_long n f (Err OffSurface) all = tt
then_long n f (Ok (i, w, q)) all = all i w q

pub back_long :
    (tri : ℕ → Triangle) (fade : Float) (plane : ℕ → Plane) (image : ℕ → Vec3) (k : ℕ) (prev : Vec3) (weight : Float) (ps : List Vec3) (is : List ℕ) (n : ℕ) →
    k + length ps ≡ n → Long n (back_of tri fade plane image k prev weight ps is)
unfolding back_of
back_long tri fade plane image zero prev weight ps is n e = let f : length ps ≡ n = omega arith in f
back_long tri fade plane image (suc k) prev weight ps is n e =
    then_long n (λ i w q. back_of tri fade plane image k q (mul binary32 weight w) (q ∷ ps) (i ∷ is)) (bounce_of tri fade (plane k) prev (image (suc k)))
    (λ i w q. let f : k + suc (length ps) ≡ n = omega arith in back_long tri fade plane image k q (mul binary32 weight w) (q ∷ ps) (i ∷ is) n f)

-- ---- segments of at most m rays each

module _ (soft : Vec3 → Vec3 → Transmission) (m : ℕ) (few : (a b : Vec3) → (soft a b).rays ≤ m) where
  go_bound : (to : Vec3) (w : Way) → (go_of soft to w).rays ≤ w.rays + m
  unfolding go_of
  go_bound to w = let f : (soft w.from to).rays ≤ m = few w.from to in omega arith

  go_all_bound : (w : Way) (bs : List Vec3) → (go_all_of soft w bs).rays ≤ w.rays + m * length bs
  unfolding go_all_of
  go_all_bound w [] = let f : m * 0 ≡ 0 = omega arith in omega arith
  go_all_bound w (b ∷ bs) =
      let rest : (go_all_of soft w bs).rays ≤ w.rays + m * length bs = go_all_bound w bs in
      let last : (go_of soft b (go_all_of soft w bs)).rays ≤ (go_all_of soft w bs).rays + m = go_bound b (go_all_of soft w bs) in
      omega arith

  way_bound : (listener source : Vec3) (bs : List Vec3) → (way_of soft listener source bs).rays ≤ m * (length bs + 1)
  unfolding way_of start_of
  way_bound listener source bs =
      let rest : (go_all_of soft (start_of listener) bs).rays ≤ 0 + m * length bs = go_all_bound (start_of listener) bs in
      let last : (go_of soft source (go_all_of soft (start_of listener) bs)).rays ≤ (go_all_of soft (start_of listener) bs).rays + m = go_bound source (go_all_of soft (start_of listener) bs) in
      omega arith

  bounced_bound :
      (s : Settings) (materials : List Float) (tri : ℕ → Triangle) (n : ℕ) (source listener : Vec3) (b : Bounces) → Long n b →
      (bounced_of soft s materials tri n source listener b).rays ≤ m * (n + 1)
  unfolding bounced_of
  bounced_bound s materials tri n source listener not_crossed long = omega arith
  bounced_bound s materials tri n source listener off_surface long = omega arith
  bounced_bound s materials tri n source listener (made points tris weight) long = rw long at (way_bound listener source points)

-- ---- a path

module _ (s : Settings) (planes : List Plane) (tri : ℕ → Triangle) (t : Tree) (materials : List Float) (source listener : Vec3) (seq : List ℕ) where
  pub path_bound : (limit : ℕ) (radius : Float) → (path_with limit radius s planes tri t materials source listener seq).rays ≤ 18 * (limit + 1) * (length seq + 1)
  unfolding path_with bounces_of
  path_bound limit radius = picked (le (distance3_of listener (image_of planes source seq)) s.max_reflection_distance) where
    soft : Vec3 → Vec3 → Transmission
    soft = segment_soft_transmission_of (trace_in tri t) (transmission_of_handle materials) limit radius

    found : Bounces
    found = back_of tri s.reflection_edge_fade (plane_on planes seq) (image_at planes source seq) (length seq) listener one32 [] []

    long : Long (length seq) found
    long =
        let e : length seq + 0 ≡ length seq = omega arith in
        back_long tri s.reflection_edge_fade (plane_on planes seq) (image_at planes source seq) (length seq) listener one32 [] [] (length seq) e

    picked : (b : Bool) → (cond b (bounced_of soft s materials tri (length seq) source listener found) (verdict TooFar 0)).rays ≤ 18 * (limit + 1) * (length seq + 1)
    picked true =
        bounced_bound soft (18 * (limit + 1)) (λ a b. soft_bound (trace_in tri t) (transmission_of_handle materials) limit radius a b) s materials tri (length seq) source listener found long
    picked false = omega arith

  -- with the limit of the settings
  pub path_rays : (path_of s planes tri t materials source listener seq).rays ≤ 18 * (s.crossing_limit + 1) * (length seq + 1)
  unfolding path_of
  path_rays = path_bound s.crossing_limit s.probe_radius
