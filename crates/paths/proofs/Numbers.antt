-- The candidate of a path is a number in all its parts, where distance, temperature and rate lie within their limits: its energy was tested; its
-- delay is a length up to 1,000 times the rate by the speed, which the temperature bounds (`Speed`); and its direction is that of the first segment, whose length is a part of the whole.
use mathlib.Core.Path.{◌≡◌, refl}
use mathlib.Core.Bool.{Bool, true, false, not, cond, ◌&&◌}
use mathlib.Core.List.{List, [], ◌∷◌}
use Prim.Native.Nat.{ℕ, ◌+◌, ◌-◌, ◌<◌}
use native.Mathlib.Omega.{arith}
use lib.Dec.{T}
use lib.ListN.{length, get_or}
use lib.Ieee.{Float, nan, inf, fin, binary32, add, mul, div, lt, le, eq, fits, is_nan, of_bits}
use lib.Ieee.Positive.{positive, le_trans_positive}
use lib.Ieee.Bits.{of_bits-fits}
use lib.Ieee.Fits.{and_l, and_r, add-fits, mul-fits, div-fits}
use Rattle.float.specs.Literals.{zero32, one32}
use Rattle.float.specs.Compare.{is_finite}
use Rattle.vector.specs.declared.Vec3.{Vec3}
use Rattle.vector.specs.Vector.{vec, dot3_of, sub3_of, length3_of, distance3_of, tiny, normalize3_of}
use Rattle.geometry.specs.declared.Triangle.{Triangle}
use Rattle.bands.specs.declared.Band8.{Band8}
use Rattle.bands.specs.Band8.{mul_of, sum_of_squares_of}
use Rattle.tree_build.specs.Tree.{Tree}
use Rattle.scene.specs.declared.Settings.{Settings}
use Rattle.scene.specs.Limits.{least_temperature, most_temperature, least_rate, most_rate, most_distance, between_of, above_zero_of, rates_of}
use Rattle.scene.specs.Speed.{speed_of}
use Rattle.mirror.specs.Plane.{Plane, no_point}
use Rattle.segments.specs.declared.Transmission.{Transmission}
use Rattle.segments.specs.Materials.{transmission_of_handle}
use Rattle.segments.specs.Segment.{segment_soft_transmission_of}
use Rattle.segments.specs.Areas.{trace_in}
use Rattle.segments.proofs.Turned.{distance_turned}
use Rattle.bounces.specs.Image.{image_of, image_at}
use Rattle.bounces.specs.Bounces.{Bounces, not_crossed, off_surface, made, back_of, plane_on, bounces_of}
use Rattle.paths.specs.declared.PathCandidate.{PathCandidate}
use Rattle.paths.specs.declared.Way.{Way}
use Rattle.paths.specs.declared.Fate.{Fate}
use Rattle.paths.specs.declared.Fate.TheVariants.{TooFar, NotCrossed, OffSurface, TooLong, Faded, Blocked, Faint, Passed}
use Rattle.paths.specs.Visibility.{start_of, go_of, go_all_of, way_of}
use Rattle.paths.specs.Gains.{least_energy, least_weight, least_blocker, usable_of, reflected_of, gains_of, rejected_of, candidate_of, arrived_of}
use Rattle.paths.specs.Path.{verdict, last_of, bounced_of, path_with}
use Rattle.paths.specs.Numbers.{is_number, Fits3, Fits8, Finite3, Finite8, Numbers8, NotBelow8, Numbers}
use Rattle.paths.proofs.Bound.{Long, back_long}
use Rattle.paths.proofs.Floats.{above_number, number_left, number_right, finite_left, finite_right, number_square, finite_square, finite_root}
use Rattle.paths.proofs.Signs.{NotNegative, one_not_negative, below_none}
use Rattle.paths.proofs.Levels.{Weight, back_weight}
use Rattle.paths.proofs.Bands.{NotNegative8, mul8, transmission8, soft8, way8, gains8}
use Rattle.paths.proofs.Ranges.{positive_of, le_of_not_lt, least_speed, most_speed, delay_positive, quotient_finite}
use Rattle.paths.proofs.Speed.{speed_within}

-- ---- the settings

pub record Rates (s : Settings) : Type 0 where
  pub far : T (positive s.max_reflection_distance)
  pub near : T (le s.max_reflection_distance most_distance)
  pub slow : T (le least_speed (speed_of s.temperature_celsius))
  pub fast : T (le (speed_of s.temperature_celsius) most_speed)
  pub seldom : T (le least_rate s.sample_rate)
  pub often : T (le s.sample_rate most_rate)

-- a value above 0 and not above a finite one
held_finite : (x high : Float) → T (is_finite high) → T (lt zero32 x) → T (le x high) → T (is_finite x)
unfolding is_finite le lt eq of_bits
held_finite x nan g l h = absurd g
held_finite x (inf t) g l h = absurd g
held_finite nan (fin t n d) g l h = absurd l
held_finite (inf true) (fin t n d) g l h = absurd l
held_finite (inf false) (fin t n d) g l h = absurd h
held_finite (fin s m e) (fin t n d) g l h = tt

held_positive : (x high : Float) → T (is_finite high) → T (lt zero32 x) → T (le x high) → T (positive x)
held_positive x high g l h = positive_of x (held_finite x high g l h) l

pub rates_within : (s : Settings) → T (rates_of s.max_reflection_distance s.temperature_celsius s.sample_rate) → Rates s
unfolding rates_of between_of above_zero_of of_bits is_finite
rates_within s h =
    let distance = s.max_reflection_distance in
    let t = s.temperature_celsius in
    let rate = s.sample_rate in
    let held = and_l (lt zero32 distance && le distance most_distance) ((le least_temperature t && le t most_temperature) && (le least_rate rate && le rate most_rate)) h in
    let two = and_r (lt zero32 distance && le distance most_distance) ((le least_temperature t && le t most_temperature) && (le least_rate rate && le rate most_rate)) h in
    let mild = and_l (le least_temperature t && le t most_temperature) (le least_rate rate && le rate most_rate) two in
    let sampled = and_r (le least_temperature t && le t most_temperature) (le least_rate rate && le rate most_rate) two in
    let speed = speed_within t (and_l (le least_temperature t) (le t most_temperature) mild) (and_r (le least_temperature t) (le t most_temperature) mild) in
    record {
      far = held_positive distance most_distance tt (and_l (lt zero32 distance) (le distance most_distance) held) (and_r (lt zero32 distance) (le distance most_distance) held);
      near = and_r (lt zero32 distance) (le distance most_distance) held;
      slow = speed.below;
      fast = speed.above;
      seldom = and_l (le least_rate rate) (le rate most_rate) sampled;
      often = and_r (le least_rate rate) (le rate most_rate) sampled;
    }

-- ---- gains, direction, delay

gains_numbers : (g : Band8) → T (is_number (sum_of_squares_of g)) → Numbers8 g
unfolding sum_of_squares_of
gains_numbers g h7 =
    let h6 = number_left binary32 _ _ h7 in
    let h5 = number_left binary32 _ _ h6 in
    let h4 = number_left binary32 _ _ h5 in
    let h3 = number_left binary32 _ _ h4 in
    let h2 = number_left binary32 _ _ h3 in
    let h1 = number_left binary32 _ _ h2 in
    let h0 = number_left binary32 _ _ h1 in
    record {
      n0 = number_square binary32 g.b0 (number_right binary32 _ _ h0);
      n1 = number_square binary32 g.b1 (number_right binary32 _ _ h1);
      n2 = number_square binary32 g.b2 (number_right binary32 _ _ h2);
      n3 = number_square binary32 g.b3 (number_right binary32 _ _ h3);
      n4 = number_square binary32 g.b4 (number_right binary32 _ _ h4);
      n5 = number_square binary32 g.b5 (number_right binary32 _ _ h5);
      n6 = number_square binary32 g.b6 (number_right binary32 _ _ h6);
      n7 = number_square binary32 g.b7 (number_right binary32 _ _ h7);
    }

-- a finite energy has finite gains
pub gains_finite : (g : Band8) → T (is_finite (sum_of_squares_of g)) → Finite8 g
unfolding sum_of_squares_of
gains_finite g h7 =
    let h6 = finite_left binary32 _ _ h7 in
    let h5 = finite_left binary32 _ _ h6 in
    let h4 = finite_left binary32 _ _ h5 in
    let h3 = finite_left binary32 _ _ h4 in
    let h2 = finite_left binary32 _ _ h3 in
    let h1 = finite_left binary32 _ _ h2 in
    let h0 = finite_left binary32 _ _ h1 in
    record {
      f0 = finite_square binary32 g.b0 (finite_right binary32 _ _ h0);
      f1 = finite_square binary32 g.b1 (finite_right binary32 _ _ h1);
      f2 = finite_square binary32 g.b2 (finite_right binary32 _ _ h2);
      f3 = finite_square binary32 g.b3 (finite_right binary32 _ _ h3);
      f4 = finite_square binary32 g.b4 (finite_right binary32 _ _ h4);
      f5 = finite_square binary32 g.b5 (finite_right binary32 _ _ h5);
      f6 = finite_square binary32 g.b6 (finite_right binary32 _ _ h6);
      f7 = finite_square binary32 g.b7 (finite_right binary32 _ _ h7);
    }

module _ (v : Vec3) (h : T (is_finite (length3_of v))) where
  square_finite : T (is_finite (dot3_of v v))
  unfolding length3_of
  square_finite = finite_root (dot3_of v v) h

  xy_finite : T (is_finite (add binary32 (mul binary32 v.x v.x) (mul binary32 v.y v.y)))
  unfolding dot3_of
  xy_finite = finite_left binary32 _ (mul binary32 v.z v.z) square_finite

  x_finite : T (is_finite (mul binary32 v.x v.x))
  x_finite = finite_left binary32 _ (mul binary32 v.y v.y) xy_finite

  y_finite : T (is_finite (mul binary32 v.y v.y))
  y_finite = finite_right binary32 (mul binary32 v.x v.x) _ xy_finite

  z_finite : T (is_finite (mul binary32 v.z v.z))
  unfolding dot3_of
  z_finite = finite_right binary32 (add binary32 (mul binary32 v.x v.x) (mul binary32 v.y v.y)) _ square_finite

  upward : Finite3 (vec zero32 zero32 one32)
  unfolding of_bits is_finite
  upward = record { fx = tt; fy = tt; fz = tt }

  direction_finite : Finite3 (normalize3_of v)
  unfolding normalize3_of
  direction_finite = picked (lt tiny (length3_of v)) (λ b. b) where
    picked :
        (b : Bool) → (T b → T (lt tiny (length3_of v))) →
        Finite3 (cond b (vec (div binary32 v.x (length3_of v)) (div binary32 v.y (length3_of v)) (div binary32 v.z (length3_of v))) (vec zero32 zero32 one32))
    picked true f =
        record {
          fx = quotient_finite v.x (length3_of v) x_finite h (f tt);
          fy = quotient_finite v.y (length3_of v) y_finite h (f tt);
          fz = quotient_finite v.z (length3_of v) z_finite h (f tt);
        }
    picked false f = upward

direction_fits : (v : Vec3) → Fits3 (normalize3_of v)
unfolding normalize3_of
direction_fits v = picked (lt tiny (length3_of v)) where
  picked : (b : Bool) → Fits3 (cond b (vec (div binary32 v.x (length3_of v)) (div binary32 v.y (length3_of v)) (div binary32 v.z (length3_of v))) (vec zero32 zero32 one32))
  picked true = record { hx = div-fits binary32 _ _; hy = div-fits binary32 _ _; hz = div-fits binary32 _ _ }
  picked false = record { hx = of_bits-fits binary32 0; hy = of_bits-fits binary32 0; hz = of_bits-fits binary32 0x3f80_0000 }

product_fits : (a b : Band8) → Fits8 (mul_of a b)
unfolding mul_of
product_fits a b =
    record {
      h0 = mul-fits binary32 a.b0 b.b0;
      h1 = mul-fits binary32 a.b1 b.b1;
      h2 = mul-fits binary32 a.b2 b.b2;
      h3 = mul-fits binary32 a.b3 b.b3;
      h4 = mul-fits binary32 a.b4 b.b4;
      h5 = mul-fits binary32 a.b5 b.b5;
      h6 = mul-fits binary32 a.b6 b.b6;
      h7 = mul-fits binary32 a.b7 b.b7;
    }

pub energy_fits : (g : Band8) → T (fits binary32 (sum_of_squares_of g))
unfolding sum_of_squares_of
energy_fits g = add-fits binary32 _ _

most_positive : T (positive most_distance)
unfolding of_bits
most_positive = tt

-- a length that is used
pub record Used (s : Settings) (total : Float) : Type 0 where
  pub fitting : T (fits binary32 total)
  pub finite : T (is_finite total)
  pub above : T (lt zero32 total)
  pub within : T (not (lt s.max_reflection_distance total))

candidate_delay : (s : Settings) (total : Float) → Rates s → Used s total → T (positive (div binary32 (mul binary32 total s.sample_rate) (speed_of s.temperature_celsius)))
candidate_delay s total r u =
    let p = positive_of total u.finite u.above in
    let far = s.max_reflection_distance in
    delay_positive total s.sample_rate (speed_of s.temperature_celsius) p u.fitting
    (le_trans_positive total far most_distance p r.far most_positive (le_of_not_lt total far p r.far u.within) r.near)
    r.seldom r.often r.slow r.fast

positive_number : (x : Float) → T (positive x) → T (is_number x)
unfolding is_nan
positive_number nan h = absurd h
positive_number (inf s) h = absurd h
positive_number (fin s m e) h = tt

not_below8 : (g : Band8) → NotNegative8 g → NotBelow8 g
not_below8 g h =
    record {
      p0 = below_none g.b0 h.p0;
      p1 = below_none g.b1 h.p1;
      p2 = below_none g.b2 h.p2;
      p3 = below_none g.b3 h.p3;
      p4 = below_none g.b4 h.p4;
      p5 = below_none g.b5 h.p5;
      p6 = below_none g.b6 h.p6;
      p7 = below_none g.b7 h.p7;
    }

candidate_numbers :
    (s : Settings) (last listener : Vec3) (total : Float) (g : Band8) → Rates s → Used s total → T (is_finite (distance3_of listener last)) →
    T (lt least_energy (sum_of_squares_of g)) → Fits8 g → NotNegative8 g → Numbers (candidate_of s last listener total g)
unfolding candidate_of
candidate_numbers s last listener total g r u near above fit level =
    let number = above_number least_energy (sum_of_squares_of g) above in
    record {
      energy_is = refl;
      energy_above = above;
      energy_fits = energy_fits g;
      energy_number = number;
      delay_fits = div-fits binary32 (mul binary32 total s.sample_rate) (speed_of s.temperature_celsius);
      delay_number = positive_number _ (candidate_delay s total r u);
      delay_positive = candidate_delay s total r u;
      gains_fit = fit;
      gains_numbers = gains_numbers g number;
      gains_not_below = not_below8 g level;
      direction_fits = direction_fits (sub3_of last listener);
      direction_finite = direction_finite (sub3_of last listener) (rw (distance_turned listener last) at near);
    }

-- ---- the way's first segment

-- a finite whole has a finite first segment, that from the listener to the last bounce
first_finite :
    (soft : Vec3 → Vec3 → Transmission) (listener b : Vec3) (bs : List Vec3) → T (is_finite (go_all_of soft (start_of listener) (b ∷ bs)).total) →
    T (is_finite (distance3_of listener (get_or (b ∷ bs) (length bs) no_point)))
unfolding go_all_of go_of start_of
first_finite soft listener b [] h = finite_right binary32 zero32 (distance3_of listener b) h
first_finite soft listener b (c ∷ bs) h = first_finite soft listener c bs (finite_left binary32 _ _ h)

last_finite :
    (soft : Vec3 → Vec3 → Transmission) (listener source : Vec3) (n : ℕ) (points : List Vec3) → length points ≡ n → 0 < n → T (is_finite (way_of soft listener source points).total) →
    T (is_finite (distance3_of listener (last_of points n)))
unfolding way_of go_of
last_finite soft listener source n [] e some h = let no : ⊥ = omega arith in absurd no
last_finite soft listener source n (b ∷ bs) e some h =
    let at : n - 1 ≡ length bs = omega arith in
    rw at (first_finite soft listener b bs (finite_left binary32 _ _ h))

-- ---- the fates

abbrev Sound : Fate → Type 0
Sound TooFar = Unit {0}
Sound NotCrossed = Unit {0}
Sound OffSurface = Unit {0}
Sound TooLong = Unit {0}
Sound Faded = Unit {0}
Sound Blocked = Unit {0}
Sound Faint = Unit {0}
Sound (Passed c) = Numbers c

rejected_sound : (weight : Float) (blocker : Band8) → Sound (rejected_of weight blocker)
unfolding rejected_of
rejected_sound weight blocker = picked (lt weight least_weight) (lt (sum_of_squares_of blocker) least_blocker) where
  picked : (a b : Bool) → Sound (cond a Faded (cond b Blocked Faint))
  picked true b = tt
  picked false true = tt
  picked false false = tt

arrived_sound :
    (s : Settings) (last listener : Vec3) (total weight : Float) (g blocker : Band8) → Rates s → Used s total → T (is_finite (distance3_of listener last)) →
    NotNegative8 g → NotNegative8 blocker → Sound (arrived_of s last listener total weight g blocker)
unfolding arrived_of
arrived_sound s last listener total weight g blocker r u near level blocked = picked (lt least_energy (sum_of_squares_of g)) (lt least_energy (sum_of_squares_of (mul_of g blocker))) (λ b. b) where
  picked :
      (a b : Bool) → (T b → T (lt least_energy (sum_of_squares_of (mul_of g blocker)))) →
      Sound (cond a (cond b (Passed (candidate_of s last listener total (mul_of g blocker))) (rejected_of weight blocker)) Faint)
  picked true true f = candidate_numbers s last listener total (mul_of g blocker) r u near (f tt) (product_fits g blocker) (mul8 g blocker level blocked)
  picked true false f = rejected_sound weight blocker
  picked false b f = tt

module _ (soft : Vec3 → Vec3 → Transmission) (s : Settings) (materials : List Float) (tri : ℕ → Triangle) (n : ℕ) (source listener : Vec3) (r : Rates s) (some : 0 < n)
    (all : (a b : Vec3) → NotNegative8 (soft a b).gain) where
  gone_sound :
      (points : List Vec3) (tris : List ℕ) (weight : Float) (w : Way) → T (fits binary32 w.total) → NotNegative weight → NotNegative8 w.gain →
      (T (is_finite w.total) → T (is_finite (distance3_of listener (last_of points n)))) →
      Sound (cond (usable_of w.total s.max_reflection_distance)
      (arrived_of s (last_of points n) listener w.total weight (gains_of s.distance_model s.air (reflected_of materials tri tris) w.total weight) w.gain) TooLong)
  unfolding usable_of
  gone_sound points tris weight w fitting heavy blocked near =
      picked (is_finite w.total) (lt zero32 w.total) (not (lt s.max_reflection_distance w.total)) (λ b. b) (λ b. b) (λ b. b)
    where
      picked :
          (a b c : Bool) → (T a → T (is_finite w.total)) → (T b → T (lt zero32 w.total)) → (T c → T (not (lt s.max_reflection_distance w.total))) →
          Sound (cond (a && (b && c))
          (arrived_of s (last_of points n) listener w.total weight (gains_of s.distance_model s.air (reflected_of materials tri tris) w.total weight) w.gain) TooLong)
      picked true true true f g h =
          arrived_sound s (last_of points n) listener w.total weight _ w.gain r (record { fitting = fitting; finite = f tt; above = g tt; within = h tt }) (near (f tt))
          (gains8 s.distance_model s.air materials tri tris w.total weight heavy) blocked
      picked true true false f g h = tt
      picked true false c f g h = tt
      picked false b c f g h = tt

  way_fits : (points : List Vec3) → T (fits binary32 (way_of soft listener source points).total)
  unfolding way_of go_of
  way_fits points = add-fits binary32 _ _

  bounced_sound : (b : Bounces) → Long n b → Weight b → Sound (bounced_of soft s materials tri n source listener b).fate
  unfolding bounced_of
  bounced_sound not_crossed long heavy = tt
  bounced_sound off_surface long heavy = tt
  bounced_sound (made points tris weight) long heavy =
      gone_sound points tris weight (way_of soft listener source points) (way_fits points) heavy (way8 soft all listener source points) (last_finite soft listener source n points long some)

-- ---- a path

module _ (limit : ℕ) (radius : Float) (s : Settings) (planes : List Plane) (tri : ℕ → Triangle) (t : Tree) (materials : List Float) (source listener : Vec3) (seq : List ℕ) where
  path_sound : Rates s → 0 < length seq → Sound (path_with limit radius s planes tri t materials source listener seq).fate
  unfolding path_with bounces_of
  path_sound r some = picked (le (distance3_of listener (image_of planes source seq)) s.max_reflection_distance) where
    soft : Vec3 → Vec3 → Transmission
    soft = segment_soft_transmission_of (trace_in tri t) (transmission_of_handle materials) limit radius

    found : Bounces
    found = back_of tri s.reflection_edge_fade (plane_on planes seq) (image_at planes source seq) (length seq) listener one32 [] []

    long : Long (length seq) found
    long =
        let e : length seq + 0 ≡ length seq = omega arith in
        back_long tri s.reflection_edge_fade (plane_on planes seq) (image_at planes source seq) (length seq) listener one32 [] [] (length seq) e

    heavy : Weight found
    heavy =
        back_weight tri s.reflection_edge_fade (plane_on planes seq) (image_at planes source seq) (length seq) listener one32 [] [] one_not_negative

    picked : (b : Bool) → Sound (cond b (bounced_of soft s materials tri (length seq) source listener found) (verdict TooFar 0)).fate
    picked true = bounced_sound soft s materials tri (length seq) source listener r some (soft8 (trace_in tri t) (transmission_of_handle materials) (transmission8 materials) limit radius) found long heavy
    picked false = tt

  pub path_numbers :
      T (rates_of s.max_reflection_distance s.temperature_celsius s.sample_rate) → 0 < length seq →
      (c : PathCandidate) → (path_with limit radius s planes tri t materials source listener seq).fate ≡ Passed c → Numbers c
  path_numbers within some c e = let sound = path_sound (rates_within s within) some in rw e at sound
