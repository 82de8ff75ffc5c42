-- The energy of a path's candidate is finite: each factor of its gains is bounded (`Caps`), and so is the gain by distance (`Far`), where the distance
-- model's numbers lie within document 01's limits and the path has at most 8 bounces.
use mathlib.Core.Path.{◌≡◌, subst}
use mathlib.Core.Bool.{Bool, true, false, cond}
use mathlib.Core.List.{List, []}
use Prim.Native.Nat.{ℕ, ◌+◌, ◌*◌, ◌^◌, ◌<◌, ◌≤◌}
use native.Mathlib.Omega.{arith}
use lib.Dec.{T}
use lib.ListN.{length}
use lib.Ieee.{Float, lt, le}
use Rattle.float.specs.Literals.{one32}
use Rattle.float.specs.Compare.{is_finite}
use Rattle.vector.specs.declared.Vec3.{Vec3}
use Rattle.vector.specs.Vector.{distance3_of}
use Rattle.geometry.specs.declared.Triangle.{Triangle}
use Rattle.bands.specs.declared.Band8.{Band8}
use Rattle.bands.specs.Band8.{mul_of, sum_of_squares_of}
use Rattle.bands.specs.Distance.{gain_of}
use Rattle.tree_build.specs.Tree.{Tree}
use Rattle.scene.specs.declared.Settings.{Settings}
use Rattle.scene.specs.Limits.{rates_of, model_numbers_of}
use Rattle.mirror.specs.Plane.{Plane}
use Rattle.segments.specs.declared.Transmission.{Transmission}
use Rattle.segments.specs.Materials.{transmission_of_handle}
use Rattle.segments.specs.Segment.{segment_soft_transmission_of}
use Rattle.segments.specs.Areas.{trace_in}
use Rattle.bounces.specs.Image.{image_of, image_at}
use Rattle.bounces.specs.Bounces.{Bounces, not_crossed, off_surface, made, back_of, plane_on, bounces_of}
use Rattle.paths.specs.declared.PathCandidate.{PathCandidate}
use Rattle.paths.specs.declared.Way.{Way}
use Rattle.paths.specs.declared.Fate.{Fate}
use Rattle.paths.specs.declared.Fate.TheVariants.{TooFar, NotCrossed, OffSurface, TooLong, Faded, Blocked, Faint, Passed}
use Rattle.paths.specs.Visibility.{way_of}
use Rattle.paths.specs.Gains.{least_energy, least_weight, least_blocker, usable_of, reflected_of, gains_of, rejected_of, candidate_of, arrived_of}
use Rattle.paths.specs.Path.{verdict, last_of, bounced_of, path_with}
use Rattle.paths.specs.Numbers.{ModelFits}
use Rattle.paths.proofs.Bound.{Long, back_long}
use Rattle.paths.proofs.Most.{Most, one_most, most_finite}
use Rattle.paths.proofs.Caps.{Most8, WeightMost, transmission8, soft8, way8, back_most, weight_few, gains8, energy_most}
use Rattle.paths.proofs.Far.{gain_most}
use Rattle.paths.proofs.Numbers.{path_numbers}

abbrev Bounded : Fate → Type 0
Bounded TooFar = Unit {0}
Bounded NotCrossed = Unit {0}
Bounded OffSurface = Unit {0}
Bounded TooLong = Unit {0}
Bounded Faded = Unit {0}
Bounded Blocked = Unit {0}
Bounded Faint = Unit {0}
Bounded (Passed c) = Most (8 * 2 ^ 124) 1 c.energy

rejected_bounded : (weight : Float) (blocker : Band8) → Bounded (rejected_of weight blocker)
unfolding rejected_of
rejected_bounded weight blocker = picked (lt weight least_weight) (lt (sum_of_squares_of blocker) least_blocker) where
  picked : (a b : Bool) → Bounded (cond a Faded (cond b Blocked Faint))
  picked true b = tt
  picked false true = tt
  picked false false = tt

arrived_bounded :
    (s : Settings) (last listener : Vec3) (total weight : Float) (g blocker : Band8) → Most8 (2 ^ 62) 1 (mul_of g blocker) → Bounded (arrived_of s last listener total weight g blocker)
unfolding arrived_of candidate_of
arrived_bounded s last listener total weight g blocker h = picked (lt least_energy (sum_of_squares_of g)) (lt least_energy (sum_of_squares_of (mul_of g blocker))) where
  picked : (a b : Bool) → Bounded (cond a (cond b (Passed (candidate_of s last listener total (mul_of g blocker))) (rejected_of weight blocker)) Faint)
  picked true true = energy_most (mul_of g blocker) h
  picked true false = rejected_bounded weight blocker
  picked false b = tt

module _ (soft : Vec3 → Vec3 → Transmission) (s : Settings) (materials : List Float) (tri : ℕ → Triangle) (n : ℕ) (source listener : Vec3) (few : n ≤ 8)
    (all : (a b : Vec3) → Most8 9 8 (soft a b).gain) (near : (d : Float) → Most (2 ^ 47) 1 (gain_of s.distance_model d)) where
  bounced_bounded : (b : Bounces) → Long n b → WeightMost (3 ^ n) b → Bounded (bounced_of soft s materials tri n source listener b).fate
  unfolding bounced_of
  bounced_bounded not_crossed long heavy = tt
  bounced_bounded off_surface long heavy = tt
  bounced_bounded (made points tris weight) long heavy = picked (usable_of w.total s.max_reflection_distance) where
    w : Way
    w = way_of soft listener source points

    picked :
        (b : Bool) →
        Bounded (cond b
        (arrived_of s (last_of points n) listener w.total weight (gains_of s.distance_model s.air (reflected_of materials tri tris) w.total weight) w.gain) TooLong)
    picked true =
        arrived_bounded s (last_of points n) listener w.total weight (gains_of s.distance_model s.air (reflected_of materials tri tris) w.total weight) w.gain
        (gains8 s.distance_model s.air materials tri tris w.total weight w.gain (near w.total) (weight_few n weight few heavy) (way8 soft all listener source points (omega (arith, long))))
    picked false = tt

module _ (limit : ℕ) (radius : Float) (s : Settings) (planes : List Plane) (tri : ℕ → Triangle) (t : Tree) (materials : List Float) (source listener : Vec3) (seq : List ℕ)
    (few : length seq ≤ 8) (near : (d : Float) → Most (2 ^ 47) 1 (gain_of s.distance_model d)) where
  path_bounded : Bounded (path_with limit radius s planes tri t materials source listener seq).fate
  unfolding path_with bounces_of
  path_bounded = picked (le (distance3_of listener (image_of planes source seq)) s.max_reflection_distance) where
    soft : Vec3 → Vec3 → Transmission
    soft = segment_soft_transmission_of (trace_in tri t) (transmission_of_handle materials) limit radius

    found : Bounces
    found = back_of tri s.reflection_edge_fade (plane_on planes seq) (image_at planes source seq) (length seq) listener one32 [] []

    long : Long (length seq) found
    long =
        let e : length seq + 0 ≡ length seq = omega arith in
        back_long tri s.reflection_edge_fade (plane_on planes seq) (image_at planes source seq) (length seq) listener one32 [] [] (length seq) e

    heavy : WeightMost (3 ^ length seq) found
    heavy =
        let e : 0 + length seq ≡ length seq = omega arith in
        subst (λ (k : ℕ). WeightMost (3 ^ k) found) e
        (back_most tri s.reflection_edge_fade (plane_on planes seq) (image_at planes source seq) 0 (length seq) listener one32 [] [] (omega (arith, few)) one_most)

    picked : (b : Bool) → Bounded (cond b (bounced_of soft s materials tri (length seq) source listener found) (verdict TooFar 0)).fate
    picked true = bounced_bounded soft s materials tri (length seq) source listener few (soft8 (trace_in tri t) (transmission_of_handle materials) (transmission8 materials) limit radius) near found long heavy
    picked false = tt

  path_finite_by :
      T (rates_of s.max_reflection_distance s.temperature_celsius s.sample_rate) → 0 < length seq →
      (c : PathCandidate) → (path_with limit radius s planes tri t materials source listener seq).fate ≡ Passed c → T (is_finite c.energy)
  path_finite_by within some c e =
      let bounded = path_bounded in
      let here : Most (8 * 2 ^ 124) 1 c.energy = rw e at bounded in
      most_finite (8 * 2 ^ 124) 1 c.energy here (path_numbers limit radius s planes tri t materials source listener seq within some c e).energy_number

module _ (limit : ℕ) (radius : Float) (s : Settings) (planes : List Plane) (tri : ℕ → Triangle) (t : Tree) (materials : List Float) (source listener : Vec3) (seq : List ℕ) where
  pub path_finite :
      T (rates_of s.max_reflection_distance s.temperature_celsius s.sample_rate) → T (model_numbers_of s.distance_model) → ModelFits s.distance_model →
      0 < length seq → length seq ≤ 8 → (c : PathCandidate) → (path_with limit radius s planes tri t materials source listener seq).fate ≡ Passed c → T (is_finite c.energy)
  path_finite within model fit some few c e =
      path_finite_by limit radius s planes tri t materials source listener seq few (λ d. gain_most s.distance_model d model fit) within some c e
