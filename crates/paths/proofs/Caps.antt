-- No band of what arrives is large: what the segments let through, what the triangles reflect and the edge weight are bounded, and so is the energy
-- where the distance gain is at most 2 ^ 47.
use mathlib.Core.Path.{◌≡◌, sym, subst}
use mathlib.Core.Bool.{Bool, true, false, cond}
use mathlib.Core.List.{List, [], ◌∷◌, foldl}
use Prim.Native.Nat.{ℕ, zero, suc, ◌+◌, ◌*◌, ◌^◌, ◌<◌, ◌≤◌}
use native.Mathlib.Nat.{zero-lt-suc, le_refl, pow-succ', suc-mul}
use native.Mathlib.Omega.{arith}
use lib.Pow.{pow_pos}
use lib.ListN.{length}
use lib.IntN.{pos}
use lib.Ieee.{Float, fin, binary32, add, sub, mul, div, lt, of_bits}
use Rattle.float.specs.Literals.{zero32, one32}
use Rattle.float.specs.Compare.{clamp_of, is_finite}
use Rattle.vector.specs.declared.Vec3.{Vec3}
use Rattle.vector.specs.declared.Ray.{Ray}
use Rattle.vector.specs.declared.Basis.{Basis}
use Rattle.vector.specs.Vector.{vec, sub3_of, distance3_of, normalize3_of}
use Rattle.vector.specs.Basis.{probe_basis_of, probe_angle_of}
use Rattle.geometry.specs.Aabb.{two}
use Rattle.geometry.specs.Triangle.{three}
use Rattle.geometry.specs.declared.Triangle.{Triangle}
use Rattle.bands.specs.declared.Band8.{Band8}
use Rattle.bands.specs.declared.DistanceModel.{DistanceModel}
use Rattle.bands.specs.Band8.{splat_of, zeros_of, mul_of, scale_of, sum_of_squares_of}
use Rattle.bands.specs.Distance.{gain_of}
use Rattle.tree_trace.specs.declared.RayHit.{RayHit}
use Rattle.std.specs.Prelude.{Option, None, Some, Ok, Err}
use Rattle.mirror.specs.Border.{smooth_of, weight_of, border_distance_of}
use Rattle.mirror.specs.Plane.{Edge, Plane}
use Rattle.mirror.specs.Mirror.{crossing_of}
use Rattle.mirror.specs.Locate.{Spot, Located, contains_in_box_of, spot_of, weighed_of, locate_on_plane_of}
use Rattle.bounces.specs.declared.Lost.TheVariants.{NotCrossed, OffSurface}
use Rattle.bounces.specs.Bounces.{Bounce, located_of, crossed_of, bounce_of, Bounces, not_crossed, off_surface, made, then_of, back_of}
use Rattle.segments.specs.declared.Transmission.{Transmission}
use Rattle.segments.specs.Materials.{clamped_of, transmission_of_handle, coefficient_of, coefficients_of, reflection_of_handle}
use Rattle.segments.specs.Segment.{visibility_rays, probe_count, transmission, segment_ray_of, after_of, occlusion_eps, walk_of, segment_transmission_of, offset_of, mid_of, add_part_of, probe_of, probes_of, segment_soft_transmission_of}
use Rattle.paths.specs.declared.Way.{Way}
use Rattle.paths.specs.Visibility.{start_of, go_of, go_all_of, way_of}
use Rattle.air.specs.declared.Air.{Air}
use Rattle.air.specs.Air.{steps_of, factor_of_steps, band_of, bands_of, air_gain_of, millimetres_of}
use Rattle.air.proofs.Nothing.{factor_most}
use Rattle.air.proofs.Value.{band_value}
use Rattle.paths.specs.Gains.{reflected_of, gains_of}
use Rattle.paths.proofs.Most.{Most, Exact, value_most, mul_most, add_most, ninth_most, most_more, exact_power, exact_eighths, exact_small, exact_times, clamp_most, one_most, zero_is_most, less_most, sqrt_most}

pub record Most8 (p q : ℕ) (g : Band8) : Type 0 where
  pub m0 : Most p q g.b0
  pub m1 : Most p q g.b1
  pub m2 : Most p q g.b2
  pub m3 : Most p q g.b3
  pub m4 : Most p q g.b4
  pub m5 : Most p q g.b5
  pub m6 : Most p q g.b6
  pub m7 : Most p q g.b7

-- ---- what keeps bands so

splat8 : (p q : ℕ) (x : Float) → Most p q x → Most8 p q (splat_of x)
unfolding splat_of
splat8 p q x h = record { m0 = h; m1 = h; m2 = h; m3 = h; m4 = h; m5 = h; m6 = h; m7 = h }

zeros8 : (p q : ℕ) → Most8 p q zeros_of
unfolding zeros_of
zeros8 p q = splat8 p q zero32 (zero_is_most p q)

module _ (p q p' q' P Q : ℕ) (hq : 0 < q * q') (h_p : 0 < P) (h_q : 0 < Q) (exact : Exact P Q) (within : p * p' * Q ≤ P * (q * q')) where
  mul8 : (a b : Band8) → Most8 p q a → Most8 p' q' b → Most8 P Q (mul_of a b)
  unfolding mul_of
  mul8 a b h g =
      record {
        m0 = mul_most p q p' q' P Q hq h_p h_q exact within a.b0 b.b0 h.m0 g.m0;
        m1 = mul_most p q p' q' P Q hq h_p h_q exact within a.b1 b.b1 h.m1 g.m1;
        m2 = mul_most p q p' q' P Q hq h_p h_q exact within a.b2 b.b2 h.m2 g.m2;
        m3 = mul_most p q p' q' P Q hq h_p h_q exact within a.b3 b.b3 h.m3 g.m3;
        m4 = mul_most p q p' q' P Q hq h_p h_q exact within a.b4 b.b4 h.m4 g.m4;
        m5 = mul_most p q p' q' P Q hq h_p h_q exact within a.b5 b.b5 h.m5 g.m5;
        m6 = mul_most p q p' q' P Q hq h_p h_q exact within a.b6 b.b6 h.m6 g.m6;
        m7 = mul_most p q p' q' P Q hq h_p h_q exact within a.b7 b.b7 h.m7 g.m7;
      }

  scale8 : (a : Band8) (x : Float) → Most8 p q a → Most p' q' x → Most8 P Q (scale_of a x)
  unfolding scale_of
  scale8 a x h g =
      record {
        m0 = mul_most p q p' q' P Q hq h_p h_q exact within a.b0 x h.m0 g;
        m1 = mul_most p q p' q' P Q hq h_p h_q exact within a.b1 x h.m1 g;
        m2 = mul_most p q p' q' P Q hq h_p h_q exact within a.b2 x h.m2 g;
        m3 = mul_most p q p' q' P Q hq h_p h_q exact within a.b3 x h.m3 g;
        m4 = mul_most p q p' q' P Q hq h_p h_q exact within a.b4 x h.m4 g;
        m5 = mul_most p q p' q' P Q hq h_p h_q exact within a.b5 x h.m5 g;
        m6 = mul_most p q p' q' P Q hq h_p h_q exact within a.b6 x h.m6 g;
        m7 = mul_most p q p' q' P Q hq h_p h_q exact within a.b7 x h.m7 g;
      }

more8 : (p q p' q' : ℕ) → 0 < q → p * q' ≤ p' * q → (g : Band8) → Most8 p q g → Most8 p' q' g
more8 p q p' q' hq c g h =
    record {
      m0 = most_more p q p' q' hq c g.b0 h.m0;
      m1 = most_more p q p' q' hq c g.b1 h.m1;
      m2 = most_more p q p' q' hq c g.b2 h.m2;
      m3 = most_more p q p' q' hq c g.b3 h.m3;
      m4 = most_more p q p' q' hq c g.b4 h.m4;
      m5 = most_more p q p' q' hq c g.b5 h.m5;
      m6 = most_more p q p' q' hq c g.b6 h.m6;
      m7 = most_more p q p' q' hq c g.b7 h.m7;
    }

some : (k : ℕ) → 0 < suc k
some k = zero-lt-suc k

-- of two that are at most 1
unit8 : (a b : Band8) → Most8 1 1 a → Most8 1 1 b → Most8 1 1 (mul_of a b)
unit8 a b h g = mul8 1 1 1 1 1 1 (some 0) (some 0) (some 0) (exact_power 0 (some 127)) (le_refl 1) a b h g

-- an eighth more
eighth : (k : ℕ) (x y : Float) → k < 63 → Most k 8 x → Most 1 1 y → Most (k + 1) 8 (add binary32 x (div binary32 y visibility_rays))
unfolding of_bits
eighth k x y small h g =
    add_most k 1 8 (omega arith) (some 7) (exact_eighths (k + 1) (omega arith)) x (div binary32 y (fin false 9 (pos 0))) h (ninth_most y (exact_eighths 1 (omega arith)) g)

part8 : (k : ℕ) (a b : Band8) → k < 63 → Most8 k 8 a → Most8 1 1 b → Most8 (k + 1) 8 (add_part_of a b)
unfolding add_part_of
part8 k a b small h g =
    record {
      m0 = eighth k a.b0 b.b0 small h.m0 g.m0;
      m1 = eighth k a.b1 b.b1 small h.m1 g.m1;
      m2 = eighth k a.b2 b.b2 small h.m2 g.m2;
      m3 = eighth k a.b3 b.b3 small h.m3 g.m3;
      m4 = eighth k a.b4 b.b4 small h.m4 g.m4;
      m5 = eighth k a.b5 b.b5 small h.m5 g.m5;
      m6 = eighth k a.b6 b.b6 small h.m6 g.m6;
      m7 = eighth k a.b7 b.b7 small h.m7 g.m7;
    }

-- ---- materials

pub transmission8 : (materials : List Float) (handle : ℕ) → Most8 1 1 (transmission_of_handle materials handle)
unfolding transmission_of_handle clamped_of
transmission8 materials handle =
    record {
      m0 = clamp_most _;
      m1 = clamp_most _;
      m2 = clamp_most _;
      m3 = clamp_most _;
      m4 = clamp_most _;
      m5 = clamp_most _;
      m6 = clamp_most _;
      m7 = clamp_most _;
    }

coefficient_most : (a : Float) → Most 1 1 (coefficient_of a)
unfolding coefficient_of of_bits
coefficient_most a = sqrt_most _ (less_most 1 _ (some 0) (exact_power 0 (some 127)) (picked (is_finite a)))
  where
    picked : (b : Bool) → Most 1 1 (cond b (clamp_of a zero32 one32) one32)
    picked true = clamp_most a
    picked false = one_most

reflection8 : (materials : List Float) (handle : ℕ) → Most8 1 1 (reflection_of_handle materials handle)
unfolding reflection_of_handle coefficients_of
reflection8 materials handle =
    record {
      m0 = coefficient_most _;
      m1 = coefficient_most _;
      m2 = coefficient_most _;
      m3 = coefficient_most _;
      m4 = coefficient_most _;
      m5 = coefficient_most _;
      m6 = coefficient_most _;
      m7 = coefficient_most _;
    }

fold8 : (f : ℕ → Band8) → ((i : ℕ) → Most8 1 1 (f i)) → (g : Band8) (is : List ℕ) → Most8 1 1 g → Most8 1 1 (foldl (λ (a : Band8) (i : ℕ). mul_of a (f i)) g is)
fold8 f all g [] h = h
fold8 f all g (i ∷ is) h = fold8 f all (mul_of g (f i)) is (unit8 g (f i) h (all i))

reflected8 : (materials : List Float) (tri : ℕ → Triangle) (is : List ℕ) → Most8 1 1 (reflected_of materials tri is)
unfolding reflected_of
reflected8 materials tri is = fold8 (λ i. reflection_of_handle materials (tri i).material_handle) (λ i. reflection8 materials (tri i).material_handle) (splat_of one32) is (splat8 1 1 one32 one_most)

-- ---- segments

module _ (trace : Ray → Option RayHit) (pass : ℕ → Band8) (all : (h : ℕ) → Most8 1 1 (pass h)) where
  turn8 :
      (on : Vec3 → Float → Band8 → Transmission) (r : Float) (g : Band8) (n : ℕ) →
      ((p : Vec3) (x : Float) (f : Band8) → Most8 1 1 f → Most8 1 1 (on p x f).gain) → Most8 1 1 g →
      (b : Bool) (h : Option RayHit) → Most8 1 1 (cond b (after_of pass on r g n h) (transmission g n)).gain
  turn8 on r g n more k false h = k
  turn8 on r g n more k true None = k
  turn8 on r g n more k true (Some h) = more h.point (sub binary32 r h.distance) (mul_of g (pass h.material_handle)) (unit8 g (pass h.material_handle) k (all h.material_handle))

  walk8 : (dir : Vec3) (left : ℕ) (o : Vec3) (r : Float) (g : Band8) (n : ℕ) → Most8 1 1 g → Most8 1 1 (walk_of trace pass dir left o r g n).gain
  unfolding walk_of
  walk8 dir zero o r g n k =
      turn8 (λ p x f. transmission zeros_of (n + 1)) r g n (λ p x f q. zeros8 1 1) k (lt (mul binary32 two occlusion_eps) r) (trace (segment_ray_of o dir r))
  walk8 dir (suc left) o r g n k =
      turn8 (λ p x f. walk_of trace pass dir left p x f (n + 1)) r g n (λ p x f q. walk8 dir left p x f (n + 1) q) k (lt (mul binary32 two occlusion_eps) r) (trace (segment_ray_of o dir r))

  segment8 : (limit : ℕ) (from to : Vec3) → Most8 1 1 (segment_transmission_of trace pass limit from to).gain
  unfolding segment_transmission_of
  segment8 limit from to = walk8 (normalize3_of (sub3_of to from)) limit from (distance3_of from to) (splat_of one32) 0 (splat8 1 1 one32 one_most)

  probe8 : (j limit : ℕ) (from mid to : Vec3) (s : Transmission) → j < 63 → Most8 j 8 s.gain → Most8 (j + 1) 8 (probe_of trace pass limit from mid to s).gain
  unfolding probe_of
  probe8 j limit from mid to s small h = part8 j s.gain _ small h (unit8 _ _ (segment8 limit from mid) (segment8 limit mid to))

  probes8 : (limit : ℕ) (radius : Float) (from to : Vec3) (b : Basis) (k : ℕ) → k < 9 → Most8 (k + 1) 8 (probes_of trace pass limit radius from to b k).gain
  unfolding probes_of
  probes8 limit radius from to b zero small = probe8 0 limit from (mid_of from to (vec zero32 zero32 zero32)) to (transmission zeros_of 0) (some 62) (zeros8 0 8)
  probes8 limit radius from to b (suc k) small =
      let e : k + 1 ≡ suc k = omega arith in
      subst (λ (j : ℕ). Most8 (j + 1) 8 (probes_of trace pass limit radius from to b (suc k)).gain) e
      (probe8 (k + 1) limit from (mid_of from to (offset_of radius b (probe_angle_of k))) to (probes_of trace pass limit radius from to b k) (omega arith) (probes8 limit radius from to b k (omega arith)))

  -- at most nine eighths
  pub soft8 : (limit : ℕ) (radius : Float) (from to : Vec3) → Most8 9 8 (segment_soft_transmission_of trace pass limit radius from to).gain
  unfolding segment_soft_transmission_of
  soft8 limit radius from to = probes8 limit radius from to (probe_basis_of (normalize3_of (sub3_of to from))) probe_count (omega arith)

-- ---- the way

-- eighths that k factors of nine eighths do not pass, for k up to 9
abbrev eighths : ℕ → ℕ
eighths zero = 8
eighths (suc zero) = 9
eighths (suc (suc zero)) = 11
eighths (suc (suc (suc zero))) = 13
eighths (suc (suc (suc (suc zero)))) = 15
eighths (suc (suc (suc (suc (suc zero))))) = 17
eighths (suc (suc (suc (suc (suc (suc zero)))))) = 20
eighths (suc (suc (suc (suc (suc (suc (suc zero))))))) = 23
eighths (suc (suc (suc (suc (suc (suc (suc (suc zero)))))))) = 26
eighths (suc (suc (suc (suc (suc (suc (suc (suc (suc k))))))))) = 30

eighths_step : (k : ℕ) → k ≤ 8 → eighths k * 9 * 8 ≤ eighths (suc k) * (8 * 8)
eighths_step zero h = omega arith
eighths_step (suc zero) h = omega arith
eighths_step (suc (suc zero)) h = omega arith
eighths_step (suc (suc (suc zero))) h = omega arith
eighths_step (suc (suc (suc (suc zero)))) h = omega arith
eighths_step (suc (suc (suc (suc (suc zero))))) h = omega arith
eighths_step (suc (suc (suc (suc (suc (suc zero)))))) h = omega arith
eighths_step (suc (suc (suc (suc (suc (suc (suc zero))))))) h = omega arith
eighths_step (suc (suc (suc (suc (suc (suc (suc (suc zero)))))))) h = omega arith
eighths_step (suc (suc (suc (suc (suc (suc (suc (suc (suc k))))))))) h = absurd (let no : ⊥ = omega arith in no)

eighths_in : (k : ℕ) → (0 < eighths k) × (eighths k ≤ 30)
eighths_in zero = (omega arith, omega arith)
eighths_in (suc zero) = (omega arith, omega arith)
eighths_in (suc (suc zero)) = (omega arith, omega arith)
eighths_in (suc (suc (suc zero))) = (omega arith, omega arith)
eighths_in (suc (suc (suc (suc zero)))) = (omega arith, omega arith)
eighths_in (suc (suc (suc (suc (suc zero))))) = (omega arith, omega arith)
eighths_in (suc (suc (suc (suc (suc (suc zero)))))) = (omega arith, omega arith)
eighths_in (suc (suc (suc (suc (suc (suc (suc zero))))))) = (omega arith, omega arith)
eighths_in (suc (suc (suc (suc (suc (suc (suc (suc zero)))))))) = (omega arith, omega arith)
eighths_in (suc (suc (suc (suc (suc (suc (suc (suc (suc k))))))))) = (omega arith, omega arith)

module _ (soft : Vec3 → Vec3 → Transmission) (all : (a b : Vec3) → Most8 9 8 (soft a b).gain) where
  go8 : (k : ℕ) (to : Vec3) (w : Way) → k ≤ 8 → Most8 (eighths k) 8 w.gain → Most8 (eighths (suc k)) 8 (go_of soft to w).gain
  unfolding go_of
  go8 k to w small h =
      let i = eighths_in (suc k) in
      mul8 (eighths k) 8 9 8 (eighths (suc k)) 8 (some 63) i.0 (some 7) (exact_eighths (eighths (suc k)) (omega (arith, i.1))) (eighths_step k small) w.gain (soft w.from to).gain h
      (all w.from to)

  go_all8 : (listener : Vec3) (bs : List Vec3) → length bs ≤ 8 → Most8 (eighths (length bs)) 8 (go_all_of soft (start_of listener) bs).gain
  unfolding go_all_of start_of
  go_all8 listener [] small = more8 1 1 8 8 (some 0) (le_refl 8) (splat_of one32) (splat8 1 1 one32 one_most)
  go_all8 listener (b ∷ bs) small = go8 (length bs) b (go_all_of soft (start_of listener) bs) (omega arith) (go_all8 listener bs (omega arith))

  -- at most 4
  pub way8 : (listener source : Vec3) (bs : List Vec3) → length bs ≤ 8 → Most8 4 1 (way_of soft listener source bs).gain
  unfolding way_of
  way8 listener source bs small =
      let i = eighths_in (suc (length bs)) in
      more8 (eighths (suc (length bs))) 8 4 1 (some 7) (omega (arith, i.1)) _ (go8 (length bs) source (go_all_of soft (start_of listener) bs) small (go_all8 listener bs small))

-- ---- the edge weight

smooth_most : (d fade : Float) → Most 3 1 (smooth_of d fade)
unfolding smooth_of of_bits
smooth_most d fade =
    let s = clamp_of (div binary32 d fade) zero32 one32 in
    let h = clamp_most (div binary32 d fade) in
    let square = mul_most 1 1 1 1 1 1 (some 0) (some 0) (some 0) (exact_power 0 (some 127)) (le_refl 1) s s h h in
    let twice = mul_most 2 1 1 1 2 1 (some 0) (some 1) (some 0) (exact_power 1 (omega arith)) (le_refl 2) two s two_most h in
    mul_most 1 1 3 1 3 1 (some 0) (some 2) (some 0) (exact_small 3 (omega arith)) (le_refl 3) (mul binary32 s s) (sub binary32 three (mul binary32 two s)) square
    (less_most 3 (mul binary32 two s) (some 2) (exact_small 3 (omega arith)) (most_more 2 1 3 1 (some 0) (omega arith) (mul binary32 two s) twice))
  where
    two_most : Most 2 1 two
    two_most = omega arith

weight_most : (es : List Edge) (fade : Float) (p : Vec3) → Most 3 1 (weight_of es fade p)
unfolding weight_of
weight_most es fade p = picked (lt zero32 fade)
  where
    picked : (b : Bool) → Most 3 1 (cond b (smooth_of (border_distance_of p es) fade) one32)
    picked true = smooth_most (border_distance_of p es) fade
    picked false = most_more 1 1 3 1 (some 0) (omega arith) one32 one_most

abbrev LocatedMost : Located → Type 0
LocatedMost None = Unit {0}
LocatedMost (Some (i, w, q)) = Most 3 1 w

abbrev BounceMost : Bounce → Type 0
BounceMost (Err e) = Unit {0}
BounceMost (Ok (i, w, q)) = Most 3 1 w

abbrev pub WeightMost : ℕ → Bounces → Type 0
WeightMost p not_crossed = Unit {0}
WeightMost p off_surface = Unit {0}
WeightMost p (made points tris w) = Most p 1 w

located_most : (tri : ℕ → Triangle) (fade : Float) (plane : Plane) (p : Vec3) → LocatedMost (locate_on_plane_of tri fade plane p)
unfolding locate_on_plane_of
located_most tri fade plane p = picked (contains_in_box_of plane p) (spot_of tri plane p) where
  picked : (b : Bool) (s : Spot) → LocatedMost (cond b (weighed_of (weight_of plane.border fade) s) None)
  picked false s = tt
  picked true None = tt
  picked true (Some (i, q)) = weight_most plane.border fade q

bounce_most : (tri : ℕ → Triangle) (fade : Float) (plane : Plane) (prev target : Vec3) → BounceMost (bounce_of tri fade plane prev target)
unfolding bounce_of
bounce_most tri fade plane prev target = picked (crossing_of plane prev target) where
  placed : (l : Located) → LocatedMost l → BounceMost (located_of l)
  placed None h = tt
  placed (Some (i, w, q)) h = h

  picked : (c : Option Vec3) → BounceMost (crossed_of (locate_on_plane_of tri fade plane) c)
  picked None = tt
  picked (Some b) = placed (locate_on_plane_of tri fade plane b) (located_most tri fade plane b)

powers : (i : ℕ) → i ≤ 8 → (0 < 3 ^ i) × (3 ^ i ≤ 8192)
powers zero h = (omega arith, omega arith)
powers (suc zero) h = (omega arith, omega arith)
powers (suc (suc zero)) h = (omega arith, omega arith)
powers (suc (suc (suc zero))) h = (omega arith, omega arith)
powers (suc (suc (suc (suc zero)))) h = (omega arith, omega arith)
powers (suc (suc (suc (suc (suc zero))))) h = (omega arith, omega arith)
powers (suc (suc (suc (suc (suc (suc zero)))))) h = (omega arith, omega arith)
powers (suc (suc (suc (suc (suc (suc (suc zero))))))) h = (omega arith, omega arith)
powers (suc (suc (suc (suc (suc (suc (suc (suc zero)))))))) h = (omega arith, omega arith)
powers (suc (suc (suc (suc (suc (suc (suc (suc (suc k))))))))) h = absurd (let no : ⊥ = omega arith in no)

module _ (tri : ℕ → Triangle) (fade : Float) (plane : ℕ → Plane) (image : ℕ → Vec3) where
  then_most :
      (p : ℕ) (f : ℕ → Float → Vec3 → Bounces) (b : Bounce) → BounceMost b → ((i : ℕ) (w : Float) (q : Vec3) → Most 3 1 w → WeightMost p (f i w q)) → WeightMost p (then_of f b)
  then_most p f (Err NotCrossed) h all = tt
  then_most p f (Err OffSurface) h all = tt
  then_most p f (Ok (i, w, q)) h all = all i w q h

  heavier : (j : ℕ) (weight w : Float) → suc j ≤ 8 → Most (3 ^ j) 1 weight → Most 3 1 w → Most (3 ^ suc j) 1 (mul binary32 weight w)
  heavier j weight w small h g =
      let c = powers (suc j) small in
      mul_most (3 ^ j) 1 3 1 (3 ^ suc j) 1 (some 0) c.0 (some 0) (exact_small (3 ^ suc j) (fits (3 ^ suc j) c.1)) (flat (3 ^ j) (3 ^ suc j) (pow-succ' 3 j)) weight w h g
    where
      fits : (x : ℕ) → x ≤ 8192 → x < 2 ^ 24
      fits x h = omega arith

      flat : (x y : ℕ) → y ≡ 3 * x → x * 3 * 1 ≤ y * (1 * 1)
      flat x y e = omega arith

  pub back_most :
      (j k : ℕ) (prev : Vec3) (weight : Float) (ps : List Vec3) (is : List ℕ) → j + k ≤ 8 → Most (3 ^ j) 1 weight →
      WeightMost (3 ^ (j + k)) (back_of tri fade plane image k prev weight ps is)
  unfolding back_of
  back_most j zero prev weight ps is small h = let e : j ≡ j + 0 = omega arith in subst (λ (n : ℕ). Most (3 ^ n) 1 weight) e h
  back_most j (suc k) prev weight ps is small h =
      let e : suc j + k ≡ j + suc k = omega arith in
      then_most (3 ^ (j + suc k)) (λ i w q. back_of tri fade plane image k q (mul binary32 weight w) (q ∷ ps) (i ∷ is)) (bounce_of tri fade (plane k) prev (image (suc k)))
      (bounce_most tri fade (plane k) prev (image (suc k)))
      (λ i w q g.
      subst (λ (n : ℕ). WeightMost (3 ^ n) (back_of tri fade plane image k q (mul binary32 weight w) (q ∷ ps) (i ∷ is))) e
      (back_most (suc j) k q (mul binary32 weight w) (q ∷ ps) (i ∷ is) (omega arith) (heavier j weight w (omega arith) h g)))

pub weight_few : (n : ℕ) (w : Float) → n ≤ 8 → Most (3 ^ n) 1 w → Most (2 ^ 13) 1 w
weight_few n w small h = let c = powers n small in most_more (3 ^ n) 1 (2 ^ 13) 1 (some 0) (flat (3 ^ n) c.1) w h
  where
    flat : (x : ℕ) → x ≤ 8192 → x * 1 ≤ 2 ^ 13 * 1
    flat x h = omega arith

-- ---- what arrives

-- k / 2 ^ 24 is at most 1
band_most : (c n : ℕ) → Most 1 1 (band_of c n)
band_most c n = value_most (band_of c n) (factor_of_steps (steps_of c n)) (2 ^ 24) 1 1 (pow_pos 24) (band_value c n) (let h = factor_most (steps_of c n) in omega (arith, h))

air8 : (a : Air) (total : Float) → Most8 1 1 (air_gain_of a total)
unfolding air_gain_of bands_of
air8 a total =
    let n = millimetres_of total in
    record {
      m0 = band_most a.a0 n;
      m1 = band_most a.a1 n;
      m2 = band_most a.a2 n;
      m3 = band_most a.a3 n;
      m4 = band_most a.a4 n;
      m5 = band_most a.a5 n;
      m6 = band_most a.a6 n;
      m7 = band_most a.a7 n;
    }

pub gains8 :
    (m : DistanceModel) (a : Air) (materials : List Float) (tri : ℕ → Triangle) (is : List ℕ) (total weight : Float) (blocker : Band8) → Most (2 ^ 47) 1 (gain_of m total) → Most (2 ^ 13) 1 weight →
    Most8 4 1 blocker → Most8 (2 ^ 62) 1 (mul_of (gains_of m a (reflected_of materials tri is) total weight) blocker)
unfolding gains_of
gains8 m a materials tri is total weight blocker near heavy blocked =
    let e47 = exact_power 47 (omega arith) in
    let e60 = exact_power 60 (omega arith) in
    let e62 = exact_power 62 (omega arith) in
    let far = mul8 (2 ^ 47) 1 1 1 (2 ^ 47) 1 (some 0) (pow_pos 47) (some 0) e47 (le_refl (2 ^ 47)) (splat_of (gain_of m total)) (air_gain_of a total) (splat8 (2 ^ 47) 1 (gain_of m total) near) (air8 a total) in
    let bounced = mul8 1 1 (2 ^ 47) 1 (2 ^ 47) 1 (some 0) (pow_pos 47) (some 0) e47 (le_refl (2 ^ 47)) (reflected_of materials tri is) (mul_of (splat_of (gain_of m total)) (air_gain_of a total)) (reflected8 materials tri is) far in
    let weighed = scale8 (2 ^ 47) 1 (2 ^ 13) 1 (2 ^ 60) 1 (some 0) (pow_pos 60) (some 0) e60 (le_refl (2 ^ 60)) (mul_of (reflected_of materials tri is) (mul_of (splat_of (gain_of m total)) (air_gain_of a total))) weight bounced heavy in
    mul8 (2 ^ 60) 1 4 1 (2 ^ 62) 1 (some 0) (pow_pos 62) (some 0) e62 (le_refl (2 ^ 62)) (gains_of m a (reflected_of materials tri is) total weight) blocker weighed blocked

square_most : (x : Float) → Most (2 ^ 62) 1 x → Most (2 ^ 124) 1 (mul binary32 x x)
square_most x h = mul_most (2 ^ 62) 1 (2 ^ 62) 1 (2 ^ 124) 1 (some 0) (pow_pos 124) (some 0) (exact_power 124 (omega arith)) (le_refl (2 ^ 124)) x x h h

-- one square more
more_most : (k : ℕ) (s x : Float) → k < 15 → Most (k * 2 ^ 124) 1 s → Most (2 ^ 62) 1 x → Most (suc k * 2 ^ 124) 1 (add binary32 s (mul binary32 x x))
more_most k s x small h g =
    let e : k * 2 ^ 124 + 2 ^ 124 ≡ suc k * 2 ^ 124 = sym (suc-mul k (2 ^ 124)) in
    subst (λ (p : ℕ). Most p 1 (add binary32 s (mul binary32 x x))) e
    (add_most (k * 2 ^ 124) (2 ^ 124) 1 (above (k * 2 ^ 124) (2 ^ 124) (pow_pos 124)) (some 0) (subst (λ (p : ℕ). Exact p 1) (sym e) (exact_times (suc k) (omega arith))) s (mul binary32 x x) h (square_most x g))
  where
    above : (a b : ℕ) → 0 < b → 0 < a + b
    above a b h = omega arith

pub energy_most : (g : Band8) → Most8 (2 ^ 62) 1 g → Most (8 * 2 ^ 124) 1 (sum_of_squares_of g)
unfolding sum_of_squares_of
energy_most g h =
    let s1 = more_most 0 zero32 g.b0 (some 14) (zero_is_most 0 1) h.m0 in
    let s2 = more_most 1 _ g.b1 (omega arith) s1 h.m1 in
    let s3 = more_most 2 _ g.b2 (omega arith) s2 h.m2 in
    let s4 = more_most 3 _ g.b3 (omega arith) s3 h.m3 in
    let s5 = more_most 4 _ g.b4 (omega arith) s4 h.m4 in
    let s6 = more_most 5 _ g.b5 (omega arith) s5 h.m5 in
    let s7 = more_most 6 _ g.b6 (omega arith) s6 h.m6 in
    more_most 7 _ g.b7 (omega arith) s7 h.m7
