-- No band of what the segments let through, of what the triangles reflect, or of what arrives is below zero.
use mathlib.Core.Bool.{Bool, true, false, cond}
use mathlib.Core.List.{List, [], ◌∷◌, foldl}
use Prim.Native.Nat.{ℕ, ◌^◌, zero, suc, ◌+◌}
use lib.IntN.{pos}
use lib.Ieee.{Float, fin, binary32, add, sub, mul, div, lt, of_bits}
use Rattle.float.specs.Literals.{zero32, one32}
use Rattle.vector.specs.declared.Vec3.{Vec3}
use Rattle.vector.specs.declared.Ray.{Ray}
use Rattle.vector.specs.declared.Basis.{Basis}
use Rattle.vector.specs.Vector.{vec, sub3_of, distance3_of, normalize3_of}
use Rattle.vector.specs.Basis.{probe_basis_of, probe_angle_of}
use Rattle.geometry.specs.Aabb.{two}
use Rattle.geometry.specs.declared.Triangle.{Triangle}
use Rattle.bands.specs.declared.Band8.{Band8}
use Rattle.bands.specs.declared.DistanceModel.{DistanceModel}
use Rattle.bands.specs.Band8.{splat_of, zeros_of, mul_of, scale_of}
use Rattle.bands.specs.Distance.{gain_of}
use Rattle.tree_trace.specs.declared.RayHit.{RayHit}
use Rattle.std.specs.Prelude.{Option, None, Some}
use Rattle.segments.specs.declared.Transmission.{Transmission}
use Rattle.segments.specs.Materials.{clamped_of, transmission_of_handle, coefficient_of, coefficients_of, reflection_of_handle}
use Rattle.segments.specs.Segment.{visibility_rays, probe_count, transmission, segment_ray_of, after_of, occlusion_eps, walk_of, segment_transmission_of, offset_of, mid_of, add_part_of, probe_of, probes_of, segment_soft_transmission_of}
use Rattle.paths.specs.declared.Way.{Way}
use Rattle.paths.specs.Visibility.{start_of, go_of, go_all_of, way_of}
use Rattle.air.specs.declared.Air.{Air}
use Rattle.air.specs.Air.{steps_of, factor_of_steps, band_of, bands_of, air_gain_of, millimetres_of}
use Rattle.air.proofs.Value.{band_value}
use Rattle.paths.specs.Gains.{reflected_of, gains_of}
use Rattle.paths.proofs.Signs.{NotNegative, value_not_negative, zero_not_negative, one_not_negative, mul_not_negative, add_not_negative, div_not_negative, sqrt_not_negative, clamp_not_negative, held_not_negative}

pub record NotNegative8 (g : Band8) : Type 0 where
  pub p0 : NotNegative g.b0
  pub p1 : NotNegative g.b1
  pub p2 : NotNegative g.b2
  pub p3 : NotNegative g.b3
  pub p4 : NotNegative g.b4
  pub p5 : NotNegative g.b5
  pub p6 : NotNegative g.b6
  pub p7 : NotNegative g.b7

-- ---- what keeps bands so

splat8 : (x : Float) → NotNegative x → NotNegative8 (splat_of x)
unfolding splat_of
splat8 x h = record { p0 = h; p1 = h; p2 = h; p3 = h; p4 = h; p5 = h; p6 = h; p7 = h }

zeros8 : NotNegative8 zeros_of
unfolding zeros_of
zeros8 = splat8 zero32 zero_not_negative

pub mul8 : (a b : Band8) → NotNegative8 a → NotNegative8 b → NotNegative8 (mul_of a b)
unfolding mul_of
mul8 a b h g =
    record {
      p0 = mul_not_negative binary32 a.b0 b.b0 h.p0 g.p0;
      p1 = mul_not_negative binary32 a.b1 b.b1 h.p1 g.p1;
      p2 = mul_not_negative binary32 a.b2 b.b2 h.p2 g.p2;
      p3 = mul_not_negative binary32 a.b3 b.b3 h.p3 g.p3;
      p4 = mul_not_negative binary32 a.b4 b.b4 h.p4 g.p4;
      p5 = mul_not_negative binary32 a.b5 b.b5 h.p5 g.p5;
      p6 = mul_not_negative binary32 a.b6 b.b6 h.p6 g.p6;
      p7 = mul_not_negative binary32 a.b7 b.b7 h.p7 g.p7;
    }

scale8 : (a : Band8) (x : Float) → NotNegative8 a → NotNegative x → NotNegative8 (scale_of a x)
unfolding scale_of
scale8 a x h g =
    record {
      p0 = mul_not_negative binary32 a.b0 x h.p0 g;
      p1 = mul_not_negative binary32 a.b1 x h.p1 g;
      p2 = mul_not_negative binary32 a.b2 x h.p2 g;
      p3 = mul_not_negative binary32 a.b3 x h.p3 g;
      p4 = mul_not_negative binary32 a.b4 x h.p4 g;
      p5 = mul_not_negative binary32 a.b5 x h.p5 g;
      p6 = mul_not_negative binary32 a.b6 x h.p6 g;
      p7 = mul_not_negative binary32 a.b7 x h.p7 g;
    }

-- a ninth more
ninth : (x y : Float) → NotNegative x → NotNegative y → NotNegative (add binary32 x (div binary32 y visibility_rays))
unfolding of_bits
ninth x y h g = add_not_negative binary32 x (div binary32 y (fin false 9 (pos 0))) h (div_not_negative binary32 y 8 (pos 0) g)

part8 : (a b : Band8) → NotNegative8 a → NotNegative8 b → NotNegative8 (add_part_of a b)
unfolding add_part_of
part8 a b h g =
    record {
      p0 = ninth a.b0 b.b0 h.p0 g.p0;
      p1 = ninth a.b1 b.b1 h.p1 g.p1;
      p2 = ninth a.b2 b.b2 h.p2 g.p2;
      p3 = ninth a.b3 b.b3 h.p3 g.p3;
      p4 = ninth a.b4 b.b4 h.p4 g.p4;
      p5 = ninth a.b5 b.b5 h.p5 g.p5;
      p6 = ninth a.b6 b.b6 h.p6 g.p6;
      p7 = ninth a.b7 b.b7 h.p7 g.p7;
    }

-- ---- materials

pub transmission8 : (materials : List Float) (handle : ℕ) → NotNegative8 (transmission_of_handle materials handle)
unfolding transmission_of_handle clamped_of
transmission8 materials handle =
    record {
      p0 = clamp_not_negative _;
      p1 = clamp_not_negative _;
      p2 = clamp_not_negative _;
      p3 = clamp_not_negative _;
      p4 = clamp_not_negative _;
      p5 = clamp_not_negative _;
      p6 = clamp_not_negative _;
      p7 = clamp_not_negative _;
    }

coefficient_not_negative : (a : Float) → NotNegative (coefficient_of a)
unfolding coefficient_of
coefficient_not_negative a = sqrt_not_negative _

reflection8 : (materials : List Float) (handle : ℕ) → NotNegative8 (reflection_of_handle materials handle)
unfolding reflection_of_handle coefficients_of
reflection8 materials handle =
    record {
      p0 = coefficient_not_negative _;
      p1 = coefficient_not_negative _;
      p2 = coefficient_not_negative _;
      p3 = coefficient_not_negative _;
      p4 = coefficient_not_negative _;
      p5 = coefficient_not_negative _;
      p6 = coefficient_not_negative _;
      p7 = coefficient_not_negative _;
    }

-- ---- segments

module _ (trace : Ray → Option RayHit) (pass : ℕ → Band8) (all : (h : ℕ) → NotNegative8 (pass h)) where
  turn8 :
      (on : Vec3 → Float → Band8 → Transmission) (r : Float) (g : Band8) (n : ℕ) →
      ((p : Vec3) (x : Float) (f : Band8) → NotNegative8 f → NotNegative8 (on p x f).gain) → NotNegative8 g →
      (b : Bool) (h : Option RayHit) → NotNegative8 (cond b (after_of pass on r g n h) (transmission g n)).gain
  turn8 on r g n more k false h = k
  turn8 on r g n more k true None = k
  turn8 on r g n more k true (Some h) = more h.point (sub binary32 r h.distance) (mul_of g (pass h.material_handle)) (mul8 g (pass h.material_handle) k (all h.material_handle))

  walk8 : (dir : Vec3) (left : ℕ) (o : Vec3) (r : Float) (g : Band8) (n : ℕ) → NotNegative8 g → NotNegative8 (walk_of trace pass dir left o r g n).gain
  unfolding walk_of
  walk8 dir zero o r g n k =
      turn8 (λ p x f. transmission zeros_of (n + 1)) r g n (λ p x f q. zeros8) k (lt (mul binary32 two occlusion_eps) r) (trace (segment_ray_of o dir r))
  walk8 dir (suc left) o r g n k =
      turn8 (λ p x f. walk_of trace pass dir left p x f (n + 1)) r g n (λ p x f q. walk8 dir left p x f (n + 1) q) k (lt (mul binary32 two occlusion_eps) r) (trace (segment_ray_of o dir r))

  segment8 : (limit : ℕ) (from to : Vec3) → NotNegative8 (segment_transmission_of trace pass limit from to).gain
  unfolding segment_transmission_of
  segment8 limit from to = walk8 (normalize3_of (sub3_of to from)) limit from (distance3_of from to) (splat_of one32) 0 (splat8 one32 one_not_negative)

  probe8 : (limit : ℕ) (from mid to : Vec3) (s : Transmission) → NotNegative8 s.gain → NotNegative8 (probe_of trace pass limit from mid to s).gain
  unfolding probe_of
  probe8 limit from mid to s h = part8 s.gain _ h (mul8 _ _ (segment8 limit from mid) (segment8 limit mid to))

  probes8 : (limit : ℕ) (radius : Float) (from to : Vec3) (b : Basis) (k : ℕ) → NotNegative8 (probes_of trace pass limit radius from to b k).gain
  unfolding probes_of
  probes8 limit radius from to b zero = probe8 limit from (mid_of from to (vec zero32 zero32 zero32)) to (transmission zeros_of 0) zeros8
  probes8 limit radius from to b (suc k) =
      probe8 limit from (mid_of from to (offset_of radius b (probe_angle_of k))) to (probes_of trace pass limit radius from to b k) (probes8 limit radius from to b k)

  pub soft8 : (limit : ℕ) (radius : Float) (from to : Vec3) → NotNegative8 (segment_soft_transmission_of trace pass limit radius from to).gain
  unfolding segment_soft_transmission_of
  soft8 limit radius from to = probes8 limit radius from to (probe_basis_of (normalize3_of (sub3_of to from))) probe_count

-- ---- the way

module _ (soft : Vec3 → Vec3 → Transmission) (all : (a b : Vec3) → NotNegative8 (soft a b).gain) where
  go8 : (to : Vec3) (w : Way) → NotNegative8 w.gain → NotNegative8 (go_of soft to w).gain
  unfolding go_of
  go8 to w h = mul8 w.gain (soft w.from to).gain h (all w.from to)

  go_all8 : (w : Way) (bs : List Vec3) → NotNegative8 w.gain → NotNegative8 (go_all_of soft w bs).gain
  unfolding go_all_of
  go_all8 w [] h = h
  go_all8 w (b ∷ bs) h = go8 b (go_all_of soft w bs) (go_all8 w bs h)

  start8 : (listener : Vec3) → NotNegative8 (start_of listener).gain
  unfolding start_of
  start8 listener = splat8 one32 one_not_negative

  pub way8 : (listener source : Vec3) (bs : List Vec3) → NotNegative8 (way_of soft listener source bs).gain
  unfolding way_of
  way8 listener source bs = go8 source (go_all_of soft (start_of listener) bs) (go_all8 (start_of listener) bs (start8 listener))

-- ---- what arrives

fold8 : (f : ℕ → Band8) → ((i : ℕ) → NotNegative8 (f i)) → (g : Band8) (is : List ℕ) → NotNegative8 g → NotNegative8 (foldl (λ (a : Band8) (i : ℕ). mul_of a (f i)) g is)
fold8 f all g [] h = h
fold8 f all g (i ∷ is) h = fold8 f all (mul_of g (f i)) is (mul8 g (f i) h (all i))

reflected8 : (materials : List Float) (tri : ℕ → Triangle) (is : List ℕ) → NotNegative8 (reflected_of materials tri is)
unfolding reflected_of
reflected8 materials tri is = fold8 (λ i. reflection_of_handle materials (tri i).material_handle) (λ i. reflection8 materials (tri i).material_handle) (splat_of one32) is (splat8 one32 one_not_negative)

gain_not_negative : (m : DistanceModel) (d : Float) → NotNegative (gain_of m d)
unfolding gain_of
gain_not_negative m d = held_not_negative _

band_not_negative : (c n : ℕ) → NotNegative (band_of c n)
band_not_negative c n = value_not_negative (band_of c n) (factor_of_steps (steps_of c n)) (2 ^ 24) (band_value c n)

air8 : (a : Air) (total : Float) → NotNegative8 (air_gain_of a total)
unfolding air_gain_of bands_of
air8 a total =
    let n = millimetres_of total in
    record {
      p0 = band_not_negative a.a0 n;
      p1 = band_not_negative a.a1 n;
      p2 = band_not_negative a.a2 n;
      p3 = band_not_negative a.a3 n;
      p4 = band_not_negative a.a4 n;
      p5 = band_not_negative a.a5 n;
      p6 = band_not_negative a.a6 n;
      p7 = band_not_negative a.a7 n;
    }

pub gains8 : (m : DistanceModel) (a : Air) (materials : List Float) (tri : ℕ → Triangle) (is : List ℕ) (total weight : Float) → NotNegative weight → NotNegative8 (gains_of m a (reflected_of materials tri is) total weight)
unfolding gains_of
gains8 m a materials tri is total weight h =
    scale8 (mul_of (reflected_of materials tri is) (mul_of (splat_of (gain_of m total)) (air_gain_of a total))) weight
    (mul8 (reflected_of materials tri is) (mul_of (splat_of (gain_of m total)) (air_gain_of a total)) (reflected8 materials tri is)
    (mul8 (splat_of (gain_of m total)) (air_gain_of a total) (splat8 (gain_of m total) (gain_not_negative m total)) (air8 a total)))
    h
