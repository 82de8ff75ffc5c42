-- Laws on the definitions, for any trace and any limit: the four ways that a turn of the walk goes, and how many traces there are. And that a
-- hit's handle is a triangle's.
use mathlib.Core.Path.{◌≡◌, refl}
use mathlib.Core.Bool.{Bool, true, false, cond}
use lib.Dec.{eqb}
use Prim.Native.Nat.{ℕ, zero, suc, ◌+◌, ◌-◌, ◌*◌, ◌^◌, ◌≤◌, ◌<◌}
use native.Mathlib.Nat.{mul-le-mul}
use native.Mathlib.Omega.{arith}
use lib.Ieee.{Float, binary32, sub, mul, lt}
use Rattle.float.specs.Literals.{zero32, one32}
use Rattle.vector.specs.declared.Vec3.{Vec3}
use Rattle.vector.specs.declared.Ray.{Ray}
use Rattle.vector.specs.declared.Basis.{Basis}
use Rattle.vector.specs.Ray.{point_at_of}
use Rattle.vector.specs.Vector.{vec, sub3_of, distance3_of, normalize3_of}
use Rattle.vector.specs.Basis.{probe_basis_of, probe_angle_of}
use Rattle.geometry.specs.declared.Triangle.{Triangle}
use Rattle.geometry.specs.Aabb.{two}
use Rattle.bands.specs.declared.Band8.{Band8}
use Rattle.bands.specs.Band8.{splat_of, zeros_of, mul_of}
use Rattle.tree_build.specs.Tree.{Tree}
use Rattle.tree_trace.specs.declared.Closest.{Closest}
use Rattle.tree_trace.specs.declared.RayHit.{RayHit}
use Rattle.std.specs.Prelude.{Option, None, Some}
use Rattle.geometry.specs.Slab.{intersect_tof}
use Rattle.tree_trace.specs.Trace.{trace_tree, none, intersect_of}
use Rattle.segments.specs.declared.Transmission.{Transmission}
use Rattle.segments.specs.Segment.{occlusion_eps, probe_count, transmission, segment_ray_of, after_of, walk_of, segment_transmission_of, offset_of, mid_of, probe_of, probes_of, segment_soft_transmission_of}

-- ---- a hit's handle

abbrev handle_or : ℕ → Option RayHit → ℕ
handle_or d None = d
handle_or d (Some h) = h.material_handle

-- what holds of each triangle's handle holds of a hit's
pub hit_handle :
    (tri : ℕ → Triangle) (t : Tree) (ray : Ray) (h : RayHit) (P : ℕ → Type 0) →
    ((i : ℕ) → P (tri i).material_handle) → intersect_of tri ray t ≡ Some h → P h.material_handle
unfolding intersect_of
hit_handle tri t ray h P all e = rw e at (found (trace_tree intersect_tof tri ray t (none ray)) (eqb (trace_tree intersect_tof tri ray t (none ray)).found 0)) where
  found : (c : Closest) (b : Bool) →
      P (handle_or (tri 0).material_handle
      (cond b None (Some (record { distance = c.distance; point = point_at_of ray c.distance; triangle = c.index; material_handle = (tri c.index).material_handle }))))
  found c true = all 0
  found c false = all c.index

module _ (trace : Ray → Option RayHit) (pass : ℕ → Band8) where
  -- ---- the four ways that a turn of the walk goes

  module _ (dir : Vec3) (left : ℕ) (o : Vec3) (r : Float) (g : Band8) (n : ℕ) where
    pub walk_end : lt (mul binary32 two occlusion_eps) r ≡ false → transmission g n ≡ walk_of trace pass dir left o r g n
    unfolding walk_of
    walk_end e = elim left as (λ m. transmission g n ≡ walk_of trace pass dir m o r g n) [ zero ↦ rw e | suc k ↦ rw e ]

    pub walk_clear : lt (mul binary32 two occlusion_eps) r ≡ true → trace (segment_ray_of o dir r) ≡ None → transmission g (n + 1) ≡ walk_of trace pass dir left o r g n
    unfolding walk_of
    walk_clear e h = elim left as (λ m. transmission g (n + 1) ≡ walk_of trace pass dir m o r g n) [ zero ↦ rw (e, h) | suc k ↦ rw (e, h) ]

    pub walk_over :
        (x : RayHit) → left ≡ 0 → lt (mul binary32 two occlusion_eps) r ≡ true → trace (segment_ray_of o dir r) ≡ Some x →
        transmission zeros_of (n + 1) ≡ walk_of trace pass dir left o r g n
    unfolding walk_of
    walk_over x z e h = rw (z, e, h)

  pub walk_on :
      (dir : Vec3) (left : ℕ) (o : Vec3) (r : Float) (g : Band8) (n : ℕ) (x : RayHit) →
      (left ≡ 0 → ⊥) → lt (mul binary32 two occlusion_eps) r ≡ true → trace (segment_ray_of o dir r) ≡ Some x →
      walk_of trace pass dir (left - 1) x.point (sub binary32 r x.distance) (mul_of g (pass x.material_handle)) (n + 1) ≡ walk_of trace pass dir left o r g n
  unfolding walk_of
  walk_on dir zero o r g n x ne e h = absurd (ne refl)
  walk_on dir (suc left) o r g n x ne e h = let l : suc left - 1 ≡ left = omega arith in rw (l, e, h)

  -- ---- how many traces: at most one more than the crossings that are left

  turn_bound :
      (on : Vec3 → Float → Band8 → Transmission) (r : Float) (g : Band8) (n m : ℕ) →
      ((p : Vec3) (x : Float) (f : Band8) → (on p x f).rays ≤ m) → n + 1 ≤ m →
      (b : Bool) (h : Option RayHit) → (cond b (after_of pass on r g n h) (transmission g n)).rays ≤ m
  turn_bound on r g n m all fits false h = omega arith
  turn_bound on r g n m all fits true None = fits
  turn_bound on r g n m all fits true (Some h) = all h.point (sub binary32 r h.distance) (mul_of g (pass h.material_handle))

  pub walk_bound : (dir : Vec3) (left : ℕ) (o : Vec3) (r : Float) (g : Band8) (n : ℕ) → (walk_of trace pass dir left o r g n).rays ≤ n + left + 1
  unfolding walk_of
  walk_bound dir zero o r g n =
      turn_bound (λ p x f. transmission zeros_of (n + 1)) r g n (n + 0 + 1) (λ p x f. omega arith) (omega arith) (lt (mul binary32 two occlusion_eps) r) (trace (segment_ray_of o dir r))
  walk_bound dir (suc left) o r g n =
      turn_bound (λ p x f. walk_of trace pass dir left p x f (n + 1)) r g n (n + suc left + 1)
      (λ p x f. let le : (walk_of trace pass dir left p x f (n + 1)).rays ≤ n + 1 + left + 1 = walk_bound dir left p x f (n + 1) in omega arith)
      (omega arith)
      (lt (mul binary32 two occlusion_eps) r)
      (trace (segment_ray_of o dir r))

  -- a half segment
  pub segment_bound : (limit : ℕ) (from to : Vec3) → (segment_transmission_of trace pass limit from to).rays ≤ limit + 1
  unfolding segment_transmission_of
  segment_bound limit from to =
      let w : (walk_of trace pass (normalize3_of (sub3_of to from)) limit from (distance3_of from to) (splat_of one32) 0).rays ≤ 0 + limit + 1 =
      walk_bound (normalize3_of (sub3_of to from)) limit from (distance3_of from to) (splat_of one32) 0 in
      omega arith

  pub probe_bound : (limit : ℕ) (from mid to : Vec3) (sum : Transmission) → (probe_of trace pass limit from mid to sum).rays ≤ sum.rays + 2 * (limit + 1)
  unfolding probe_of
  probe_bound limit from mid to sum =
      let a : (segment_transmission_of trace pass limit from mid).rays ≤ limit + 1 = segment_bound limit from mid in
      let b : (segment_transmission_of trace pass limit mid to).rays ≤ limit + 1 = segment_bound limit mid to in
      omega arith

  module _ (limit : ℕ) (radius : Float) (from to : Vec3) where
    pub probes_bound : (f : Basis) (k : ℕ) → (probes_of trace pass limit radius from to f k).rays ≤ (k + 1) * (2 * (limit + 1))
    unfolding probes_of
    probes_bound f zero =
        let t : (probe_of trace pass limit from (mid_of from to (vec zero32 zero32 zero32)) to (transmission zeros_of 0)).rays ≤ 0 + 2 * (limit + 1) = probe_bound limit from _ to _ in
        omega arith
    probes_bound f (suc k) =
        let mid : Vec3 = mid_of from to (offset_of radius f (probe_angle_of k)) in
        let before : (probes_of trace pass limit radius from to f k).rays ≤ (k + 1) * (2 * (limit + 1)) = probes_bound f k in
        let t : (probe_of trace pass limit from mid to (probes_of trace pass limit radius from to f k)).rays ≤ (probes_of trace pass limit radius from to f k).rays + 2 * (limit + 1) =
        probe_bound limit from mid to _ in
        omega arith

    -- a segment: nine probes of two halves each
    pub soft_bound : (segment_soft_transmission_of trace pass limit radius from to).rays ≤ 18 * (limit + 1)
    unfolding segment_soft_transmission_of
    soft_bound =
        let r : (probes_of trace pass limit radius from to (probe_basis_of (normalize3_of (sub3_of to from))) probe_count).rays ≤ (probe_count + 1) * (2 * (limit + 1)) =
        probes_bound (probe_basis_of (normalize3_of (sub3_of to from))) probe_count in
        omega arith

-- ---- the sums of the loop over the probes around the middle

pub probes_fit : (limit k n : ℕ) → n ≤ 2 * (limit + 1) * (k + 1) → k < probe_count → 18 * (limit + 1) < 2 ^ 32 → n + 2 * (limit + 1) < 2 ^ 32
probes_fit limit k n h l f =
    let same : 2 * (limit + 1) ≤ 2 * (limit + 1) = omega arith in
    let few : k + 1 ≤ probe_count = omega arith in
    let a : 2 * (limit + 1) * (k + 1) ≤ 2 * (limit + 1) * probe_count = mul-le-mul same few in
    omega arith

pub probes_all : (limit k n : ℕ) → n ≤ 2 * (limit + 1) * (k + 1) → k ≡ probe_count → n ≤ 18 * (limit + 1)
probes_all limit k n h e = let a : n ≤ 2 * (limit + 1) * (probe_count + 1) = rw e at h in omega arith
