-- `segment_transmission` and `segment_soft_transmission`, each with the traces that it makes: document 01's 'rays counts each trace of the tree'.
-- `trace` says what a ray hits, `pass` what a surface of a handle lets through, `limit` how many crossings of a half segment count, and
-- `radius` how far from the middle the probes are set: the Rust's `OCCLUSION_MAX_CROSSINGS` and `REFLECTION_VISIBILITY_RADIUS`.
use Rattle.std.specs.Prelude.{ℕ, zero, suc, ◌+◌, Float, cond, Option, None, Some}
use Rattle.std.specs.Float.{binary32}
use Rattle.std.specs.Float.Ieee.{add, sub, mul, div, lt, of_bits}
use Rattle.float.specs.Literals.{zero32, one32}
use Rattle.vector.specs.declared.Vec3.{Vec3}
use Rattle.vector.specs.declared.Ray.{Ray}
use Rattle.vector.specs.declared.Basis.{Basis}
use Rattle.vector.specs.declared.Angle.{Angle}
use Rattle.vector.specs.Vector.{vec, sub3_of, distance3_of, normalize3_of}
use Rattle.vector.specs.Basis.{probe_basis_of, probe_angle_of}
use Rattle.geometry.specs.Aabb.{two}
use Rattle.geometry.specs.Triangle.{half}
use Rattle.bands.specs.declared.Band8.{Band8}
use Rattle.bands.specs.Band8.{both, splat_of, zeros_of, mul_of}
use Rattle.tree_trace.specs.declared.RayHit.{RayHit}
use Rattle.segments.specs.declared.Transmission.{Transmission}

-- `OCCLUSION_EPS`, 1e-3
abbrev pub occlusion_eps : Float
occlusion_eps = of_bits binary32 0x3a83_126f

-- `REFLECTION_VISIBILITY_RAYS`, 9: one in the middle and eight around it
abbrev pub visibility_rays : Float
visibility_rays = of_bits binary32 0x4110_0000

abbrev pub probe_count : ℕ
probe_count = 8

abbrev pub transmission : Band8 → ℕ → Transmission
transmission g n = record { gain = g; rays = n }

-- ---- a half segment

-- `ray`: what remains, less a millimetre at both ends
unfoldable pub segment_ray_of : Vec3 → Vec3 → Float → Ray
segment_ray_of origin dir remaining =
    record { origin = origin; direction = dir; min_distance = occlusion_eps; max_distance = sub binary32 remaining occlusion_eps }

-- after a trace: the end where nothing is hit, else on from the point that is hit
abbrev pub after_of : (ℕ → Band8) → (Vec3 → Float → Band8 → Transmission) → Float → Band8 → ℕ → Option RayHit → Transmission
after_of pass on remaining product rays None = transmission product (rays + 1)
after_of pass on remaining product rays (Some h) = on h.point (sub binary32 remaining h.distance) (mul_of product (pass h.material_handle))

-- one turn of the loop, with `on` for the turns after it: `while remaining > 2.0 * OCCLUSION_EPS`
abbrev pub turn_of : (Ray → Option RayHit) → (ℕ → Band8) → Vec3 → (Vec3 → Float → Band8 → Transmission) → Vec3 → Float → Band8 → ℕ → Transmission
turn_of trace pass dir on origin remaining product rays =
    cond (lt (mul binary32 two occlusion_eps) remaining)
    (after_of pass on remaining product rays (trace (segment_ray_of origin dir remaining)))
    (transmission product rays)

-- the loop with `left` crossings left: `if crossings > OCCLUSION_MAX_CROSSINGS` the surface is opaque
unfoldable pub walk_of : (Ray → Option RayHit) → (ℕ → Band8) → Vec3 → ℕ → Vec3 → Float → Band8 → ℕ → Transmission
walk_of trace pass dir zero origin remaining product rays = turn_of trace pass dir (λ p r g. transmission zeros_of (rays + 1)) origin remaining product rays
walk_of trace pass dir (suc left) origin remaining product rays =
    turn_of trace pass dir (λ p r g. walk_of trace pass dir left p r g (rays + 1)) origin remaining product rays

-- `segment_transmission`. Its first test (`total < 2.0 * OCCLUSION_EPS`) is that of the loop's first turn.
unfoldable pub segment_transmission_of : (Ray → Option RayHit) → (ℕ → Band8) → ℕ → Vec3 → Vec3 → Transmission
segment_transmission_of trace pass limit from to =
    walk_of trace pass (normalize3_of (sub3_of to from)) limit from (distance3_of from to) (splat_of one32) 0

-- ---- the bundle of nine

-- `offset` of a probe at an angle
unfoldable pub offset_of : Float → Basis → Angle → Vec3
offset_of radius b a =
    vec (mul binary32 radius (add binary32 (mul binary32 b.u.x a.cos) (mul binary32 b.w.x a.sin)))
    (mul binary32 radius (add binary32 (mul binary32 b.u.y a.cos) (mul binary32 b.w.y a.sin)))
    (mul binary32 radius (add binary32 (mul binary32 b.u.z a.cos) (mul binary32 b.w.z a.sin)))

-- `mid`: half way, and off by the offset
unfoldable pub mid_of : Vec3 → Vec3 → Vec3 → Vec3
mid_of a b o =
    vec (add binary32 (mul binary32 half (add binary32 a.x b.x)) o.x)
    (add binary32 (mul binary32 half (add binary32 a.y b.y)) o.y)
    (add binary32 (mul binary32 half (add binary32 a.z b.z)) o.z)

-- `sum[band] += gain.0[band] / 9`
unfoldable pub add_part_of : Band8 → Band8 → Band8
add_part_of s g = both (λ x y. add binary32 x (div binary32 y visibility_rays)) s g

-- one probe, by way of `mid`
unfoldable pub probe_of : (Ray → Option RayHit) → (ℕ → Band8) → ℕ → Vec3 → Vec3 → Vec3 → Transmission → Transmission
probe_of trace pass limit from mid to sum =
    let a = segment_transmission_of trace pass limit from mid in
    let b = segment_transmission_of trace pass limit mid to in
    transmission (add_part_of sum.gain (mul_of a.gain b.gain)) (sum.rays + a.rays + b.rays)

-- the probe in the middle, and the first k around it
unfoldable pub probes_of : (Ray → Option RayHit) → (ℕ → Band8) → ℕ → Float → Vec3 → Vec3 → Basis → ℕ → Transmission
probes_of trace pass limit radius from to b zero = probe_of trace pass limit from (mid_of from to (vec zero32 zero32 zero32)) to (transmission zeros_of 0)
probes_of trace pass limit radius from to b (suc k) =
    probe_of trace pass limit from (mid_of from to (offset_of radius b (probe_angle_of k))) to (probes_of trace pass limit radius from to b k)

-- `segment_soft_transmission`
unfoldable pub segment_soft_transmission_of : (Ray → Option RayHit) → (ℕ → Band8) → ℕ → Float → Vec3 → Vec3 → Transmission
segment_soft_transmission_of trace pass limit radius from to =
    probes_of trace pass limit radius from to (probe_basis_of (normalize3_of (sub3_of to from))) probe_count
