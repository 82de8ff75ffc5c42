-- No gain of a path is below zero: neither the edge weight, nor what the segments let through, nor what the triangles reflect.
use mathlib.Core.Bool.{Bool, true, false, not, cond}
use mathlib.Core.List.{List, ◌∷◌}
use Prim.Native.Nat.{ℕ, zero, suc, ◌+◌, ◌-◌, ◌*◌, ◌/◌, ◌%◌, ◌^◌, ◌<◌, ◌≤◌, compare}
use native.Mathlib.Nat.{zero-mul}
use native.Mathlib.Omega.{arith}
use borrow.Author.Tests.{le-ltb}
use lib.Dec.{T, ltb, nltb→le, lt→ltb}
use lib.IntN.{pos}
use lib.Ieee.{Float, nan, inf, fin, binary32, up, down, size, nearest, odd, units, round, neg, sum, add, sub, mul, div, lt, le, eq, of_bits}
use lib.Ieee.Order.{round_mono}
use lib.Ieee.Positive.{le→cross}
use lib.Ieee.Fits.{down_pos}
use Rattle.float.specs.Literals.{zero32, one32}
use Rattle.float.specs.Compare.{clamp_of}
use Rattle.geometry.specs.Aabb.{two}
use Rattle.geometry.specs.Triangle.{three}
use Rattle.mirror.specs.Border.{smooth_of, weight_of, border_distance_of}
use Rattle.mirror.specs.Plane.{Edge, Plane}
use Rattle.mirror.specs.Mirror.{crossing_of}
use Rattle.mirror.specs.Locate.{Spot, Located, contains_in_box_of, spot_of, weighed_of, locate_on_plane_of}
use Rattle.geometry.specs.declared.Triangle.{Triangle}
use Rattle.bounces.specs.declared.Lost.TheVariants.{NotCrossed, OffSurface}
use Rattle.std.specs.Prelude.{Option, None, Some, Ok, Err}
use Rattle.bounces.specs.Bounces.{Bounce, located_of, crossed_of, bounce_of, Bounces, not_crossed, off_surface, made, then_of, back_of}
use Rattle.vector.specs.declared.Vec3.{Vec3}
use Rattle.paths.proofs.Signs.{NotNegative, round_false, mul_not_negative, clamp_not_negative, one_not_negative}

-- ---- the edge weight

abbrev AtMostTwo : Float → Type 0
AtMostTwo nan = Unit {0}
AtMostTwo (inf true) = Unit {0}
AtMostTwo (inf false) = ⊥
AtMostTwo (fin true n d) = Unit {0}
AtMostTwo (fin false n d) = n * up d ≤ 2 * down d

-- `3.0 - 2.0 * s`
from_three : (y : Float) → AtMostTwo y → NotNegative (sub binary32 three y)
unfolding sub add neg sum of_bits
from_three nan h = tt
from_three (inf true) h = tt
from_three (inf false) h = absurd h
from_three (fin true n d) h = round_false binary32 (3 * 1 * down d + n * up d * 1) (1 * down d)
from_three (fin false n d) h =
    let l : n * up d * 1 ≤ 3 * 1 * down d = omega arith in
    rw (le-ltb (3 * 1 * down d) (n * up d * 1) l) (round_false binary32 (3 * 1 * down d - n * up d * 1) (1 * down d))

le_two : (x : Float) → T (le x (fin false 1 (pos 1))) → AtMostTwo x
unfolding le lt eq
le_two nan h = tt
le_two (inf true) h = tt
le_two (inf false) h = absurd h
le_two (fin true n d) h = tt
le_two (fin false zero d) h = let z = zero-mul (up d) in omega arith
le_two (fin false (suc n) d) h =
    let c : suc n * up d * 1 ≤ 1 * 2 * down d = le→cross (fin false (suc n) d) (fin false 1 (pos 1)) (lt→ltb 0 (suc n) (omega arith)) tt h in
    omega arith

odd_true : (d q k l : ℕ) → AtMostTwo (odd d true q k l)
unfolding odd
odd_true d zero k l = tt
odd_true d (suc q) k l = tt

units_true : (q k : ℕ) → AtMostTwo (units binary32 true q k)
unfolding units
units_true q k = picked (ltb (q * 2 ^ k) (2 ^ 277)) where
  picked : (b : Bool) → AtMostTwo (cond b (odd 25 true q k 149) (inf true))
  picked true = odd_true 25 q k 149
  picked false = tt

round_true : (a c : ℕ) → AtMostTwo (round binary32 true a c)
unfolding round
round_true a c =
    let n = a * 2 ^ 149 in
    let k = size (n / c) - 24 in
    let u = c * 2 ^ k in
    units_true (nearest (n / u) (compare (n % u * 2) u)) k

twice : (s : Float) → NotNegative s → T (not (lt one32 s)) → AtMostTwo (mul binary32 two s)
unfolding mul lt of_bits
twice nan p h = tt
twice (inf true) p h = absurd p
twice (inf false) p h = absurd h
twice (fin true (suc m) e) p h = absurd p
twice (fin true zero e) p h = round_true (1 * 2 * (0 * up e)) (1 * down e)
twice (fin false m e) p h =
    let l : m * up e * 1 ≤ 1 * 1 * down e = nltb→le (1 * 1 * down e) (m * up e * 1) h in
    le_two (round binary32 false (1 * 2 * (m * up e)) (1 * down e))
    (round_mono binary32 (1 * 2 * (m * up e)) (1 * down e) 2 1 (some (down e) (down_pos e)) (omega arith) (omega arith)) where
      some : (d : ℕ) → 0 < d → 0 < 1 * d
      some d h = omega arith

zero_below : T (not (lt one32 zero32))
unfolding lt of_bits
zero_below = tt

one_below : T (not (lt one32 one32))
unfolding lt of_bits
one_below = tt

pub clamp_below : (x : Float) → T (not (lt one32 (clamp_of x zero32 one32)))
unfolding clamp_of
clamp_below x = picked (lt x zero32) (lt one32 x) (λ h. h) where
  picked : (a b : Bool) → (T (not b) → T (not (lt one32 x))) → T (not (lt one32 (cond a zero32 (cond b one32 x))))
  picked true b h = zero_below
  picked false true h = one_below
  picked false false h = h tt

smooth_not_negative : (d fade : Float) → NotNegative (smooth_of d fade)
unfolding smooth_of
smooth_not_negative d fade =
    let s = clamp_of (div binary32 d fade) zero32 one32 in
    let p = clamp_not_negative (div binary32 d fade) in
    mul_not_negative binary32 (mul binary32 s s) (sub binary32 three (mul binary32 two s)) (mul_not_negative binary32 s s p p)
    (from_three (mul binary32 two s) (twice s p (clamp_below (div binary32 d fade))))

weight_not_negative : (es : List Edge) (fade : Float) (p : Vec3) → NotNegative (weight_of es fade p)
unfolding weight_of
weight_not_negative es fade p = picked (lt zero32 fade) where
  picked : (b : Bool) → NotNegative (cond b (smooth_of (border_distance_of p es) fade) one32)
  picked true = smooth_not_negative (border_distance_of p es) fade
  picked false = one_not_negative

-- ---- the bounces

abbrev LocatedWeight : Located → Type 0
LocatedWeight None = Unit {0}
LocatedWeight (Some (i, w, q)) = NotNegative w

abbrev BounceWeight : Bounce → Type 0
BounceWeight (Err e) = Unit {0}
BounceWeight (Ok (i, w, q)) = NotNegative w

abbrev pub Weight : Bounces → Type 0
Weight not_crossed = Unit {0}
Weight off_surface = Unit {0}
Weight (made points tris w) = NotNegative w

located_weight : (tri : ℕ → Triangle) (fade : Float) (plane : Plane) (p : Vec3) → LocatedWeight (locate_on_plane_of tri fade plane p)
unfolding locate_on_plane_of
located_weight tri fade plane p = picked (contains_in_box_of plane p) (spot_of tri plane p) where
  picked : (b : Bool) (s : Spot) → LocatedWeight (cond b (weighed_of (weight_of plane.border fade) s) None)
  picked false s = tt
  picked true None = tt
  picked true (Some (i, q)) = weight_not_negative plane.border fade q

bounce_weight : (tri : ℕ → Triangle) (fade : Float) (plane : Plane) (prev target : Vec3) → BounceWeight (bounce_of tri fade plane prev target)
unfolding bounce_of
bounce_weight tri fade plane prev target = picked (crossing_of plane prev target) where
  placed : (l : Located) → LocatedWeight l → BounceWeight (located_of l)
  placed None h = tt
  placed (Some (i, w, q)) h = h

  picked : (c : Option Vec3) → BounceWeight (crossed_of (locate_on_plane_of tri fade plane) c)
  picked None = tt
  picked (Some b) = placed (locate_on_plane_of tri fade plane b) (located_weight tri fade plane b)

module _ (tri : ℕ → Triangle) (fade : Float) (plane : ℕ → Plane) (image : ℕ → Vec3) where
  then_weight : (f : ℕ → Float → Vec3 → Bounces) (b : Bounce) → BounceWeight b → ((i : ℕ) (w : Float) (q : Vec3) → NotNegative w → Weight (f i w q)) → Weight (then_of f b)
  then_weight f (Err NotCrossed) h all = tt
  then_weight f (Err OffSurface) h all = tt
  then_weight f (Ok (i, w, q)) h all = all i w q h

  pub back_weight : (k : ℕ) (prev : Vec3) (weight : Float) (ps : List Vec3) (is : List ℕ) → NotNegative weight → Weight (back_of tri fade plane image k prev weight ps is)
  unfolding back_of
  back_weight zero prev weight ps is h = h
  back_weight (suc k) prev weight ps is h =
      then_weight (λ i w q. back_of tri fade plane image k q (mul binary32 weight w) (q ∷ ps) (i ∷ is)) (bounce_of tri fade (plane k) prev (image (suc k)))
      (bounce_weight tri fade (plane k) prev (image (suc k)))
      (λ i w q g. back_weight k q (mul binary32 weight w) (q ∷ ps) (i ∷ is) (mul_not_negative binary32 weight w h g))
