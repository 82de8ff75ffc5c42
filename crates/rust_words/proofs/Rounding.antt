-- One rounding: what `planes_faces` makes keys and cells of is `float`'s `round_of`, held to the range of an `i32`; for corners that pass refusal 6 nothing is held back.
--     whole_held      for every float
--     vertex_step     for a coordinate up to 10,000 in size our step of a millimetre is the Rust's, counted from -2^31
--     same_keys       two points within 10,000 have one key of ours exactly when they have one of the Rust's
use Prim.Native.Nat.{ℕ, zero, suc, ◌+◌, ◌*◌, ◌/◌, ◌≤◌, ◌<◌, min}
use mathlib.Core.Path.{◌≡◌, refl, sym, ap, subst, ◌∙◌}
use mathlib.Core.Bool.{Bool, true, false, cond, ◌&&◌}
use mathlib.Core.Logic.{◌↔◌}
use native.Mathlib.Nat.{le_trans, le_of_eq, mul-le-mul, mul-mul-mul_comm, mul-pos}
use native.Mathlib.Omega.{arith}
use lib.IntN.{ℤ, pos, negsuc, neg_ℤ}
use lib.Dec.{eqb}
use borrow.Author.Tests.{eqb-true, eq-eqb}
use lib.Ieee.{Float, nan, inf, fin, binary32, up, down, mul, of_bits, unlike}
use lib.Ieee.Fits.{down_pos}
use lib.Ieee.Nearest.{div_mono}
use Rattle.bounds.specs.Bounds.{Within}
use Rattle.bounds.proofs.Rounded.{round_within}
use Rattle.vector.specs.declared.Vec3.{Vec3}
use Rattle.float.specs.Round.{half_up, in_range, round_of}
use Rattle.planes_faces.specs.Whole.{whole_of, place_of}
use Rattle.planes_faces.specs.Key.{step_of, key_by, same_key, vertex_steps_per_metre, vertex_key}
use Rattle.rust_words.specs.Keys.{held_to32, rust_step, RustKey, rust_key, Near}

above : (n : ℕ) → pos (min n 2147483647) ≡ held_to32 (pos (min n 9223372036854775807))
above n = let z : min n 2147483647 ≡ min (min n 9223372036854775807) 2147483647 = omega arith in ap pos z

-- a number below 0, by its size
negative : (n : ℕ) → neg_ℤ (pos (min n 2147483648)) ≡ held_to32 (neg_ℤ (pos (min n 9223372036854775808)))
negative zero = refl
negative (suc n) =
    let a : min (suc n) 2147483648 ≡ suc (min n 2147483647) = omega arith in
    let b : min (suc n) 9223372036854775808 ≡ suc (min n 9223372036854775807) = omega arith in
    let c : min n 2147483647 ≡ min (min n 9223372036854775807) 2147483647 = omega arith in
    ap (λ (k : ℕ). neg_ℤ (pos k)) a ∙ ap negsuc c ∙ sym (ap (λ (k : ℕ). held_to32 (neg_ℤ (pos k))) b)

held : (s : Bool) (n : ℕ) → cond s (neg_ℤ (pos (min n 2147483648))) (pos (min n 2147483647)) ≡ held_to32 (in_range s n)
held true n = negative n
held false n = above n

pub whole_held : (x : Float) → whole_of x ≡ held_to32 (round_of x)
unfolding whole_of round_of
whole_held nan = refl
whole_held (inf true) = refl
whole_held (inf false) = refl
whole_held (fin s m e) = held s (half_up (m * up e) (down e))

-- ---- corners that pass refusal 6

-- 10,000 m are 10^7 steps of 1 mm
abbrev most_steps : ℕ
most_steps = 10000000

half_small : (a d : ℕ) → 0 < d → a ≤ most_steps * d → half_up a d ≤ most_steps
half_small a d some h =
    let below : (a * 2 + d) / (d * 2) ≤ (most_steps * 2 + 1) / 2 = div_mono (a * 2 + d) (d * 2) (most_steps * 2 + 1) 2 (omega arith) (omega arith) (omega arith) in
    let is : (most_steps * 2 + 1) / 2 ≡ most_steps = refl in
    le_trans below (le_of_eq is)

not_held : (s : Bool) (n : ℕ) → n ≤ most_steps → held_to32 (in_range s n) ≡ in_range s n
not_held false n h = let z : min (min n 9223372036854775807) 2147483647 ≡ min n 9223372036854775807 = omega arith in ap pos z
not_held true zero h = refl
not_held true (suc n) h =
    let b : min (suc n) 9223372036854775808 ≡ suc n = omega arith in
    let c : min n 2147483647 ≡ n = omega arith in
    ap (λ (k : ℕ). held_to32 (neg_ℤ (pos k))) b ∙ ap negsuc c ∙ sym (ap (λ (k : ℕ). neg_ℤ (pos k)) b)

-- where nothing is held back
whole_round : (x : Float) → Within most_steps x → whole_of x ≡ round_of x
unfolding Within round_of
whole_round nan h = absurd h
whole_round (inf s) h = absurd h
whole_round (fin s m e) h = whole_held (fin s m e) ∙ not_held s (half_up (m * up e) (down e)) (half_small (m * up e) (down e) (down_pos e) h)

mul_within : (a b : ℕ) (x y : Float) → a * b ≤ 16777216 → Within a x → Within b y → Within (a * b) (mul binary32 x y)
unfolding Within mul
mul_within a b nan y small h k = absurd h
mul_within a b (inf s) y small h k = absurd h
mul_within a b (fin s m e) nan small h k = absurd k
mul_within a b (fin s m e) (inf t) small h k = absurd k
mul_within a b (fin s m e) (fin t n d) small h k =
    round_within (a * b) (unlike s t) (m * up e * (n * up d)) (down e * down d) small (mul-pos (down_pos e) (down_pos d))
    (le_trans (mul-le-mul h k) (le_of_eq (mul-mul-mul_comm a (down e) b (down d))))

steps_within : Within 1000 vertex_steps_per_metre
unfolding Within of_bits
steps_within = omega arith

pub vertex_step : (x : Float) → Within 10000 x → step_of vertex_steps_per_metre x ≡ place_of (rust_step x)
unfolding step_of
vertex_step x h =
    ap place_of (whole_round (mul binary32 x vertex_steps_per_metre) (mul_within 10000 1000 x vertex_steps_per_metre (omega arith) h steps_within))

-- ---- equal keys

abbrev Small : ℤ → Type 0
Small (pos n) = n ≤ most_steps
Small (negsuc n) = n ≤ most_steps

small_range : (s : Bool) (n : ℕ) → n ≤ most_steps → Small (in_range s n)
small_range false n h = let z : min n 9223372036854775807 ≤ most_steps = omega arith in z
small_range true zero h = let z : 0 ≤ most_steps = omega arith in z
small_range true (suc n) h =
    let b : min (suc n) 9223372036854775808 ≡ suc n = omega arith in
    let z : n ≤ most_steps = omega arith in
    subst (λ (k : ℕ). Small (neg_ℤ (pos k))) (sym b) z

round_small : (x : Float) → Within most_steps x → Small (round_of x)
unfolding Within round_of
round_small nan h = absurd h
round_small (inf s) h = absurd h
round_small (fin s m e) h = small_range s (half_up (m * up e) (down e)) (half_small (m * up e) (down e) (down_pos e) h)

-- small numbers of one place are one number
place_back : (z w : ℤ) → Small z → Small w → place_of z ≡ place_of w → z ≡ w
place_back (pos n) (pos k) h g e = let q : n ≡ k = omega arith in ap pos q
place_back (pos n) (negsuc k) h g e = absurd (let q : ⊥ = omega arith in q)
place_back (negsuc n) (pos k) h g e = absurd (let q : ⊥ = omega arith in q)
place_back (negsuc n) (negsuc k) h g e = let q : n ≡ k = omega arith in ap negsuc q

scaled_within : (x : Float) → Within 10000 x → Within most_steps (mul binary32 x vertex_steps_per_metre)
scaled_within x h = mul_within 10000 1000 x vertex_steps_per_metre (omega arith) h steps_within

step_told : (x y : Float) → Within 10000 x → Within 10000 y → step_of vertex_steps_per_metre x ≡ step_of vertex_steps_per_metre y → rust_step x ≡ rust_step y
step_told x y h g e =
    place_back (rust_step x) (rust_step y) (round_small (mul binary32 x vertex_steps_per_metre) (scaled_within x h)) (round_small (mul binary32 y vertex_steps_per_metre) (scaled_within y g))
    (sym (vertex_step x h) ∙ e ∙ vertex_step y g)

step_same : (x y : Float) → Within 10000 x → Within 10000 y → rust_step x ≡ rust_step y → step_of vertex_steps_per_metre x ≡ step_of vertex_steps_per_metre y
step_same x y h g e = vertex_step x h ∙ ap place_of e ∙ sym (vertex_step y g)

three : (a b c : Bool) → (a && b && c) ≡ true → (a ≡ true) × (b ≡ true) × (c ≡ true)
three true true true e = (refl, refl, refl)
three true true false e = absurd (let z : ◌≡◌ {A = ℕ} 0 1 = cc in omega arith)
three true false c e = absurd (let z : ◌≡◌ {A = ℕ} 0 1 = cc in omega arith)
three false b c e = absurd (let z : ◌≡◌ {A = ℕ} 0 1 = cc in omega arith)

all_three : (a b c : Bool) → a ≡ true → b ≡ true → c ≡ true → (a && b && c) ≡ true
all_three a b c e f g = λ i. e i && f i && g i

pub same_keys : (p q : Vec3) → Near p → Near q → (same_key (vertex_key p) (vertex_key q) ≡ true) ↔ (rust_key p ≡ rust_key q)
unfolding same_key vertex_key key_by
same_keys p q h g = (told, same)
  where
    step : Float → ℕ
    step x = step_of vertex_steps_per_metre x

    told : (eqb (step p.x) (step q.x) && eqb (step p.y) (step q.y) && eqb (step p.z) (step q.z)) ≡ true → rust_key p ≡ rust_key q
    told e =
        let t = three (eqb (step p.x) (step q.x)) (eqb (step p.y) (step q.y)) (eqb (step p.z) (step q.z)) e in
        let x = step_told p.x q.x h.near_x g.near_x (eqb-true (step p.x) (step q.x) t.0) in
        let y = step_told p.y q.y h.near_y g.near_y (eqb-true (step p.y) (step q.y) t.1) in
        let z = step_told p.z q.z h.near_z g.near_z (eqb-true (step p.z) (step q.z) t.2) in
        λ i. record { x = x i; y = y i; z = z i }

    same : rust_key p ≡ rust_key q → (eqb (step p.x) (step q.x) && eqb (step p.y) (step q.y) && eqb (step p.z) (step q.z)) ≡ true
    same e =
        all_three (eqb (step p.x) (step q.x)) (eqb (step p.y) (step q.y)) (eqb (step p.z) (step q.z))
        (eq-eqb (step p.x) (step q.x) (step_same p.x q.x h.near_x g.near_x (ap (λ (k : RustKey). k.x) e)))
        (eq-eqb (step p.y) (step q.y) (step_same p.y q.y h.near_y g.near_y (ap (λ (k : RustKey). k.y) e)))
        (eq-eqb (step p.z) (step q.z) (step_same p.z q.z h.near_z g.near_z (ap (λ (k : RustKey). k.z) e)))
