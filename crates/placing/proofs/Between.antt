-- A coordinate is far just where it does not lie between -10,000 and 10,000: a NaN and the infinities do not.
use mathlib.Core.Path.{◌≡◌, refl, sym, ap, ◌∙◌}
use mathlib.Core.Bool.{Bool, true, false, not, cond, ◌&&◌, ◌||◌}
use Prim.Native.Nat.{ℕ, zero, suc, ◌+◌, ◌*◌, ◌<◌, ◌≤◌}
use native.Mathlib.Nat.{mul-pos, zero-lt-suc, zero-mul}
use native.Mathlib.Omega.{arith}
use borrow.Author.Tests.{eq-eqb, lt-ltb, le-ltb, ne_eqb}
use lib.Dec.{T, ltb, eqb, ltb→lt, nltb→le}
use lib.IntN.{ℤ}
use lib.Ieee.{Float, nan, inf, fin, up, down, neg, lt, eq, le, of_bits}
use lib.Ieee.Fits.{up_pos, down_pos}
use Rattle.float.specs.Literals.{zero32}
use Rattle.float.specs.Compare.{abs_of, is_finite}
use Rattle.placing.specs.Corners.{farthest, far_of}

-- what is neither below nor equal is above
beyond : (a b : ℕ) → not (ltb a b || (eqb a b && true)) ≡ ltb b a × not (ltb a b || (eqb b a && true)) ≡ ltb b a
beyond a b = go (ltb a b) (ltb b a) refl refl (ltb→lt a b) (nltb→le a b) (ltb→lt b a) (nltb→le b a)
  where
    go :
        (u v : Bool) → ltb a b ≡ u → ltb b a ≡ v → (T u → a < b) → (T (not u) → b ≤ a) → (T v → b < a) → (T (not v) → a ≤ b) →
        not (ltb a b || (eqb a b && true)) ≡ ltb b a × not (ltb a b || (eqb b a && true)) ≡ ltb b a
    go true true e f p q r s = let x = p tt in let y = r tt in absurd (let no : ⊥ = omega (arith, x, y) in no)
    go true false e f p q r s = (rw (e, f), rw (e, f))
    go false true e f p q r s = let y = r tt in (rw (e, f, ne_eqb a b (λ z. omega (arith, y, z))), rw (e, f, ne_eqb b a (λ z. omega (arith, y, z))))
    go false false e f p q r s = let x = q tt in let y = s tt in (rw (e, f, eq-eqb a b (omega (arith, x, y))), rw (e, f, eq-eqb b a (omega (arith, x, y))))

nothing : (a b : ℕ) → 0 * a * b ≡ 0
nothing a b = rw (zero-mul a, zero-mul b)

wide : (e : ℤ) → 0 < 10000 * down e
wide e = mul-pos (zero-lt-suc 9999) (down_pos e)

-- 10,000 against a number without its sign
abs_plus : (m : ℕ) (e : ℤ) → lt farthest (abs_of (fin false m e)) ≡ ltb (10000 * down e) (m * up e * 1)
unfolding abs_of lt eq of_bits
abs_plus m e =
    let x = fin false m e in
    let z = zero-mul (down e) in
    let w = wide e in
    let l : lt x zero32 ≡ false = le-ltb (m * up e * 1) (0 * down e) (omega arith) in
    ap (λ (t : Bool). lt farthest (cond t (neg x) (cond (eq x zero32) zero32 x))) l ∙ go (m * up e * 1) refl
  where
    go : (a : ℕ) → m * up e * 1 ≡ a → lt farthest (cond (eq (fin false m e) zero32) zero32 (fin false m e)) ≡ ltb (10000 * down e) (m * up e * 1)
    go zero h =
        let z = zero-mul (down e) in
        let q : eq (fin false m e) zero32 ≡ true = ap (λ (t : Bool). t && true) (eq-eqb (m * up e * 1) (0 * down e) (omega (arith, h, z))) in
        ap (λ (t : Bool). lt farthest (cond t zero32 (fin false m e))) q ∙ sym (le-ltb (10000 * down e) (m * up e * 1) (omega (arith, h)))
    go (suc a) h =
        let z = zero-mul (down e) in
        let q : eq (fin false m e) zero32 ≡ false = ap (λ (t : Bool). t && true) (ne_eqb (m * up e * 1) (0 * down e) (λ s. omega (arith, h, z, s))) in
        ap (λ (t : Bool). lt farthest (cond t zero32 (fin false m e))) q

-- a number of either sign
pub far_between : (x : Float) → not (le x farthest && le (neg farthest) x) ≡ far_of x
unfolding far_of is_finite abs_of le lt eq neg of_bits
far_between nan = refl
far_between (inf true) = refl
far_between (inf false) = refl
far_between (fin false m e) =
    let a = m * up e * 1 in
    let b = 10000 * down e in
    let w = wide e in
    let l : ltb 0 (b + a) ≡ true = lt-ltb 0 (b + a) (omega arith) in
    let low : le (neg farthest) (fin false m e) ≡ true = ap (λ (t : Bool). t || eq (neg farthest) (fin false m e)) l in
    ap (λ (t : Bool). not (le (fin false m e) farthest && t)) low ∙ and_true (le (fin false m e) farthest) ∙ (beyond a b).0 ∙ sym (abs_plus m e)
  where
    and_true : (t : Bool) → not (t && true) ≡ not t
    and_true true = refl
    and_true false = refl
far_between (fin true zero e) =
    let z = nothing (up e) 1 in
    let w = wide e in
    let k : lt (fin true zero e) zero32 ≡ false = le-ltb 0 (0 * up e * 1 + 0 * down e) (let y = zero-mul (down e) in omega arith) in
    let h : le (fin true zero e) farthest ≡ true = ap (λ (t : Bool). t || eq (fin true zero e) farthest) (lt-ltb 0 (0 * up e * 1 + 10000 * down e) (omega arith)) in
    let g : le (neg farthest) (fin true zero e) ≡ true = ap (λ (t : Bool). t || eq (neg farthest) (fin true zero e)) (lt-ltb (0 * up e * 1) (10000 * down e) (omega arith)) in
    ap (λ (t : Bool). not (t && le (neg farthest) (fin true zero e))) h
    ∙ ap (λ (t : Bool). not (true && t)) g
    ∙ sym (ap (λ (t : Bool). lt farthest (cond t (neg (fin true zero e)) (cond (eq (fin true zero e) zero32) zero32 (fin true zero e)))) k ∙ none)
  where
    none : lt farthest (cond (eq (fin true zero e) zero32) zero32 (fin true zero e)) ≡ false
    none = go (eq (fin true zero e) zero32)
      where
        go : (t : Bool) → lt farthest (cond t zero32 (fin true zero e)) ≡ false
        go true = refl
        go false = refl
far_between (fin true (suc m) e) =
    let a = suc m * up e * 1 in
    let b = 10000 * down e in
    let w = wide e in
    let p : 0 < a = mul-pos (mul-pos (zero-lt-suc m) (up_pos e)) (zero-lt-suc 0) in
    let k : lt (fin true (suc m) e) zero32 ≡ true = lt-ltb 0 (suc m * up e * 1 + 0 * down e) (omega arith) in
    let h : le (fin true (suc m) e) farthest ≡ true = ap (λ (t : Bool). t || eq (fin true (suc m) e) farthest) (lt-ltb 0 (a + b) (omega arith)) in
    ap (λ (t : Bool). not (t && le (neg farthest) (fin true (suc m) e))) h
    ∙ (beyond a b).1
    ∙ sym (ap (λ (t : Bool). lt farthest (cond t (neg (fin true (suc m) e)) (cond (eq (fin true (suc m) e) zero32) zero32 (fin true (suc m) e)))) k)
