-- Nothing that the code works out wraps: the sizes of subtrees, and what is visited of them.
use Prim.Native.Nat.{ℕ, zero, suc, ◌+◌, ◌-◌, ◌*◌, ◌^◌, ◌≤◌, ◌<◌}
use mathlib.Core.Path.{◌≡◌, refl, sym, ap, subst}
use native.Mathlib.Nat.{mul-le-mul}
use native.Mathlib.Omega.{arith}
use Rattle.sequences.specs.Count.{series}
use Rattle.sequences.proofs.Counting.{series_suc}

-- a subtree grows with its levels, and with what goes on from each
deeper : (m d j : ℕ) → series m d ≤ series m (j + d)
unfolding series
deeper m d zero = let e : 0 + d ≡ d = omega arith in subst (λ (n : ℕ). series m d ≤ series m n) (sym e) (let z : series m d ≤ series m d = omega arith in z)
deeper m d (suc j) =
    let e : suc j + d ≡ suc (j + d) = omega arith in
    subst (λ (n : ℕ). series m d ≤ series m n) (sym e) (let i = deeper m d j in let z : series m d ≤ series m (j + d) + m ^ (j + d) = omega arith in z)

wider : (m w d : ℕ) → m ≤ w → series m d ≤ series w d
unfolding series
wider m w zero h = omega arith
wider m w (suc d) h = let a = series_suc m d in let b = series_suc w d in let i = mul-le-mul h (wider m w d h) in omega arith

largest : series 255 8 ≡ 70386233652806656
unfolding series
largest = refl

-- of 256 planes and eight levels
pub series_most : (m d : ℕ) → m < 256 → d ≤ 8 → series m d ≤ 70386233652806656
series_most m d h k =
    let a = wider m 255 d (omega arith) in
    let b : series 255 d ≤ series 255 8 = subst (λ (n : ℕ). series 255 d ≤ series 255 n) (let e : (8 - d) + d ≡ 8 = omega arith in e) (deeper 255 d (8 - d)) in
    let c = largest in
    omega arith

pub series_pos : (m d : ℕ) → 0 < d → 0 < series m d
series_pos m zero h = absurd (let n : ⊥ = omega arith in n)
series_pos m (suc d) h = let a = series_suc m d in omega arith

-- one level more of the loop of `series`
pub series_next : (m s k : ℕ) → s ≡ series m k → m * s + 1 ≡ series m (k + 1)
series_next m s k e =
    let a = series_suc m k in
    let b : series m (k + 1) ≡ series m (suc k) = ap (series m) (let z : k + 1 ≡ suc k = omega arith in z) in
    let d : m * s ≡ m * series m k = ap (λ (n : ℕ). m * n) e in
    omega arith

pub series_fits : (m s k d : ℕ) → s ≡ series m k → m < 256 → k < d → d ≤ 8 → m * s + 1 < 18446744073709551616
series_fits m s k d e h l n =
    let a = series_next m s k e in
    let b = series_most m (k + 1) h (omega arith) in
    omega arith

-- all that are allowed
pub all_fit : (m e d s : ℕ) → s ≡ series m d → m < 256 → e ≤ 256 → d ≤ 8 → e * s < 18446744073709551616
all_fit m e d s is h k n =
    let a = series_most m d h n in
    let b : s ≤ 70386233652806656 = omega arith in
    let c = mul-le-mul k b in
    omega arith
