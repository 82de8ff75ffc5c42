-- `planes_faces::magnitude` meets its contract, by the exponent: too small for a half, in range, or held to the end.
use mathlib.Core.Path.{◌≡◌, sym, ap, ◌∙◌}
use Prim.Native.Nat.{◌-◌, ℕ, ◌+◌, ◌*◌, ◌/◌, ◌%◌, ◌^◌, ◌≤◌, ◌<◌}
use native.Mathlib.Omega.{arith}
use Rattle.planes_faces.proofs.Wholes.{mag_small, mag_mid, mag_big, mid_fits, moved_is, moved_le}
use Rattle.planes_faces.proofs.magnitude.Goals as goal

pub returns-then-e-lt126 : goal.returns-then-e-lt126
returns-then-e-lt126 c = let i = c.args.i in (λ s. mag_small s (i / 8388608) (i % 8388608) (omega arith) c.if-e-lt126.true, omega arith)

pub overflow_add-result : goal.overflow_add-result
overflow_add-result c = let i = c.args.i in
    omega (arith, moved_le (8388608 + i % 8388608) (i / 8388608 - 126) (omega arith) (omega (arith, c.if-e-lt158.true)))

pub overflow_cast-result : goal.overflow_cast-result
overflow_cast-result c = let i = c.args.i in
    omega (arith, moved_le (8388608 + i % 8388608) (i / 8388608 - 126) (omega arith) (omega (arith, c.if-e-lt158.true)))

pub returns-then-e-lt158 : goal.returns-then-e-lt158
returns-then-e-lt158 c = let i = c.args.i in
    let m = (8388608 + i % 8388608) in let k = (i / 8388608 - 126) in
    let hm : m < 16777216 = omega arith in
    let hk : k ≤ 31 = omega (arith, c.if-e-lt158.true) in
    let whole : (m * 2 ^ k % 18446744073709551616 + 8388608) / 16777216 ≡ ((8388608 + i % 8388608) * 2 ^ k + 8388608) / 16777216 = ap (λ (z : ℕ). (z + 8388608) / 16777216) (moved_is m k hm hk) in
    (λ s. mag_mid s (i / 8388608) (i % 8388608) k (omega arith) (omega (arith, c.if-e-lt126.false)) hk ∙ sym whole, rw whole (mid_fits (8388608 + i % 8388608) k (omega arith) hk))

pub returns : goal.returns
returns c = let i = c.args.i in (λ s. mag_big s (i / 8388608) (i % 8388608) (omega arith) c.if-e-lt158.false (omega (arith, c.requires)), omega arith)
