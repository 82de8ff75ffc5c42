-- Whole numbers.
--     no_part     a number of parts that come to nothing is none
use mathlib.Core.Path.{◌≡◌, refl}
use Prim.Native.Nat.{ℕ, zero, suc, ◌*◌, ◌<◌}
use native.Mathlib.Nat.{mul-pos, zero-lt-suc}
use native.Mathlib.Omega.{arith}

pub no_part : (x c : ℕ) → 0 < c → x * c ≡ 0 → x ≡ 0
no_part zero c h e = refl
no_part (suc x) c h e = let p : 0 < suc x * c = mul-pos (zero-lt-suc x) h in absurd (let no : ⊥ = omega arith in no)
