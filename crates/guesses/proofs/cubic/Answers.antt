-- `guesses::cubic` meets its contract: each of its products is below 2 ^ 54, and the guess is cut to 32 bits.
use Prim.Native.Nat.{ℕ, ◌+◌, ◌-◌, ◌*◌, ◌/◌, ◌%◌, ◌^◌, ◌<◌}
use native.Mathlib.Omega.{arith}
use lib.Bits.{bit_and, mask_lt}
use lib.Pow.{shr_lt}
use mir.Facts.{Fits-bits}
use Rattle.guesses.proofs.Products.{mul_lt_pow}
use Rattle.guesses.proofs.cubic.Goals.{Start}
use Rattle.guesses.proofs.cubic.Goals as goal

-- f, f * f and f * f * f, each cut to 18 bits
abbrev f : ℕ → ℕ
f m = bit_and m 262143

abbrev g : ℕ → ℕ
g m = f m * f m / 262144

abbrev h : ℕ → ℕ
h m = f m * f m * f m / 68719476736

f_lt : (m : ℕ) → f m < 2 ^ 18
f_lt m = mask_lt m 18

g_lt : (m : ℕ) → g m < 2 ^ 18
g_lt m = shr_lt 18 18 (mul_lt_pow 18 18 (f_lt m) (f_lt m))

h_lt : (m : ℕ) → h m < 2 ^ 18
h_lt m = shr_lt 18 36 (mul_lt_pow 36 18 (mul_lt_pow 18 18 (f_lt m) (f_lt m)) (f_lt m))

up : (c : Start) → c.args.b * f c.args.m < 2 ^ 50
up c = mul_lt_pow 32 18 c.requires.1 (f_lt c.args.m)

down : (c : Start) → c.args.c * g c.args.m < 2 ^ 50
down c = mul_lt_pow 32 18 c.requires.2 (g_lt c.args.m)

back : (c : Start) → c.args.d * h c.args.m < 2 ^ 50
back c = mul_lt_pow 32 18 c.requires.3 (h_lt c.args.m)

pub overflow_mul-ff : goal.overflow_mul-ff
overflow_mul-ff c = Fits-bits 36 tt (mul_lt_pow 18 18 (f_lt c.args.m) (f_lt c.args.m))

pub overflow_mul-h : goal.overflow_mul-h
overflow_mul-h c = let k = f_lt c.args.m in Fits-bits 54 tt (mul_lt_pow 36 18 (mul_lt_pow 18 18 k k) k)

pub overflow_mul-s : goal.overflow_mul-s
overflow_mul-s c = Fits-bits 50 tt (up c)

pub overflow_add-s-2 : goal.overflow_add-s-2
overflow_add-s-2 c = omega (arith, up c)

pub overflow_mul-s-2 : goal.overflow_mul-s-2
overflow_mul-s-2 c = Fits-bits 50 tt (down c)

pub overflow_sub-s : goal.overflow_sub-s
overflow_sub-s c = omega (arith, down c)

pub overflow_mul-s-3 : goal.overflow_mul-s-3
overflow_mul-s-3 c = Fits-bits 50 tt (back c)

pub overflow_add-s-3 : goal.overflow_add-s-3
overflow_add-s-3 c = omega (arith, up c, back c)

pub returns : goal.returns
returns c =
    let a = c.args in
    mask_lt ((a.a * 65536 % 2 ^ 64 + 2 ^ 56 + a.b * f a.m - a.c * g a.m + a.d * h a.m) / 16777216) 32
