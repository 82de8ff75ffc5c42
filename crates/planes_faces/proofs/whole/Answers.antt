-- `planes_faces::whole` meets its contract, by the sign and the size.
use mathlib.Core.Path.{sym, ap, ◌∙◌, subst}
use Prim.Native.Nat.{ℕ, ◌+◌, ◌-◌}
use native.Mathlib.Omega.{arith}
use lib.Dec.{T}
use lib.Ieee.{binary32, fits, to_bits}
use lib.Ieee.Bits.{of_bits-to_bits, to_bits-lt}
use Rattle.float.proofs.Patterns.{no_nan}
use Rattle.planes_faces.proofs.Wholes.{nan_whole, number_low, whole_pos, whole_cut, whole_neg, at_plus, at_minus}
use Rattle.planes_faces.proofs.whole.Goals as goal

pub returns-then-x : goal.returns-then-x
returns-then-x c = nan_whole c.args.x c.if-x.true

pub float_to_bits-i : goal.float_to_bits-i
float_to_bits-i c = no_nan c.args.x c.if-x.false

pub magnitude-m-requires : goal.magnitude-m-requires
magnitude-m-requires c = let x = c.args.x in
    let held : T (fits binary32 x) = subst T (sym c.well_formed.0.1) tt in
    omega (arith, number_low x (to_bits binary32 x) (of_bits-to_bits binary32 x held) (no_nan x c.if-x.false), c.if-i-lt2147483648.true)

pub returns-then-m : goal.returns-then-m
returns-then-m c = let x = c.args.x in
    let held : T (fits binary32 x) = subst T (sym c.well_formed.0.1) tt in
    let low = number_low x (to_bits binary32 x) (of_bits-to_bits binary32 x held) (no_nan x c.if-x.false) in
    let p = at_plus x (to_bits binary32 x) c.magnitude-m.result (of_bits-to_bits binary32 x held) (omega (arith, low, c.if-i-lt2147483648.true)) c.magnitude-m.ensures.0 in
    sym (whole_cut x p.0 (p.1 ∙ c.if-m.true))

pub overflow_add-result : goal.overflow_add-result
overflow_add-result c = omega (arith, c.magnitude-m.ensures.1, c.if-m.false)

pub returns-then-i-lt2147483648 : goal.returns-then-i-lt2147483648
returns-then-i-lt2147483648 c = let x = c.args.x in
    let held : T (fits binary32 x) = subst T (sym c.well_formed.0.1) tt in
    let low = number_low x (to_bits binary32 x) (of_bits-to_bits binary32 x held) (no_nan x c.if-x.false) in
    let p = at_plus x (to_bits binary32 x) c.magnitude-m.result (of_bits-to_bits binary32 x held) (omega (arith, low, c.if-i-lt2147483648.true)) c.magnitude-m.ensures.0 in
    ap (λ (z : ℕ). 2147483648 + z) (sym p.1) ∙ sym (whole_pos x p.0 (λ e. c.if-m.false (sym p.1 ∙ e)))

pub magnitude-m-requires-2 : goal.magnitude-m-requires-2
magnitude-m-requires-2 c = let x = c.args.x in
    let held : T (fits binary32 x) = subst T (sym c.well_formed.0.1) tt in
    omega (arith, number_low x (to_bits binary32 x) (of_bits-to_bits binary32 x held) (no_nan x c.if-x.false), to_bits-lt binary32 x held, c.if-i-lt2147483648.false)

pub overflow_sub-result : goal.overflow_sub-result
overflow_sub-result c = c.magnitude-m-2.ensures.1

pub returns : goal.returns
returns c = let x = c.args.x in
    let held : T (fits binary32 x) = subst T (sym c.well_formed.0.1) tt in
    let low = number_low x (to_bits binary32 x) (of_bits-to_bits binary32 x held) (no_nan x c.if-x.false) in
    let p = at_minus x (to_bits binary32 x) c.magnitude-m-2.result (of_bits-to_bits binary32 x held) c.if-i-lt2147483648.false (to_bits-lt binary32 x held) (omega (arith, low, to_bits-lt binary32 x held, c.if-i-lt2147483648.false)) c.magnitude-m-2.ensures.0 in
    ap (λ (z : ℕ). 2147483648 - z) (sym p.1) ∙ sym (whole_neg x p.0)
