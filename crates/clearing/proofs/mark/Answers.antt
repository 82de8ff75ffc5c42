-- `clearing::mark` meets its contract: a NaN gives no 0, and the chain ends at -0 only where all eight are +0 (`eight_zero`).
use mathlib.Core.Path.{sym, subst}
use native.Mathlib.Omega.{arith}
use lib.Dec.{T}
use lib.Ieee.{binary32}
use lib.Ieee.Fits.{neg-fits, sub-fits}
use Rattle.float.proofs.Patterns.{no_nan}
use Rattle.clearing.proofs.Wiping.{bits_zero}
use Rattle.clearing.proofs.MinusZero.{eight_zero, neg_number}
use Rattle.clearing.proofs.mark.Goals as goal

pub returns-then-s : goal.returns-then-s
returns-then-s c = λ e. absurd (let n : ⊥ = omega (arith, e) in n)

pub float_to_bits-result : goal.float_to_bits-result
float_to_bits-result c = neg_number _ (no_nan _ c.if-s.false)

pub returns : goal.returns
returns c = λ e. eight_zero _ _ _ _ _ _ _ _ (subst T (sym c.well_formed.0.1) tt) (subst T (sym c.well_formed.1.0.1) tt) (subst T (sym c.well_formed.1.1.0.1) tt) (subst T (sym c.well_formed.1.1.1.0.1) tt) (subst T (sym c.well_formed.1.1.1.1.0.1) tt) (subst T (sym c.well_formed.1.1.1.1.1.0.1) tt) (subst T (sym c.well_formed.1.1.1.1.1.1.0.1) tt) (subst T (sym
    c.well_formed.1.1.1.1.1.1.1.0.1) tt) (bits_zero _ (neg-fits binary32 _ (sub-fits binary32 _ _)) e)
