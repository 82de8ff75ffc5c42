-- `packet::squared_gain_sum` meets its contract: the sum so far and the gains left give the sum of all.
use Prim.Native.Nat.{◌+◌}
use mathlib.Core.Path.{refl, sym, ap, ◌∙◌}
use mathlib.Core.List.{foldl}
use native.Mathlib.Omega.{arith}
use lib.Ieee.{Float, binary32, add}
use Rattle.packet.specs.Refusals.{plus_square}
use Rattle.packet.proofs.Areas.{window, window_done}
use Rattle.packet.proofs.Sums.{finite_both, square_step}
use Rattle.packet.proofs.squared_gain_sum.Goals as goal

pub loop-k-init : goal.loop-k-init
loop-k-init c = (omega arith, c.requires.1, refl)

pub square-s-requires : goal.square-s-requires
square-s-requires c =
    let a = c.args in (finite_both a.at c.loop-k.k a.taps.now c.loop-k-test.true c.requires.0 c.loop-k.invariant.1).0

pub loop-k-preserved : goal.loop-k-preserved
loop-k-preserved c =
    let a = c.args in (
      omega arith,
      (finite_both a.at c.loop-k.k a.taps.now c.loop-k-test.true c.requires.0 c.loop-k.invariant.1).1,
      c.loop-k.invariant.2 ∙ square_step a.at c.loop-k.k a.taps.now c.loop-k-test.true c.requires.0 c.loop-k.s
          ∙ ap (λ (q : Float). foldl plus_square (add binary32 c.loop-k.s q) (window a.at (c.loop-k.k + 1) a.taps.now)) (sym c.square-s.ensures),
    )

pub returns : goal.returns
returns c =
    let a = c.args in sym (c.loop-k.invariant.2 ∙ ap (foldl plus_square c.loop-k.s) (window_done a.at c.loop-k.k a.taps.now c.loop-k-test.false))
