-- `taps::put_taps` meets its contract: what is left to store gives the same area from each turn on.
use native.Mathlib.Omega.{arith}
use mathlib.Core.Path.{refl, ◌∙◌}
use Rattle.taps.proofs.Storing.{taps_step, taps_done}
use Rattle.taps.proofs.put_taps.Goals as goal

pub loop-k-init : goal.loop-k-init
loop-k-init c = (omega arith, refl, refl)

pub bounds-positions-k : goal.bounds-positions-k
bounds-positions-k c = omega (arith, c.requires.pointing.room)

pub overflow_cast-positions : goal.overflow_cast-positions
overflow_cast-positions c = omega (arith, c.shared_slice_known-in-loop-k-1.given c.loop-k.k)

pub put_tap-requires : goal.put_tap-requires
put_tap-requires c =
    let s = c.requires in
    let i = s.pointing.inside c.loop-k.k c.loop-k-test.true in record {
      candidate_rows = s.candidate_rows;
      i_lt_n = (i, omega (arith, c.loop-k.invariant.1, s.tap_words_in_bounds));
      sound = s.pointing.sound _ i;
    }

pub loop-k-preserved : goal.loop-k-preserved
loop-k-preserved c =
    let a = c.args in (
      omega arith,
      c.put_tap.auto.taps ∙ c.loop-k.invariant.1,
      taps_step a.candidate_floats.now a.candidate_words.now a.count a.positions.now c.loop-k.k c.loop-k.taps _ _
          c.loop-k-test.true c.requires.pointing.room c.put_tap.ensures c.loop-k.invariant.2,
    )

pub shape_of-taps : goal.shape_of-taps
shape_of-taps c = c.loop-k.invariant.1

pub returns : goal.returns
returns c =
    let a = c.args in
    taps_done a.candidate_floats.now a.candidate_words.now a.count a.positions.now c.loop-k.k c.loop-k.taps _ c.loop-k-test.false c.requires.pointing.room c.loop-k.invariant.2
