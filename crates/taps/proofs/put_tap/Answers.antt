-- `taps::put_tap` meets its contract: six stores, and the gains (`tap_stored`).
use native.Mathlib.Omega.{arith}
use Prim.Native.Nat.{◌*◌}
use mathlib.Core.Path.{◌∙◌}
use lib.ListN.{length-set}
use Rattle.packet.specs.Limits.{tap_words}
use Rattle.ranking.specs.Rows.{candidate_at}
use Rattle.taps.proofs.Storing.{plain_number, tap_stored}
use Rattle.taps.proofs.put_tap.Goals as goal

pub bounds-taps-at : goal.bounds-taps-at
bounds-taps-at c = omega (arith, c.requires.i_lt_n)

pub bounds-taps-at-2 : goal.bounds-taps-at-2
bounds-taps-at-2 c = simp length-set (omega (arith, c.requires.i_lt_n))

pub bits_at-requires : goal.bits_at-requires
unfolding candidate_at
bits_at-requires c =
    let s = c.requires in
    (omega (arith, s.candidate_rows, s.i_lt_n), plain_number _ s.sound.x)

pub bounds-taps-at-3 : goal.bounds-taps-at-3
bounds-taps-at-3 c = simp length-set (omega (arith, c.requires.i_lt_n))

pub bits_at-requires-2 : goal.bits_at-requires-2
unfolding candidate_at
bits_at-requires-2 c =
    let s = c.requires in
    (omega (arith, s.candidate_rows, s.i_lt_n), plain_number _ s.sound.y)

pub bounds-taps-at-4 : goal.bounds-taps-at-4
bounds-taps-at-4 c = simp length-set (omega (arith, c.requires.i_lt_n))

pub bits_at-requires-3 : goal.bits_at-requires-3
unfolding candidate_at
bits_at-requires-3 c =
    let s = c.requires in
    (omega (arith, s.candidate_rows, s.i_lt_n), plain_number _ s.sound.z)

pub bounds-taps-at-5 : goal.bounds-taps-at-5
bounds-taps-at-5 c = simp length-set (omega (arith, c.requires.i_lt_n))

pub bits_at-requires-4 : goal.bits_at-requires-4
unfolding candidate_at
bits_at-requires-4 c =
    let s = c.requires in
    (omega (arith, s.candidate_rows, s.i_lt_n), plain_number _ s.sound.delay)

pub bounds-taps-at-6 : goal.bounds-taps-at-6
bounds-taps-at-6 c = simp length-set (omega (arith, c.requires.i_lt_n))

pub put_gains-requires : goal.put_gains-requires
unfolding candidate_at
put_gains-requires c =
    let s = c.requires in
    let r = s.candidate_rows in
    let i = s.i_lt_n in record {
      candidate_floats_in_bounds = (omega arith, simp length-set (omega arith));
      level_gains = s.sound.gains;
    }

pub shape_of-taps : goal.shape_of-taps
shape_of-taps c = c.put_gains.auto.taps ∙ simp length-set

pub returns : goal.returns
returns c =
    let a = c.args in
    tap_stored a.candidate_floats.now a.candidate_words.now a.i (a.k * tap_words) a.taps.now _ _ _ _ _
    c.bits_at.ensures
    c.bits_at-2.ensures
    c.bits_at-3.ensures
    c.bits_at-4.ensures
    c.put_gains.ensures
