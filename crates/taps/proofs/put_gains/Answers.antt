-- `taps::put_gains` meets its contract: eight stores in a row (`eight_stored`).
use native.Mathlib.Omega.{arith}
use lib.ListN.{length-set}
use Rattle.taps.proofs.Storing.{plain_number, eight_stored}
use Rattle.taps.proofs.put_gains.Goals as goal

pub bits_at-requires : goal.bits_at-requires
bits_at-requires c =
    let s = c.requires in
    (omega (arith, s.candidate_floats_in_bounds), plain_number _ s.level_gains.l0.plain)

pub bounds-taps-at : goal.bounds-taps-at
bounds-taps-at c = omega (arith, c.requires.candidate_floats_in_bounds)

pub bits_at-requires-2 : goal.bits_at-requires-2
bits_at-requires-2 c =
    let s = c.requires in
    (omega (arith, s.candidate_floats_in_bounds), plain_number _ s.level_gains.l1.plain)

pub bounds-taps-at-2 : goal.bounds-taps-at-2
bounds-taps-at-2 c = simp length-set (omega (arith, c.requires.candidate_floats_in_bounds))

pub bits_at-requires-3 : goal.bits_at-requires-3
bits_at-requires-3 c =
    let s = c.requires in
    (omega (arith, s.candidate_floats_in_bounds), plain_number _ s.level_gains.l2.plain)

pub bounds-taps-at-3 : goal.bounds-taps-at-3
bounds-taps-at-3 c = simp length-set (omega (arith, c.requires.candidate_floats_in_bounds))

pub bits_at-requires-4 : goal.bits_at-requires-4
bits_at-requires-4 c =
    let s = c.requires in
    (omega (arith, s.candidate_floats_in_bounds), plain_number _ s.level_gains.l3.plain)

pub bounds-taps-at-4 : goal.bounds-taps-at-4
bounds-taps-at-4 c = simp length-set (omega (arith, c.requires.candidate_floats_in_bounds))

pub bits_at-requires-5 : goal.bits_at-requires-5
bits_at-requires-5 c =
    let s = c.requires in
    (omega (arith, s.candidate_floats_in_bounds), plain_number _ s.level_gains.l4.plain)

pub bounds-taps-at-5 : goal.bounds-taps-at-5
bounds-taps-at-5 c = simp length-set (omega (arith, c.requires.candidate_floats_in_bounds))

pub bits_at-requires-6 : goal.bits_at-requires-6
bits_at-requires-6 c =
    let s = c.requires in
    (omega (arith, s.candidate_floats_in_bounds), plain_number _ s.level_gains.l5.plain)

pub bounds-taps-at-6 : goal.bounds-taps-at-6
bounds-taps-at-6 c = simp length-set (omega (arith, c.requires.candidate_floats_in_bounds))

pub bits_at-requires-7 : goal.bits_at-requires-7
bits_at-requires-7 c =
    let s = c.requires in
    (omega (arith, s.candidate_floats_in_bounds), plain_number _ s.level_gains.l6.plain)

pub bounds-taps-at-7 : goal.bounds-taps-at-7
bounds-taps-at-7 c = simp length-set (omega (arith, c.requires.candidate_floats_in_bounds))

pub bits_at-requires-8 : goal.bits_at-requires-8
bits_at-requires-8 c =
    let s = c.requires in
    (omega (arith, s.candidate_floats_in_bounds), plain_number _ s.level_gains.l7.plain)

pub bounds-taps-at-8 : goal.bounds-taps-at-8
bounds-taps-at-8 c = simp length-set (omega (arith, c.requires.candidate_floats_in_bounds))

pub shape_of-taps : goal.shape_of-taps
shape_of-taps c = simp length-set

pub returns : goal.returns
returns c =
    let a = c.args in
    rw (
      ← c.bits_at.ensures,
      ← c.bits_at-2.ensures,
      ← c.bits_at-3.ensures,
      ← c.bits_at-4.ensures,
      ← c.bits_at-5.ensures,
      ← c.bits_at-6.ensures,
      ← c.bits_at-7.ensures,
      ← c.bits_at-8.ensures,
    ) (eight_stored a.taps.now a.at _ _ _ _ _ _ _ _)
