-- `search::keep` meets its contract: one image more, and a row more where there is room, else the flag.
use mathlib.Core.Path.{refl}
use Prim.Native.Nat.{◌+◌}
use mathlib.Core.Bool.{not}
use native.Mathlib.Omega.{arith}
use lib.Dec.{eqb}
use Rattle.claim.specs.Answer.{tap_of}
use Rattle.search.specs.Outcome.{found_of}
use Rattle.search.proofs.Laws.{keep_some, keep_none}
use Rattle.search.proofs.keep.Goals as goal

pub overflow_cast-tap : goal.overflow_cast-tap
overflow_cast-tap c = omega (arith, c.requires.len_le_max_order)

pub overflow_add-tap : goal.overflow_add-tap
overflow_add-tap c = omega (arith, c.requires.nodes_lt_most.0)

pub put_candidate-requires : goal.put_candidate-requires
put_candidate-requires c = let pre = c.requires in let t = c.if-t-room.true in record { few = omega (arith, pre.candidate_rows.few, t); floats = omega (arith, pre.candidate_rows.floats, t); words = omega (arith, pre.candidate_rows.words, t) }

pub overflow_add-t : goal.overflow_add-t
overflow_add-t c = let t = c.if-t-room.true in omega (arith, c.requires.candidate_rows.few, t)

pub counted-requires : goal.counted-requires
counted-requires c = c.requires.nodes_lt_most

pub shape_of-candidate_floats-then-t-room : goal.shape_of-candidate_floats-then-t-room
shape_of-candidate_floats-then-t-room c = c.put_candidate.auto.candidate_floats

pub shape_of-candidate_words-then-t-room : goal.shape_of-candidate_words-then-t-room
shape_of-candidate_words-then-t-room c = c.put_candidate.auto.candidate_words

pub returns-then-t-room : goal.returns-then-t-room
returns-then-t-room c = let a = c.args in
    rw c.counted.ensures
    (record {
      counted = refl;
      traced = refl;
      few = let t = c.if-t-room.true in omega (arith, t);
      held =
          λ seq e.
          keep_some a.room a.t.found (a.t.nodes + 1) (a.t.rays + a.rays) a.candidate_floats.now c.put_candidate.new.candidate_floats a.candidate_words.now c.put_candidate.new.candidate_words (not (eqb a.t.over 0)) (tap_of (a.t.nodes + 1) seq (found_of a.c))
          c.if-t-room.true (rw e c.put_candidate.ensures);
    })

pub counted-requires-2 : goal.counted-requires-2
counted-requires-2 c = c.requires.nodes_lt_most

pub returns : goal.returns
returns c = let a = c.args in
    rw c.counted-2.ensures
    (record {
      counted = refl;
      traced = refl;
      few = c.requires.len_le_max_order.1;
      held =
          λ seq e.
          keep_none a.room a.t.found (a.t.nodes + 1) (a.t.rays + a.rays) a.candidate_floats.now a.candidate_floats.now a.candidate_words.now a.candidate_words.now (not (eqb a.t.over 0)) (tap_of (a.t.nodes + 1) seq (found_of a.c))
          c.if-t-room.false;
    })
