-- `cost::words_of` meets its contract: the words of the first i areas, and then of one more.
use native.Mathlib.Omega.{arith}
use Rattle.cost.proofs.Totals.{words_none, length_fits, words_fit, words_more, words_all}
use Rattle.scene.proofs.Rooms.{small}
use Rattle.cost.proofs.words_of.Goals as goal

pub loop-i-init : goal.loop-i-init
loop-i-init c = words_none c.args.t c.args.c

pub overflow_mul-words : goal.overflow_mul-words
overflow_mul-words c =
    let s = small c.loop-i.i c.args.t c.args.c in
    let a = s.triples in omega arith

pub overflow_mul-words-in-loop-i : goal.overflow_mul-words-in-loop-i
overflow_mul-words-in-loop-i c =
    let s = small c.loop-i.i c.args.t c.args.c in
    let a = s.candidates in omega arith

pub overflow_add-words : goal.overflow_add-words
overflow_add-words c =
    let s = length_fits c.loop-i.i c.args.t c.args.c (omega arith) (omega arith) in
    omega arith

pub overflow_add-words-in-loop-i : goal.overflow_add-words-in-loop-i
overflow_add-words-in-loop-i c =
    let s = length_fits c.loop-i.i c.args.t c.args.c (omega arith) (omega arith) in
    omega arith

pub overflow_mul-words-in-loop-i-2 : goal.overflow_mul-words-in-loop-i-2
overflow_mul-words-in-loop-i-2 c =
    let s = words_fit c.loop-i.i c.args.t c.args.c (omega arith) (omega arith) in
    omega arith

pub overflow_add-words-in-loop-i-2 : goal.overflow_add-words-in-loop-i-2
overflow_add-words-in-loop-i-2 c =
    let s = words_fit c.loop-i.i c.args.t c.args.c (omega arith) (omega arith) in
    let l = c.loop-i.invariant.low in omega arith

pub loop-i-preserved : goal.loop-i-preserved
loop-i-preserved c = words_more c.args.t c.args.c c.loop-i.words c.loop-i.i (omega arith) (omega arith) (omega arith) c.loop-i.invariant

pub returns : goal.returns
returns c = words_all c.args.t c.args.c c.loop-i.words c.loop-i.i (omega arith) c.loop-i.invariant
