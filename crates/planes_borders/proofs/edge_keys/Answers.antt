-- `planes_borders::edge_keys` meets its contract: the loop holds the keys of the sides of the triangles before t (`Keyed`).
use native.Mathlib.Omega.{arith}
use Rattle.planes_borders.proofs.Keying.{keyed_low, keyed_more, keyed_none}
use Rattle.planes_borders.proofs.edge_keys.Goals as goal

pub loop-t-init : goal.loop-t-init
loop-t-init c = let a = c.args in keyed_none a.numbers.now a.n a.of.now a.keys.now a.low_keys.now

pub overflow_mul-t : goal.overflow_mul-t
overflow_mul-t c = let h = c.loop-t-test.true in let p = c.requires.keys_len in omega arith

pub put_key-requires : goal.put_key-requires
put_key-requires c =
    let h = c.loop-t-test.true in let p = c.requires.keys_len in let x = c.loop-t.invariant.len_hi in let y = c.loop-t.invariant.len_lo in (omega arith, omega arith)

pub overflow_add-t : goal.overflow_add-t
overflow_add-t c = let h = c.loop-t-test.true in let p = c.requires.keys_len in omega arith

pub overflow_mul-t-in-loop-t : goal.overflow_mul-t-in-loop-t
overflow_mul-t-in-loop-t c = let h = c.loop-t-test.true in let p = c.requires.keys_len in omega arith

pub put_key-requires-in-loop-t : goal.put_key-requires-in-loop-t
put_key-requires-in-loop-t c =
    let h = c.loop-t-test.true in let p = c.requires.keys_len in let x = c.loop-t.invariant.len_hi in let y = c.loop-t.invariant.len_lo in let u = c.put_key.auto.keys in let v = c.put_key.auto.low_keys in (omega arith, omega arith)

pub overflow_mul-t-in-loop-t-2 : goal.overflow_mul-t-in-loop-t-2
overflow_mul-t-in-loop-t-2 c = let h = c.loop-t-test.true in let p = c.requires.keys_len in omega arith

pub overflow_add-t-in-loop-t : goal.overflow_add-t-in-loop-t
overflow_add-t-in-loop-t c = let h = c.loop-t-test.true in let p = c.requires.keys_len in omega arith

pub put_key-requires-in-loop-t-2 : goal.put_key-requires-in-loop-t-2
put_key-requires-in-loop-t-2 c =
    let h = c.loop-t-test.true in let p = c.requires.keys_len in let x = c.loop-t.invariant.len_hi in let y = c.loop-t.invariant.len_lo in let u = c.put_key.auto.keys in let v = c.put_key.auto.low_keys in let w = c.put_key-in-loop-t.auto.keys in let z = c.put_key-in-loop-t.auto.low_keys in (omega arith, omega arith)

pub loop-t-preserved : goal.loop-t-preserved
loop-t-preserved c =
    let a = c.args in let h = c.loop-t-test.true in let p = c.requires.keys_len in
    keyed_more a.numbers.now a.n a.of.now a.keys.now a.low_keys.now c.loop-t.keys c.loop-t.low_keys c.put_key.new.keys c.put_key.new.low_keys c.put_key-in-loop-t.new.keys c.put_key-in-loop-t.new.low_keys c.put_key-in-loop-t-2.new.keys c.put_key-in-loop-t-2.new.low_keys c.loop-t.t c.loop-t.invariant (omega arith)
    (omega arith) (c.put_key.ensures.keys_after, (c.put_key.ensures.low_keys_after, c.put_key.ensures.q_bound)) (c.put_key-in-loop-t.ensures.keys_after, (c.put_key-in-loop-t.ensures.low_keys_after, c.put_key-in-loop-t.ensures.q_bound)) (c.put_key-in-loop-t-2.ensures.keys_after, (c.put_key-in-loop-t-2.ensures.low_keys_after, c.put_key-in-loop-t-2.ensures.q_bound))

pub shape_of-keys : goal.shape_of-keys
shape_of-keys c = c.loop-t.invariant.len_hi

pub shape_of-low_keys : goal.shape_of-low_keys
shape_of-low_keys c = c.loop-t.invariant.len_lo

pub returns : goal.returns
returns c = let a = c.args in let p = c.requires.keys_len in let q = c.loop-t-test.false in record {
  below = keyed_low a.numbers.now a.n a.of.now a.keys.now a.low_keys.now c.loop-t.keys c.loop-t.low_keys c.loop-t.t c.loop-t.invariant (omega arith);
  by_index = λ t j h g. c.loop-t.invariant.keys t j (omega (arith, h, q)) g;
}
