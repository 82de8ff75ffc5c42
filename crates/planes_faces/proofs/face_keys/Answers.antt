-- `planes_faces::face_keys` meets its contract: the loop holds that the keys of the first i faces are there.
use mathlib.Core.Path.{◌≡◌}
use native.Mathlib.Omega.{arith}
use Rattle.planes_faces.proofs.Packing.{Keys, keys_none, keys_more, keys_low, keys_all}
use Rattle.planes_faces.proofs.face_keys.Goals as goal

pub loop-i-init : goal.loop-i-init
loop-i-init c = let g = c.args in (omega arith, keys_none g.numbers.now g.n g.keys.now g.low_keys.now)

pub bounds-keys-i : goal.bounds-keys-i
bounds-keys-i c = let k = c.loop-i.invariant.1.len_hi in omega arith

pub bounds-low_keys-i : goal.bounds-low_keys-i
bounds-low_keys-i c = let k = c.loop-i.invariant.1.len_lo in omega arith

pub loop-i-preserved : goal.loop-i-preserved
loop-i-preserved c = let g = c.args in (
  omega arith,
  keys_more g.numbers.now g.n c.loop-i.i g.keys.now g.low_keys.now c.loop-i.keys c.loop-i.low_keys c.face_hi.result c.face_lo.result c.loop-i.invariant.1 (omega (arith, c.loop-i-test.true, c.requires.keys_len)) (omega (arith, c.loop-i-test.true, c.requires.low_keys_len))
      c.face_hi.ensures c.face_lo.ensures,
)

pub shape_of-keys : goal.shape_of-keys
shape_of-keys c = c.loop-i.invariant.1.len_hi

pub shape_of-low_keys : goal.shape_of-low_keys
shape_of-low_keys c = c.loop-i.invariant.1.len_lo

pub returns : goal.returns
returns c = let g = c.args in let e : c.loop-i.i ≡ g.n = omega arith in
    let k : Keys g.numbers.now g.n g.n g.keys.now g.low_keys.now c.loop-i.keys c.loop-i.low_keys = rw e at c.loop-i.invariant.1 in record {
      below = keys_low g.numbers.now g.n g.keys.now g.low_keys.now c.loop-i.keys c.loop-i.low_keys k c.requires.low_keys_len;
      by_index = keys_all g.numbers.now g.n g.keys.now g.low_keys.now c.loop-i.keys c.loop-i.low_keys k;
    }
