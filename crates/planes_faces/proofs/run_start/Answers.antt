-- `planes_faces::run_start` meets its contract: two keys of two columns are equal where both columns are.
use native.Mathlib.Omega.{arith}
use Rattle.planes_faces.proofs.Firsts.{start_same, start_hi, start_lo}
use Rattle.planes_faces.proofs.run_start.Goals as goal

pub returns-then-low_keys-i : goal.returns-then-low_keys-i
returns-then-low_keys-i c = start_same c.args.keys.now c.args.low_keys.now c.args.start c.args.x c.if-keys-i.true c.if-low_keys-i.true

pub returns-else-low_keys-i : goal.returns-else-low_keys-i
returns-else-low_keys-i c = start_lo c.args.keys.now c.args.low_keys.now c.args.start c.args.x c.requires.below (omega (arith, c.requires.low_keys_len, c.requires.x_in_bounds)) (omega (arith, c.requires.low_keys_len, c.requires.start_in_bounds)) c.if-low_keys-i.false

pub returns-else-keys-i : goal.returns-else-keys-i
returns-else-keys-i c = start_hi c.args.keys.now c.args.low_keys.now c.args.start c.args.x c.requires.below (omega (arith, c.requires.low_keys_len, c.requires.x_in_bounds)) (omega (arith, c.requires.low_keys_len, c.requires.start_in_bounds)) c.if-keys-i.false
