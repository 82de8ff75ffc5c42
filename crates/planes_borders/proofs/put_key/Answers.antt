-- `planes_borders::put_key` meets its contract: the lesser end above, the greater below.
use mathlib.Core.Path.{ap}
use Prim.Native.Nat.{◌*◌, ◌+◌, ℕ}
use lib.ListN.{set}
use borrow.Author.Rules.{rules}
use Rattle.planes_borders.proofs.put_key.Goals as goal

pub returns : goal.returns
returns c = let a = c.args in record {
  keys_after = ap (λ (z : ℕ). set a.keys.now a.e (a.plane * 4294967296 + z)) c.lower-l.ensures;
  low_keys_after = ap (λ (z : ℕ). set a.low_keys.now a.e z) c.higher-h.ensures;
  q_bound = rw (← c.higher-h.ensures) (search rules);
}
