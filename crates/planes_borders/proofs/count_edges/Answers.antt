-- `planes_borders::count_edges` meets its contract: keys, the first edge of each, counts (`once_counted_lem`).
use mathlib.Core.Path.{◌∙◌, ◌≡◌, ap}
use Prim.Native.Nat.{◌*◌, ◌<◌, ℕ}
use native.Mathlib.Omega.{arith}
use lib.ListN.{get_or, length}
use borrow.Author.Rules.{rules}
use Rattle.order.specs.Runs.{first_at}
use Rattle.planes_faces.specs.Numbers.{key_at}
use Rattle.planes_borders.proofs.Once.{firsts_low, once_counted_lem}
use Rattle.planes_borders.specs.Uses.{count_in}
use Rattle.planes_borders.proofs.count_edges.Goals as goal

pub edge_keys-requires : goal.edge_keys-requires
edge_keys-requires c = record {
  n_in_bounds = c.requires.n_in_bounds.0;
  m_le_n = c.requires.m_le_n;
  keys_len = c.requires.keys_len;
}

pub first_indexes-requires : goal.first_indexes-requires
first_indexes-requires c =
    let p = c.requires.n_in_bounds in let q = c.requires.keys_len in let r = c.requires.index_len in let f = c.requires.first_len in
    let kh = c.edge_keys.auto.keys in let kl = c.edge_keys.auto.low_keys in record {
      keys_len_bound = omega arith;
      low_keys_len = omega arith;
      below = c.edge_keys.ensures.below;
      index_len = omega arith;
      keys_in_bounds = omega arith;
      keys_in_bounds_2 = omega arith;
      keys_in_bounds_3 = omega arith;
    }

pub count_uses-requires : goal.count_uses-requires
count_uses-requires c =
    let a = c.args in let p = c.requires.n_in_bounds in let q = c.requires.keys_len in let f = c.requires.first_len in
    let kh = c.edge_keys.auto.keys in let kf = c.first_indexes.auto.first in
    let hi = c.edge_keys.new.keys in let lo = c.edge_keys.new.low_keys in let first = c.first_indexes.new.first in
    let len : length first ≡ 3 * a.m = omega arith in record {
      uses_len = omega arith;
      first_len_bound = omega arith;
      below = rw len (firsts_low a.m (key_at hi lo) first len (λ e h. c.first_indexes.ensures.firsts e (omega (arith, h, kh, q))));
    }

pub returns : goal.returns
returns c =
    let a = c.args in let p = c.requires.n_in_bounds in let o = c.requires.m_le_n in let q = c.requires.keys_len in let f = c.requires.first_len in
    let kh = c.edge_keys.auto.keys in let kf = c.first_indexes.auto.first in
    let hi = c.edge_keys.new.keys in let lo = c.edge_keys.new.low_keys in let first = c.first_indexes.new.first in let uses = c.count_uses.new.uses in
    let len : length first ≡ 3 * a.m = omega arith in
    let firsts : (e : ℕ) → e < 3 * a.m → get_or first e 0 ≡ first_at (key_at hi lo) e = λ e h. c.first_indexes.ensures.firsts e (omega (arith, h, kh, q)) in record {
      below = firsts_low a.m (key_at hi lo) first len firsts;
      once_counted = λ area k h num. once_counted_lem area a.n k a.m a.numbers.now a.of.now num p.1 h o.0 o.1 (key_at hi lo) first uses c.edge_keys.ensures.by_index firsts
          (λ e l. c.count_uses.ensures e (omega (arith, l, len)) ∙ ap (count_in first e) len);
      rest = ((search rules), (search rules), (search rules), (search rules), (search rules));
    }
