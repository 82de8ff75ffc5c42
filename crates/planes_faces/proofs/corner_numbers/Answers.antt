-- `planes_faces::corner_numbers` meets its contract: each corner's number is the first corner with its key (`numbered`).
use mathlib.Core.Path.{sym, ◌∙◌}
use native.Mathlib.Omega.{arith}
use borrow.Author.Rules.{rules}
use Rattle.planes_faces.specs.Numbers.{key_at}
use Rattle.planes_faces.proofs.Numbering.{numbered}
use Rattle.planes_faces.proofs.corner_numbers.Goals as goal

pub corner_keys-requires : goal.corner_keys-requires
corner_keys-requires c = record {
  n_in_bounds = c.requires.n_in_bounds;
  keys_len = c.requires.keys_len;
  low_keys_len = c.requires.low_keys_len;
}

pub first_indexes-requires : goal.first_indexes-requires
first_indexes-requires c =
    let p = c.requires in
    let hi = c.corner_keys.auto.keys ∙ p.keys_len in
    let lo = c.corner_keys.auto.low_keys ∙ p.low_keys_len in record {
      keys_len_bound = rw (hi) p.n_bound;
      low_keys_len = lo ∙ sym hi;
      below = c.corner_keys.ensures.below;
      index_len = c.requires.index_len ∙ sym hi;
      keys_in_bounds = omega (arith, hi, c.requires.n_in_bounds_2);
      keys_in_bounds_2 = omega (arith, hi, c.requires.n_in_bounds_3);
      keys_in_bounds_3 = omega (arith, hi, c.requires.n_in_bounds_4);
    }

pub returns : goal.returns
returns c =
    let g = c.args in
    let key = key_at c.corner_keys.new.keys c.corner_keys.new.low_keys in
    let hi = c.corner_keys.auto.keys ∙ c.requires.keys_len in record {
      numbers = numbered g.triangles.now g.n g.scale key _ c.corner_keys.ensures.by_index c.corner_keys.ensures.by_index_2 c.corner_keys.ensures.by_index_3 (λ j l. c.first_indexes.ensures.firsts j (rw (hi) l));
      rest = ((search rules), (search rules), (search rules), (search rules), (search rules));
    }
