-- `planes_faces::first_indexes` meets its contract: the two sorts are the sort by both columns, and the walk over its runs finds the first of each.
use mathlib.Core.Path.{sym, ap, ◌∙◌}
use native.Mathlib.Omega.{arith}
use lib.ListN.{length}
use Rattle.order.specs.Sort.{key_of}
use Rattle.order.specs.Runs.{up_to}
use Rattle.planes_faces.proofs.Firsts.{counted_length, counted_below, sorted_below, indexes_are}
use borrow.Author.Rules.{rules}
use Rattle.planes_faces.proofs.first_indexes.Goals as goal

pub sort_by_key-requires : goal.sort_by_key-requires
sort_by_key-requires c =
    let n = length c.args.index.now in
    let xs = c.count_up.new.index in
    let len = counted_length n xs c.count_up.ensures in record {
      index_in_bounds = omega (arith, len, c.requires.index_len, c.requires.keys_in_bounds);
      index_in_bounds_2 = omega (arith, len, c.requires.index_len, c.requires.keys_in_bounds_2);
      below = counted_below n (length c.args.low_keys.now) xs c.count_up.ensures (c.requires.index_len ∙ sym c.requires.low_keys_len);
    }

pub sort_by_key-requires-2 : goal.sort_by_key-requires-2
sort_by_key-requires-2 c =
    let n = length c.args.index.now in
    let xs = c.count_up.new.index in
    let len = counted_length n xs c.count_up.ensures in record {
      index_in_bounds = omega (arith, len, c.sort_by_key.auto.index, c.sort_by_key.auto.words, c.requires.index_len, c.requires.keys_in_bounds);
      index_in_bounds_2 = omega (arith, len, c.sort_by_key.auto.index, c.sort_by_key.auto.scratch, c.requires.index_len, c.requires.keys_in_bounds_2);
      below = sorted_below (key_of c.args.low_keys.now) (length c.args.keys.now) xs c.sort_by_key.new.index c.sort_by_key.ensures.sorted (counted_below n (length c.args.keys.now) xs c.count_up.ensures c.requires.index_len);
    }

pub mark_run_starts-requires : goal.mark_run_starts-requires
mark_run_starts-requires c =
    let n = length c.args.index.now in
    let xs = c.count_up.new.index in record {
      low_keys_len = c.requires.low_keys_len;
      below = c.requires.below;
      keys_in_bounds = c.requires.keys_in_bounds_3;
      below_2 = sorted_below (key_of c.args.keys.now) (length c.args.keys.now) c.sort_by_key.new.index c.sort_by_key-2.new.index c.sort_by_key-2.ensures.sorted
          (sorted_below (key_of c.args.low_keys.now) (length c.args.keys.now) xs c.sort_by_key.new.index c.sort_by_key.ensures.sorted (counted_below n (length c.args.keys.now) xs c.count_up.ensures c.requires.index_len));
    }

pub returns : goal.returns
returns c = record {
  firsts = indexes_are c.args.keys.now c.args.low_keys.now c.count_up.new.index c.sort_by_key.new.index c.sort_by_key-2.new.index c.args.first.now c.mark_run_starts.new.first
      (c.count_up.ensures ∙ ap up_to c.requires.index_len) c.sort_by_key.ensures.sorted c.sort_by_key-2.ensures.sorted c.mark_run_starts.ensures c.requires.below c.requires.keys_in_bounds_3;
  rest = ((search rules), (search rules), (search rules));
}
