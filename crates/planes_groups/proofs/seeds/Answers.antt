-- `planes_groups::seeds` meets its contract: the sort of the patches by their keys (`seeds_sorted`).
use mathlib.Core.Path.{sym, ◌∙◌}
use native.Mathlib.Omega.{arith}
use lib.ListN.{length, take}
use lib.Seq.{length-take-le, length_front}
use Rattle.planes_groups.specs.Rows.{seed_key_in}
use Rattle.planes_groups.proofs.Reading.{seeds_sorted, positions}
use Rattle.planes_groups.proofs.seeds.Goals as goal

pub seed_keys-requires : goal.seed_keys-requires
seed_keys-requires c = record {
  np_le_most_triangles = c.requires.np_le_most_triangles;
  np_in_bounds = c.requires.np_in_bounds;
  table = c.requires.table;
  np_in_bounds_2 = c.requires.np_in_bounds_2;
  np_in_bounds_3 = c.requires.np_in_bounds_5;
}

pub slice_bounds-sort_by_key-end : goal.slice_bounds-sort_by_key-end
slice_bounds-sort_by_key-end c = omega (arith, c.seed_keys.auto.order, c.requires.np_in_bounds_5)

pub slice_bounds-sort_by_key-end-2 : goal.slice_bounds-sort_by_key-end-2
slice_bounds-sort_by_key-end-2 c =
    sym (length-take-le c.args.np c.seed_keys.new.order (omega (arith, c.seed_keys.auto.order, c.requires.np_in_bounds_5)))

pub sort_by_key-requires : goal.sort_by_key-requires
sort_by_key-requires c =
    let l = length-take-le c.args.np c.seed_keys.new.order (omega (arith, c.seed_keys.auto.order, c.requires.np_in_bounds_5)) in record {
      index_in_bounds = omega (arith, l, c.requires.np_in_bounds_3);
      index_in_bounds_2 = omega (arith, l, c.requires.np_in_bounds_4);
      below = positions c.args.np (length c.seed_keys.new.keys) (take c.args.np c.seed_keys.new.order) c.seed_keys.ensures.order_after (omega (arith, c.seed_keys.auto.keys, c.requires.np_in_bounds_2));
    }

pub shape_of-order : goal.shape_of-order
shape_of-order c =
    length_front c.seed_keys.new.order c.sort_by_key.new.index c.args.np
    c.sort_by_key.auto.index ∙ c.seed_keys.auto.order

pub returns : goal.returns
returns c =
    seeds_sorted c.seed_keys.new.keys c.seed_keys.new.order c.sort_by_key.new.index (seed_key_in c.args.rows.now c.args.tsorted.now c.args.tstarts.now) c.args.np c.seed_keys.ensures.order_after c.seed_keys.ensures.by_index c.sort_by_key.ensures.sorted
