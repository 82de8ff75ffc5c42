-- `planes_importance::rank_planes` meets its contract: the sort of the keys, which are the planes'.
use mathlib.Core.Path.{ap, ◌∙◌}
use borrow.Author.Rules.{rules}
use Rattle.order.proofs.Positions.{up_to_length, up_to_positions}
use Rattle.planes_patches.proofs.Lists.{length_up_to}
use Rattle.planes_importance.specs.Importance.{centre_of, half_diag_of}
use Rattle.planes_importance.proofs.Ranks.{held_more, ranking_is}
use Rattle.planes_importance.proofs.rank_planes.Goals as goal

pub put_keys-requires : goal.put_keys-requires
put_keys-requires c =
    let p = c.requires in record {
      n_in_bounds = p.n_in_bounds;
      n_in_bounds_2 = p.n_in_bounds_2;
      planes_held = held_more _ _ _ _ _ _ p.m_le_n p.planes_held;
      keys_len = p.keys_len;
      index_len_bound = p.index_len_bound;
    }

pub sort_by_key-requires : goal.sort_by_key-requires
sort_by_key-requires c =
    let k = c.put_keys.ensures in
    let keys = k.keys_after _ c.centre.ensures c.half_diag.ensures in record {
      index_in_bounds = rw (k.index_after, up_to_length _) c.requires.index_in_bounds;
      index_in_bounds_2 = rw (k.index_after, up_to_length _) c.requires.index_in_bounds_2;
      below = rw (k.index_after, keys, length_up_to _ _) (up_to_positions _);
    }

pub returns : goal.returns
returns c =
    let k = c.put_keys.ensures in
    let box = c.scene_box-b.ensures in
    let keys = k.keys_after _ (c.centre.ensures ∙ ap centre_of box)
    (c.half_diag.ensures ∙ ap half_diag_of box) in record {
      ranked = c.sort_by_key.ensures.sorted ∙ ranking_is _ _ _ _ _ _ _ _ c.requires.planes_held _ _ keys k.index_after;
      rest = ((search rules), (search rules), (search rules));
    }

pub centre-requires : goal.centre-requires
centre-requires c = tt

pub half_diag-requires : goal.half_diag-requires
half_diag-requires c = tt
