-- `planes_links::link_row` meets its contract: by the number of patches.
use mathlib.Core.Path.{ap, ◌∙◌}
use mathlib.Core.Bool.{Bool, ◌||◌}
use native.Mathlib.Omega.{arith}
use Rattle.planes_links.specs.Words.{has, word_of, uppers, lows}
use Rattle.planes_links.proofs.Linking.{lows_length, row_all, row_next}
use Rattle.planes_links.proofs.link_row.Goals as goal

pub link_all-requires : goal.link_all-requires
link_all-requires c = record {
  row_len_bound = omega arith;
  row_in_bounds = omega arith;
}

pub returns-then-row-le-MOST_LINKED : goal.returns-then-row-le-MOST_LINKED
returns-then-row-le-MOST_LINKED c =
    let row = c.args.row.now in record {
      upper_bound = c.link_all.ensures.upper_bound;
      by_index = λ a b h. c.link_all.ensures.by_index a b h ∙ ap (λ (t : Bool). has (word_of a b) (uppers c.args.words.now c.args.from) || t) (row_all (lows row) a b (rw (lows_length row) c.if-row-le-MOST_LINKED.true));
    }

pub returns : goal.returns
returns c =
    let row = c.args.row.now in record {
      upper_bound = c.link_neighbours.ensures.upper_bound;
      by_index = λ a b h. c.link_neighbours.ensures.by_index a b h ∙ ap (λ (t : Bool). has (word_of a b) (uppers c.args.words.now c.args.from) || t) (row_next (lows row) a b (rw (lows_length row) c.if-row-le-MOST_LINKED.false));
    }
