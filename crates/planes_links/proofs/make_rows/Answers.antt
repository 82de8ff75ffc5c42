-- `planes_links::make_rows` meets its contract: `sort_rows` of the first k words.
use mathlib.Core.Path.{sym, ◌∙◌}
use native.Mathlib.Omega.{arith}
use lib.Seq.{length-take-le}
use Rattle.planes_links.specs.Words.{uppers}
use Rattle.planes_links.proofs.make_rows.Goals as goal

pub slice_bounds-sort_rows-end-2 : goal.slice_bounds-sort_rows-end-2
slice_bounds-sort_rows-end-2 c =
    sym (length-take-le c.args.k c.args.words.now c.requires.k_in_bounds)

pub slice_bounds-sort_rows-end-4 : goal.slice_bounds-sort_rows-end-4
slice_bounds-sort_rows-end-4 c =
    sym (length-take-le c.args.k c.args.scratch.now c.requires.k_in_bounds_2)

pub sort_rows-requires : goal.sort_rows-requires
sort_rows-requires c =
    let w = length-take-le c.args.k c.args.words.now c.requires.k_in_bounds in
    let s = length-take-le c.args.k c.args.scratch.now c.requires.k_in_bounds_2 in record {
      scratch_len = s ∙ sym w;
      words_in_bounds = omega (arith, w, c.requires.k_in_bounds_3);
      words_len_bound = omega (arith, w, c.requires.k_bound);
      rows_le_most_rows = c.requires.rows_le_most_rows;
      rows_in_bounds = c.requires.rows_in_bounds;
    }

pub returns : goal.returns
unfolding uppers
returns c = c.sort_rows.ensures
