-- `planes_links::sort_rows` meets its contract: the words sorted, without repeats, and cut into rows (`rows_are`).
use mathlib.Core.Path.{sym}
use native.Mathlib.Omega.{arith}
use lib.Seq.{length-take-le}
use Rattle.planes_links.proofs.Cutting.{set_sorted, rows_are}
use Rattle.planes_links.proofs.sort_rows.Goals as goal

pub sort_words-requires : goal.sort_words-requires
sort_words-requires c = c.requires.scratch_len

pub compact-k-requires : goal.compact-k-requires
compact-k-requires c = omega (arith, c.sort_words.auto.a, c.requires.words_in_bounds)

pub slice_bounds-row_starts-end : goal.slice_bounds-row_starts-end
slice_bounds-row_starts-end c =
    omega (arith, c.compact-k.ensures.upper_bound, c.compact-k.auto.sorted, c.sort_words.auto.a, c.requires.words_in_bounds)

pub slice_bounds-row_starts-end-2 : goal.slice_bounds-row_starts-end-2
slice_bounds-row_starts-end-2 c =
    sym (length-take-le c.compact-k.result c.compact-k.new.sorted (omega (arith, c.compact-k.ensures.upper_bound, c.compact-k.auto.sorted, c.sort_words.auto.a, c.requires.words_in_bounds)))

pub row_starts-requires : goal.row_starts-requires
row_starts-requires c =
    let t = length-take-le c.compact-k.result c.compact-k.new.sorted (omega (arith, c.compact-k.ensures.upper_bound, c.compact-k.auto.sorted, c.sort_words.auto.a, c.requires.words_in_bounds)) in record {
      rows_le_most_rows = c.requires.rows_le_most_rows;
      rows_in_bounds = c.requires.rows_in_bounds;
      sorted_len_bound = omega (arith, t, c.compact-k.ensures.upper_bound, c.sort_words.auto.a, c.requires.words_len_bound);
      sorted = set_sorted c.args.words.now c.sort_words.new.a c.compact-k.new.sorted c.compact-k.result c.sort_words.ensures.sorted c.compact-k.ensures.sorted_after;
    }

pub returns : goal.returns
returns c =
    rows_are c.args.words.now c.sort_words.new.a c.compact-k.new.sorted c.compact-k.result c.sort_words.ensures.sorted c.compact-k.ensures.sorted_after
    c.row_starts.new.offsets c.args.rows (omega (arith, c.compact-k.ensures.upper_bound, c.compact-k.auto.sorted, c.sort_words.auto.a, c.requires.words_in_bounds)) c.row_starts.ensures
