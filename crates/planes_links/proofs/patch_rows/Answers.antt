-- `planes_links::patch_rows` meets its contract: the words, and their rows (`patch_row`).
use borrow.Author.Rules.{rules}
use mathlib.Core.Path.{◌∙◌}
use native.Mathlib.Omega.{arith}
use Rattle.planes_links.proofs.Pushing.{patch_row}
use Rattle.planes_links.proofs.patch_rows.Goals as goal

pub patch_words-k-requires : goal.patch_words-k-requires
patch_words-k-requires c = record {
  m_le_most_triangles = c.requires.m_le_most_triangles;
  np_le_most_triangles = c.requires.np_le_most_triangles;
  m_in_bounds = c.requires.m_in_bounds;
  m_in_bounds_2 = c.requires.m_in_bounds_2;
}

pub make_rows-requires : goal.make_rows-requires
make_rows-requires c =
    let k = c.patch_words-k.ensures.upper_bound in record {
      k_in_bounds = omega (arith, c.requires.m_in_bounds_2, k, c.patch_words-k.auto.words);
      k_in_bounds_2 = omega (arith, c.requires.m_in_bounds_3, k);
      k_in_bounds_3 = omega (arith, c.requires.m_in_bounds_4, k);
      k_bound = omega (arith, k, c.requires.m_le_most_triangles);
      rows_le_most_rows = omega (arith, c.requires.np_le_most_triangles);
      rows_in_bounds = c.requires.np_in_bounds;
    }

pub returns : goal.returns
returns c = record {
  row_bounds = c.make_rows.ensures.bounds;
  by_index = λ p h. c.make_rows.ensures.are p h ∙ patch_row c.args.of.now c.patch_words-k.new.words c.patch_words-k.result c.args.m c.args.np p c.patch_words-k.ensures.by_index c.requires.m_le_most_triangles c.requires.m_in_bounds h;
  rest = ((search rules), (search rules));
}
