-- `planes_links::adjacency` meets its contract: the words of corners, their rows, the words of links, and theirs (`run_is`, `joined_is`).
use borrow.Author.Rules.{rules}
use mathlib.Core.Path.{◌∙◌}
use native.Mathlib.Omega.{arith}
use Rattle.planes_links.specs.Words.{row_in}
use Rattle.planes_links.proofs.Pushing.{run_is, joined_is, joined_cut, numbers_under}
use Rattle.planes_links.proofs.adjacency.Goals as goal

pub vertex_words-k-requires : goal.vertex_words-k-requires
vertex_words-k-requires c =
    let p = c.requires in record {
      np_le_most_triangles = p.np_le_most_triangles;
      m_le_most_triangles = p.m_le_most_triangles;
      m_le_n = p.m_le_n;
      n_in_bounds = p.n_in_bounds;
      numbers = numbers_under c.args.numbers.now c.args.n c.args.m c.args.vertices 1048575 p.numbers p.vertices_le_most_rows;
      m_in_bounds = p.m_in_bounds;
      m_in_bounds_2 = omega (arith, p.m_in_bounds_2);
    }

pub make_rows-requires : goal.make_rows-requires
make_rows-requires c =
    let p = c.requires in
    let k = c.vertex_words-k.ensures.upper_bound in record {
      k_in_bounds = omega (arith, k, c.vertex_words-k.auto.words, c.requires.m_in_bounds_2);
      k_in_bounds_2 = omega (arith, k, c.requires.m_in_bounds_3);
      k_in_bounds_3 = omega (arith, k, c.requires.vsorted_len);
      k_bound = omega (arith, k, p.m_le_most_triangles);
      rows_le_most_rows = p.vertices_le_most_rows;
      rows_in_bounds = c.requires.vertices_in_bounds;
    }

pub link_rows-links-requires : goal.link_rows-links-requires
link_rows-links-requires c =
    let r = c.make_rows.auto in record {
      rows_in_bounds = omega (arith, c.requires.vertices_in_bounds, r.offsets);
      row_bounds = c.make_rows.ensures.bounds;
      sorted_in_bounds = omega (arith, c.requires.vsorted_len, c.requires.m_in_bounds_2, r.words, r.sorted, c.vertex_words-k.auto.words);
    }

pub make_rows-requires-2 : goal.make_rows-requires-2
make_rows-requires-2 c =
    let p = c.requires in
    let k = c.link_rows-links.ensures.upper_bound in
    let r = c.make_rows.auto in
    let v = r.sorted in record {
      k_in_bounds = omega (arith, k, v, c.requires.vsorted_len, c.requires.m_in_bounds_2, r.words, c.vertex_words-k.auto.words, c.link_rows-links.auto.words);
      k_in_bounds_2 = omega (arith, k, v, c.requires.vsorted_len, c.requires.m_in_bounds_3, r.scratch);
      k_in_bounds_3 = omega
          (arith, k, v, c.requires.vsorted_len, c.requires.m_in_bounds_4);
      k_bound = omega (arith, k, v, c.requires.vsorted_len, p.m_le_most_triangles);
      rows_le_most_rows = omega (arith, p.np_le_most_triangles);
      rows_in_bounds = c.requires.np_in_bounds;
    }

pub returns : goal.returns
returns c =
    let a = c.args in record {
      row_bounds = c.make_rows-2.ensures.bounds;
      by_index = λ p h.
          c.make_rows-2.ensures.are p h
          ∙ joined_is a.numbers.now a.n a.of.now a.m a.np a.vertices (row_in c.make_rows.new.sorted c.make_rows.new.offsets) c.link_rows-links.new.words c.link_rows-links.result p c.link_rows-links.ensures.by_index
          (λ v l. c.make_rows.ensures.are v l ∙ run_is a.numbers.now a.n a.of.now a.m a.np c.vertex_words-k.new.words c.vertex_words-k.result v c.vertex_words-k.ensures.by_index)
          ∙ joined_cut a.numbers.now a.n a.of.now a.m a.np a.vertices p c.requires.np_le_most_triangles;
      rest = ((search rules), (search rules), (search rules), (search rules));
    }
