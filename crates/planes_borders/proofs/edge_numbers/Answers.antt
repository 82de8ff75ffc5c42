-- `planes_borders::edge_numbers` meets its contract: the numbers of `planes_faces`, at the scale of edges.
use borrow.Author.Rules.{rules}
use Rattle.planes_borders.proofs.Bordering.{edge_numbered}
use Rattle.planes_borders.proofs.edge_numbers.Goals as goal

pub corner_numbers-requires : goal.corner_numbers-requires
corner_numbers-requires c =
    let p = c.requires.n_bound in let a = c.requires.keys_len in let b = c.requires.n_in_bounds in record {
      n_bound = p.0;
      n_in_bounds = p.1;
      keys_len = a.0;
      low_keys_len = a.1;
      index_len = a.2;
      n_in_bounds_2 = b.0;
      n_in_bounds_3 = b.1;
      n_in_bounds_4 = b.2;
    }

pub returns : goal.returns
returns c =
    let a = c.args in record {
      numbers = edge_numbered a.triangles.now a.n a.n c.corner_numbers.new.numbers c.corner_numbers.ensures.numbers;
      rest = ((search rules), (search rules), (search rules), (search rules), (search rules));
    }
