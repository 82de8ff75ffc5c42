-- `planes_faces::duplicates` meets its contract: the keys of the corners, and the first face of each three of them, are those of the definition (`first_at_lem`).
use mathlib.Core.Path.{◌∙◌}
use native.Mathlib.Omega.{arith}
use lib.ListN.{get_or}
use Rattle.planes_faces.specs.Numbers.{key_at}
use Rattle.planes_faces.specs.Key.{vertex_steps_per_metre, vertex_key}
use Rattle.planes_faces.proofs.Corners.{first_at_lem}
use Rattle.planes_faces.proofs.Numbering.{numbered}
use borrow.Author.Rules.{rules}
use Rattle.planes_faces.proofs.duplicates.Goals as goal

pub corner_keys-requires : goal.corner_keys-requires
corner_keys-requires c = record {
  n_in_bounds = omega (arith, c.requires.n_in_bounds);
  keys_len = c.requires.vhi_len;
  low_keys_len = c.requires.vlo_len;
}

pub first_faces-requires : goal.first_faces-requires
first_faces-requires c = record {
  n_bound = c.requires.n_bound;
  vhi_len = c.corner_keys.auto.keys ∙ c.requires.vhi_len;
  vlo_len = c.corner_keys.auto.low_keys ∙ c.requires.vlo_len;
  below = c.corner_keys.ensures.below;
  index_len = c.requires.index_len;
  n_in_bounds = c.requires.n_in_bounds_2;
  n_in_bounds_2 = c.requires.n_in_bounds_3;
  n_in_bounds_3 = c.requires.n_in_bounds_4;
  n_in_bounds_4 = c.requires.n_in_bounds_5;
}

pub shape_of-vhi : goal.shape_of-vhi
shape_of-vhi c = c.first_faces.auto.vhi ∙ c.corner_keys.auto.keys

pub shape_of-vlo : goal.shape_of-vlo
shape_of-vlo c = c.first_faces.auto.vlo
    ∙ c.corner_keys.auto.low_keys

pub returns : goal.returns
unfolding vertex_key
returns c =
    let same_length = c.first_faces.auto.vhi ∙ c.corner_keys.auto.keys in
    let same-length-2 = c.first_faces.auto.vlo
    ∙ c.corner_keys.auto.low_keys in
    let g = c.args in
    let key = key_at c.corner_keys.new.keys c.corner_keys.new.low_keys in record {
      by_index = λ i h. first_at_lem g.triangles.now g.n key c.corner_keys.ensures.by_index c.corner_keys.ensures.by_index_2 c.corner_keys.ensures.by_index_3 i (get_or c.first_faces.new.first i 0) h (c.first_faces.ensures.by_index_2 i h);
      numbered = numbered g.triangles.now g.n vertex_steps_per_metre key _ c.corner_keys.ensures.by_index c.corner_keys.ensures.by_index_2 c.corner_keys.ensures.by_index_3 c.first_faces.ensures.by_index;
      rest = (same_length, same-length-2, (search rules), (search rules), (search rules));
    }
