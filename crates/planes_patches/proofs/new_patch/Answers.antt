-- `planes_patches::new_patch` meets its contract, by that of `put_row`.
use mathlib.Core.Path.{◌∙◌, refl}
use Rattle.planes_patches.specs.Triangles.{box_of}
use Rattle.planes_patches.proofs.Turns.{start_row}
use Rattle.planes_patches.proofs.new_patch.Goals as goal

pub put_row-requires : goal.put_row-requires
put_row-requires c = c.requires.patch_floats_in_bounds

pub returns : goal.returns
unfolding box_of
returns c = record {
  p_after = c.put_row.ensures.p_after ∙ start_row c.args.t c.args.k _ c.requires.k_value refl refl c.triangle_area-area.ensures c.from_corners-aabb.ensures;
  by_index = c.put_row.ensures.by_index;
}

pub triangle_area-area-requires : goal.triangle_area-area-requires
triangle_area-area-requires c = tt

pub from_corners-aabb-requires : goal.from_corners-aabb-requires
from_corners-aabb-requires c = tt
