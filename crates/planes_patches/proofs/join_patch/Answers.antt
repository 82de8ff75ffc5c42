-- `planes_patches::join_patch` meets its contract, by those of `row_at` and `put_row`.
use Rattle.planes_patches.specs.Rows.{joined_row_of}
use Rattle.planes_patches.specs.Triangles.{box_of}
use Rattle.planes_patches.proofs.join_patch.Goals as goal

pub row_at-old-requires : goal.row_at-old-requires
row_at-old-requires c = c.requires

pub put_row-requires : goal.put_row-requires
put_row-requires c = c.requires

pub returns : goal.returns
unfolding box_of joined_row_of
returns c = record {
  p_after = rw (← c.row_at-old.ensures, ← c.triangle_area.ensures, ← c.from_corners.ensures, ← c.union-aabb.ensures) c.put_row.ensures.p_after;
  by_index = c.put_row.ensures.by_index;
}

pub triangle_area-requires : goal.triangle_area-requires
triangle_area-requires c = tt

pub from_corners-requires : goal.from_corners-requires
from_corners-requires c = tt

pub union-aabb-requires : goal.union-aabb-requires
union-aabb-requires c = tt
