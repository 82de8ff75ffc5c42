-- `planes_patches::plane_key` meets its contract: its calls are those of the definition.
use Rattle.planes_faces.specs.Key.{key_by}
use Rattle.planes_patches.specs.Patches.{cell_of}
use Rattle.planes_patches.specs.Grid.{plane_key_of}
use Rattle.planes_patches.proofs.plane_key.Goals as goal

pub returns : goal.returns
unfolding plane_key_of cell_of key_by
returns c = record {
  value = rw (← c.canonical-normal.ensures, ← c.offset_of-offset.ensures, ← c.cell_part.ensures.0, ← c.cell_part-2.ensures.0, ← c.cell_part-3.ensures.0);
  x_bound = (c.cell_part.ensures.1, c.cell_part-2.ensures.1, c.cell_part-3.ensures.1);
}

pub canonical-normal-requires : goal.canonical-normal-requires
canonical-normal-requires c = tt

pub offset_of-offset-requires : goal.offset_of-offset-requires
offset_of-offset-requires c = tt

pub cell_part-requires : goal.cell_part-requires
cell_part-requires c = tt

pub cell_part-requires-2 : goal.cell_part-requires-2
cell_part-requires-2 c = tt

pub cell_part-requires-3 : goal.cell_part-requires-3
cell_part-requires-3 c = tt
