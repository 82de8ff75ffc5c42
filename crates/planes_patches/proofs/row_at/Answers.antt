-- `planes_patches::row_at` meets its contract, by the contract of `mirror::vec_in`.
use Rattle.planes_patches.specs.Rows.{row_in}
use Rattle.planes_patches.proofs.row_at.Goals as goal

pub returns : goal.returns
unfolding row_in
returns c = rw (← c.vec_in-normal.ensures, ← c.vec_in.ensures, ← c.vec_in-2.ensures)
