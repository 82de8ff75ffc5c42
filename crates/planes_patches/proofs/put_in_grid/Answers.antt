-- `planes_patches::put_in_grid` meets its contract, by those of `put_cell` and `link`.
use native.Mathlib.Omega.{arith}
use Rattle.planes_patches.proofs.put_in_grid.Goals as goal

pub put_cell-requires : goal.put_cell-requires
put_cell-requires c = c.requires.0

pub link-requires : goal.link-requires
link-requires c = let b = c.bucket.ensures.1 in let p = c.requires in (omega arith, p.2, p.3, rw c.bucket.ensures.0 p.4)

pub returns : goal.returns
returns c = let b = c.bucket.ensures.0 in record {
  p_after = c.put_cell.ensures.p_after;
  by_index = c.put_cell.ensures.by_index;
  heads_after = rw (← b) c.link.ensures.heads_after;
  next_after = rw (← b) c.link.ensures.next_after;
}

pub bucket-requires : goal.bucket-requires
bucket-requires c = tt
