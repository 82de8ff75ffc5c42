-- `planes_buried::close_rows` meets its contract: the loop holds it for the patches before p (`Closing`).
use Prim.Native.Nat.{◌≤◌}
use native.Mathlib.Omega.{arith}
use native.Mathlib.Numerals.{add-one}
use Rattle.planes_buried.proofs.Closing.{closing_more, closing_none, open_le}
use Rattle.planes_buried.proofs.close_rows.Goals as goal

pub loop-p-init : goal.loop-p-init
loop-p-init c = (omega arith, closing_none c.args.flags.now c.args.rows.now c.args.numbers.now)

pub close_row-w-requires : goal.close_row-w-requires
close_row-w-requires c =
    let p = c.requires in let h = c.loop-p-test.true in let i = c.loop-p.invariant.1 in let lr = i.len_rows in let ln = i.len_numbers in
    let le : c.loop-p.w ≤ c.loop-p.p = rw i.count (open_le c.args.flags.now c.loop-p.p) in
    (omega arith, le, omega arith, omega arith, omega arith)

pub loop-p-preserved : goal.loop-p-preserved
loop-p-preserved c =
    let a = c.args in let ln = c.loop-p.invariant.1.len_numbers in let h = c.loop-p-test.true in let p = c.requires in (
      omega arith,
      rw (add-one c.loop-p.p) (closing_more a.flags.now a.rows.now a.numbers.now c.loop-p.rows c.loop-p.numbers c.loop-p.w c.loop-p.p c.close_row-w.new.rows c.close_row-w.new.numbers c.close_row-w.result c.loop-p.invariant.1 (omega arith)
          c.close_row-w.auto.rows c.close_row-w.ensures.value c.close_row-w.ensures.numbers_after c.close_row-w.ensures.by_index),
    )
