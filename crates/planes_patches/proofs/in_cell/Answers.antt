-- `planes_patches::in_cell` meets its contract, by its tests.
use borrow.Author.Tests.{eq-eqb, ne_eqb}
use Rattle.planes_faces.specs.Key.{same_key}
use Rattle.planes_patches.specs.Grid.{cell_at}
use Rattle.planes_patches.proofs.in_cell.Goals as goal

pub returns-then-cells-at-2 : goal.returns-then-cells-at-2
unfolding same_key cell_at
returns-then-cells-at-2 c = rw (eq-eqb _ _ c.if-cells-at.true, eq-eqb _ _ c.if-cells-at-2.true)

pub returns-else-cells-at-2 : goal.returns-else-cells-at-2
unfolding same_key cell_at
returns-else-cells-at-2 c = rw (eq-eqb _ _ c.if-cells-at.true, ne_eqb _ _ c.if-cells-at-2.false)

pub returns-else-cells-at : goal.returns-else-cells-at
unfolding same_key cell_at
returns-else-cells-at c = rw (ne_eqb _ _ c.if-cells-at.false)
