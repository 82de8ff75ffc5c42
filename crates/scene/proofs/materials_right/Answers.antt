-- `scene::materials_right` meets its contract: by its one test, with the rows as wide as a length.
use Prim.Native.Nat.{◌*◌}
use native.Mathlib.Omega.{arith}
use Rattle.scene.specs.Refusals.{materials_are_right}
use Rattle.scene.proofs.Cuts.{eqb_yes, eqb_no}
use Rattle.scene.proofs.materials_right.Goals as goal

pub returns-then-n-rows : goal.returns-then-n-rows
unfolding materials_are_right
returns-then-n-rows c = let a = c.args in eqb_yes a.n (16 * a.rows) (omega arith)

pub returns : goal.returns
unfolding materials_are_right
returns c = let a = c.args in eqb_no a.n (16 * a.rows) (λ e. omega arith)
