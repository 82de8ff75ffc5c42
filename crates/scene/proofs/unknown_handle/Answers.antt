-- `scene::unknown_handle` meets its contract: a loop over the headers: the rest from here has an unknown handle just where the whole has.
use mathlib.Core.Path.{◌≡◌, refl, sym, ◌∙◌}
use Prim.Native.Nat.{◌+◌, ◌*◌}
use native.Mathlib.Omega.{arith}
use borrow.Author.Tests.{lt-ltb, le-ltb}
use Rattle.scene.proofs.Cuts.{handle_step, handle_end}
use Rattle.scene.proofs.unknown_handle.Goals as goal

pub loop-i-init : goal.loop-i-init
loop-i-init c = refl

pub returns-then-h-rows : goal.returns-then-h-rows
returns-then-h-rows c = let a = c.args in
    rw (← c.loop-i.invariant, handle_step a.meshes.now (3 * c.loop-i.i) a.rows (omega arith), le-ltb _ _ c.if-h-rows.true)

pub loop-i-preserved : goal.loop-i-preserved
loop-i-preserved c = let a = c.args in
    let next : 3 * (c.loop-i.i + 1) ≡ 3 * c.loop-i.i + 3 = omega arith in
    rw next (sym (rw (lt-ltb _ _ c.if-h-rows.false) at (handle_step a.meshes.now (3 * c.loop-i.i) a.rows (omega arith))) ∙ c.loop-i.invariant)

pub returns : goal.returns
returns c = let a = c.args in
    sym (handle_end a.meshes.now (3 * c.loop-i.i) a.rows (omega arith)) ∙ c.loop-i.invariant
