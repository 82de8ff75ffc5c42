-- `scene::positions_right` meets its contract: each mesh takes its floats from what is left; at the end none may be left.
use mathlib.Core.Path.{◌≡◌}
use Prim.Native.Nat.{◌*◌, ◌+◌}
use native.Mathlib.Omega.{arith}
use Rattle.scene.specs.Scene.{headers, vertex_sum}
use Rattle.scene.specs.Refusals.{positions_are_right}
use Rattle.scene.proofs.Cuts.{vertex_step, vertex_end, eqb_yes, eqb_no}
use Rattle.scene.proofs.positions_right.Goals as goal

pub loop-i-init : goal.loop-i-init
unfolding positions_are_right
loop-i-init c = omega arith

pub returns-then-left-v : goal.returns-then-left-v
unfolding positions_are_right
returns-then-left-v c = let at = (3 * c.loop-i.i) in
    let a = c.args in
    let l = a.meshes.now in
    eqb_no a.n (3 * vertex_sum (headers l)) (λ e. omega (arith, vertex_step l at (omega arith)))

pub loop-i-preserved : goal.loop-i-preserved
unfolding positions_are_right
loop-i-preserved c = let next : 3 * (c.loop-i.i + 1) ≡ 3 * c.loop-i.i + 3 = omega arith in let at = (3 * c.loop-i.i) in
    let l = c.args.meshes.now in
    let step = vertex_step l at (omega arith) in rw next (omega arith)

pub returns-then-left-eq0 : goal.returns-then-left-eq0
unfolding positions_are_right
returns-then-left-eq0 c = let a = c.args in
    let l = a.meshes.now in
    eqb_yes a.n (3 * vertex_sum (headers l)) (omega (arith, vertex_end l (3 * c.loop-i.i) (omega arith)))

pub returns : goal.returns
unfolding positions_are_right
returns c = let a = c.args in
    let l = a.meshes.now in
    eqb_no a.n (3 * vertex_sum (headers l)) (λ e. omega (arith, vertex_end l (3 * c.loop-i.i) (omega arith)))
