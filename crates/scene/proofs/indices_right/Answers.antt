-- `scene::indices_right` meets its contract: each mesh takes its indices from what is left; at the end none may be left.
use mathlib.Core.Path.{◌≡◌}
use Prim.Native.Nat.{◌+◌, ◌*◌}
use native.Mathlib.Omega.{arith}
use Rattle.scene.specs.Scene.{headers, index_sum}
use Rattle.scene.specs.Refusals.{indices_are_right}
use Rattle.scene.proofs.Cuts.{index_step, index_end, eqb_yes, eqb_no}
use Rattle.scene.proofs.indices_right.Goals as goal

pub loop-i-init : goal.loop-i-init
unfolding indices_are_right
loop-i-init c = omega arith

pub returns-then-left-k : goal.returns-then-left-k
unfolding indices_are_right
returns-then-left-k c = let at = (3 * c.loop-i.i) in
    let a = c.args in
    let l = a.meshes.now in
    eqb_no a.n (index_sum (headers l)) (λ e. omega (arith, index_step l at (omega arith)))

pub loop-i-preserved : goal.loop-i-preserved
unfolding indices_are_right
loop-i-preserved c = let next : 3 * (c.loop-i.i + 1) ≡ 3 * c.loop-i.i + 3 = omega arith in let at = (3 * c.loop-i.i) in
    let l = c.args.meshes.now in
    let step = index_step l at (omega arith) in rw next (omega arith)

pub returns-then-left-eq0 : goal.returns-then-left-eq0
unfolding indices_are_right
returns-then-left-eq0 c = let a = c.args in
    let l = a.meshes.now in
    eqb_yes a.n (index_sum (headers l)) (omega (arith, index_end l (3 * c.loop-i.i) (omega arith)))

pub returns : goal.returns
unfolding indices_are_right
returns c = let a = c.args in
    let l = a.meshes.now in
    eqb_no a.n (index_sum (headers l)) (λ e. omega (arith, index_end l (3 * c.loop-i.i) (omega arith)))
