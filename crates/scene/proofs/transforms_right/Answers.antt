-- `scene::transforms_right` meets its contract: the floats are 16 a mesh just where both tests hold.
use Prim.Native.Nat.{◌*◌}
use native.Mathlib.Omega.{arith}
use native.Mathlib.Nat.{div-add-mod', mod-lt}
use lib.ListN.{length}
use Rattle.scene.specs.Scene.{headers}
use Rattle.scene.specs.Refusals.{transforms_are_right}
use Rattle.scene.proofs.Cuts.{headers_count, eqb_yes, eqb_no}
use Rattle.scene.proofs.transforms_right.Goals as goal

pub returns-then-n-meshes : goal.returns-then-n-meshes
unfolding transforms_are_right
returns-then-n-meshes c = let a = c.args in
    let l = a.meshes.now in
    eqb_yes a.n (16 * length (headers l))
    (omega (arith, div-add-mod' (length l) 3, mod-lt (length l) {m = 3} (omega arith), div-add-mod' a.n 16, headers_count l))

pub returns-else-n-meshes : goal.returns-else-n-meshes
unfolding transforms_are_right
returns-else-n-meshes c = let a = c.args in
    let l = a.meshes.now in
    eqb_no a.n (16 * length (headers l))
    (λ e. omega (arith, div-add-mod' (length l) 3, mod-lt (length l) {m = 3} (omega arith), div-add-mod' a.n 16, headers_count l))

pub returns-else-n-eq0 : goal.returns-else-n-eq0
unfolding transforms_are_right
returns-else-n-eq0 c = let a = c.args in
    eqb_no a.n (16 * length (headers a.meshes.now)) (λ e. omega (arith, div-add-mod' a.n 16, mod-lt a.n {m = 16} (omega arith)))
