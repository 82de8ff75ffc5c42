-- `scene::meshes_whole` meets its contract: the words are three a header just where their count is a multiple of three.
use Prim.Native.Nat.{◌*◌}
use native.Mathlib.Omega.{arith}
use native.Mathlib.Nat.{div-add-mod', mod-lt}
use lib.ListN.{length}
use Rattle.scene.specs.Scene.{headers}
use Rattle.scene.specs.Refusals.{meshes_are_whole}
use Rattle.scene.proofs.Cuts.{headers_count, eqb_yes, eqb_no}
use Rattle.scene.proofs.meshes_whole.Goals as goal

pub returns-then-meshes-eq0 : goal.returns-then-meshes-eq0
unfolding meshes_are_whole
returns-then-meshes-eq0 c = let l = c.args.meshes.now in eqb_yes (length l) (3 * length (headers l)) (omega (arith, div-add-mod' (length l) 3, headers_count l))

pub returns : goal.returns
unfolding meshes_are_whole
returns c = let l = c.args.meshes.now in eqb_no (length l) (3 * length (headers l)) (λ e. omega (arith, div-add-mod' (length l) 3, mod-lt (length l) {m = 3} (omega arith), headers_count l))
