-- `scene::whole_triples` meets its contract: a loop over the headers: what is counted and what is left make the sum, until it would pass the limit.
use mathlib.Core.Path.{◌≡◌}
use Prim.Native.Nat.{◌+◌, ◌*◌}
use native.Mathlib.Omega.{arith}
use Rattle.scene.proofs.Cuts.{triple_step, triple_end}
use Rattle.scene.proofs.whole_triples.Goals as goal

pub returns-then-k-t : goal.returns-then-k-t
returns-then-k-t c = let l = c.args.meshes.now in
    let step = (triple_step l (3 * c.loop-i.i) (omega arith)) in
    omega arith

pub loop-i-preserved : goal.loop-i-preserved
loop-i-preserved c = let next : 3 * (c.loop-i.i + 1) ≡ 3 * c.loop-i.i + 3 = omega arith in let l = c.args.meshes.now in
    let step = (triple_step l (3 * c.loop-i.i) (omega arith)) in
    rw next (omega arith)

pub returns : goal.returns
returns c = let l = c.args.meshes.now in
    let done = triple_end l (3 * c.loop-i.i) (omega arith) in
    omega arith
