-- `stages::biv_load_scene` meets its contract: by those of `settings_from`, `lengths_from` and `load_scene`, and the laws of proofs/Loaded.antt.
use native.Mathlib.Omega.{arith}
use lib.ListN.{length-set}
use mathlib.Core.Path.{ap}
use Rattle.placing.specs.Loading.{load_said}
use Rattle.stages.proofs.Loaded.{loads_refused, loads_kept}
use Rattle.stages.proofs.biv_load_scene.Goals as goal

pub load_scene-loaded-requires : goal.load_scene-loaded-requires
load_scene-loaded-requires c =
    let pre = c.requires.lens_len in
    rw c.lengths_from.ensures (omega (arith, pre.1), omega (arith, pre.2))

pub bounds-found-0 : goal.bounds-found-0
bounds-found-0 c = omega (arith, c.requires.counts_len.2)

pub bounds-found-1 : goal.bounds-found-1
bounds-found-1 c = simp length-set (omega (arith, c.requires.counts_len.2))

pub bounds-found-2 : goal.bounds-found-2
bounds-found-2 c = simp length-set (omega (arith, c.requires.counts_len.2))

pub returns-in-Err : goal.returns-in-Err
returns-in-Err c = let e = c.settings_from.ensures in
    let f = c.lengths_from.ensures in
    rw (← e, ← f, c.number.ensures) (loads_refused _ _ _ _ _ _ _ _ c.load_scene-loaded.ensures _ (ap load_said c.in-Err.is))

pub returns-in-Ok : goal.returns-in-Ok
returns-in-Ok c = let e = c.settings_from.ensures in
    let f = c.lengths_from.ensures in
    rw (← e, ← f) (loads_kept _ _ _ _ _ _ _ _ c.load_scene-loaded.ensures _ _ _ (ap load_said c.in-Ok.is))
