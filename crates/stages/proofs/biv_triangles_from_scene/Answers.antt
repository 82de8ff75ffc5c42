-- `stages::biv_triangles_from_scene` meets its contract: by that of `triangles_from_scene` and the laws of proofs/Passing.antt.
use Rattle.stages.proofs.Passing.{passes_far, passes_kept}
use Rattle.stages.proofs.biv_triangles_from_scene.Goals as goal

pub returns-in-Ok : goal.returns-in-Ok
returns-in-Ok c = passes_kept _ _ _ _ _ _ _ _ c.triangles_from_scene-placed.ensures _ c.in-Ok.is

pub returns-in-Err : goal.returns-in-Err
returns-in-Err c = rw c.number.ensures (passes_far _ _ _ _ _ _ _ _ c.triangles_from_scene-placed.ensures _ c.in-Err.is)
