-- `placing::load_scene` meets its contract: what `check` and `triangles_from_scene` promise, by the laws of proofs/Accepts.antt.
use Rattle.std.proofs.Common.{sym, ap, ◌∙◌, arith}
use Rattle.std.proofs.lemmas.Result.{err_from_is_err_and}
use Rattle.scene.specs.Scene.{Scene, scene}
use Rattle.scene.proofs.Answers.{none_of_five, none_accepted}
use Rattle.placing.proofs.Accepts.{fits, load_refused, load_far, load_kept}
use Rattle.placing.proofs.load_scene.Goals as goal

pub triangles_from_scene-placed-requires : goal.triangles_from_scene-placed-requires
triangles_from_scene-placed-requires c =
    let a = c.args in
    let s : Scene = scene a.meshes.now a.transforms.now a.positions.now a.indices.now a.materials.now a.rows in
    let o = none_of_five a.settings a.c s a.lens _ (sym c.in_ok-triples.ensures) in
    let told = none_accepted a.settings a.c s a.lens _ o in
    let asked = c.requires in record {
      fits = fits s _ o.lengths o.count;
      n_le_most_triples = told.few;
      n_in_bounds = omega (arith, told.room.triangles_room, asked.0);
      n_in_bounds_2 = omega (arith, told.room.handles_room, asked.1);
    }

pub returns-in_err-triples : goal.returns-in_err-triples
returns-in_err-triples c =
    let p = err_from_is_err_and c.from_residual.result c.from_residual.ensures.1 in
    rw (p.1, p.2) (load_refused _ _ _ _ _ _ _ (sym c.in_err-triples.ensures))

pub returns-in_err-placed : goal.returns-in_err-placed
returns-in_err-placed c =
    let p = err_from_is_err_and c.from_residual-in_err-placed.result c.from_residual-in_err-placed.ensures.1 in
    rw (p.1, p.2) (load_far _ _ _ _ _ _ _ (none_of_five _ _ _ _ _ (sym c.in_ok-triples.ensures)) _ _ _ c.triangles_from_scene-placed.ensures _ c.in_err-placed.was)

pub returns : goal.returns
returns c = load_kept _ _ _ _ _ _ _ (none_of_five _ _ _ _ _ (sym c.in_ok-triples.ensures)) _ _ _ c.triangles_from_scene-placed.ensures _ c.in_ok-placed.was
