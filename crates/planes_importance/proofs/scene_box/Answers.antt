-- `planes_importance::scene_box` meets its contract: the box so far is that of the triangles so far.
use mathlib.Core.Path.{◌≡◌, sym, ◌∙◌}
use native.Mathlib.Omega.{arith}
use Rattle.planes_patches.specs.Triangles.{triangles_in}
use Rattle.order.specs.Runs.{up_to}
use Rattle.planes_importance.specs.Importance.{scene_box_of}
use Rattle.planes_importance.proofs.Folds.{box_more}
use Rattle.planes_importance.proofs.scene_box.Goals as goal

pub loop-i-init : goal.loop-i-init
unfolding scene_box_of triangles_in up_to
loop-i-init c = (c.no_box-b.ensures, omega arith)

pub loop-i-preserved : goal.loop-i-preserved
loop-i-preserved c =
    (c.grow_by-b.ensures ∙ rw (c.triangle_at.ensures, c.loop-i.invariant.0) (sym (box_more _ _ _ _)), omega arith)

pub returns : goal.returns
returns c =
    let e : c.loop-i.i ≡ c.args.m = omega arith in
    rw (← e) c.loop-i.invariant.0

pub no_box-b-requires : goal.no_box-b-requires
no_box-b-requires c = tt

pub grow_by-b-requires : goal.grow_by-b-requires
grow_by-b-requires c = tt
