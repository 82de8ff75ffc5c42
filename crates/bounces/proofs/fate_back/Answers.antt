-- `bounces::fate_back` meets its contract: the fate from here on is that of the whole way.
use mathlib.Core.Path.{◌≡◌, sym, ap, ◌∙◌}
use Prim.Native.Nat.{◌+◌, ◌-◌}
use mathlib.Core.List.{[]}
use native.Mathlib.Omega.{arith}
use Rattle.float.specs.Literals.{one32}
use Rattle.mirror.specs.Rows.{planes_in}
use Rattle.bounces.specs.Bounces.{plane_on}
use Rattle.bounces.specs.Areas.{point_in}
use Rattle.std.specs.Prelude.{Ok, Err}
use Rattle.std.proofs.lemmas.Result.{err_from_is_err_and}
use Rattle.bounces.proofs.Laws.{fate_none, fate_next}
use Rattle.bounces.proofs.fate_back.Goals as goal

pub returns-in_err-prev : goal.returns-in_err-prev
returns-in_err-prev c = λ tri fade h.
    let at : c.loop-k.k - 1 + 1 ≡ c.loop-k.k = omega (arith, c.loop-k-test.true) in
    let lost = err_from_is_err_and c.from_residual.result c.from_residual.ensures.1 in
    rw (lost.1, lost.2)
    (sym (c.loop-k.invariant.1 tri fade h ∙ fate_next tri fade (plane_on (planes_in c.args.planes.now.floats.now c.args.planes.now.words.now c.args.planes.now.members.now c.args.planes.now.edges.now c.args.planes.now.count) c.args.seq.now) (point_in c.args.images.now)
    c.loop-k.k c.loop-k.prev one32 [] [] c.loop-k-test.true c.vec_in-target.result (Err c.in_err-prev.field-0.0) (c.vec_in-target.ensures ∙ ap (λ j. point_in c.args.images.now j) at) (sym c.in_err-prev.was ∙ c.turn_on.ensures tri fade h)))

pub loop-k-preserved : goal.loop-k-preserved
loop-k-preserved c = let at : c.loop-k.k - 1 + 1 ≡ c.loop-k.k = omega (arith, c.loop-k-test.true) in (
  omega (arith, c.loop-k.invariant.0),
  λ tri fade h. c.loop-k.invariant.1 tri fade h ∙ fate_next tri fade (plane_on (planes_in c.args.planes.now.floats.now c.args.planes.now.words.now c.args.planes.now.members.now c.args.planes.now.edges.now c.args.planes.now.count) c.args.seq.now) (point_in c.args.images.now) c.loop-k.k c.loop-k.prev one32 [] []
      c.loop-k-test.true c.vec_in-target.result (Ok c.in_ok-prev.prev) (c.vec_in-target.ensures ∙ ap (λ j. point_in c.args.images.now j) at) (sym c.in_ok-prev.was ∙ c.turn_on.ensures tri fade h),
)

pub returns : goal.returns
returns c =
    λ tri fade h. sym (c.loop-k.invariant.1 tri fade h ∙ fate_none tri fade (plane_on (planes_in c.args.planes.now.floats.now c.args.planes.now.words.now c.args.planes.now.members.now c.args.planes.now.edges.now c.args.planes.now.count) c.args.seq.now) (point_in c.args.images.now) c.loop-k.k c.loop-k.prev one32 [] [] (omega (arith, c.loop-k-test.false)))
