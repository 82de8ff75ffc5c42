-- `planes_faces::mark_run_starts` meets its contract: the loop holds that `run_starts` from here on gives what it gives of the whole.
use mathlib.Core.Path.{refl, sym, ap, ◌∙◌}
use Prim.Native.Nat.{ℕ, ◌<◌}
use native.Mathlib.Omega.{arith}
use lib.ListN.{length, get_or, length-set}
use Rattle.order.specs.Sort.{Below}
use Rattle.order.specs.Runs.{head_or, run_starts}
use Rattle.order.proofs.Runs.{head_at}
use Rattle.planes_faces.specs.Numbers.{key_at}
use Rattle.planes_faces.proofs.Firsts.{runs_step, runs_done, start_in}
use borrow.Author.Rules.{rules}
use Rattle.planes_faces.proofs.mark_run_starts.Goals as goal

pub returns-then-index-eq0 : goal.returns-then-index-eq0
unfolding Below
returns-then-index-eq0 c = sym (runs_done (key_at c.args.keys.now c.args.low_keys.now) (head_or 0 c.args.index.now) 0 c.args.index.now c.args.first.now (omega arith))

pub bounds-index-0 : goal.bounds-index-0
unfolding Below
bounds-index-0 c = search rules

pub loop-x-init : goal.loop-x-init
unfolding Below
loop-x-init c = let full : 0 < length c.args.index.now = omega arith in
    (omega arith, c.requires.below_2 0 full, refl, ap (λ (l : ℕ). run_starts (key_at c.args.keys.now c.args.low_keys.now) l c.args.index.now c.args.first.now) (sym (head_at c.args.index.now)))

pub run_start-start-requires : goal.run_start-start-requires
unfolding Below
run_start-start-requires c = record {
  low_keys_len = c.requires.low_keys_len;
  below = c.requires.below;
  start_in_bounds = c.loop-x.invariant.1;
  x_in_bounds = c.requires.below_2 c.loop-x.x-index c.loop-x-test.true;
}

pub overflow_cast-first : goal.overflow_cast-first
unfolding Below
overflow_cast-first c = omega (arith, c.requires.below_2 c.loop-x.x-index c.loop-x-test.true, c.requires.keys_in_bounds, c.loop-x.invariant.2)

pub offset_bounds-first-x : goal.offset_bounds-first-x
unfolding Below
offset_bounds-first-x c = omega (arith, c.requires.below_2 c.loop-x.x-index c.loop-x-test.true, c.requires.keys_in_bounds, c.loop-x.invariant.2)

pub bounds-first-x : goal.bounds-first-x
unfolding Below
bounds-first-x c = omega (arith, c.requires.below_2 c.loop-x.x-index c.loop-x-test.true, c.requires.keys_in_bounds, c.loop-x.invariant.2)

pub loop-x-preserved : goal.loop-x-preserved
unfolding Below
loop-x-preserved c = let k = key_at c.args.keys.now c.args.low_keys.now in
    let x = get_or c.args.index.now c.loop-x.x-index 0 in
    let in-x = c.requires.below_2 c.loop-x.x-index c.loop-x-test.true in (
      omega arith,
      rw c.run_start-start.ensures (start_in k c.loop-x.start x (length c.args.keys.now) c.loop-x.invariant.1 in-x),
      length-set c.loop-x.first x c.run_start-start.result ∙ c.loop-x.invariant.2,
      rw c.run_start-start.ensures (sym (runs_step k c.loop-x.start c.loop-x.x-index c.args.index.now c.loop-x.first c.loop-x-test.true) ∙ c.loop-x.invariant.3),
    )

pub shape_of-first : goal.shape_of-first
unfolding Below
shape_of-first c = c.loop-x.invariant.2

pub returns : goal.returns
unfolding Below
returns c = sym (runs_done (key_at c.args.keys.now c.args.low_keys.now) c.loop-x.start c.loop-x.x-index c.args.index.now c.loop-x.first (omega arith)) ∙ c.loop-x.invariant.3
