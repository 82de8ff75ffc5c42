-- `paths::go_all` meets its contract: the bounces from k on are gone by.
use mathlib.Core.Path.{◌≡◌}
use Prim.Native.Nat.{◌+◌, ◌-◌, ◌*◌}
use native.Mathlib.Omega.{arith}
use Rattle.paths.specs.Visibility.{way_of}
use Rattle.paths.specs.Areas.{soft_in}
use Rattle.paths.proofs.Laws.{go_step, go_none, ways_more, ways_fit, ways_all}
use Rattle.paths.proofs.go_all.Goals as goal

pub loop-k-init : goal.loop-k-init
loop-k-init c =
    let a = c.args in
    (omega arith, λ tri t h. rw (go_none (soft_in a.crossing_limit a.probe_radius tri t a.materials.now) c.begin-w.result a.points a.order), omega arith)

pub go-w-requires : goal.go-w-requires
go-w-requires c =
    let a = c.args in
    let h = c.requires in record {
      traceable = h.traceable;
      crossing_limit_bound = ways_fit (18 * (a.crossing_limit + 1)) a.order c.loop-k.k c.begin-w.result.rays c.loop-k.w.rays c.loop-k.invariant.2 c.begin-w.ensures.rays_value h.order_le_max_order.0 h.max_order_bound;
    }

pub loop-k-preserved : goal.loop-k-preserved
loop-k-preserved c =
    let a = c.args in (
      omega (arith, c.loop-k.invariant.0),
      λ tri t h.
          rw (
            go_step (soft_in a.crossing_limit a.probe_radius tri t a.materials.now) c.begin-w.result a.points c.loop-k.k a.order c.loop-k-test.true c.loop-k.invariant.0 (omega (arith, c.requires.order_le_max_order, c.requires.max_order_bound)),
            ← c.loop-k.invariant.1 tri t h,
            ← c.go-w.ensures.by_index tri t h,
          ),
      ways_more (18 * (a.crossing_limit + 1)) c.begin-w.result.rays (a.order - c.loop-k.k) (a.order - (c.loop-k.k - 1)) c.loop-k.w.rays c.go-w.result.rays c.loop-k.invariant.2 c.go-w.ensures.rays_bound (omega
          (arith, c.loop-k.invariant.0, c.loop-k-test.true)),
    )

pub go-requires : goal.go-requires
go-requires c =
    let a = c.args in
    let h = c.requires in record {
      traceable = h.traceable;
      crossing_limit_bound = ways_fit (18 * (a.crossing_limit + 1)) a.order c.loop-k.k c.begin-w.result.rays c.loop-k.w.rays c.loop-k.invariant.2 c.begin-w.ensures.rays_value h.order_le_max_order.0 h.max_order_bound;
    }

pub returns : goal.returns
unfolding way_of
returns c =
    let end : c.loop-k.k ≡ 0 = omega (arith, c.loop-k-test.false) in record {
      by_index = λ tri t h. rw (← c.begin-w.ensures.value, ← rw end at (c.loop-k.invariant.1 tri t h), ← c.go.ensures.by_index tri t h);
      rays_bound = ways_all (18 * (c.args.crossing_limit + 1)) c.args.order c.loop-k.k c.begin-w.result.rays c.loop-k.w.rays c.go.result.rays c.loop-k.invariant.2 c.begin-w.ensures.rays_value end c.go.ensures.rays_bound;
    }

pub begin-w-requires : goal.begin-w-requires
begin-w-requires c = tt
