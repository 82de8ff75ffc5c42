-- `segments::segment_soft_transmission` meets its contract: after k turns the sum is that of the middle and k probes around it.
use mathlib.Core.Path.{◌≡◌, ap}
use native.Mathlib.Numerals.{add-one}
use native.Mathlib.Omega.{arith}
use Rattle.segments.specs.declared.Transmission.{Transmission}
use Rattle.segments.specs.Segment.{probe_count, probes_of, segment_soft_transmission_of}
use Rattle.segments.proofs.Laws.{probes_fit, probes_all}
use Rattle.segments.proofs.segment_soft_transmission.Goals as goal

pub loop-k-init : goal.loop-k-init
unfolding probes_of
loop-k-init c =
    let z : c.counted-none.result.rays ≡ 0 = ap (λ (x : Transmission). x.rays) c.counted-none.ensures in
    (omega arith, λ tri t h. rw (← c.zeros.ensures, ← c.counted-none.ensures, ← c.mid-at.ensures, ← c.probe-sum.ensures.by_index tri t h), omega (arith, z, c.probe-sum.ensures.rays_bound))

pub loop-k-preserved : goal.loop-k-preserved
unfolding probes_of
loop-k-preserved c = (
  omega (arith, c.loop-k-test.true),
  λ tri t h. rw (add-one, ← c.loop-k.invariant.1 tri t h, ← c.probe_angle.ensures, ← c.offset.ensures, ← c.mid-via.ensures, ← c.probe-sum-in-loop-k.ensures.by_index tri t h),
  omega (arith, c.loop-k.invariant.2, c.probe-sum-in-loop-k.ensures.rays_bound),
)

pub returns : goal.returns
unfolding segment_soft_transmission_of
returns c =
    let end : c.loop-k.k ≡ probe_count = omega (arith, c.loop-k.invariant.0, c.loop-k-test.false) in record {
      by_index = λ tri t h. rw (← c.sub3.ensures, ← c.normalize3.ensures, ← c.probe_basis-b.ensures) (rw end at (c.loop-k.invariant.1 tri t h));
      rays_bound = probes_all c.args.crossing_limit c.loop-k.k c.loop-k.sum.rays c.loop-k.invariant.2 end;
    }
