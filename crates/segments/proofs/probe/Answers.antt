-- `segments::probe` meets its contract: both halves, and the sums.
use native.Mathlib.Omega.{arith}
use Rattle.segments.specs.Segment.{probe_of}
use Rattle.segments.proofs.probe.Goals as goal

pub returns : goal.returns
unfolding probe_of
returns c = record {
  by_index = λ tri t h. rw (← c.segment_transmission-a.ensures.by_index tri t h, ← c.segment_transmission-b.ensures.by_index tri t h, ← c.mul.ensures, ← c.add_part.ensures);
  rays_bound = omega (arith, c.segment_transmission-b.ensures.rays_bound, c.segment_transmission-a.ensures.rays_bound);
}
