-- `paths::go` meets its contract: a segment's gain, length and traces.
use native.Mathlib.Omega.{arith}
use Rattle.paths.specs.Visibility.{go_of}
use Rattle.paths.proofs.go.Goals as goal

pub segment_soft_transmission-g-requires : goal.segment_soft_transmission-g-requires
segment_soft_transmission-g-requires c = record {
  traceable = c.requires.traceable;
  crossing_limit_bound = omega (arith, c.requires.crossing_limit_bound);
}

pub overflow_add-result : goal.overflow_add-result
overflow_add-result c = omega (arith, c.segment_soft_transmission-g.ensures.rays_bound, c.requires.crossing_limit_bound)

pub returns : goal.returns
unfolding go_of
returns c = record {
  by_index = λ tri t h. rw (← c.segment_soft_transmission-g.ensures.by_index tri t h, ← c.mul.ensures, ← c.distance3.ensures);
  rays_bound = omega (arith, c.segment_soft_transmission-g.ensures.rays_bound);
}

pub mul-requires : goal.mul-requires
mul-requires c = tt

pub distance3-requires : goal.distance3-requires
distance3-requires c = tt
