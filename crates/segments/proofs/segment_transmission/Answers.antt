-- `segments::segment_transmission` meets its contract: the walk with all crossings left.
use mathlib.Core.Path.{◌≡◌}
use native.Mathlib.Omega.{arith}
use Rattle.segments.specs.Materials.{transmission_of_handle}
use Rattle.segments.specs.Segment.{segment_transmission_of}
use Rattle.segments.specs.Areas.{trace_in}
use Rattle.segments.proofs.Laws.{segment_bound}
use Rattle.segments.proofs.Turned.{distance_turned}
use Rattle.segments.proofs.segment_transmission.Goals as goal

pub returns : goal.returns
unfolding segment_transmission_of
returns c =
    let able = c.requires.traceable in
    let a = c.args in
    let made : c.walk.result ≡ segment_transmission_of (trace_in able.tri able.tree) (transmission_of_handle a.materials.now) a.crossing_limit a.from a.to =
    rw (distance_turned a.from a.to, ← c.sub3-v.ensures, ← c.length3-total.ensures, ← c.direction-dir.ensures c.length3-total.ensures, ← c.splat.ensures, ← c.walk.ensures able.tri able.tree able.reads) in record {
      by_index = λ tri t h. rw (distance_turned a.from a.to, ← c.sub3-v.ensures, ← c.length3-total.ensures, ← c.direction-dir.ensures c.length3-total.ensures, ← c.splat.ensures, ← c.walk.ensures tri t h);
      rays_bound = rw made (segment_bound (trace_in able.tri able.tree) (transmission_of_handle a.materials.now) a.crossing_limit a.from a.to);
    }
