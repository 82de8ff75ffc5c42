-- `planes_buried::is_between` meets its contract: its probes are those of the definition.
use mathlib.Core.Path.{sym}
use Rattle.planes_buried.specs.Probe.{lies_between}
use Rattle.planes_buried.proofs.is_between.Goals as goal

pub returns-then-probe : goal.returns-then-probe
unfolding lies_between
returns-then-probe c = λ tri k h. sym (rw (← c.probe_ray-front.ensures, ← c.probe.ensures tri k h, c.if-probe.true, ← c.probe_ray-back.ensures, ← c.probe-then-probe.ensures tri k h))

pub returns : goal.returns
unfolding lies_between
returns c = λ tri k h. sym (rw (← c.probe_ray-front.ensures, ← c.probe.ensures tri k h, c.if-probe.false))
