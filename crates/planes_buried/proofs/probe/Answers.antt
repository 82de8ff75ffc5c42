-- `planes_buried::probe` meets its contract, by that of `tree_trace::intersect`.
use mathlib.Core.Path.{◌∙◌, ap}
use Rattle.std.specs.Prelude.{is_some}
use Rattle.planes_buried.specs.Probe.{probe_of}
use Rattle.planes_buried.proofs.probe.Goals as goal

pub returns : goal.returns
unfolding probe_of
returns c = λ tri t h. c.is_some.ensures ∙ ap is_some (c.intersect.ensures tri t h.rows h.handled h.tree)
