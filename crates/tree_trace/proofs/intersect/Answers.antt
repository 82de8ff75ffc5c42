-- `tree_trace::intersect` meets its contract: the trace of the padded tree is that of the plain one (`trace_padded`).
use mathlib.Core.Path.{sym, ◌∙◌}
use Rattle.tree_trace.proofs.Laws as law
use Rattle.tree_trace.proofs.intersect.Goals as goal

pub returns-then-c-eq0 : goal.returns-then-c-eq0
returns-then-c-eq0 c =
    let a = c.args in
    λ tri t h g e. law.hit_nothing tri a.ray t c.closest_hit-c.result (law.plain_trace tri a.ray t _ _ (c.closest_hit-c.ensures tri h) e) c.if-c-eq0.true

pub returns : goal.returns
returns c =
    let a = c.args in
    λ tri t h g e. law.hit_found tri a.ray t c.closest_hit-c.result (law.plain_trace tri a.ray t _ _ (c.closest_hit-c.ensures tri h) e) c.if-c-eq0.false
    c.point_at.result c.point_at.ensures c.handle_at-material_handle.result (c.handle_at-material_handle.ensures ∙ sym (g c.closest_hit-c.result.index))
