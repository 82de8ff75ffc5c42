-- `segments::walk` meets its contract: each turn goes one of four ways, and a hit's handle has its row.
use mathlib.Core.Path.{sym, ◌∙◌, ap}
use Prim.Native.Nat.{◌+◌, ◌*◌, ◌≤◌}
use lib.ListN.{length}
use Rattle.segments.specs.Materials.{material_floats, transmission_of_handle}
use Rattle.segments.specs.Areas.{trace_in}
use Rattle.segments.proofs.Laws.{hit_handle, walk_end, walk_clear, walk_over, walk_on}
use Rattle.segments.proofs.+walk.Goals as goal

pub returns-in_default : goal.returns-in_default
returns-in_default t c = λ tri tr h.
    rw c.counted.ensures
    (walk_clear (trace_in tri tr) (transmission_of_handle _) _ _ _ _ _ _ c.if-remaining.true
    (ap (trace_in tri tr) (sym c.segment_ray.ensures) ∙ sym (c.intersect.ensures tri tr h.rows_of h.handles_of h.tree_held) ∙ c.in_default.is))

pub returns-then-left-eq0 : goal.returns-then-left-eq0
returns-then-left-eq0 t c = λ tri tr h.
    rw (c.counted-then-left-eq0.ensures, c.zeros.ensures)
    (walk_over (trace_in tri tr) (transmission_of_handle _) _ _ _ _ _ _ _ c.if-left-eq0.true c.if-remaining.true
    (ap (trace_in tri tr) (sym c.segment_ray.ensures) ∙ sym (c.intersect.ensures tri tr h.rows_of h.handles_of h.tree_held) ∙ c.in-Some.is))

pub transmission_of-share-requires : goal.transmission_of-share-requires
transmission_of-share-requires t c = let able = c.requires.traceable in
    hit_handle able.tri able.tree _ _ (λ m. material_floats * m + material_floats ≤ length c.args.materials.now)
    (λ i. rw (able.reads.handles_of i) (able.materials_room i))
    (sym (c.intersect.ensures able.tri able.tree able.reads.rows_of able.reads.handles_of able.reads.tree_held) ∙ c.in-Some.is)

pub returns-then-remaining : goal.returns-then-remaining
returns-then-remaining t c = λ tri tr h.
    rw (c.walk.ensures tri tr h, c.mul.ensures, c.transmission_of-share.ensures)
    (walk_on (trace_in tri tr) (transmission_of_handle _) _ _ _ _ _ _ _ c.if-left-eq0.false c.if-remaining.true
    (ap (trace_in tri tr) (sym c.segment_ray.ensures) ∙ sym (c.intersect.ensures tri tr h.rows_of h.handles_of h.tree_held) ∙ c.in-Some.is))

pub returns : goal.returns
returns t c = λ tri tr h. rw c.counted-2.ensures (walk_end (trace_in tri tr) (transmission_of_handle _) _ _ _ _ _ _ c.if-remaining.false)
