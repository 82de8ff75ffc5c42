-- `tree_trace::closest_hit` meets its contract: a ray that ends before it begins, the root's box entered, or nothing hit.
use mathlib.Core.Path.{◌≡◌, sym, ap, subst, ◌∙◌}
use mathlib.Core.Bool.{true, false}
use lib.Dec.{T}
use Rattle.geometry.specs.declared.Aabb.{Aabb}
use Rattle.geometry.specs.Slab.{slab_of}
use Rattle.tree_build.specs.Areas.{box_at_of, tree_at_of}
use Rattle.tree_trace.specs.Slopes.{way_of}
use Rattle.std.specs.Prelude.{is_some}
use Rattle.tree_trace.specs.Trace.{none}
use Rattle.tree_trace.proofs.Laws as law
use Rattle.tree_trace.proofs.Since.{trace_lost}
use Rattle.tree_trace.proofs.closest_hit.Goals as goal

pub returns-then-ray : goal.returns-then-ray
returns-then-ray c =
    let a = c.args in
    λ tri h. sym (trace_lost slab_of tri a.ray (none a.ray) (subst T (sym c.if-ray.true) tt) (tree_at_of a.bvh.now.padded.now a.bvh.now.nodes.now a.bvh.now.leaf_order.now 33 0))

pub enters-requires : goal.enters-requires
unfolding way_of
enters-requires c = rw c.way_of-way.ensures

pub trace-requires-clause-way_value : goal.trace-requires-clause-way_value
unfolding way_of
trace-requires-clause-way_value c = rw c.way_of-way.ensures

pub returns-then-enters : goal.returns-then-enters
unfolding way_of
returns-then-enters c =
    let a = c.args in
    let ahead = c.if-ray.false in
    let way = c.way_of-way.ensures in
    let e : is_some (slab_of (box_at_of a.bvh.now.padded.now 0) a.ray a.ray.max_distance) ≡ true =
    ap (λ (v : Aabb). is_some (slab_of v a.ray a.ray.max_distance)) (sym c.box_at.ensures) ∙ sym (rw way at c.enters.ensures ahead) ∙ c.if-enters.true in
    λ tri h. rw way at (c.trace.ensures tri h) ahead e

pub returns : goal.returns
unfolding way_of
returns c =
    let a = c.args in
    let way = c.way_of-way.ensures in
    let e : is_some (slab_of (box_at_of a.bvh.now.padded.now 0) a.ray a.ray.max_distance) ≡ false =
    ap (λ (v : Aabb). is_some (slab_of v a.ray a.ray.max_distance)) (sym c.box_at.ensures) ∙ sym (rw way at c.enters.ensures c.if-ray.false) ∙ c.if-enters.false in
    λ tri h. law.trace_miss slab_of tri a.ray a.bvh.now.padded.now a.bvh.now.nodes.now a.bvh.now.leaf_order.now 33 0 (none a.ray) e
