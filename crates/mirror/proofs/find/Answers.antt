-- `mirror::find` meets its contract: the triangles from here on give what all give.
use mathlib.Core.Path.{◌≡◌, sym, ◌∙◌}
use lib.ListN.{get_or}
use Rattle.order.specs.Sort.{Below}
use Rattle.geometry.specs.Contains.{contains_point_of}
use Rattle.mirror.specs.Rows.{AllRead}
use Rattle.mirror.proofs.Laws.{contains_read, find_step, find_done}
use Rattle.mirror.proofs.find.Goals as goal

pub corner_at-requires : goal.corner_at-requires
unfolding Below
corner_at-requires c = (c.requires.0, c.requires.1 _ c.loop-t-test.true)

pub edges_at-requires : goal.edges_at-requires
unfolding Below
edges_at-requires c = (c.requires.0, c.requires.1 _ c.loop-t-test.true)

pub dots_at-requires : goal.dots_at-requires
unfolding Below
dots_at-requires c = (c.requires.0, c.requires.1 _ c.loop-t-test.true)

pub returns-then-contains : goal.returns-then-contains
unfolding AllRead
returns-then-contains c =
    let a = c.args in
    let k = c.loop-t.t-index in
    let i = get_or a.plane_triangles.now k 0 in
    λ tri h.
    let e : c.contains.result ≡ contains_point_of (tri i) a.p =
    c.contains.ensures ∙ rw (c.corner_at.ensures, c.edges_at.ensures, c.dots_at.ensures) (contains_read a.triangles.now a.n i (tri i) a.p (h k c.loop-t-test.true)) in
    rw (← c.loop-t.invariant tri h, find_step tri a.plane_triangles.now k a.p c.loop-t-test.true, ← e, c.if-contains.true)

pub loop-t-preserved : goal.loop-t-preserved
unfolding AllRead
loop-t-preserved c =
    let a = c.args in
    let k = c.loop-t.t-index in
    let i = get_or a.plane_triangles.now k 0 in
    λ tri h.
    let e : c.contains.result ≡ contains_point_of (tri i) a.p =
    c.contains.ensures ∙ rw (c.corner_at.ensures, c.edges_at.ensures, c.dots_at.ensures) (contains_read a.triangles.now a.n i (tri i) a.p (h k c.loop-t-test.true)) in
    rw (← c.loop-t.invariant tri h, find_step tri a.plane_triangles.now k a.p c.loop-t-test.true, ← e, c.if-contains.false)

pub returns : goal.returns
returns c =
    let a = c.args in
    λ tri h. sym (find_done tri a.plane_triangles.now c.loop-t.t-index a.p c.loop-t-test.false) ∙ c.loop-t.invariant tri h
