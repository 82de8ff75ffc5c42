-- `mirror::snap_all` meets its contract: the triangles from here on give what all give.
use mathlib.Core.Path.{◌≡◌, sym, ap, ◌∙◌}
use Prim.Native.Nat.{◌+◌}
use lib.ListN.{drop, get_or}
use Rattle.order.specs.Sort.{Below}
use Rattle.mirror.specs.Locate.{snap_of, snap_all_of}
use Rattle.mirror.specs.Rows.{AllRead}
use Rattle.mirror.proofs.Laws.{snap_read, snap_step, snap_done}
use Rattle.mirror.proofs.snap_all.Goals as goal

pub corner_at-requires : goal.corner_at-requires
unfolding Below
corner_at-requires c = (c.requires.0, c.requires.1 _ c.loop-t-test.true)

pub edges_at-requires : goal.edges_at-requires
unfolding Below
edges_at-requires c = (c.requires.0, c.requires.1 _ c.loop-t-test.true)

pub loop-t-preserved : goal.loop-t-preserved
unfolding AllRead
loop-t-preserved c =
    let a = c.args in
    let k = c.loop-t.t-index in
    let i = get_or a.plane_triangles.now k 0 in
    λ tri h.
    let e : c.snap_on-best.result ≡ snap_of (tri i) a.ray i c.loop-t.best =
    c.snap_on-best.ensures ∙ rw (c.corner_at.ensures, c.edges_at.ensures) (snap_read a.triangles.now a.n i (tri i) a.ray c.loop-t.best (h k c.loop-t-test.true)) in
    ap (snap_all_of tri a.ray (drop (k + 1) a.plane_triangles.now)) e
    ∙ sym (snap_step tri a.plane_triangles.now k a.ray c.loop-t.best c.loop-t-test.true)
    ∙ c.loop-t.invariant tri h

pub returns : goal.returns
returns c =
    let a = c.args in
    λ tri h. sym (snap_done tri a.plane_triangles.now c.loop-t.t-index a.ray c.loop-t.best c.loop-t-test.false) ∙ c.loop-t.invariant tri h
