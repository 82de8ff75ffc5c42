-- `bvh::put_rows` meets its contract: the rows so far are those of the triangles that the order has so far.
use mathlib.Core.Path.{refl, ◌∙◌}
use native.Mathlib.Omega.{arith}
use lib.ListN.{length}
use Rattle.bvh.proofs.Laws as law
use Rattle.order.specs.Sort.{Below}
use Rattle.bvh.proofs.put_rows.Goals as goal

pub loop-k-init : goal.loop-k-init
loop-k-init c = let a = c.args in (omega arith, refl, law.rows_none a.triangles.now a.n a.leaf_order.now a.leaves.now)

pub corner_at-requires : goal.corner_at-requires
unfolding Below
corner_at-requires c = let p = c.requires in (p.0, p.1 c.loop-k.k c.loop-k-test.true)

pub edges_at-requires : goal.edges_at-requires
unfolding Below
edges_at-requires c = let p = c.requires in (p.0, p.1 c.loop-k.k c.loop-k-test.true)

pub put_row-requires : goal.put_row-requires
put_row-requires c = let p = c.requires.2 in let l = c.loop-k.invariant.1 in let t = c.loop-k-test.true in omega arith

pub loop-k-preserved : goal.loop-k-preserved
loop-k-preserved c =
    let a = c.args in
    let p = c.requires.2 in
    let inv = c.loop-k.invariant in
    let long = inv.1 in
    let t = c.loop-k-test.true in (
      omega arith,
      c.put_row.auto.leaves ∙ inv.1,
      law.rows_more a.triangles.now a.n a.leaf_order.now c.loop-k.leaves c.put_row.new.leaves c.loop-k.k c.corner_at.result c.edges_at.result (omega arith)
          c.put_row.ensures c.corner_at.ensures c.edges_at.ensures inv.2,
    )

pub shape_of-leaves : goal.shape_of-leaves
shape_of-leaves c = c.loop-k.invariant.1

pub returns : goal.returns
returns c = let a = c.args in law.rows_done a.triangles.now a.n a.leaf_order.now c.loop-k.leaves c.loop-k.k (length a.leaf_order.now) c.loop-k-test.false c.loop-k.invariant.2
