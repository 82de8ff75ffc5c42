-- `tree_build::put_inner` meets its contract: one node, over the boxes of the two below it.
use native.Mathlib.Omega.{arith}
use Rattle.tree_build.proofs.put_inner.Goals as goal

pub overflow_add-next : goal.overflow_add-next
overflow_add-next c = let q = c.requires in omega arith

pub box_at-requires : goal.box_at-requires
box_at-requires c = let q = c.requires in omega arith

pub box_at-requires-2 : goal.box_at-requires-2
box_at-requires-2 c = let q = c.requires in omega arith

pub overflow_add-next-2 : goal.overflow_add-next-2
overflow_add-next-2 c = let q = c.requires in omega arith

pub overflow_cast-next : goal.overflow_cast-next
overflow_cast-next c = let q = c.requires in omega arith

pub overflow_cast-right : goal.overflow_cast-right
overflow_cast-right c = let q = c.requires in omega arith

pub put_node-requires : goal.put_node-requires
put_node-requires c = let q = c.requires in omega arith

pub shape_of-boxes : goal.shape_of-boxes
shape_of-boxes c = c.put_node.auto.boxes

pub shape_of-nodes : goal.shape_of-nodes
shape_of-nodes c = c.put_node.auto.nodes

pub returns : goal.returns
returns c = rw (c.union-b.ensures, c.box_at.ensures, c.box_at-2.ensures) at c.put_node.ensures

pub union-b-requires : goal.union-b-requires
union-b-requires c = tt
