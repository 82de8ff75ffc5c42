-- `tree_build::put_node` meets its contract: its ten stores are two runs of stores (`wrote`).
use native.Mathlib.Omega.{arith}
use lib.ListN.{length-set}
use Rattle.tree_build.specs.Areas.{links_of}
use Rattle.tree_build.proofs.Stores.{wrote}
use Rattle.tree_build.proofs.put_node.Goals as goal

pub bounds-boxes-at-2 : goal.bounds-boxes-at-2
bounds-boxes-at-2 c = simp length-set (omega arith)

pub bounds-boxes-at-3 : goal.bounds-boxes-at-3
bounds-boxes-at-3 c = simp length-set (omega arith)

pub bounds-boxes-at-4 : goal.bounds-boxes-at-4
bounds-boxes-at-4 c = simp length-set (omega arith)

pub bounds-boxes-at-5 : goal.bounds-boxes-at-5
bounds-boxes-at-5 c = simp length-set (omega arith)

pub bounds-boxes-at-6 : goal.bounds-boxes-at-6
bounds-boxes-at-6 c = simp length-set (omega arith)

pub bounds-nodes-to-2 : goal.bounds-nodes-to-2
bounds-nodes-to-2 c = simp length-set (omega arith)

pub bounds-nodes-to-3 : goal.bounds-nodes-to-3
bounds-nodes-to-3 c = simp length-set (omega arith)

pub bounds-nodes-to-4 : goal.bounds-nodes-to-4
bounds-nodes-to-4 c = simp length-set (omega arith)

pub shape_of-boxes : goal.shape_of-boxes
shape_of-boxes c = simp length-set

pub shape_of-nodes : goal.shape_of-nodes
shape_of-nodes c = simp length-set

pub returns : goal.returns
returns c =
    let a = c.args in
    wrote a.boxes.now a.nodes.now a.i a.b (links_of a.left a.right a.start a.len) c.requires.i_in_bounds c.requires.i_in_bounds_2
