-- `tree_build::put_leaf` meets its contract: a box over the part, and one node that has it (`built_leaf`).
use Prim.Native.Nat.{◌-◌}
use native.Mathlib.Omega.{arith}
use lib.ListN.{drop}
use Rattle.order.proofs.Laws.{below_take, below_drop}
use Rattle.tree_split.specs.Split.{aabb_at_of}
use Rattle.tree_build.proofs.Grows as law
use Rattle.tree_build.proofs.put_leaf.Goals as goal

pub offset_bounds-leaf_order-lo : goal.offset_bounds-leaf_order-lo
offset_bounds-leaf_order-lo c = let L = c.requires.listed in let R = c.requires.room in let some = L.some in let within = L.within in let size = L.size in let few = L.few in let br = R.boxes_room in let nr = R.nodes_room in let small = R.small in omega arith

pub slice_bounds-bounds-count : goal.slice_bounds-bounds-count
slice_bounds-bounds-count c = let L = c.requires.listed in let R = c.requires.room in let some = L.some in let within = L.within in let size = L.size in let few = L.few in let br = R.boxes_room in let nr = R.nodes_room in let small = R.small in omega arith

pub slice_bounds-bounds-start : goal.slice_bounds-bounds-start
slice_bounds-bounds-start c = let L = c.requires.listed in let R = c.requires.room in let some = L.some in let within = L.within in let size = L.size in let few = L.few in let br = R.boxes_room in let nr = R.nodes_room in let small = R.small in omega arith

pub slice_bounds-bounds-end : goal.slice_bounds-bounds-end
slice_bounds-bounds-end c = let L = c.requires.listed in let R = c.requires.room in let some = L.some in let within = L.within in let size = L.size in let few = L.few in let br = R.boxes_room in let nr = R.nodes_room in let small = R.small in omega arith

pub bounds-b-requires : goal.bounds-b-requires
bounds-b-requires c = let a = c.args in let L = c.requires.listed in record {
  n_in_bounds = L.wide;
  below = below_take a.n (a.hi - a.lo) (drop a.lo a.leaf_order.now) (below_drop a.n a.lo a.leaf_order.now L.inside);
}

pub overflow_cast-lo : goal.overflow_cast-lo
overflow_cast-lo c =
    let L = c.requires.listed in let R = c.requires.room in let some = L.some in let within = L.within in let size = L.size in let few = L.few in let br = R.boxes_room in let nr = R.nodes_room in let small = R.small in omega arith

pub overflow_sub-hi : goal.overflow_sub-hi
overflow_sub-hi c =
    let L = c.requires.listed in let R = c.requires.room in let some = L.some in let within = L.within in let size = L.size in let few = L.few in let br = R.boxes_room in let nr = R.nodes_room in let small = R.small in omega arith

pub overflow_cast-hi : goal.overflow_cast-hi
overflow_cast-hi c =
    let L = c.requires.listed in let R = c.requires.room in let some = L.some in let within = L.within in let size = L.size in let few = L.few in let br = R.boxes_room in let nr = R.nodes_room in let small = R.small in omega arith

pub put_node-requires : goal.put_node-requires
put_node-requires c =
    let L = c.requires.listed in let R = c.requires.room in let some = L.some in let br = R.boxes_room in let nr = R.nodes_room in record {
      i_in_bounds = omega arith;
      i_in_bounds_2 = omega arith;
    }

pub overflow_add-result : goal.overflow_add-result
overflow_add-result c =
    let L = c.requires.listed in let R = c.requires.room in let some = L.some in let within = L.within in let size = L.size in let few = L.few in let br = R.boxes_room in let nr = R.nodes_room in let small = R.small in omega arith

pub shape_of-boxes : goal.shape_of-boxes
shape_of-boxes c = c.put_node.auto.boxes

pub shape_of-nodes : goal.shape_of-nodes
shape_of-nodes c = c.put_node.auto.nodes

pub returns : goal.returns
returns c =
    let a = c.args in
    let L = c.requires.listed in
    λ fuel. law.built_leaf (aabb_at_of a.extents.now) a.n a.lo a.hi a.next fuel a.leaf_order.now L.some L.inside (rw c.bounds-b.ensures at c.put_node.ensures)
