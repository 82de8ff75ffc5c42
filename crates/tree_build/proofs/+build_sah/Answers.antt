-- `tree_build::build_sah` meets its contract, by recursion on the levels left: a leaf, or a split and the trees of its halves
-- (`built_step` of `Grows.antt`).
use mathlib.Core.Path.{refl, ◌∙◌}
use Prim.Native.Nat.{◌+◌}
use native.Mathlib.Omega.{arith}
use Rattle.tree_split.specs.Split.{aabb_at_of, centroid_at_of}
use Rattle.tree_build.proofs.Grows as law
use Rattle.tree_build.proofs.+build_sah.Goals as goal

pub put_leaf-requires : goal.put_leaf-requires
put_leaf-requires t c = let a = c.args in
    let R = c.requires in record {
      listed = law.listed_part a.lo a.hi c.split_node-at.new.leaf_order R.listed R.listed.some (omega arith) c.split_node-at.ensures.inside
          c.split_node-at.auto.leaf_order;
      room = R.room;
    }

pub returns-then-at-eq0 : goal.returns-then-at-eq0
returns-then-at-eq0 t c = let a = c.args in record {
  built = law.built_after a.leaf_order.now c.split_node-at.auto.leaf_order
      c.split_node-at.ensures.low c.split_node-at.ensures.high
      (law.built_as (c.split_node-at.ensures.leaf_built c.if-at-eq0.true) (c.put_leaf.ensures a.levels));
  rest = (
    c.split_node-at.auto.words,
    c.split_node-at.auto.scratch,
    c.split_node-at.auto.areas,
  );
}

pub build_sah-right-requires : goal.build_sah-right-requires
build_sah-right-requires t c = let a = c.args in
    let R = c.requires in
    let at = c.split_node-at.result in
    let p1 = c.split_node-at.new.leaf_order in
    let less = c.split_node-at.ensures.within in
    let nz = c.if-at-eq0.false in
    let some = R.listed.some in
    let z = c.split_node-at.ensures.deep c.if-at-eq0.false in (
      omega arith,
      (
        law.listed_part a.lo (a.lo + at) p1 R.listed (omega arith) (omega arith) c.split_node-at.ensures.inside
            c.split_node-at.auto.leaf_order,
        (
          law.sorts_part c.split_node-at.new.words c.split_node-at.new.scratch
              c.split_node-at.new.areas R.sorts c.split_node-at.auto.words
              c.split_node-at.auto.scratch c.split_node-at.auto.areas,
          law.room_part a.lo (a.lo + at) (a.next + 1) a.boxes.now a.nodes.now R.room (omega arith) refl refl,
        ),
      ),
    )

pub build_sah-end-requires : goal.build_sah-end-requires
build_sah-end-requires t c = let a = c.args in
    let R = c.requires in
    let at = c.split_node-at.result in
    let less = c.split_node-at.ensures.within in
    let nz = c.if-at-eq0.false in
    let some = R.listed.some in
    let z = c.split_node-at.ensures.deep
    c.if-at-eq0.false in
    let room = c.build_sah-right.ensures.built.room in (
      omega arith,
      (
        law.listed_part (a.lo + at) a.hi c.build_sah-right.new.leaf_order R.listed (omega arith) (omega arith)
            c.build_sah-right.ensures.built.inside
            (c.build_sah-right.auto.leaf_order
            ∙ c.split_node-at.auto.leaf_order),
        (
          law.sorts_part c.build_sah-right.new.words
              c.build_sah-right.new.scratch
              c.build_sah-right.new.areas R.sorts
              (c.build_sah-right.auto.words
              ∙ c.split_node-at.auto.words)
              (c.build_sah-right.auto.scratch
              ∙ c.split_node-at.auto.scratch)
              (c.build_sah-right.auto.areas
              ∙ c.split_node-at.auto.areas),
          law.room_part (a.lo + at) a.hi c.build_sah-right.result
              c.build_sah-right.new.boxes
              c.build_sah-right.new.nodes R.room (omega arith)
              c.build_sah-right.auto.boxes
              c.build_sah-right.auto.nodes,
        ),
      ),
    )

pub put_inner-requires : goal.put_inner-requires
put_inner-requires t c = let a = c.args in
    let R = c.requires in
    let at = c.split_node-at.result in
    let less = c.split_node-at.ensures.within in
    let nz = c.if-at-eq0.false in
    let some = R.listed.some in
    let eb = c.build_sah-end.auto.boxes
    ∙ c.build_sah-right.auto.boxes in
    let el = c.build_sah-end.auto.nodes
    ∙ c.build_sah-right.auto.nodes in
    let m1 = c.build_sah-right.ensures.built.more in
    let o1 = c.build_sah-right.ensures.built.room in
    let m2 = c.build_sah-end.ensures.built.more in
    let o2 = c.build_sah-end.ensures.built.room in
    let rows = R.room.boxes_room in
    let room = R.room.nodes_room in
    let small = R.room.small in
    (omega arith, omega arith, omega arith, omega arith)

pub returns : goal.returns
returns t c = let a = c.args in
    let R = c.requires in
    let v = aabb_at_of a.extents.now in
    let mids = centroid_at_of a.extents.now in
    let at = c.split_node-at.result in
    let p1 = c.split_node-at.new.leaf_order in
    let less = c.split_node-at.ensures.within in
    let nz = c.if-at-eq0.false in
    let some = R.listed.some in
    let eb = c.build_sah-end.auto.boxes
    ∙ c.build_sah-right.auto.boxes in
    let el = c.build_sah-end.auto.nodes
    ∙ c.build_sah-right.auto.nodes in
    let m1 = c.build_sah-right.ensures.built.more in
    let o1 = c.build_sah-right.ensures.built.room in
    let m2 = c.build_sah-end.ensures.built.more in
    let o2 = c.build_sah-end.ensures.built.room in
    let rows = R.room.boxes_room in
    let room = R.room.nodes_room in
    let small = R.room.small in record {
      built = law.built_step v mids a.levels a.n a.lo a.hi at a.next
          c.build_sah-right.result
          c.build_sah-end.result
          a.leaf_order.now p1 c.build_sah-right.new.leaf_order c.build_sah-end.new.leaf_order
          a.boxes.now c.build_sah-right.new.boxes c.build_sah-end.new.boxes c.put_inner.new.boxes
          a.nodes.now c.build_sah-right.new.nodes c.build_sah-end.new.nodes c.put_inner.new.nodes
          (c.split_node-at.ensures.deep nz) (c.split_node-at.ensures.many nz) nz R.listed.within c.split_node-at.auto.leaf_order c.build_sah-right.auto.leaf_order c.build_sah-end.auto.leaf_order (omega arith) (omega arith)
          (law.chosen_parted v mids a.levels a.n a.lo a.hi a.leaf_order.now at p1 nz
          c.split_node-at.ensures) c.build_sah-right.ensures.built c.build_sah-end.ensures.built c.put_inner.ensures;
      rest = (
        c.build_sah-end.auto.words
            ∙ c.build_sah-right.auto.words
            ∙ c.split_node-at.auto.words,
        c.build_sah-end.auto.scratch ∙ c.build_sah-right.auto.scratch ∙ c.split_node-at.auto.scratch,
        c.build_sah-end.auto.areas ∙ c.build_sah-right.auto.areas ∙ c.split_node-at.auto.areas,
      );
    }
