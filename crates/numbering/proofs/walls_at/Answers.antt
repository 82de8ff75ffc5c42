-- `numbering::walls_at` meets its contract. The loop's invariant: what is left is the same question, `len` planes deeper (`Walk`).
use Prim.Native.Nat.{ℕ}
use mathlib.Core.Path.{refl, ap, ◌∙◌}
use native.Mathlib.Omega.{arith}
use native.Mathlib.Nat.{pos_of_ne-zero}
use Rattle.numbering.specs.Contract.{block_of}
use Rattle.numbering.proofs.Walking.{walk_start, walk_deep, walk_in, walk_some, walk_follows, walk_end, walk_on}
use Rattle.numbering.proofs.walls_at.Goals as goal

pub overflow_sub-m : goal.overflow_sub-m
overflow_sub-m c = let s = c.requires.some in omega arith

pub overflow_cast-m : goal.overflow_cast-m
overflow_cast-m c = let s = c.requires.few in omega arith

pub loop-rest-init : goal.loop-rest-init
loop-rest-init c =
    let at-args = c.args in
    let at_pre = c.requires in
    (refl, walk_start at-args.on.now at-args.order at-args.place (at_pre))

pub block-b-requires : goal.block-b-requires
block-b-requires c =
    let at_pre = c.requires in
    let e = c.loop-rest.invariant.0 in
    let f = at_pre.few in
    let s = at_pre.some in
    omega arith

pub nonzero_div-rest : goal.nonzero_div-rest
nonzero_div-rest c =
    let at-args = c.args in
    let at_pre = c.requires in
    let s = walk_some at-args.on.now at-args.order at-args.place (at_pre) c.loop-rest.planes c.loop-rest.len c.loop-rest.rest
    c.loop-rest.d c.loop-rest.invariant.1 c.block-b.result (c.block-b.ensures ∙ ap (λ (k : ℕ). block_of k c.loop-rest.d) c.loop-rest.invariant.0) in
    omega arith

pub plane_at-requires : goal.plane_at-requires
plane_at-requires c =
    let at-args = c.args in
    let at_pre = c.requires in
    walk_follows at-args.on.now at-args.order at-args.place (at_pre) c.loop-rest.planes c.loop-rest.len c.loop-rest.rest
    c.loop-rest.d c.loop-rest.invariant.1 c.block-b.result (c.block-b.ensures ∙ ap (λ (k : ℕ). block_of k c.loop-rest.d) c.loop-rest.invariant.0)

pub bounds-planes-len : goal.bounds-planes-len
bounds-planes-len c =
    let at-args = c.args in
    let at_pre = c.requires in
    let i = walk_in at-args.on.now at-args.order at-args.place (at_pre) c.loop-rest.planes c.loop-rest.len c.loop-rest.rest
    c.loop-rest.d c.loop-rest.invariant.1 in
    omega arith

pub overflow_add-len : goal.overflow_add-len
overflow_add-len c =
    let at-args = c.args in
    let at_pre = c.requires in
    let i = walk_in at-args.on.now at-args.order at-args.place (at_pre) c.loop-rest.planes c.loop-rest.len c.loop-rest.rest
    c.loop-rest.d c.loop-rest.invariant.1 in
    omega arith

pub nonzero_rem-rest : goal.nonzero_rem-rest
nonzero_rem-rest c =
    let at-args = c.args in
    let at_pre = c.requires in
    let s = walk_some at-args.on.now at-args.order at-args.place (at_pre) c.loop-rest.planes c.loop-rest.len c.loop-rest.rest
    c.loop-rest.d c.loop-rest.invariant.1 c.block-b.result (c.block-b.ensures ∙ ap (λ (k : ℕ). block_of k c.loop-rest.d) c.loop-rest.invariant.0) in
    omega arith

pub returns-then-rest-eq0 : goal.returns-then-rest-eq0
returns-then-rest-eq0 c =
    let at-args = c.args in
    let at_pre = c.requires in
    walk_end at-args.on.now at-args.order at-args.place (at_pre) c.loop-rest.planes c.loop-rest.len c.loop-rest.rest c.loop-rest.d
    c.loop-rest.invariant.1 c.block-b.result (c.block-b.ensures ∙ ap (λ (k : ℕ). block_of k c.loop-rest.d) c.loop-rest.invariant.0)
    c.plane_at.result c.plane_at.ensures c.if-rest-eq0.true

pub overflow_sub-rest : goal.overflow_sub-rest
overflow_sub-rest c = omega (arith, pos_of_ne-zero c.if-rest-eq0.false)

pub overflow_sub-d : goal.overflow_sub-d
overflow_sub-d c =
    let at-args = c.args in
    let at_pre = c.requires in
    let s = walk_deep at-args.on.now at-args.order at-args.place (at_pre) c.loop-rest.planes c.loop-rest.len c.loop-rest.rest
    c.loop-rest.d c.loop-rest.invariant.1 in
    omega arith

pub loop-rest-smaller : goal.loop-rest-smaller
loop-rest-smaller c =
    let at-args = c.args in
    let at_pre = c.requires in
    let s = walk_deep at-args.on.now at-args.order at-args.place (at_pre) c.loop-rest.planes c.loop-rest.len c.loop-rest.rest
    c.loop-rest.d c.loop-rest.invariant.1 in
    omega arith

pub loop-rest-preserved : goal.loop-rest-preserved
loop-rest-preserved c =
    let at-args = c.args in
    let at_pre = c.requires in (
      c.loop-rest.invariant.0,
      walk_on at-args.on.now at-args.order at-args.place (at_pre) c.loop-rest.planes c.loop-rest.len
          c.loop-rest.rest c.loop-rest.d c.loop-rest.invariant.1 c.block-b.result
          (c.block-b.ensures ∙ ap (λ (k : ℕ). block_of k c.loop-rest.d) c.loop-rest.invariant.0) c.plane_at.result c.plane_at.ensures c.if-rest-eq0.false,
    )
