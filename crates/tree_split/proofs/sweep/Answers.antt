-- `tree_split::sweep` meets its contract: the best so far is that of the splits so far.
use mathlib.Core.Path.{◌≡◌, sym, ap, ◌∙◌}
use Prim.Native.Nat.{ℕ, ◌+◌}
use native.Mathlib.Omega.{arith}
use borrow.Author.Rules.{scaled_Fits}
use lib.ListN.{length, take}
use Rattle.order.specs.Sort.{Below}
use Rattle.geometry.specs.Aabb.{surface_area_of}
use Rattle.tree_split.specs.Split.{aabb_at_of, bounds_of, sweep_of}
use Rattle.tree_split.proofs.Laws as law
use Rattle.tree_split.proofs.sweep.Goals as goal

pub loop-k-init : goal.loop-k-init
loop-k-init c =
    let b = aabb_at_of c.args.extents.now in
    let xs = c.args.part.now in
    (omega arith, c.new_empty-acc.ensures ∙ sym (law.bounds_none b xs), sym (law.sweep_none b xs c.args.axis c.args.c))

pub overflow_cast-t : goal.overflow_cast-t
overflow_cast-t c = omega (arith, c.shared_slice_known-in-loop-k-1.given c.loop-k.k)

pub aabb_at-requires : goal.aabb_at-requires
unfolding Below
aabb_at-requires c =
    let p = c.requires.n_in_bounds in let h = c.requires.below c.loop-k.k (omega arith) in omega arith

pub overflow_add-left : goal.overflow_add-left
overflow_add-left c = omega (arith, c.well_formed.1.1.1.0.0, c.loop-k-test.true)

pub offset_bounds-areas-left : goal.offset_bounds-areas-left
offset_bounds-areas-left c =
    let g = c.well_formed.1.1.1.1.0 in let i = c.loop-k.invariant.0 in let p = c.requires.part_in_bounds in let t = c.loop-k-test.true in scaled_Fits (c.loop-k.k + 1) (length c.args.areas.now) 4 (omega arith) (omega (arith, c.well_formed.1.1.1.1.0.0))

pub bounds-areas-left : goal.bounds-areas-left
bounds-areas-left c = let p = c.requires.part_in_bounds in let t = c.loop-k-test.true in omega arith

pub cost-requires : goal.cost-requires
cost-requires c = let p = c.requires.part_nonzero in let t = c.loop-k-test.true in omega arith

pub loop-k-preserved : goal.loop-k-preserved
loop-k-preserved c =
    let b = aabb_at_of c.args.extents.now in
    let xs = c.args.part.now in
    let k = c.loop-k.k in
    let inv = c.loop-k.invariant in
    let e : c.union-acc.result ≡ bounds_of b (take (k + 1) xs) = rw (c.union-acc.ensures, c.aabb_at.ensures, inv.1) (sym (law.bounds_step b xs k inv.0)) in (
      omega arith,
      e,
      law.sweep_more b xs c.args.axis k c.args.c inv.2 c.better-s.ensures c.cost.ensures (c.surface_area.ensures ∙ ap surface_area_of e)
          (c.requires.by_index (k + 1) (omega arith)),
    )

pub returns : goal.returns
returns c =
    c.loop-k.invariant.2
    ∙ ap (λ (j : ℕ). sweep_of (aabb_at_of c.args.extents.now) c.args.axis c.args.part.now j c.args.c) (omega arith)

pub new_empty-acc-requires : goal.new_empty-acc-requires
new_empty-acc-requires c = tt

pub union-acc-requires : goal.union-acc-requires
union-acc-requires c = tt

pub surface_area-requires : goal.surface_area-requires
surface_area-requires c = tt

pub better-s-requires : goal.better-s-requires
better-s-requires c = tt
