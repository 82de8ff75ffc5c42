-- `tree_split::suffix_areas` meets its contract: from the back, the areas from i on are those of the boxes from each position on.
use mathlib.Core.Path.{◌≡◌, refl, sym, ap, ◌∙◌}
use Prim.Native.Nat.{ℕ, ◌-◌, ◌<◌, ◌≤◌}
use native.Mathlib.Omega.{arith}
use borrow.Author.Rules.{scaled_Fits}
use lib.ListN.{length, drop, length-set}
use Rattle.order.specs.Sort.{Below}
use Rattle.geometry.specs.Aabb.{surface_area_of}
use Rattle.tree_split.specs.Split.{aabb_at_of, suffix_of}
use Rattle.tree_split.proofs.Laws as law
use Rattle.tree_split.proofs.suffix_areas.Goals as goal

le_gt : {a b : ℕ} → a ≤ b → b < a → ⊥
le_gt l h = omega arith

pub loop-i-init : goal.loop-i-init
loop-i-init c =
    let b = aabb_at_of c.args.extents.now in
    (omega arith, refl, c.new_empty-acc.ensures ∙ sym (law.suffix_none b c.args.part.now (length c.args.part.now) (omega arith)), λ k l h. absurd (le_gt l h))

pub overflow_cast-t : goal.overflow_cast-t
overflow_cast-t c = omega (arith, c.shared_slice_known-2-1.given (c.loop-i.i - 1))

pub aabb_at-requires : goal.aabb_at-requires
unfolding Below
aabb_at-requires c =
    let p = c.requires.n_in_bounds in let h = c.requires.below (c.loop-i.i - 1) (omega arith) in omega arith

pub offset_bounds-areas-i : goal.offset_bounds-areas-i
offset_bounds-areas-i c =
    let g = c.well_formed.1.1.1.0 in let i = c.loop-i.invariant.0 in let l = c.loop-i.invariant.1 in let p = c.requires.part_in_bounds in let t = c.loop-i-test.true in scaled_Fits (c.loop-i.i - 1) (length
    c.loop-i.areas) 4 (omega arith) (omega (arith, c.well_formed.1.1.1.0.0))

pub loop-i-preserved : goal.loop-i-preserved
loop-i-preserved c =
    let b = aabb_at_of c.args.extents.now in
    let xs = c.args.part.now in
    let i = c.loop-i.i in
    let inv = c.loop-i.invariant in
    let pos : 0 < i = c.loop-i-test.true in
    let e : c.union-acc.result ≡ suffix_of b (drop (i - 1) xs) = rw (c.union-acc.ensures, c.aabb_at.ensures, inv.2) (sym (law.back_step b xs i pos inv.0)) in (
      omega arith,
      length-set c.loop-i.areas (i - 1) c.surface_area.result ∙ inv.1,
      e,
      law.areas_step b xs i pos inv.0 c.loop-i.areas c.surface_area.result (omega arith) (c.surface_area.ensures ∙ ap surface_area_of e) inv.3,
    )

pub shape_of-areas : goal.shape_of-areas
shape_of-areas c = c.loop-i.invariant.1

pub returns : goal.returns
returns c = λ k h. c.loop-i.invariant.3 k (omega arith) h

pub new_empty-acc-requires : goal.new_empty-acc-requires
new_empty-acc-requires c = tt

pub union-acc-requires : goal.union-acc-requires
union-acc-requires c = tt

pub surface_area-requires : goal.surface_area-requires
surface_area-requires c = tt
