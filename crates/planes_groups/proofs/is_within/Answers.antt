-- `planes_groups::is_within` meets its contract: the loop holds that the triangles so far passed.
use mathlib.Core.Path.{refl, ap, ◌∙◌}
use mathlib.Core.Bool.{Bool}
use Prim.Native.Nat.{ℕ}
use native.Mathlib.Omega.{arith}
use Rattle.planes_groups.specs.Groups.{lies_near}
use Rattle.columns.specs.Columns.{triangle_at_of}
use Rattle.planes_patches.specs.Lists.{all_by}
use Rattle.planes_patches.specs.Triangles.{corners_of}
use Rattle.planes_links.specs.Words.{lows}
use Rattle.planes_links.proofs.Linking.{low_at_lem, lows_length}
use Rattle.planes_groups.proofs.Taking.{all_next, all_stop, all_end, low_below}
use Rattle.planes_groups.proofs.is_within.Goals as goal

pub loop-tri-init : goal.loop-tri-init
loop-tri-init c = (omega arith, refl)

pub triangle_at-t-requires : goal.triangle_at-t-requires
triangle_at-t-requires c =
    (c.requires.n_in_bounds.0, c.requires.n_in_bounds.1, low_below c.args.n c.args.tris.now c.loop-tri.tri-index c.requires.below c.loop-tri-test.true)

pub loop-tri-preserved : goal.loop-tri-preserved
loop-tri-preserved c =
    let a = c.args in
    let f : ℕ → Bool = λ t. all_by (lies_near a.normal a.offset a.most) (corners_of (triangle_at_of a.triangles.now a.handles.now a.n t)) in (
      omega arith,
      all_next f (lows a.tris.now) c.loop-tri.tri-index (rw (lows_length a.tris.now) c.loop-tri-test.true)
          (ap f (low_at_lem a.tris.now c.loop-tri.tri-index) ∙ rw (← c.triangle_at-t.ensures, ← c.is_triangle_near.ensures) c.if-not-is_triangle_near.false) ∙ c.loop-tri.invariant.1,
    )

pub returns-then-not-is_triangle_near : goal.returns-then-not-is_triangle_near
returns-then-not-is_triangle_near c =
    let a = c.args in
    let f : ℕ → Bool = λ t. all_by (lies_near a.normal a.offset a.most) (corners_of (triangle_at_of a.triangles.now a.handles.now a.n t)) in
    all_stop f (lows a.tris.now) c.loop-tri.tri-index (rw (lows_length a.tris.now) c.loop-tri-test.true)
    (ap f (low_at_lem a.tris.now c.loop-tri.tri-index) ∙ rw (← c.triangle_at-t.ensures, ← c.is_triangle_near.ensures) c.if-not-is_triangle_near.true) ∙ c.loop-tri.invariant.1

pub returns : goal.returns
returns c =
    let a = c.args in
    let f : ℕ → Bool = λ t. all_by (lies_near a.normal a.offset a.most) (corners_of (triangle_at_of a.triangles.now a.handles.now a.n t)) in
    all_end f (lows a.tris.now) c.loop-tri.tri-index (rw (lows_length a.tris.now) c.loop-tri-test.false) ∙ c.loop-tri.invariant.1

pub is_triangle_near-requires : goal.is_triangle_near-requires
is_triangle_near-requires c = tt
