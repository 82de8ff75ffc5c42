-- `planes_groups::seed_keys` meets its contract: the loop holds that the keys of the first patches are there.
use mathlib.Core.Path.{◌≡◌, refl, ap, ◌∙◌}
use Prim.Native.Nat.{ℕ, ◌+◌, ◌*◌}
use native.Mathlib.Omega.{arith}
use lib.ListN.{get_or, length-set}
use lib.Ieee.{nan}
use Rattle.order.specs.Runs.{head_or, up_to}
use Rattle.planes_links.specs.Words.{row_in}
use Rattle.planes_groups.specs.Groups.{key_for_falling}
use Rattle.planes_groups.proofs.Seeding.{counted_more, keys_more}
use Rattle.planes_groups.proofs.seed_keys.Goals as goal

pub loop-p-init : goal.loop-p-init
unfolding up_to
loop-p-init c = (omega arith, refl, refl, refl, (λ q h. absurd (omega arith)))

pub first_triangle-first-requires : goal.first_triangle-first-requires
first_triangle-first-requires c = record {
  table = c.requires.table;
  p_lt_np = c.loop-p-test.true;
}

pub offset_bounds-keys-p : goal.offset_bounds-keys-p
offset_bounds-keys-p c = omega (arith, c.loop-p.invariant.1, c.requires.np_in_bounds_2)

pub bounds-keys-p : goal.bounds-keys-p
bounds-keys-p c = omega (arith, c.loop-p.invariant.1, c.requires.np_in_bounds_2)

pub offset_bounds-order-p : goal.offset_bounds-order-p
offset_bounds-order-p c = omega (arith, c.loop-p.invariant.2, c.requires.np_in_bounds_3)

pub bounds-order-p : goal.bounds-order-p
bounds-order-p c = omega (arith, c.loop-p.invariant.2, c.requires.np_in_bounds_3)

pub loop-p-preserved : goal.loop-p-preserved
loop-p-preserved c =
    let f : ℕ → ℕ = λ q. key_for_falling (get_or c.args.rows.now (11 * q + 4) nan) (head_or 0 (row_in c.args.tsorted.now c.args.tstarts.now q)) in
    let v = c.descending_key.result in (
      omega arith,
      length-set c.loop-p.keys c.loop-p.p v ∙ c.loop-p.invariant.1,
      length-set c.loop-p.order c.loop-p.p c.loop-p.p ∙ c.loop-p.invariant.2,
      counted_more c.loop-p.order c.loop-p.p (omega (arith, c.loop-p.invariant.2, c.requires.np_in_bounds_3)) c.loop-p.invariant.3,
      keys_more f c.loop-p.keys c.loop-p.p (omega (arith, c.loop-p.invariant.1, c.requires.np_in_bounds_2)) c.loop-p.invariant.4 v
          (c.descending_key.ensures ∙ ap (λ (t : ℕ). key_for_falling (get_or c.args.rows.now (11 * c.loop-p.p + 4) nan) t) c.first_triangle-first.ensures),
    )

pub shape_of-keys : goal.shape_of-keys
shape_of-keys c = c.loop-p.invariant.1

pub shape_of-order : goal.shape_of-order
shape_of-order c = c.loop-p.invariant.2

pub returns : goal.returns
returns c =
    let e : c.loop-p.p ≡ c.args.np = omega arith in record {
      order_after = rw e at c.loop-p.invariant.3;
      by_index = (λ q h. c.loop-p.invariant.4 q (omega (arith, e, h)));
    }

pub descending_key-requires : goal.descending_key-requires
descending_key-requires c = tt
