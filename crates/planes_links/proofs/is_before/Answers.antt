-- `planes_links::is_before` meets its contract, case by case.
use mathlib.Core.Path.{refl}
use native.Mathlib.Omega.{arith}
use Rattle.planes_links.proofs.Rising.{clash}
use Rattle.planes_links.proofs.is_before.Goals as goal

pub overflow_cast-sorted : goal.overflow_cast-sorted
overflow_cast-sorted c = omega (arith, (c.shared_slice_known-1.given c.args.i).fits)

pub returns-then-sorted-i : goal.returns-then-sorted-i
returns-then-sorted-i c = record {
  i_in_bounds = (λ e. (c.if-i-sorted.true, c.if-sorted-i.true));
  at_or_past = (λ e. absurd (clash refl e));
}

pub returns-then-i-sorted : goal.returns-then-i-sorted
returns-then-i-sorted c = record {
  i_in_bounds = (λ e. absurd (clash e refl));
  at_or_past = (λ e h. c.if-sorted-i.false);
}

pub returns : goal.returns
returns c = record {
  i_in_bounds = (λ e. absurd (clash e refl));
  at_or_past = (λ e h. absurd (let g = c.if-i-sorted.false in omega arith));
}
