-- `settings_fault::crossings_within` meets its contract: by its two tests.
use Prim.Native.Nat.{◌≤◌, ◌<◌}
use native.Mathlib.Omega.{arith}
use borrow.Author.Tests.{lt-ltb, le-ltb}
use Rattle.scene.specs.Limits.{least_crossings, most_crossings}
use Rattle.settings_fault.specs.Fault.{crossings_in_bounds}
use Rattle.settings_fault.proofs.crossings_within.Goals as goal

pub returns-then-limit-lt-LEAST_CROSSINGS : goal.returns-then-limit-lt-LEAST_CROSSINGS
unfolding crossings_in_bounds
returns-then-limit-lt-LEAST_CROSSINGS c =
    let f = c.if-limit-lt-LEAST_CROSSINGS.true in
    let none : c.args.limit < least_crossings = omega arith in
    rw (lt-ltb _ _ none)

pub returns-then-limit-gt-MOST_CROSSINGS : goal.returns-then-limit-gt-MOST_CROSSINGS
unfolding crossings_in_bounds
returns-then-limit-gt-MOST_CROSSINGS c =
    let f = c.if-limit-lt-LEAST_CROSSINGS.false in
    let g = c.if-limit-gt-MOST_CROSSINGS.true in
    let some : least_crossings ≤ c.args.limit = omega arith in
    let many : most_crossings < c.args.limit = omega arith in
    rw (le-ltb _ _ some, lt-ltb _ _ many)

pub returns : goal.returns
unfolding crossings_in_bounds
returns c =
    let f = c.if-limit-lt-LEAST_CROSSINGS.false in
    let g = c.if-limit-gt-MOST_CROSSINGS.false in
    let some : least_crossings ≤ c.args.limit = omega arith in
    let few : c.args.limit ≤ most_crossings = omega arith in
    rw (le-ltb _ _ some, le-ltb _ _ few)
