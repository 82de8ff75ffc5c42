-- `scene::probe_settings` meets its contract: by its two tests, and by the contract of `between`.
use mathlib.Core.Path.{◌≡◌}
use Prim.Native.Nat.{◌≤◌, ◌<◌}
use native.Mathlib.Omega.{arith}
use borrow.Author.Tests.{lt-ltb, le-ltb}
use Rattle.float.specs.Literals.{zero32, one32}
use Rattle.scene.specs.Limits.{least_crossings, most_crossings, between_of, probe_settings_of}
use Rattle.scene.proofs.probe_settings.Goals as goal

pub returns-then-limit-lt-LEAST_CROSSINGS : goal.returns-then-limit-lt-LEAST_CROSSINGS
unfolding probe_settings_of
returns-then-limit-lt-LEAST_CROSSINGS c =
    let f = c.if-limit-lt-LEAST_CROSSINGS.true in
    let none : c.args.limit < least_crossings = omega arith in
    rw (lt-ltb _ _ none)

pub returns-then-limit-gt-MOST_CROSSINGS : goal.returns-then-limit-gt-MOST_CROSSINGS
unfolding probe_settings_of
returns-then-limit-gt-MOST_CROSSINGS c =
    let f = c.if-limit-lt-LEAST_CROSSINGS.false in
    let g = c.if-limit-gt-MOST_CROSSINGS.true in
    let some : least_crossings ≤ c.args.limit = omega arith in
    let many : most_crossings < c.args.limit = omega arith in
    rw (le-ltb _ _ some, lt-ltb _ _ many)

pub returns : goal.returns
unfolding probe_settings_of
returns c =
    let f = c.if-limit-lt-LEAST_CROSSINGS.false in
    let g = c.if-limit-gt-MOST_CROSSINGS.false in
    let some : least_crossings ≤ c.args.limit = omega arith in
    let few : c.args.limit ≤ most_crossings = omega arith in
    let wide : c.between.result ≡ between_of c.args.radius zero32 one32 = c.between.ensures in
    rw (le-ltb _ _ some, le-ltb _ _ few, ← wide)

pub between-requires : goal.between-requires
between-requires c = tt
