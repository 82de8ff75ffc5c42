-- `scene::air_number` meets its contract: by its test.
use Prim.Native.Nat.{◌<◌, ◌≤◌}
use borrow.Author.Tests.{lt-ltb, le-ltb}
use Rattle.scene.specs.Limits.{most_coefficient, air_number_of}
use Rattle.scene.proofs.air_number.Goals as goal

pub returns-then-x-gt-MOST_COEFFICIENT : goal.returns-then-x-gt-MOST_COEFFICIENT
unfolding air_number_of
returns-then-x-gt-MOST_COEFFICIENT c =
    let above : most_coefficient < c.args.x = c.if-x-gt-MOST_COEFFICIENT.true in
    rw (lt-ltb _ _ above)

pub returns : goal.returns
unfolding air_number_of
returns c =
    let within : c.args.x ≤ most_coefficient = c.if-x-gt-MOST_COEFFICIENT.false in
    rw (le-ltb _ _ within)
