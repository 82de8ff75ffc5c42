-- `settings_fault::room_within` meets its contract: by its test.
use Prim.Native.Nat.{◌<◌, ◌≤◌}
use borrow.Author.Tests.{lt-ltb, le-ltb}
use Rattle.scene.specs.Limits.{most_candidates}
use Rattle.settings_fault.specs.Fault.{room_in_bounds}
use Rattle.settings_fault.proofs.room_within.Goals as goal

pub returns-then-c-gt-MOST_CANDIDATES : goal.returns-then-c-gt-MOST_CANDIDATES
unfolding room_in_bounds
returns-then-c-gt-MOST_CANDIDATES c =
    let above : most_candidates < c.args.c = c.if-c-gt-MOST_CANDIDATES.true in
    rw (lt-ltb _ _ above)

pub returns : goal.returns
unfolding room_in_bounds
returns c =
    let within : c.args.c ≤ most_candidates = c.if-c-gt-MOST_CANDIDATES.false in
    rw (le-ltb _ _ within)
