-- `settings_fault::planes_within` meets its contract: by its test.
use Prim.Native.Nat.{◌<◌, ◌≤◌}
use borrow.Author.Tests.{lt-ltb, le-ltb}
use Rattle.scene.specs.Limits.{most_planes}
use Rattle.settings_fault.specs.Fault.{planes_in_bounds}
use Rattle.settings_fault.proofs.planes_within.Goals as goal

pub returns-then-planes-gt-MOST_PLANES : goal.returns-then-planes-gt-MOST_PLANES
unfolding planes_in_bounds
returns-then-planes-gt-MOST_PLANES c =
    let above : most_planes < c.args.planes = c.if-planes-gt-MOST_PLANES.true in
    rw (lt-ltb _ _ above)

pub returns : goal.returns
unfolding planes_in_bounds
returns c =
    let within : c.args.planes ≤ most_planes = c.if-planes-gt-MOST_PLANES.false in
    rw (le-ltb _ _ within)
