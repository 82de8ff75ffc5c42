-- `front::list_limit` meets its contract: by the contract of `at_most`, with the most taps of a packet.
use mathlib.Core.Path.{◌≡◌}
use Prim.Native.Nat.{min}
use Rattle.packet.specs.Limits.{most_taps}
use Rattle.front.proofs.list_limit.Goals as goal

pub returns : goal.returns
returns c =
    let limited : c.at_most.result ≡ min c.args.settings.max_reflections most_taps = c.at_most.ensures in
    limited

pub at_most-requires : goal.at_most-requires
at_most-requires c = tt
