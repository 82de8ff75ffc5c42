-- `listing::value` meets its contract. The loop's invariant: n is the value of the digits passed, up to the cap.
use mathlib.Core.Path.{◌≡◌}
use Prim.Native.Nat.{min}
use lib.ListN.{take}
use Rattle.listing.specs.Request.{value_of, cap}
use Rattle.listing.proofs.value.Given as goal

abbrev pub invariant-loop-d : goal.invariant-loop-d
invariant-loop-d l = (l.n ≡ min (value_of (take l.d-index l.word)) cap)
