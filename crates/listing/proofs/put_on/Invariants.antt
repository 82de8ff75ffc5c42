-- `listing::put_on` meets its contract. The loop's invariant: what is stored, with the bits that are left behind it, is the whole.
use Prim.Native.Nat.{◌-◌}
use mathlib.Core.Path.{◌≡◌}
use lib.ListN.{length}
use lib.Seq.{sets}
use Rattle.listing.specs.Printed.{on_bytes}
use Rattle.listing.proofs.put_on.Given as goal

abbrev pub invariant-loop-bit : goal.invariant-loop-bit
invariant-loop-bit l =
    (length l.on ≡ length l.initial.on) × (sets l.on l.bit-index (on_bytes (length l.initial.on - l.bit-index) l.m) ≡ on_bytes (length l.initial.on) l.mask)
