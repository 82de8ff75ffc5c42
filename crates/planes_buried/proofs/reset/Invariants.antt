-- `planes_buried::reset` meets its contract: the loop holds it for the patches before p.
use mathlib.Core.Path.{◌≡◌}
use Prim.Native.Nat.{◌<◌, ◌≤◌, ℕ}
use lib.ListN.{length}
use lib.Ieee.{neg}
use Rattle.float.specs.Literals.{one32}
use Rattle.planes_patches.specs.Rows.{none_of}
use Rattle.planes_buried.specs.Passes.{best_at}
use Rattle.planes_buried.proofs.reset.Given as goal

abbrev pub invariant-loop-p : goal.invariant-loop-p
invariant-loop-p l =
    (l.p ≤ l.np) × (length l.areas ≡ length l.initial.areas) × (length l.largest ≡ length l.initial.largest) × ((q : ℕ) → q < l.p → best_at l.areas l.largest q ≡ (neg one32, none_of))
