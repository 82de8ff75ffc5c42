-- `bvh::pad_boxes` meets its contract: the boxes so far are those of the nodes so far, padded.
use mathlib.Core.Path.{◌≡◌}
use Prim.Native.Nat.{◌≤◌}
use lib.ListN.{length}
use Rattle.bvh.proofs.Laws as law
use Rattle.bvh.proofs.pad_boxes.Given as goal

abbrev pub invariant-loop-i : goal.invariant-loop-i
invariant-loop-i l = (l.i ≤ l.count) × (length l.padded ≡ length l.initial.padded) × law.PaddedTo l.boxes l.padded l.i
