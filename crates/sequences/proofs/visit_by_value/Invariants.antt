-- `sequences::visit_by_value` meets its contract. The loop's invariant: the first k bytes of the record are stored at their place.
use Prim.Native.Nat.{◌*◌, ◌≤◌}
use mathlib.Core.Path.{◌≡◌}
use lib.ListN.{length, take}
use lib.Seq.{sets}
use Rattle.sequences.specs.Run.{record_of}
use Rattle.sequences.proofs.visit_by_value.Given as goal

abbrev pub invariant-loop-k : goal.invariant-loop-k
invariant-loop-k l =
    (l.k ≤ 9) × (length l.area ≡ length l.initial.area) × (l.area ≡ sets l.initial.area (l.s.nodes * 9) (take l.k (record_of (take l.len l.seq))))
