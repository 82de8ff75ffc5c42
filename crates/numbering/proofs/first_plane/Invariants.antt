-- `numbering::first_plane` meets its contract. The loop's invariant: of the q planes to be passed, `left` are not below p.
use Prim.Native.Nat.{◌+◌, ◌≤◌}
use mathlib.Core.Path.{◌≡◌}
use mathlib.Core.List.{[]}
use lib.ListN.{length}
use Rattle.sequences.specs.Allowed.{may}
use Rattle.sequences.specs.Count.{count}
use Rattle.numbering.proofs.first_plane.Given as goal

abbrev pub invariant-loop-p : goal.invariant-loop-p
invariant-loop-p l = (l.p ≤ length l.on) × (l.left + count (may l.on []) l.p ≡ l.q)
