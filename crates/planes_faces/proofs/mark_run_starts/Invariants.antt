-- `planes_faces::mark_run_starts` meets its contract: the loop holds that `run_starts` from here on gives what it gives of the whole.
use mathlib.Core.Path.{◌≡◌}
use Prim.Native.Nat.{◌≤◌, ◌<◌}
use lib.ListN.{length, drop}
use Rattle.order.specs.Runs.{head_or, run_starts}
use Rattle.planes_faces.specs.Numbers.{key_at}
use Rattle.planes_faces.proofs.mark_run_starts.Given as goal

abbrev pub invariant-loop-x : goal.invariant-loop-x
invariant-loop-x l = (l.x-index ≤ length l.index) × (l.start < length l.keys) × (length l.first ≡ length l.initial.first) × (run_starts (key_at l.keys l.low_keys) l.start (drop l.x-index l.index) l.first ≡ run_starts (key_at l.keys l.low_keys) (head_or 0 l.index) l.index l.initial.first)
