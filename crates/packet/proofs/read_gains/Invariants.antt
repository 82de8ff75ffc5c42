-- `packet::read_gains` meets its contract: what is left to store gives the same area from each turn on.
use Prim.Native.Nat.{◌≤◌, ◌-◌, ◌+◌, ◌*◌}
use mathlib.Core.Path.{◌≡◌}
use lib.ListN.{length, drop}
use lib.Seq.{sets}
use Rattle.packet.specs.Bytes.{gains_in, ones}
use Rattle.packet.proofs.read_gains.Given as goal

abbrev pub invariant-loop-k : goal.invariant-loop-k
invariant-loop-k l = (l.k ≤ 8) × (length l.area ≡ length l.initial.area) × (l.p + 4 * ones (8 - l.k) l.m ≤ length l.b) × (sets l.area (l.base + l.k) (gains_in (8 - l.k) l.m (drop l.p l.b)) ≡ sets l.initial.area l.base (gains_in 8 l.bits (drop l.from l.b)))
