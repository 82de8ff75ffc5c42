-- `packet::number_keys` meets its contract: what is left to store gives the same list from each turn on.
use mathlib.Core.Path.{refl, ap}
use mathlib.Core.List.{map}
use native.Mathlib.Omega.{arith}
use lib.ListN.{length, length-set}
use lib.Seq.{sets}
use Rattle.packet.specs.Refusals.{number_of}
use Rattle.packet.specs.Helpers.{keys_of}
use Rattle.packet.proofs.Areas.{from_start}
use Rattle.packet.proofs.Repeats.{keys_step, keys_done}
use Rattle.packet.proofs.number_keys.Goals as goal

pub loop-i-init : goal.loop-i-init
loop-i-init c =
    let a = c.args in
    (omega arith, refl, ap (λ ts. sets a.keys.now 0 (keys_of (map number_of ts))) (from_start (length a.keys.now) a.taps.now))

pub loop-i-preserved : goal.loop-i-preserved
loop-i-preserved c =
    let a = c.args in
    let h = c.loop-i-test.true in (
      omega arith,
      simp length-set c.loop-i.invariant.1,
      keys_step (length a.keys.now) c.loop-i.i a.taps.now c.loop-i.keys _ (omega arith) c.loop-i.invariant.2,
    )

pub shape_of-keys : goal.shape_of-keys
shape_of-keys c = c.loop-i.invariant.1

pub returns : goal.returns
returns c =
    let a = c.args in
    keys_done (length a.keys.now) c.loop-i.i a.taps.now c.loop-i.keys a.keys.now (omega arith) refl c.loop-i.invariant.2
