-- `packet::write_taps` meets its contract: what is left to store gives the same bytes from each turn on.
use Prim.Native.Nat.{◌+◌}
use mathlib.Core.Path.{◌≡◌, refl, sym, ap, ◌∙◌}
use native.Mathlib.Omega.{arith}
use lib.ListN.{length}
use lib.Seq.{sets}
use Rattle.packet.specs.Limits.{head_bytes}
use Rattle.packet.specs.Bytes.{taps_bytes}
use Rattle.packet.specs.Refusals.{all, in_range}
use Rattle.packet.proofs.Areas.{taps_from, from_start, order_fits}
use Rattle.packet.proofs.ToBytes.{write_taps_sets, write_taps_length, bytes_done}
use Rattle.packet.proofs.write_taps.Goals as goal

pub loop-i-init : goal.loop-i-init
loop-i-init c =
    let a = c.args in
    let e = from_start a.count a.taps.now in
    (omega arith, refl, omega arith, ap (all (in_range a.images)) e ∙ c.requires.3, ap (λ l. sets a.out.now head_bytes (taps_bytes l)) e, ap (λ l. head_bytes + length (taps_bytes l)) e)

pub write_tap-p-requires : goal.write_tap-p-requires
write_tap-p-requires c =
    let a = c.args in
    let o = order_fits a.images a.count c.loop-i.i a.taps.now c.loop-i-test.true c.loop-i.invariant.3 in
    (omega arith, omega (arith, c.requires), o.0)

pub loop-i-preserved : goal.loop-i-preserved
loop-i-preserved c =
    let a = c.args in
    let o = order_fits a.images a.count c.loop-i.i a.taps.now c.loop-i-test.true c.loop-i.invariant.3 in
    let e = c.write_tap-p.ensures in
    let n = write_taps_length a.count c.loop-i.i a.taps.now c.loop-i-test.true in (
      omega arith,
      c.write_tap-p.auto.out ∙ c.loop-i.invariant.1,
      omega (arith, e.short),
      o.1,
      write_taps_sets a.count c.loop-i.i c.loop-i.p c.write_tap-p.result a.taps.now c.loop-i.out c.write_tap-p.new.out c.loop-i-test.true e.stored e.next ∙ c.loop-i.invariant.4,
      omega (arith, e.next, n, c.loop-i.invariant.5),
    )

pub shape_of-out : goal.shape_of-out
shape_of-out c = c.loop-i.invariant.1

pub returns : goal.returns
returns c =
    let a = c.args in
    let d = bytes_done a.count c.loop-i.i a.taps.now c.loop-i-test.false in
    let z : length (taps_bytes (taps_from a.count c.loop-i.i a.taps.now)) ≡ 0 = ap length d in
    (omega (arith, z, c.loop-i.invariant.5), omega (arith, c.requires), ap (sets c.loop-i.out c.loop-i.p) (sym d) ∙ c.loop-i.invariant.4)
