-- `packet::write_gains` meets its contract: what is left to store gives the same bytes from each turn on.
use mathlib.Core.Path.{◌≡◌, refl, sym, ap, ◌∙◌}
use native.Mathlib.Omega.{arith}
use lib.ListN.{length}
use lib.Seq.{sets}
use Rattle.packet.specs.Bytes.{gain_bytes}
use Rattle.packet.proofs.Areas.{window}
use Rattle.packet.proofs.ToBytes.{write_gain_sets, write_gain_length, gain_bytes_done}
use Rattle.packet.proofs.write_gains.Goals as goal

pub loop-k-init : goal.loop-k-init
loop-k-init c = (omega arith, refl, omega arith, refl, refl)

pub loop-k-preserved : goal.loop-k-preserved
loop-k-preserved c =
    let a = c.args in
    let e = c.write_gain-p.ensures in
    let n = write_gain_length a.at c.loop-k.k c.loop-k.m a.taps.now c.loop-k-test.true c.requires.0 in (
      omega arith,
      c.write_gain-p.auto.out ∙ c.loop-k.invariant.1,
      omega (arith, e.0),
      write_gain_sets a.at c.loop-k.k c.loop-k.m a.taps.now c.loop-k-test.true c.requires.0 c.loop-k.out c.write_gain-p.new.out c.loop-k.p c.write_gain-p.result e.0 e.1 ∙ c.loop-k.invariant.3,
      omega (arith, e.0, n),
    )

pub shape_of-out : goal.shape_of-out
shape_of-out c = c.loop-k.invariant.1

pub returns : goal.returns
returns c =
    let d = gain_bytes_done c.args.at c.loop-k.k c.loop-k.m c.args.taps.now c.loop-k-test.false in
    let z : length (gain_bytes c.loop-k.m (window c.args.at c.loop-k.k c.args.taps.now)) ≡ 0 = ap length d in
    record { stored = ap (sets c.loop-k.out c.loop-k.p) (sym d) ∙ c.loop-k.invariant.3; next = omega (arith, z, c.loop-k.invariant.4); short = omega arith }
