-- `packet::read_gains` meets its contract: what is left to store gives the same area from each turn on.
use Prim.Native.Nat.{◌+◌, ℕ}
use mathlib.Core.Path.{refl, sym, ap, ◌∙◌}
use mathlib.Core.List.{List}
use native.Mathlib.Omega.{arith}
use native.Mathlib.Nat.{add-zero}
use lib.ListN.{drop, length-set}
use lib.Seq.{sets}
use Rattle.packet.proofs.FromBytes.{take_gain, ones_step, gains_done}
use Rattle.packet.proofs.read_gains.Goals as goal

pub loop-k-init : goal.loop-k-init
loop-k-init c = (omega arith, refl, c.requires.0, rw (add-zero c.args.base))

pub read_gain-requires : goal.read_gain-requires
read_gain-requires c =
    let o = ones_step c.loop-k.k c.loop-k.m c.loop-k-test.true in
    omega arith

pub overflow_add-p : goal.overflow_add-p
overflow_add-p c =
    let o = ones_step c.loop-k.k c.loop-k.m c.loop-k-test.true in
    omega arith

pub loop-k-preserved : goal.loop-k-preserved
loop-k-preserved c =
    let a = c.args in
    let o = ones_step c.loop-k.k c.loop-k.m c.loop-k-test.true in
    (omega arith, simp length-set c.loop-k.invariant.1, omega arith, take_gain c.loop-k.area a.b.now a.base c.loop-k.k c.loop-k.m c.loop-k.p c.read_gain.result _ c.loop-k-test.true c.read_gain.ensures c.loop-k.invariant.3)

pub shape_of-area : goal.shape_of-area
shape_of-area c = c.loop-k.invariant.1

pub returns : goal.returns
returns c =
    ap (λ (v : List ℕ). sets c.loop-k.area (c.args.base + c.loop-k.k) v) (sym (gains_done c.loop-k.k c.loop-k.m (drop c.loop-k.p c.args.b.now) c.loop-k-test.false)) ∙ c.loop-k.invariant.3
