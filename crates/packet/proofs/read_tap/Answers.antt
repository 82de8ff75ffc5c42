-- `packet::read_tap` meets its contract: the six words and the gains are stored one after the other.
use mathlib.Core.Path.{◌∙◌, refl}
use native.Mathlib.Omega.{arith}
use Prim.Native.Nat.{◌+◌}
use lib.ListN.{length-set, get_or}
use Rattle.packet.proofs.FromBytes.{read_tap_sets}
use Rattle.packet.proofs.read_tap.Goals as goal

pub bounds-area-base-2 : goal.bounds-area-base-2
bounds-area-base-2 c = simp length-set (omega arith)

pub bounds-area-base-3 : goal.bounds-area-base-3
bounds-area-base-3 c = simp length-set (omega arith)

pub bounds-area-base-4 : goal.bounds-area-base-4
bounds-area-base-4 c = simp length-set (omega arith)

pub bounds-area-base-5 : goal.bounds-area-base-5
bounds-area-base-5 c = simp length-set (omega arith)

pub bounds-area-base-6 : goal.bounds-area-base-6
bounds-area-base-6 c = simp length-set (omega arith)

pub read_gains-requires : goal.read_gains-requires
read_gains-requires c = (omega arith, simp length-set (omega arith))

pub shape_of-area : goal.shape_of-area
shape_of-area c = c.read_gains.auto.area ∙ simp length-set

pub returns : goal.returns
returns c =
    let a = c.args in c.read_gains.ensures ∙ read_tap_sets a.area.now a.b.now a.base a.at (get_or c.args.b.now (c.args.at + 1) 0) c.read_word.result c.read_word-2.result c.read_word-3.result c.read_word-4.result c.read_word-5.result refl c.read_word.ensures c.read_word-2.ensures c.read_word-3.ensures c.read_word-4.ensures
    c.read_word-5.ensures
