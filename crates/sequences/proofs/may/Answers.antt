-- `sequences::may` meets its contract: at place 0 by the rule of the first plane, later by that of the plane before.
use Prim.Native.Nat.{ℕ, suc, ◌-◌, ◌<◌}
use mathlib.Core.Path.{◌≡◌, sym, ap, ◌∙◌}
use native.Mathlib.Omega.{arith}
use lib.ListN.{length, take}
use mir.Syntax.{w8}
use borrow.Kind.Array.{good_length, e_int}
use Rattle.sequences.specs.Allowed.{may}
use Rattle.sequences.proofs.Laws.{may_first, may_later}
use Rattle.sequences.proofs.may.Goals as goal

pub returns-then-depth-lt-RULED : goal.returns-then-depth-lt-RULED
returns-then-depth-lt-RULED c = sym (may_first c.args.on.now c.args.seq c.args.depth c.args.p (let t = c.if-depth-lt-RULED.true in omega arith))

pub returns-else-depth-lt-RULED : goal.returns-else-depth-lt-RULED
returns-else-depth-lt-RULED c =
    let a = c.args in
    let h = c.requires in
    let z = c.if-depth-lt-RULED.false in
    let g : length a.seq ≡ 8 = good_length (e_int w8) 8 a.seq _ c.well_formed.1.0 in
    let e : a.depth ≡ suc (a.depth - 1) = omega (arith, z) in
    let l : a.depth - 1 < length a.seq = omega (arith, z) in
    sym (ap (λ (d : ℕ). may a.on.now (take d a.seq) a.p) e ∙ may_later a.on.now a.seq (a.depth - 1) a.p l)
