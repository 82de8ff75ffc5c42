-- `search::may` meets its contract: at place 0 by the rule of the first plane, later by that of the plane before.
use Prim.Native.Nat.{ℕ, suc, ◌-◌, ◌<◌}
use mathlib.Core.Path.{◌≡◌, sym, ap, ◌∙◌}
use native.Mathlib.Omega.{arith}
use lib.ListN.{length, take}
use Rattle.mirror.specs.Rows.{planes_in}
use Rattle.sequences.specs.Allowed.{may}
use Rattle.sequences.proofs.Laws.{may_later}
use Rattle.search.specs.Outcome.{on_bytes}
use Rattle.search.proofs.Laws.{may_begin, planes_length}
use Rattle.search.proofs.may.Goals as goal

pub lies_on-requires : goal.lies_on-requires
lies_on-requires c = (omega (arith, c.requires.depth_in_bounds, c.requires.count_in_bounds), omega (arith, c.requires.depth_in_bounds, c.requires.count_in_bounds))

pub bounds-seq-depth : goal.bounds-seq-depth
bounds-seq-depth c = omega (arith, c.if-depth-lt-RULED.false, c.requires.depth_in_bounds.0)

pub overflow_cast-result : goal.overflow_cast-result
overflow_cast-result c = omega (arith, (c.shared_slice_known-else-depth-lt-RULED-1.given (c.args.depth - 1)).fits)

pub returns-then-depth-lt-RULED : goal.returns-then-depth-lt-RULED
returns-then-depth-lt-RULED c = let a = c.args in λ members edges.
    let e = planes_length a.planes.now.floats.now a.planes.now.words.now members edges a.planes.now.count in
    may_begin (planes_in a.planes.now.floats.now a.planes.now.words.now members edges a.planes.now.count) a.q.source a.seq.now a.depth a.p c.lies_on.result (omega (arith, c.requires.depth_in_bounds)) (let t = c.if-depth-lt-RULED.true in omega arith)
    (c.lies_on.ensures members edges a.planes.now.count c.requires.depth_in_bounds.1)

pub returns-else-depth-lt-RULED : goal.returns-else-depth-lt-RULED
returns-else-depth-lt-RULED c = let a = c.args in
    let z = c.if-depth-lt-RULED.false in
    let h = c.requires.depth_in_bounds in
    let e : a.depth ≡ suc (a.depth - 1) = omega (arith, z) in
    let l : a.depth - 1 < length a.seq.now = omega (arith, z) in
    λ members edges.
    let on = on_bytes (planes_in a.planes.now.floats.now a.planes.now.words.now members edges a.planes.now.count) a.q.source in
    sym (ap (λ (d : ℕ). may on (take d a.seq.now) a.p) e ∙ may_later on a.seq.now (a.depth - 1) a.p l)
