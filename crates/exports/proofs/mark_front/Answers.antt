-- `exports::mark_front` meets its contract: the front comes back with its bytes, the rest as found.
use mathlib.Core.Path.{sym, ap, ◌∙◌}
use mathlib.Core.List.{List, ◌++◌}
use native.Mathlib.Omega.{arith}
use Prim.Native.Nat.{ℕ}
use lib.ListN.{drop}
use lib.Seq.{length-take-le}
use Rattle.mirror.specs.Rows.{planes_in}
use Rattle.search.specs.Outcome.{on_bytes}
use Rattle.exports.proofs.mark_front.Goals as goal

pub slice_bounds-mark_planes-end-2 : goal.slice_bounds-mark_planes-end-2
slice_bounds-mark_planes-end-2 c =
    let a = c.args in
    sym (length-take-le a.count a.on.now c.requires.0)

pub mark_planes-requires : goal.mark_planes-requires
mark_planes-requires c =
    let a = c.args in
    let q = c.requires in
    let long = length-take-le a.count a.on.now q.0 in
    (omega (arith, long, q.1), omega (arith, long, q.2))

pub returns : goal.returns
returns c =
    let a = c.args in
    let long = length-take-le a.count a.on.now c.requires.0 in
    λ members edges.
    ap (λ (bytes : List ℕ). bytes ++ drop a.count a.on.now)
    (c.mark_planes.ensures members edges
    ∙ ap (λ (n : ℕ). on_bytes (planes_in a.plane_floats.now a.plane_words.now members edges n) a.source) long)
