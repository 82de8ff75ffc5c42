-- `placing::place_mesh` meets its contract: a loop over the triples: the run of the rest from here is the run of the whole.
use mathlib.Core.Path.{◌≡◌, sym, ◌∙◌}
use Prim.Native.Nat.{◌+◌, ◌*◌}
use native.Mathlib.Omega.{arith}
use Rattle.placing.proofs.Passes.{triples_step, mesh_step, mesh_done}
use Rattle.placing.proofs.place_mesh.Goals as goal

pub place_triple-st-requires : goal.place_triple-st-requires
place_triple-st-requires c =
    let test = c.loop-t-test.true in
    let pre = c.requires in
    let inv = c.loop-t.invariant in
    let step = triples_step c.args.indices.now (3 * c.loop-t.t) (omega arith) in
    omega arith

pub loop-t-preserved : goal.loop-t-preserved
loop-t-preserved c =
    let test = c.loop-t-test.true in
    let inv = c.loop-t.invariant in
    let l = c.args.indices.now in
    let next : 3 * (c.loop-t.t + 1) ≡ 3 * c.loop-t.t + 3 = omega arith in
    let done = c.place_triple-st.ensures in
    let step = triples_step l (3 * c.loop-t.t) (omega arith) in (
      omega arith,
      omega arith,
      rw next (omega arith),
      rw next (omega arith),
      rw (next, done.made)
          (sym (mesh_step _ _ _ _ _ _ l (3 * c.loop-t.t) (omega arith)) ∙ inv.4),
    )

pub returns : goal.returns
returns c =
    let inv = c.loop-t.invariant in
    let l = c.args.indices.now in
    record { made = sym (mesh_done _ _ _ _ _ _ l (3 * c.loop-t.t) (omega arith)) ∙ inv.4; kept = omega arith; placed = omega arith }
