-- `placing::place_all` meets its contract: a loop over the meshes: the run of the rest from here is the run of the whole (`Going` of proofs/Passes.antt).
use mathlib.Core.Path.{◌≡◌, refl, sym, ◌∙◌}
use Prim.Native.Nat.{◌+◌, ◌-◌, ◌*◌}
use native.Mathlib.Omega.{arith}
use lib.ListN.{take, drop, get_or}
use Rattle.placing.specs.Passing.{world}
use Rattle.placing.proofs.Passes.{steps, part_length, triples_third, all_step, all_done}
use Rattle.placing.proofs.place_all.Goals as goal

pub place_mesh-st-requires : goal.place_mesh-st-requires
place_mesh-st-requires c =
    let test = c.loop-m-test.true in
    let inv = c.loop-m.invariant in
    let pre = c.requires in
    let a = c.args in
    let step = steps a.meshes.now (3 * c.loop-m.m) (omega arith) in
    let v = get_or a.meshes.now (3 * c.loop-m.m) 0 in
    let k = get_or a.meshes.now (3 * c.loop-m.m + 1) 0 in
    let lp = part_length a.positions.now c.loop-m.p (c.loop-m.p + 3 * v) (omega arith) (omega arith) in
    let lt = part_length a.transforms.now c.loop-m.t (c.loop-m.t + 16) (omega arith) (omega arith) in
    let lx = part_length a.indices.now c.loop-m.x (c.loop-m.x + k) (omega arith) (omega arith) in
    let third = triples_third (take (c.loop-m.x + k - c.loop-m.x) (drop c.loop-m.x a.indices.now)) (get_or a.meshes.now (3 * c.loop-m.m + 1) 0) (omega arith) in
    omega arith

pub loop-m-preserved : goal.loop-m-preserved
loop-m-preserved c =
    let test = c.loop-m-test.true in
    let inv = c.loop-m.invariant in
    let a = c.args in
    let step = steps a.meshes.now (3 * c.loop-m.m) (omega arith) in
    let v = get_or a.meshes.now (3 * c.loop-m.m) 0 in
    let k = get_or a.meshes.now (3 * c.loop-m.m + 1) 0 in
    let done = c.place_mesh-st.ensures in
    let same = c.place_mesh-st.auto in
    let lx = part_length a.indices.now c.loop-m.x (c.loop-m.x + k) (omega arith) (omega arith) in
    let third = triples_third (take (c.loop-m.x + k - c.loop-m.x) (drop c.loop-m.x a.indices.now)) (get_or a.meshes.now (3 * c.loop-m.m + 1) 0) (omega arith) in
    let et : c.loop-m.t + 16 - c.loop-m.t ≡ 16 = omega arith in
    let ep : c.loop-m.p + 3 * v - c.loop-m.p ≡ 3 * v = omega arith in
    let ex : c.loop-m.x + k - c.loop-m.x ≡ k = omega arith in
    let next : 3 * (c.loop-m.m + 1) ≡ 3 * c.loop-m.m + 3 = omega arith in
    record {
      inside = rw next (omega arith);
      wide = omega arith;
      long = omega arith;
      placed = rw next (omega arith);
      points = rw next (omega arith);
      listed = rw next (omega arith);
      some = rw next (omega arith);
      few = rw next (omega arith);
      ran =
          rw (next, done.made, et, ep, ex)
          (sym
          (all_step a.n (world c.loop-m.triangles c.loop-m.handles c.loop-m.st) a.meshes.now a.transforms.now a.positions.now a.indices.now (3 * c.loop-m.m) c.loop-m.t c.loop-m.p c.loop-m.x (omega arith))
          ∙ inv.ran);
    }

pub returns : goal.returns
returns c =
    let inv = c.loop-m.invariant in record {
      result_after = sym (all_done _ _ _ _ _ _ (3 * c.loop-m.m) (omega arith)) ∙ inv.ran;
      kept_le_n = omega arith;
    }

pub slice_bounds-place_mesh-end : goal.slice_bounds-place_mesh-end
slice_bounds-place_mesh-end c = let test = c.loop-m-test.true in
    let inv = c.loop-m.invariant in
    let step = steps c.args.meshes.now (3 * c.loop-m.m) (omega arith) in
    omega arith

pub slice_bounds-place_mesh-end-in-loop-m : goal.slice_bounds-place_mesh-end-in-loop-m
slice_bounds-place_mesh-end-in-loop-m c = let test = c.loop-m-test.true in
    let inv = c.loop-m.invariant in
    let step = steps c.args.meshes.now (3 * c.loop-m.m) (omega arith) in
    omega arith

pub slice_bounds-place_mesh-end-in-loop-m-2 : goal.slice_bounds-place_mesh-end-in-loop-m-2
slice_bounds-place_mesh-end-in-loop-m-2 c = let test = c.loop-m-test.true in
    let inv = c.loop-m.invariant in
    let step = steps c.args.meshes.now (3 * c.loop-m.m) (omega arith) in
    omega arith
