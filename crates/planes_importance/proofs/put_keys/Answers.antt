-- `planes_importance::put_keys` meets its contract: the planes so far have their keys.
use mathlib.Core.Path.{◌≡◌, refl, sym, ap, ◌∙◌}
use Prim.Native.Nat.{◌+◌, ◌-◌, ◌<◌}
use native.Mathlib.Omega.{arith}
use lib.ListN.{length}
use lib.Seq.{take_all}
use Rattle.order.specs.Runs.{up_to}
use Rattle.mirror.specs.Rows.{tris_of}
use Rattle.planes_importance.specs.Importance.{row_key_in}
use Rattle.planes_importance.proofs.Folds.{keyed_more, map_more, run_room}
use Rattle.planes_importance.proofs.put_keys.Goals as goal

pub loop-g-init : goal.loop-g-init
unfolding up_to
loop-g-init c = (record { few = omega arith; keys_long = c.requires.keys_len; index_long = refl; numbered = refl }, λ b at far. refl)

pub plane_at-row-requires : goal.plane_at-row-requires
plane_at-row-requires c =
    let p = c.requires.planes_held in
    (omega (arith, p.floats_room, c.loop-g-test.true), omega (arith, p.words_room, c.loop-g-test.true))

pub overflow_add-to : goal.overflow_add-to
overflow_add-to c =
    let k = run_room _ _ _ _ _ _ _ c.requires.planes_held c.loop-g-test.true c.plane_at-row.ensures in
    omega (arith, k.0, c.well_formed)

pub offset_bounds-plane_triangles-from : goal.offset_bounds-plane_triangles-from
offset_bounds-plane_triangles-from c =
    let k = run_room _ _ _ _ _ _ _ c.requires.planes_held c.loop-g-test.true c.plane_at-row.ensures in
    omega (arith, k.0, c.well_formed)

pub slice_bounds-plane_key-end : goal.slice_bounds-plane_key-end
slice_bounds-plane_key-end c =
    let k = run_room _ _ _ _ _ _ _ c.requires.planes_held c.loop-g-test.true c.plane_at-row.ensures in
    k.0

pub plane_key-requires : goal.plane_key-requires
unfolding tris_of
plane_key-requires c =
    let r = c.plane_at-row.result in
    let k = run_room _ _ _ _ _ _ _ c.requires.planes_held c.loop-g-test.true c.plane_at-row.ensures in
    let e : r.first + r.count - r.first ≡ r.count = omega arith in record {
      n_in_bounds = c.requires.n_in_bounds;
      n_in_bounds_2 = c.requires.n_in_bounds_2;
      below = rw (e) k.1;
    }

pub loop-g-preserved : goal.loop-g-preserved
unfolding row_key_in tris_of
loop-g-preserved c =
    let t = c.loop-g-test.true in
    let r = c.plane_at-row.result in
    let e : r.first + r.count - r.first ≡ r.count = omega arith in
    let inside : c.loop-g.g < length c.loop-g.keys = omega (arith, c.loop-g.invariant.0.keys_long, t) in (
      keyed_more _ _ _ _ _ c.loop-g.invariant.0 t,
      λ b at far.
          map_more _ _ _ _ inside (c.loop-g.invariant.1 b at far) (c.plane_key.ensures b at far ∙ rw (e, c.plane_at-row.ensures)),
    )

pub returns : goal.returns
returns c =
    let n = length c.args.index.now in
    let k = c.loop-g.invariant.0 in
    let same : c.loop-g.g ≡ n = omega (arith, k.few, c.loop-g-test.false) in record {
      index_after = sym (take_all c.loop-g.g c.loop-g.index (omega (arith, k.index_long))) ∙ k.numbered ∙ ap up_to same;
      keys_after = λ b at far. rw (← same) (sym (take_all c.loop-g.g c.loop-g.keys (omega (arith, k.keys_long))) ∙ c.loop-g.invariant.1 b at far);
    }

pub offset_bounds-keys-g : goal.offset_bounds-keys-g
offset_bounds-keys-g c = omega (arith, c.loop-g-test.true, c.requires.index_len_bound)

pub bounds-keys-g : goal.bounds-keys-g
bounds-keys-g c = omega (arith, c.loop-g-test.true, c.loop-g.invariant.0.keys_long)

pub overflow_cast-index : goal.overflow_cast-index
overflow_cast-index c = omega (arith, c.loop-g-test.true, c.requires.index_len_bound)

pub offset_bounds-index-g : goal.offset_bounds-index-g
offset_bounds-index-g c = omega (arith, c.loop-g-test.true, c.requires.index_len_bound)

pub bounds-index-g : goal.bounds-index-g
bounds-index-g c = omega (arith, c.loop-g-test.true, c.loop-g.invariant.0.index_long)

pub shape_of-keys : goal.shape_of-keys
shape_of-keys c = c.loop-g.invariant.0.keys_long ∙ sym c.requires.keys_len

pub shape_of-index : goal.shape_of-index
shape_of-index c = c.loop-g.invariant.0.index_long
