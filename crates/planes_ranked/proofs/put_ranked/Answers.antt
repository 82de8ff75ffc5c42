-- `planes_ranked::put_ranked` meets its contract: the planes so far stand in their rows.
use mathlib.Core.Path.{refl, ap}
use Prim.Native.Nat.{◌+◌, ◌*◌, ◌<◌}
use native.Mathlib.Nat.{not-suc-le-zero}
use native.Mathlib.Omega.{arith}
use lib.ListN.{get_or}
use Rattle.order.specs.Sort.{Below}
use Rattle.mirror.specs.declared.PlaneRow.{PlaneRow}
use Rattle.mirror.specs.Rows.{row_of}
use Rattle.planes_ranked.proofs.Ranking.{putting_more, placed_is, all_held, sum_le, third, small_is, border_room}
use Rattle.planes_ranked.proofs.put_ranked.Goals as goal

pub loop-r-init : goal.loop-r-init
loop-r-init c = record { few = omega arith; floats_long = refl; words_long = refl; edges_long = refl; bound = omega arith; each = λ j h. absurd (not-suc-le-zero h) }

pub offset_bounds-index-r : goal.offset_bounds-index-r
offset_bounds-index-r c = omega (arith, c.loop-r-test.true, c.well_formed)

pub bounds-index-r : goal.bounds-index-r
bounds-index-r c = c.loop-r-test.true

pub plane_at-plane-requires : goal.plane_at-plane-requires
unfolding Below
plane_at-plane-requires c = let p = c.requires.ranked_lent in let b = p.below c.loop-r.r c.loop-r-test.true in
    (omega (arith, b, p.held.floats_room), omega (arith, b, p.held.words_room))

pub bordered-p-requires : goal.bordered-p-requires
unfolding Below
bordered-p-requires c =
    let p = c.requires.ranked_lent in let a = c.args in let b = p.below c.loop-r.r c.loop-r-test.true in
    let runs = p.held.runs (get_or a.index.now c.loop-r.r 0) b in
    let room = border_room _ _ _ _ _ _ _ c.loop-r-test.true c.loop-r.invariant.bound p.total (ap (λ (q : PlaneRow). q.count) c.plane_at-plane.ensures) in
    let three = third _ _ p.first_room in record {
      n_in_bounds = (p.area_room, omega (arith, p.first_room, p.few), p.first_below);
      count_in_bounds = (rw c.plane_at-plane.ensures runs.members_room, rw (three, c.plane_at-plane.ensures) runs.below);
      count_in_bounds_2 = omega (arith, room, c.requires.ranked_room.edges_room, c.loop-r.invariant.edges_long);
    }

pub overflow_add-at : goal.overflow_add-at
overflow_add-at c = let p = c.requires.ranked_lent in let room = border_room _ _ _ _ _ _ _ c.loop-r-test.true c.loop-r.invariant.bound p.total (ap (λ (q : PlaneRow). q.count) c.plane_at-plane.ensures) in
    omega (arith, room, p.short, c.bordered-p.ensures.value.1)

pub put_plane-requires : goal.put_plane-requires
unfolding Below row_of
put_plane-requires c =
    let p = c.requires.ranked_lent in let q = c.requires.ranked_room in let a = c.args in let b = p.below c.loop-r.r c.loop-r-test.true in
    let words = c.shared_slice_known-3-1.given in
    let starts : get_or a.group_words.now (5 * (get_or a.index.now c.loop-r.r 0)) 0 < 4294967296 = omega (arith, words (5 * (get_or a.index.now c.loop-r.r 0))) in
    let counts : get_or a.group_words.now (5 * (get_or a.index.now c.loop-r.r 0) + 1) 0 < 4294967296 = omega (arith, words (5 * (get_or a.index.now c.loop-r.r 0) + 1)) in
    let room = border_room _ _ _ _ _ _ _ c.loop-r-test.true c.loop-r.invariant.bound p.total (ap (λ (q : PlaneRow). q.count) c.plane_at-plane.ensures) in record {
      plane_floats_in_bounds = omega (arith, q.floats_room, c.loop-r.invariant.floats_long, c.loop-r-test.true);
      plane_words_in_bounds = omega (arith, q.words_room, c.loop-r.invariant.words_long, c.loop-r-test.true);
      small = small_is c.plane_at-plane.result _ _ _ c.bordered-p.ensures.value.0 (rw c.plane_at-plane.ensures starts) (rw c.plane_at-plane.ensures counts) room p.short
          c.bordered-p.ensures.value.1;
    }

pub loop-r-preserved : goal.loop-r-preserved
loop-r-preserved c =
    putting_more _ _ _ _ _ _ _ _ _ _ _ _ _ _ _ _ _ _ _ c.plane_at-plane.result _ c.loop-r.invariant c.loop-r-test.true c.plane_at-plane.ensures c.bordered-p.ensures.value.0 c.bordered-p.ensures.value.1 c.bordered-p.ensures.appended
    c.put_plane.ensures.g_after c.put_plane.ensures.by_index c.put_plane.auto.plane_floats c.put_plane.auto.plane_words c.bordered-p.auto.plane_edges

pub shape_of-plane_floats : goal.shape_of-plane_floats
shape_of-plane_floats c = c.loop-r.invariant.floats_long

pub shape_of-plane_words : goal.shape_of-plane_words
shape_of-plane_words c = c.loop-r.invariant.words_long

pub shape_of-plane_edges : goal.shape_of-plane_edges
shape_of-plane_edges c = c.loop-r.invariant.edges_long

pub returns : goal.returns
returns c =
    let p = c.requires.ranked_lent in
    let q = c.requires.ranked_room in
    let a = c.args in
    let few = sum_le a.group_floats.now a.group_words.now a.index.now c.loop-r.r in record {
      by_index = λ r h. placed_is _ _ _ _ _ _ _ _ _ _ _ _ r (c.loop-r.invariant.each r (omega (arith, h, c.loop-r-test.false)));
      planes_held = all_held _ _ _ _ _ _ _ _ _ _ _ _ _ _ p.held p.below (λ r h. c.loop-r.invariant.each r (omega (arith, h, c.loop-r-test.false))) (omega (arith, c.loop-r.invariant.bound, few, p.total)) (omega (arith, q.edges_room, c.loop-r.invariant.edges_long)) (omega (arith, q.floats_room, c.loop-r.invariant.floats_long)) (omega (arith, q.words_room, c.loop-r.invariant.words_long));
    }
