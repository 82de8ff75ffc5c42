-- `planes_ranked::ranked_planes` meets its contract: ranking, edges counted, the best planes stored.
use mathlib.Core.Path.{sym, ◌∙◌}
use mathlib.Core.List.{◌++◌}
use Prim.Native.Nat.{◌*◌}
use native.Mathlib.Omega.{arith}
use lib.ListN.{length, take, drop}
use lib.Seq.{length-take-le, length_front}
use Rattle.order.proofs.Laws.{below_take}
use Rattle.planes_ranked.proofs.Ranked.{counts_all, ranking_below, stored_is, order_is, cut_is}
use Rattle.planes_ranked.proofs.ranked_planes.Goals as goal

pub slice_bounds-rank_planes-end : goal.slice_bounds-rank_planes-end
slice_bounds-rank_planes-end c =
    omega (
      arith,
      c.requires.group_planes.few,
      c.requires.triangles_lent.some,
      c.requires.edges_room.keys_room,
    )

pub slice_bounds-rank_planes-end-2 : goal.slice_bounds-rank_planes-end-2
slice_bounds-rank_planes-end-2 c =
    sym (length-take-le c.args.ng c.args.keys.now (omega (
      arith,
      c.requires.group_planes.few,
      c.requires.triangles_lent.some,
      c.requires.edges_room.keys_room,
    )))

pub slice_bounds-rank_planes-end-3 : goal.slice_bounds-rank_planes-end-3
slice_bounds-rank_planes-end-3 c =
    omega (
      arith,
      c.requires.group_planes.few,
      c.requires.triangles_lent.some,
      c.requires.n_in_bounds.0,
    )

pub slice_bounds-rank_planes-end-4 : goal.slice_bounds-rank_planes-end-4
slice_bounds-rank_planes-end-4 c =
    sym (length-take-le c.args.ng c.args.next.now
    (omega (
      arith,
      c.requires.group_planes.few,
      c.requires.triangles_lent.some,
      c.requires.n_in_bounds.0,
    )))

pub rank_planes-requires : goal.rank_planes-requires
rank_planes-requires c =
    let t = c.requires.triangles_lent in let g = c.requires.group_planes in let e = c.requires.edges_room in
    let li = length-take-le c.args.ng c.args.next.now (omega (
      arith,
      c.requires.group_planes.few,
      c.requires.triangles_lent.some,
      c.requires.n_in_bounds.0,
    )) in
    let lh = length-take-le c.args.ng c.args.keys.now (omega (
      arith,
      c.requires.group_planes.few,
      c.requires.triangles_lent.some,
      c.requires.edges_room.keys_room,
    )) in record {
      n_in_bounds = t.columns;
      n_in_bounds_2 = t.named;
      m_le_n = t.some;
      planes_held = rw (li) g.held;
      keys_len = lh ∙ sym li;
      index_len_bound = omega (arith, li, g.few, t.some, t.few);
      index_in_bounds = omega (arith, li, g.few, t.some, e.words_room);
      index_in_bounds_2 = omega (arith, li, g.few, t.some, e.scratch_room);
    }

pub count_edges-requires : goal.count_edges-requires
count_edges-requires c =
    let t = c.requires.triangles_lent in let e = c.requires.edges_room in record {
      n_le_most_triangles = (t.few, t.some, omega (arith, t.columns), c.requires.group_planes.numbered);
      edges_room = record {
        keys_room = omega (
          arith,
          length_front c.args.keys.now c.rank_planes.new.keys c.args.ng c.rank_planes.auto.keys,
          e.keys_room,
        );
        low_keys_room = e.low_keys_room;
        index_room = e.index_room;
        words_room = omega (arith, c.rank_planes.auto.words, e.words_room);
        scratch_room = omega (arith, c.rank_planes.auto.scratch, e.scratch_room);
        numbers_room = e.numbers_room;
        queue_room = e.queue_room;
        offsets_room = e.offsets_room;
      };
    }

pub slice_bounds-put_ranked-end : goal.slice_bounds-put_ranked-end
slice_bounds-put_ranked-end c =
    omega (
      arith,
      length_front c.args.next.now c.rank_planes.new.index c.args.ng c.rank_planes.auto.index,
      c.fewer-few.ensures.0,
      c.requires.group_planes.few,
      c.requires.triangles_lent.some,
      c.requires.n_in_bounds.0,
    )

pub slice_bounds-put_ranked-end-2 : goal.slice_bounds-put_ranked-end-2
slice_bounds-put_ranked-end-2 c =
    sym (length-take-le c.fewer-few.result (c.rank_planes.new.index ++ drop c.args.ng c.args.next.now) (omega (
      arith,
      length_front c.args.next.now c.rank_planes.new.index c.args.ng
          c.rank_planes.auto.index,
      c.fewer-few.ensures.0,
      c.requires.group_planes.few,
      c.requires.triangles_lent.some,
      c.requires.n_in_bounds.0,
    )))

pub overflow_mul-m : goal.overflow_mul-m
overflow_mul-m c =
    omega (
      arith,
      c.requires.triangles_lent.few,
      c.requires.triangles_lent.some,
    )

pub slice_bounds-put_ranked-end-3 : goal.slice_bounds-put_ranked-end-3
slice_bounds-put_ranked-end-3 c =
    omega (
      arith,
      c.count_edges.auto.queue,
      c.requires.edges_room.queue_room,
      c.requires.triangles_lent.some,
    )

pub slice_bounds-put_ranked-end-4 : goal.slice_bounds-put_ranked-end-4
slice_bounds-put_ranked-end-4 c =
    sym (length-take-le (3 * c.args.m) c.count_edges.new.queue (omega (
      arith,
      c.count_edges.auto.queue,
      c.requires.edges_room.queue_room,
      c.requires.triangles_lent.some,
    )))

pub overflow_mul-m-2 : goal.overflow_mul-m-2
overflow_mul-m-2 c =
    omega (
      arith,
      c.requires.triangles_lent.few,
      c.requires.triangles_lent.some,
    )

pub slice_bounds-put_ranked-end-5 : goal.slice_bounds-put_ranked-end-5
slice_bounds-put_ranked-end-5 c =
    omega (
      arith,
      c.count_edges.auto.offsets,
      c.requires.edges_room.offsets_room,
      c.requires.triangles_lent.some,
    )

pub slice_bounds-put_ranked-end-6 : goal.slice_bounds-put_ranked-end-6
slice_bounds-put_ranked-end-6 c =
    sym (length-take-le (3 * c.args.m) c.count_edges.new.offsets (omega (
      arith,
      c.count_edges.auto.offsets,
      c.requires.edges_room.offsets_room,
      c.requires.triangles_lent.some,
    )))

pub put_ranked-requires : goal.put_ranked-requires
put_ranked-requires c =
    let t = c.requires.triangles_lent in let g = c.requires.group_planes in let o = c.requires.n_in_bounds in
    let is = order_is c.args.triangles.now c.args.handles.now c.args.n c.args.m c.args.group_floats.now c.args.group_words.now c.args.plane_triangles.now c.args.plane_of.now c.args.ng
    c.requires.group_planes.held c.requires.group_planes.tris c.rank_planes.new.index (drop c.args.ng
    c.args.next.now) (length (take c.args.ng c.args.next.now)) c.fewer-few.result c.rank_planes.ensures.ranked (length-take-le c.args.ng c.args.next.now (omega (
      arith,
      c.requires.group_planes.few,
      c.requires.triangles_lent.some,
      c.requires.n_in_bounds.0,
    ))) c.fewer-few.ensures.0 in
    let lq = length-take-le (3 * c.args.m) c.count_edges.new.queue (omega (
      arith,
      c.count_edges.auto.queue,
      c.requires.edges_room.queue_room,
      c.requires.triangles_lent.some,
    )) in
    let ls = length-take-le (3 * c.args.m) c.count_edges.new.offsets (omega (
      arith,
      c.count_edges.auto.offsets,
      c.requires.edges_room.offsets_room,
      c.requires.triangles_lent.some,
    )) in
    let lf = length-take-le c.fewer-few.result (c.rank_planes.new.index ++ drop c.args.ng c.args.next.now) (omega (
      arith,
      length_front c.args.next.now c.rank_planes.new.index c.args.ng
          c.rank_planes.auto.index,
      c.fewer-few.ensures.0,
      c.requires.group_planes.few,
      c.requires.triangles_lent.some,
      c.requires.n_in_bounds.0,
    )) in record {
      ranked_lent = record {
        area_room = omega (arith, t.columns);
        few = t.some;
        held = g.held;
        below = rw (is) (below_take c.args.ng c.fewer-few.result _ (ranking_below c.args.triangles.now c.args.handles.now c.args.n c.args.m c.args.group_floats.now c.args.group_words.now c.args.plane_triangles.now c.args.plane_of.now c.args.ng
            c.requires.group_planes.held c.requires.group_planes.tris));
        total = rw (is) (counts_all c.args.triangles.now c.args.handles.now c.args.n c.args.m c.args.group_floats.now c.args.group_words.now c.args.plane_triangles.now c.args.plane_of.now c.args.ng c.requires.group_planes.held c.requires.group_planes.tris c.fewer-few.result);
        first_room = lq;
        first_below = rw (ls) c.count_edges.ensures.below;
        short = omega (arith, t.few, t.some);
      };
      ranked_room = record {
        floats_room = omega (arith, lf, c.fewer-few.ensures.0, g.few, t.some, o.1.floats_room);
        words_room = omega (arith, lf, c.fewer-few.ensures.0, g.few, t.some, o.1.words_room);
        edges_room = omega (arith, t.some, o.1.edges_room);
      };
    }

pub shape_of-keys : goal.shape_of-keys
shape_of-keys c =
    c.count_edges.auto.keys ∙ length_front c.args.keys.now c.rank_planes.new.keys
    c.args.ng c.rank_planes.auto.keys

pub shape_of-low_keys : goal.shape_of-low_keys
shape_of-low_keys c = c.count_edges.auto.low_keys

pub shape_of-index : goal.shape_of-index
shape_of-index c = c.count_edges.auto.index

pub shape_of-words : goal.shape_of-words
shape_of-words c = c.count_edges.auto.words
    ∙ c.rank_planes.auto.words

pub shape_of-scratch : goal.shape_of-scratch
shape_of-scratch c = c.count_edges.auto.scratch
    ∙ c.rank_planes.auto.scratch

pub shape_of-numbers : goal.shape_of-numbers
shape_of-numbers c = c.count_edges.auto.numbers

pub shape_of-queue : goal.shape_of-queue
shape_of-queue c = c.count_edges.auto.queue

pub shape_of-offsets : goal.shape_of-offsets
shape_of-offsets c = c.count_edges.auto.offsets

pub shape_of-next : goal.shape_of-next
shape_of-next c =
    length_front c.args.next.now c.rank_planes.new.index c.args.ng c.rank_planes.auto.index

pub shape_of-plane_floats : goal.shape_of-plane_floats
shape_of-plane_floats c = c.put_ranked.auto.plane_floats

pub shape_of-plane_words : goal.shape_of-plane_words
shape_of-plane_words c = c.put_ranked.auto.plane_words

pub shape_of-plane_edges : goal.shape_of-plane_edges
shape_of-plane_edges c = c.put_ranked.auto.plane_edges

pub returns : goal.returns
returns c =
    let same-length-3 = c.count_edges.auto.index in
    let same-length-2 = c.count_edges.auto.low_keys in
    let same-length-6 = c.count_edges.auto.numbers in
    let same-length-7 = c.count_edges.auto.queue in
    let same-length-5 = c.count_edges.auto.scratch
    ∙ c.rank_planes.auto.scratch in
    let same-length-9 = length_front c.args.next.now c.rank_planes.new.index c.args.ng c.rank_planes.auto.index in
    let same-length-4 = c.count_edges.auto.words
    ∙ c.rank_planes.auto.words in
    let same-length-8 = c.count_edges.auto.offsets in
    let same_length = c.count_edges.auto.keys ∙ length_front c.args.keys.now c.rank_planes.new.keys
    c.args.ng c.rank_planes.auto.keys in
    let is = order_is c.args.triangles.now c.args.handles.now c.args.n c.args.m c.args.group_floats.now c.args.group_words.now c.args.plane_triangles.now c.args.plane_of.now c.args.ng c.requires.group_planes.held c.requires.group_planes.tris c.rank_planes.new.index
    (drop c.args.ng
    c.args.next.now) (length (take c.args.ng c.args.next.now)) c.fewer-few.result c.rank_planes.ensures.ranked (length-take-le c.args.ng c.args.next.now (omega (
      arith,
      c.requires.group_planes.few,
      c.requires.triangles_lent.some,
      c.requires.n_in_bounds.0,
    ))) c.fewer-few.ensures.0 in
    let w = c.fewer-few.ensures in
    let lf = length-take-le c.fewer-few.result (c.rank_planes.new.index ++ drop c.args.ng c.args.next.now) (omega (
      arith,
      length_front c.args.next.now c.rank_planes.new.index c.args.ng
          c.rank_planes.auto.index,
      c.fewer-few.ensures.0,
      c.requires.group_planes.few,
      c.requires.triangles_lent.some,
      c.requires.n_in_bounds.0,
    )) in record {
      result_after = stored_is c.args.triangles.now c.args.handles.now c.args.n c.args.m c.args.group_floats.now c.args.group_words.now c.args.plane_triangles.now c.args.plane_of.now c.args.ng c.requires.group_planes.held c.requires.group_planes.tris (take (3 * c.args.m) c.count_edges.new.queue) (take
          (3 * c.args.m) c.count_edges.new.offsets) c.count_edges.ensures.once_counted (take c.fewer-few.result (c.rank_planes.new.index ++ drop c.args.ng c.args.next.now)) c.put_ranked.new.plane_floats
          c.put_ranked.new.plane_words c.put_ranked.new.plane_edges c.args.most c.fewer-few.result is w.0 (cut_is c.args.triangles.now c.args.handles.now
          c.args.n c.args.m
          c.args.group_floats.now c.args.group_words.now c.args.plane_triangles.now
          c.args.plane_of.now c.args.ng c.requires.group_planes.held c.requires.group_planes.tris c.fewer-few.result c.args.most w.2 w.3) c.put_ranked.ensures.by_index;
      upper_bound = (w.1, rw (← lf) c.put_ranked.ensures.planes_held);
      rest = (same_length, same-length-2, same-length-3, same-length-4, same-length-5, same-length-6, same-length-7, same-length-8, same-length-9);
    }
