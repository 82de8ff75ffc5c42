-- `planes_ranked::count_edges` meets its contract: parts of the areas are lent, and read back as they were left.
use mathlib.Core.Path.{sym, ◌∙◌}
use Prim.Native.Nat.{◌*◌}
use native.Mathlib.Omega.{arith}
use mathlib.Core.List.{◌++◌}
use lib.ListN.{drop}
use lib.Seq.{length-take-le, length_front, take_at}
use Rattle.planes_ranked.proofs.count_edges.Goals as goal

pub overflow_mul-n : goal.overflow_mul-n
overflow_mul-n c = omega (arith, c.requires.n_le_most_triangles.0)

pub slice_bounds-edge_numbers-end : goal.slice_bounds-edge_numbers-end
slice_bounds-edge_numbers-end c = c.requires.edges_room.keys_room

pub slice_bounds-edge_numbers-end-2 : goal.slice_bounds-edge_numbers-end-2
slice_bounds-edge_numbers-end-2 c =
    sym (length-take-le (3 * c.args.n) c.args.keys.now c.requires.edges_room.keys_room)

pub overflow_mul-n-2 : goal.overflow_mul-n-2
overflow_mul-n-2 c = omega (arith, c.requires.n_le_most_triangles.0)

pub slice_bounds-edge_numbers-end-3 : goal.slice_bounds-edge_numbers-end-3
slice_bounds-edge_numbers-end-3 c = c.requires.edges_room.low_keys_room

pub slice_bounds-edge_numbers-end-4 : goal.slice_bounds-edge_numbers-end-4
slice_bounds-edge_numbers-end-4 c =
    sym (length-take-le (3 * c.args.n) c.args.low_keys.now c.requires.edges_room.low_keys_room)

pub overflow_mul-n-3 : goal.overflow_mul-n-3
overflow_mul-n-3 c = omega (arith, c.requires.n_le_most_triangles.0)

pub slice_bounds-edge_numbers-end-5 : goal.slice_bounds-edge_numbers-end-5
slice_bounds-edge_numbers-end-5 c = c.requires.edges_room.index_room

pub slice_bounds-edge_numbers-end-6 : goal.slice_bounds-edge_numbers-end-6
slice_bounds-edge_numbers-end-6 c =
    sym (length-take-le (3 * c.args.n) c.args.index.now c.requires.edges_room.index_room)

pub edge_numbers-requires : goal.edge_numbers-requires
edge_numbers-requires c =
    let e = c.requires.edges_room in record {
      n_bound = (
        omega (arith, c.requires.n_le_most_triangles.0),
        c.requires.n_le_most_triangles.2,
      );
      keys_len = (
        length-take-le (3 * c.args.n) c.args.keys.now c.requires.edges_room.keys_room,
        length-take-le (3 * c.args.n) c.args.low_keys.now c.requires.edges_room.low_keys_room,
        length-take-le (3 * c.args.n) c.args.index.now c.requires.edges_room.index_room,
      );
      n_in_bounds = (e.words_room, e.scratch_room, e.numbers_room);
    }

pub overflow_mul-m : goal.overflow_mul-m
overflow_mul-m c =
    omega (
      arith,
      c.requires.n_le_most_triangles.0,
      c.requires.n_le_most_triangles.1,
    )

pub slice_bounds-count_edges-end : goal.slice_bounds-count_edges-end
slice_bounds-count_edges-end c =
    omega (
      arith,
      length_front c.args.keys.now c.edge_numbers.new.keys (3 * c.args.n) c.edge_numbers.auto.keys,
      c.requires.edges_room.keys_room,
      c.requires.n_le_most_triangles.1,
    )

pub slice_bounds-count_edges-end-2 : goal.slice_bounds-count_edges-end-2
slice_bounds-count_edges-end-2 c =
    sym (length-take-le (3 * c.args.m) ((c.edge_numbers.new.keys ++ drop (3 * c.args.n) c.args.keys.now)) (omega (
      arith,
      length_front c.args.keys.now c.edge_numbers.new.keys (3 * c.args.n) c.edge_numbers.auto.keys,
      c.requires.edges_room.keys_room,
      c.requires.n_le_most_triangles.1,
    )))

pub overflow_mul-m-2 : goal.overflow_mul-m-2
overflow_mul-m-2 c =
    omega (
      arith,
      c.requires.n_le_most_triangles.0,
      c.requires.n_le_most_triangles.1,
    )

pub slice_bounds-count_edges-end-3 : goal.slice_bounds-count_edges-end-3
slice_bounds-count_edges-end-3 c =
    omega (
      arith,
      length_front c.args.low_keys.now c.edge_numbers.new.low_keys (3 * c.args.n) c.edge_numbers.auto.low_keys,
      c.requires.edges_room.low_keys_room,
      c.requires.n_le_most_triangles.1,
    )

pub slice_bounds-count_edges-end-4 : goal.slice_bounds-count_edges-end-4
slice_bounds-count_edges-end-4 c =
    sym (length-take-le (3 * c.args.m) ((c.edge_numbers.new.low_keys ++ drop (3 * c.args.n)
    c.args.low_keys.now)) (omega (
      arith,
      length_front c.args.low_keys.now c.edge_numbers.new.low_keys (3 * c.args.n) c.edge_numbers.auto.low_keys,
      c.requires.edges_room.low_keys_room,
      c.requires.n_le_most_triangles.1,
    )))

pub overflow_mul-m-3 : goal.overflow_mul-m-3
overflow_mul-m-3 c =
    omega (
      arith,
      c.requires.n_le_most_triangles.0,
      c.requires.n_le_most_triangles.1,
    )

pub slice_bounds-count_edges-end-5 : goal.slice_bounds-count_edges-end-5
slice_bounds-count_edges-end-5 c =
    omega (
      arith,
      length_front c.args.index.now c.edge_numbers.new.index (3 * c.args.n) c.edge_numbers.auto.index,
      c.requires.edges_room.index_room,
      c.requires.n_le_most_triangles.1,
    )

pub slice_bounds-count_edges-end-6 : goal.slice_bounds-count_edges-end-6
slice_bounds-count_edges-end-6 c =
    sym (length-take-le (3 * c.args.m) ((c.edge_numbers.new.index ++ drop (3 * c.args.n) c.args.index.now)) (omega (
      arith,
      length_front c.args.index.now c.edge_numbers.new.index (3 * c.args.n) c.edge_numbers.auto.index,
      c.requires.edges_room.index_room,
      c.requires.n_le_most_triangles.1,
    )))

pub overflow_mul-m-4 : goal.overflow_mul-m-4
overflow_mul-m-4 c =
    omega (
      arith,
      c.requires.n_le_most_triangles.0,
      c.requires.n_le_most_triangles.1,
    )

pub slice_bounds-count_edges-end-7 : goal.slice_bounds-count_edges-end-7
slice_bounds-count_edges-end-7 c =
    omega (
      arith,
      c.requires.edges_room.queue_room,
      c.requires.n_le_most_triangles.1,
    )

pub slice_bounds-count_edges-end-8 : goal.slice_bounds-count_edges-end-8
slice_bounds-count_edges-end-8 c =
    sym (length-take-le (3 * c.args.m) c.args.queue.now (omega (
      arith,
      c.requires.edges_room.queue_room,
      c.requires.n_le_most_triangles.1,
    )))

pub overflow_mul-m-5 : goal.overflow_mul-m-5
overflow_mul-m-5 c =
    omega (
      arith,
      c.requires.n_le_most_triangles.0,
      c.requires.n_le_most_triangles.1,
    )

pub slice_bounds-count_edges-end-9 : goal.slice_bounds-count_edges-end-9
slice_bounds-count_edges-end-9 c =
    omega (
      arith,
      c.requires.edges_room.offsets_room,
      c.requires.n_le_most_triangles.1,
    )

pub slice_bounds-count_edges-end-10 : goal.slice_bounds-count_edges-end-10
slice_bounds-count_edges-end-10 c =
    sym (length-take-le (3 * c.args.m) c.args.offsets.now (omega (
      arith,
      c.requires.edges_room.offsets_room,
      c.requires.n_le_most_triangles.1,
    )))

pub count_edges-requires : goal.count_edges-requires
count_edges-requires c =
    let s = c.requires.n_le_most_triangles in let e = c.requires.edges_room in record {
      n_in_bounds = (omega (arith, c.edge_numbers.auto.numbers, e.numbers_room), omega (arith, s.0), omega (arith, s.0, s.1));
      m_le_n = (s.1, s.3);
      keys_len = (
        length-take-le (3 * c.args.m) ((c.edge_numbers.new.keys ++ drop (3 * c.args.n) c.args.keys.now)) (omega (
          arith,
          length_front c.args.keys.now c.edge_numbers.new.keys (3 * c.args.n) c.edge_numbers.auto.keys,
          c.requires.edges_room.keys_room,
          c.requires.n_le_most_triangles.1,
        )),
        length-take-le (3 * c.args.m)
            ((c.edge_numbers.new.low_keys ++ drop (3 * c.args.n) c.args.low_keys.now)) (omega (
              arith,
              length_front c.args.low_keys.now c.edge_numbers.new.low_keys (3 * c.args.n) c.edge_numbers.auto.low_keys,
              c.requires.edges_room.low_keys_room,
              c.requires.n_le_most_triangles.1,
            )),
      );
      index_len = (
        length-take-le (3 * c.args.m) ((c.edge_numbers.new.index ++ drop (3 * c.args.n) c.args.index.now)) (omega (
          arith,
          length_front c.args.index.now c.edge_numbers.new.index (3 * c.args.n) c.edge_numbers.auto.index,
          c.requires.edges_room.index_room,
          c.requires.n_le_most_triangles.1,
        )),
        omega
            (arith, c.edge_numbers.auto.words, e.words_room, s.1),
        omega (arith, c.edge_numbers.auto.scratch, e.scratch_room, s.1),
      );
      first_len = (
        length-take-le (3 * c.args.m) c.args.queue.now (omega (
          arith,
          c.requires.edges_room.queue_room,
          c.requires.n_le_most_triangles.1,
        )),
        length-take-le (3 * c.args.m) c.args.offsets.now (omega (
          arith,
          c.requires.edges_room.offsets_room,
          c.requires.n_le_most_triangles.1,
        )),
      );
    }

pub shape_of-keys : goal.shape_of-keys
shape_of-keys c =
    length_front (c.edge_numbers.new.keys ++ drop (3 * c.args.n) c.args.keys.now) c.count_edges.new.keys (3 * c.args.m) c.count_edges.auto.keys ∙ length_front c.args.keys.now c.edge_numbers.new.keys (3 * c.args.n) c.edge_numbers.auto.keys

pub shape_of-low_keys : goal.shape_of-low_keys
shape_of-low_keys c =
    length_front (c.edge_numbers.new.low_keys ++ drop (3 * c.args.n) c.args.low_keys.now) c.count_edges.new.low_keys (3 * c.args.m) c.count_edges.auto.low_keys ∙ length_front c.args.low_keys.now c.edge_numbers.new.low_keys (3 * c.args.n) c.edge_numbers.auto.low_keys

pub shape_of-index : goal.shape_of-index
shape_of-index c =
    length_front (c.edge_numbers.new.index ++ drop (3 * c.args.n) c.args.index.now) c.count_edges.new.index (3 * c.args.m) c.count_edges.auto.index ∙ length_front c.args.index.now c.edge_numbers.new.index (3 * c.args.n) c.edge_numbers.auto.index

pub shape_of-words : goal.shape_of-words
shape_of-words c = c.count_edges.auto.words
    ∙ c.edge_numbers.auto.words

pub shape_of-scratch : goal.shape_of-scratch
shape_of-scratch c = c.count_edges.auto.scratch
    ∙ c.edge_numbers.auto.scratch

pub shape_of-numbers : goal.shape_of-numbers
shape_of-numbers c = c.edge_numbers.auto.numbers

pub shape_of-queue : goal.shape_of-queue
shape_of-queue c =
    length_front c.args.queue.now c.count_edges.new.first (3 * c.args.m) c.count_edges.auto.first

pub shape_of-offsets : goal.shape_of-offsets
shape_of-offsets c =
    length_front c.args.offsets.now c.count_edges.new.uses (3 * c.args.m) c.count_edges.auto.uses

pub returns : goal.returns
returns c =
    let f = take_at c.count_edges.new.first (drop (3 * c.args.m) c.args.queue.now) (3 * c.args.m) (c.count_edges.auto.first ∙ length-take-le (3 * c.args.m) c.args.queue.now (omega (
      arith,
      c.requires.edges_room.queue_room,
      c.requires.n_le_most_triangles.1,
    ))) in
    let u = take_at c.count_edges.new.uses (drop (3 * c.args.m) c.args.offsets.now) (3 * c.args.m) (c.count_edges.auto.uses ∙ length-take-le (3 * c.args.m) c.args.offsets.now (omega (
      arith,
      c.requires.edges_room.offsets_room,
      c.requires.n_le_most_triangles.1,
    ))) in record {
      below = rw (f) c.count_edges.ensures.below;
      once_counted = rw (f, u) (c.count_edges.ensures.once_counted c.args.triangles.now c.args.n c.requires.n_le_most_triangles.1
          c.edge_numbers.ensures.numbers);
    }
