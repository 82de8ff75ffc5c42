-- `planes::build_planes` meets its contract: each step works on what the one before it left.
use lib.ListN.{length}
use mathlib.Core.Path.{refl, sym, ap, ◌∙◌}
use mathlib.Core.List.{List, map}
use native.Mathlib.Nat.{le_trans}
use native.Mathlib.Omega.{arith}
use Rattle.planes_patches.specs.Triangles.{triangles_in}
use Rattle.mirror.specs.Plane.{Plane}
use Rattle.planes_importance.specs.Importance.{ranked_of}
use Rattle.planes_borders.specs.Border.{bordered_of}
use Rattle.planes.specs.Build.{plane_settings, group_planes_of, planes_of_triangles}
use Rattle.planes.proofs.Rooms.{still, still_below, under, three_of, third_of, fifth_of, twelfth_of, rows_of, fewer_rows, seated, seated_below}
use Rattle.planes.proofs.build_planes.Goals as goal

pub slice_bounds-open_patches-end : goal.slice_bounds-open_patches-end
slice_bounds-open_patches-end c = sym c.fresh-first.ensures

pub slice_bounds-open_patches-end-2 : goal.slice_bounds-open_patches-end-2
slice_bounds-open_patches-end-2 c = sym c.fresh-next.ensures

pub slice_bounds-open_patches-end-3 : goal.slice_bounds-open_patches-end-3
slice_bounds-open_patches-end-3 c = sym c.fresh-of.ensures

pub open_patches-np-requires : goal.open_patches-np-requires
open_patches-np-requires c =
    let n = c.args.n in let t = c.requires.triangles_lent in let p = c.requires.planes_room in record {
      triangles_lent = t;
      open_room = record {
        keys_room = p.keys_room;
        low_keys_room = p.low_keys_room;
        index_room = p.index_room;
        words_room = three_of n p.words_room;
        scratch_room = three_of n p.scratch_room;
        numbers_room = p.numbers_room;
        first_room = seated t c.fresh-first.ensures;
        next_room = seated t c.fresh-next.ensures;
        areas_room = twelfth_of p.floats_room;
        plane_floats_room = rows_of n p.plane_floats_room;
        of_room = seated t c.fresh-of.ensures;
      };
      held = c.requires.held.0;
      count_nonzero = c.requires.held.1;
    }

pub slice_bounds-group_planes-end : goal.slice_bounds-group_planes-end
slice_bounds-group_planes-end c =
    sym (◌∙◌ {b = length c.fresh-of.result} c.open_patches-np.auto.of c.fresh-of.ensures)

pub slice_bounds-group_planes-end-2 : goal.slice_bounds-group_planes-end-2
slice_bounds-group_planes-end-2 c =
    sym (◌∙◌ {b = length c.fresh-next.result} c.open_patches-np.auto.next c.fresh-next.ensures)

pub slice_bounds-group_planes-end-3 : goal.slice_bounds-group_planes-end-3
slice_bounds-group_planes-end-3 c =
    sym (◌∙◌ {b = length c.fresh-first.result} c.open_patches-np.auto.first c.fresh-first.ensures)

pub group_planes-ng-requires : goal.group_planes-ng-requires
group_planes-ng-requires c =
    let t = c.requires.triangles_lent in let p = c.requires.planes_room in let r = c.open_patches-np.ensures.upper_bound in record {
      triangles_lent = t;
      np_le_m = (
        r.0,
        fewer_rows r.0 t.some (still c.open_patches-np.auto.plane_floats p.plane_floats_room),
        le_trans t.some (still c.open_patches-np.auto.of (seated t
            c.fresh-of.ensures)),
      );
      n_in_bounds = (still c.open_patches-np.auto.numbers p.numbers_room, c.open_patches-np.ensures.numbered);
      group_room = record {
        keys_room = third_of (still c.open_patches-np.auto.keys p.keys_room);
        words_room = still c.open_patches-np.auto.words p.words_room;
        scratch_room = still c.open_patches-np.auto.scratch p.scratch_room;
        index_room = third_of (still c.open_patches-np.auto.index p.index_room);
        next_room = still_below c.open_patches-np.auto.next (seated_below t
            c.fresh-next.ensures);
        adjacency_room = p.adjacency_room;
        plane_triangles_room = p.plane_triangles_room;
        first_room = still c.open_patches-np.auto.first (seated t
            c.fresh-first.ensures);
        plane_words_room = fifth_of p.plane_words_room;
        queue_room = p.queue_room;
        offsets_room = p.offsets_room;
        floats_room = still c.open_patches-np.auto.areas p.floats_room;
      };
    }

pub overflow_cast-settings : goal.overflow_cast-settings
overflow_cast-settings c = omega (arith, c.struct_known-1.given)

pub slice_bounds-ranked_planes-end : goal.slice_bounds-ranked_planes-end
slice_bounds-ranked_planes-end c =
    sym (◌∙◌ {b = length c.open_patches-np.new.first} c.group_planes-ng.auto.first
    (◌∙◌ {b = length c.fresh-first.result} c.open_patches-np.auto.first c.fresh-first.ensures))

pub slice_bounds-ranked_planes-end-2 : goal.slice_bounds-ranked_planes-end-2
slice_bounds-ranked_planes-end-2 c =
    sym (◌∙◌ {b = length c.open_patches-np.new.next}
    c.group_planes-ng.auto.next
    (◌∙◌ {b = length c.fresh-next.result} c.open_patches-np.auto.next c.fresh-next.ensures))

pub ranked_planes-requires : goal.ranked_planes-requires
ranked_planes-requires c =
    let n = c.args.n in let t = c.requires.triangles_lent in let p = c.requires.planes_room in record {
      triangles_lent = t;
      group_planes = c.group_planes-ng.ensures.group_planes;
      edges_room = record {
        keys_room = still c.group_planes-ng.auto.keys (still c.open_patches-np.auto.keys p.keys_room);
        low_keys_room = still c.open_patches-np.auto.low_keys p.low_keys_room;
        index_room = still c.group_planes-ng.auto.index (still c.open_patches-np.auto.index p.index_room);
        words_room = three_of n (still c.group_planes-ng.auto.words (still c.open_patches-np.auto.words p.words_room));
        scratch_room = three_of n (still c.group_planes-ng.auto.scratch (still c.open_patches-np.auto.scratch p.scratch_room));
        numbers_room = still c.open_patches-np.auto.numbers p.numbers_room;
        queue_room = still c.group_planes-ng.auto.queue p.queue_room;
        offsets_room = still c.group_planes-ng.auto.offsets (under p.offsets_room);
      };
      n_in_bounds = (
        still c.group_planes-ng.auto.next (still c.open_patches-np.auto.next (seated t
            c.fresh-next.ensures)),
        record {
          floats_room = still c.open_patches-np.auto.plane_floats p.plane_floats_room;
          words_room = still c.group_planes-ng.auto.plane_words p.plane_words_room;
          edges_room = p.plane_edges_room;
        },
      );
    }

pub shape_of-keys : goal.shape_of-keys
shape_of-keys c =
    ◌∙◌ {b = length c.group_planes-ng.new.keys} c.ranked_planes.auto.keys (◌∙◌ {b = length
    c.open_patches-np.new.keys} c.group_planes-ng.auto.keys c.open_patches-np.auto.keys)

pub shape_of-low_keys : goal.shape_of-low_keys
shape_of-low_keys c =
    ◌∙◌ {b = length c.open_patches-np.new.low_keys} c.ranked_planes.auto.low_keys c.open_patches-np.auto.low_keys

pub shape_of-words : goal.shape_of-words
shape_of-words c =
    ◌∙◌ {b = length c.group_planes-ng.new.words} c.ranked_planes.auto.words (◌∙◌ {b = length
    c.open_patches-np.new.words} c.group_planes-ng.auto.words c.open_patches-np.auto.words)

pub shape_of-scratch : goal.shape_of-scratch
shape_of-scratch c =
    ◌∙◌ {b = length c.group_planes-ng.new.scratch} c.ranked_planes.auto.scratch (◌∙◌ {b = length
    c.open_patches-np.new.scratch} c.group_planes-ng.auto.scratch c.open_patches-np.auto.scratch)

pub shape_of-index : goal.shape_of-index
shape_of-index c =
    ◌∙◌ {b = length c.group_planes-ng.new.index} c.ranked_planes.auto.index (◌∙◌ {b = length
    c.open_patches-np.new.index} c.group_planes-ng.auto.index c.open_patches-np.auto.index)

pub shape_of-numbers : goal.shape_of-numbers
shape_of-numbers c =
    ◌∙◌ {b = length c.open_patches-np.new.numbers} c.ranked_planes.auto.numbers
    c.open_patches-np.auto.numbers

pub shape_of-adjacency : goal.shape_of-adjacency
shape_of-adjacency c = c.group_planes-ng.auto.adjacency

pub shape_of-queue : goal.shape_of-queue
shape_of-queue c =
    ◌∙◌ {b = length c.group_planes-ng.new.queue} c.ranked_planes.auto.queue
    c.group_planes-ng.auto.queue

pub shape_of-offsets : goal.shape_of-offsets
shape_of-offsets c =
    ◌∙◌ {b = length c.group_planes-ng.new.offsets} c.ranked_planes.auto.offsets
    c.group_planes-ng.auto.offsets

pub shape_of-floats : goal.shape_of-floats
shape_of-floats c =
    ◌∙◌ {b = length c.open_patches-np.new.areas}
    c.group_planes-ng.auto.floats c.open_patches-np.auto.areas

pub shape_of-plane_triangles : goal.shape_of-plane_triangles
shape_of-plane_triangles c = c.group_planes-ng.auto.plane_triangles

pub shape_of-plane_floats : goal.shape_of-plane_floats
shape_of-plane_floats c =
    ◌∙◌ {b = length c.open_patches-np.new.plane_floats} c.ranked_planes.auto.plane_floats
    c.open_patches-np.auto.plane_floats

pub shape_of-plane_words : goal.shape_of-plane_words
shape_of-plane_words c =
    ◌∙◌ {b = length c.group_planes-ng.new.plane_words} c.ranked_planes.auto.plane_words
    c.group_planes-ng.auto.plane_words

pub shape_of-plane_edges : goal.shape_of-plane_edges
shape_of-plane_edges c = c.ranked_planes.auto.plane_edges

pub returns : goal.returns
unfolding planes_of_triangles
returns c =
    let same-length-5 = ◌∙◌ {b = length c.group_planes-ng.new.index} c.ranked_planes.auto.index (◌∙◌ {b = length
    c.open_patches-np.new.index} c.group_planes-ng.auto.index c.open_patches-np.auto.index) in
    let same-length-8 = ◌∙◌ {b = length c.group_planes-ng.new.queue} c.ranked_planes.auto.queue
    c.group_planes-ng.auto.queue in
    let same-length-2 = ◌∙◌ {b = length c.open_patches-np.new.low_keys} c.ranked_planes.auto.low_keys c.open_patches-np.auto.low_keys in
    let same-length-9 = ◌∙◌ {b = length c.group_planes-ng.new.offsets} c.ranked_planes.auto.offsets
    c.group_planes-ng.auto.offsets in
    let same-length-7 = c.group_planes-ng.auto.adjacency in
    let same-length-3 = ◌∙◌ {b = length c.group_planes-ng.new.words} c.ranked_planes.auto.words (◌∙◌ {b = length
    c.open_patches-np.new.words} c.group_planes-ng.auto.words c.open_patches-np.auto.words) in
    let same-length-10 = ◌∙◌ {b = length c.open_patches-np.new.areas}
    c.group_planes-ng.auto.floats c.open_patches-np.auto.areas in
    let same-length-4 = ◌∙◌ {b = length c.group_planes-ng.new.scratch} c.ranked_planes.auto.scratch (◌∙◌ {b = length
    c.open_patches-np.new.scratch} c.group_planes-ng.auto.scratch c.open_patches-np.auto.scratch) in
    let same-length-6 = ◌∙◌ {b = length c.open_patches-np.new.numbers} c.ranked_planes.auto.numbers
    c.open_patches-np.auto.numbers in
    let same_length = ◌∙◌ {b = length c.group_planes-ng.new.keys} c.ranked_planes.auto.keys (◌∙◌ {b = length
    c.open_patches-np.new.keys} c.group_planes-ng.auto.keys c.open_patches-np.auto.keys) in
    let a = c.args in let s = plane_settings a.settings in let ts = triangles_in a.triangles.now a.bvh.now.handles.now a.n a.m in
    let r = c.ranked_planes.ensures in record {
      by_index = λ tri k h. r.result_after ∙ ap (λ (ps : List Plane). map (bordered_of ts) (ranked_of ts s.most ps))
          (c.group_planes-ng.ensures.result_after s refl refl refl ∙ ap (group_planes_of s ts) (c.open_patches-np.ensures.result_after s tri k refl h));
      upper_bound = r.upper_bound;
      rest = (same_length, same-length-2, same-length-3, same-length-4, same-length-5, same-length-6, same-length-7, same-length-8, same-length-9, same-length-10);
    }
