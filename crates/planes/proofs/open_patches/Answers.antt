-- `planes::open_patches` meets its contract: the steps in turn.
use lib.ListN.{length}
use mathlib.Core.Path.{sym, ◌∙◌}
use native.Mathlib.Nat.{le_trans}
use native.Mathlib.Omega.{arith}
use Prim.Native.Nat.{◌*◌}
use lib.Seq.{length-take-le, length_front}
use Rattle.planes.specs.Build.{open_patches_of}
use Rattle.planes.proofs.open_patches.Goals as goal

pub overflow_mul-n : goal.overflow_mul-n
overflow_mul-n c = omega (arith, c.requires.triangles_lent.few)

pub slice_bounds-duplicates-end : goal.slice_bounds-duplicates-end
slice_bounds-duplicates-end c = c.requires.open_room.keys_room

pub slice_bounds-duplicates-end-2 : goal.slice_bounds-duplicates-end-2
slice_bounds-duplicates-end-2 c =
    sym (length-take-le (3 * c.args.n) c.args.keys.now c.requires.open_room.keys_room)

pub overflow_mul-n-2 : goal.overflow_mul-n-2
overflow_mul-n-2 c = omega (arith, c.requires.triangles_lent.few)

pub slice_bounds-duplicates-end-3 : goal.slice_bounds-duplicates-end-3
slice_bounds-duplicates-end-3 c = c.requires.open_room.low_keys_room

pub slice_bounds-duplicates-end-4 : goal.slice_bounds-duplicates-end-4
slice_bounds-duplicates-end-4 c =
    sym (length-take-le (3 * c.args.n) c.args.low_keys.now c.requires.open_room.low_keys_room)

pub overflow_mul-n-3 : goal.overflow_mul-n-3
overflow_mul-n-3 c = omega (arith, c.requires.triangles_lent.few)

pub slice_bounds-duplicates-end-5 : goal.slice_bounds-duplicates-end-5
slice_bounds-duplicates-end-5 c = c.requires.open_room.index_room

pub slice_bounds-duplicates-end-6 : goal.slice_bounds-duplicates-end-6
slice_bounds-duplicates-end-6 c =
    sym (length-take-le (3 * c.args.n) c.args.index.now c.requires.open_room.index_room)

pub duplicates-requires : goal.duplicates-requires
duplicates-requires c =
    let t = c.requires.triangles_lent in let f = c.requires.open_room in record {
      n_bound = omega (arith, t.few);
      n_in_bounds = t.columns;
      vhi_len = length-take-le (3 * c.args.n) c.args.keys.now c.requires.open_room.keys_room;
      vlo_len = length-take-le
          (3 * c.args.n) c.args.low_keys.now c.requires.open_room.low_keys_room;
      index_len = length-take-le (3 * c.args.n) c.args.index.now c.requires.open_room.index_room;
      n_in_bounds_2 = f.words_room;
      n_in_bounds_3 = f.scratch_room;
      n_in_bounds_4 = f.numbers_room;
      n_in_bounds_5 = f.first_room;
    }

pub slice_bounds-coplanar_patches-end : goal.slice_bounds-coplanar_patches-end
slice_bounds-coplanar_patches-end c = sym c.fresh_heads-heads.ensures

pub coplanar_patches-np-requires : goal.coplanar_patches-np-requires
coplanar_patches-np-requires c =
    let t = c.requires.triangles_lent in let f = c.requires.open_room in record {
      n_in_bounds = (t.columns, t.named, t.some, omega (arith, t.few, t.some), omega (arith, c.duplicates.auto.first, f.first_room, t.some));
      heads_len = (
        c.fresh_heads-heads.ensures,
        omega (arith, f.plane_floats_room, t.some),
        omega (
          arith,
          length_front c.args.keys.now
              c.duplicates.new.vhi (3 * c.args.n) c.duplicates.auto.vhi,
          f.keys_room,
          t.some,
        ),
        omega (arith, f.next_room, t.some),
        omega (arith, f.of_room, t.some),
      );
      by_index = λ i h. c.duplicates.ensures.by_index i (omega (arith, h, t.some));
    }

pub open_patches-requires : goal.open_patches-requires
open_patches-requires c =
    let t = c.requires.triangles_lent in let p = c.requires.open_room in let r = c.coplanar_patches-np.ensures.upper_bound in record {
      n_in_bounds = (t.columns, t.named, t.some, omega (arith, t.few, t.some), omega (arith, c.coplanar_patches-np.auto.of, p.of_room, t.some));
      np_le_m = (
        r.0,
        omega (arith, r.0, p.areas_room, t.some),
        omega (arith, r.0, c.coplanar_patches-np.auto.next, p.next_room, t.some),
        omega
            (arith, r.0, c.duplicates.auto.first, p.first_room, t.some),
        omega (arith, r.0, c.coplanar_patches-np.auto.rows, p.plane_floats_room, t.some),
      );
      held = c.requires.held;
      count_nonzero = c.requires.count_nonzero;
      numbered = r.1;
    }

pub shape_of-keys : goal.shape_of-keys
shape_of-keys c =
    c.coplanar_patches-np.auto.cells ∙ length_front c.args.keys.now c.duplicates.new.vhi (3 * c.args.n) c.duplicates.auto.vhi

pub shape_of-low_keys : goal.shape_of-low_keys
shape_of-low_keys c =
    length_front c.args.low_keys.now c.duplicates.new.vlo (3 * c.args.n) c.duplicates.auto.vlo

pub shape_of-index : goal.shape_of-index
shape_of-index c =
    length_front c.args.index.now c.duplicates.new.index (3 * c.args.n) c.duplicates.auto.index

pub shape_of-words : goal.shape_of-words
shape_of-words c = c.duplicates.auto.words

pub shape_of-scratch : goal.shape_of-scratch
shape_of-scratch c = c.duplicates.auto.scratch

pub shape_of-numbers : goal.shape_of-numbers
shape_of-numbers c = c.duplicates.auto.numbers

pub shape_of-first : goal.shape_of-first
shape_of-first c =
    ◌∙◌ {b = length c.duplicates.new.first} c.open_patches.auto.flags c.duplicates.auto.first

pub shape_of-next : goal.shape_of-next
shape_of-next c =
    ◌∙◌ {b = length c.coplanar_patches-np.new.next} c.open_patches.auto.largest c.coplanar_patches-np.auto.next

pub shape_of-areas : goal.shape_of-areas
shape_of-areas c = c.open_patches.auto.areas

pub shape_of-plane_floats : goal.shape_of-plane_floats
shape_of-plane_floats c =
    ◌∙◌ {b = length c.coplanar_patches-np.new.rows} c.open_patches.auto.rows c.coplanar_patches-np.auto.rows

pub shape_of-of : goal.shape_of-of
shape_of-of c =
    ◌∙◌ {b = length c.coplanar_patches-np.new.of} c.open_patches.auto.of c.coplanar_patches-np.auto.of

pub returns : goal.returns
unfolding open_patches_of
returns c = let r = c.open_patches.ensures in record {
  result_after = λ s tri k b h. r.by_index tri k h ∙ rw (← b, c.coplanar_patches-np.ensures.result_after);
  upper_bound = (le_trans r.upper_bound.0 c.coplanar_patches-np.ensures.upper_bound.0, r.upper_bound.1);
  numbered = c.duplicates.ensures.numbered;
}
