-- `planes_faces::first_faces` meets its contract: corners get numbers, the three numbers of a face are sorted and packed into the room of the corner keys,
-- and the first of each packed key is found (`new_is`).
use mathlib.Core.Path.{◌≡◌, sym, ap, ◌∙◌, subst}
use mathlib.Core.List.{List, ◌++◌}
use Prim.Native.Nat.{ℕ, ◌*◌, ◌<◌}
use native.Mathlib.Omega.{arith}
use lib.ListN.{length, get_or, take, drop}
use lib.Seq.{length-take-le, length_front, take_at}
use Rattle.order.specs.Sort.{Below}
use Rattle.order.specs.Runs.{first_at}
use Rattle.planes_faces.specs.Numbers.{key_at}
use Rattle.planes_faces.proofs.Packing.{new_is}
use Rattle.planes_faces.proofs.first_faces.Goals as goal

-- the face keys, as the first n of the room of the corner keys
kept_length : (n : ℕ) (s ys : List ℕ) → length s ≡ 3 * n → length ys ≡ length (take n s) → length ys ≡ n
kept_length n s ys e k = k ∙ length-take-le n s (omega arith)

room : (n : ℕ) (s ys : List ℕ) → length s ≡ 3 * n → length ys ≡ length (take n s) → take n (ys ++ drop n s) ≡ ys
room n s ys e k = take_at ys (drop n s) n (kept_length n s ys e k)

pub first_indexes-requires : goal.first_indexes-requires
first_indexes-requires c =
    let v = c.requires.vhi_len in record {
      keys_len_bound = omega (arith, c.requires.n_bound, v);
      low_keys_len = c.requires.vlo_len ∙ sym v;
      below = c.requires.below;
      index_len = c.requires.index_len ∙ sym v;
      keys_in_bounds = omega (arith, v, c.requires.n_in_bounds);
      keys_in_bounds_2 = omega (arith, v, c.requires.n_in_bounds_2);
      keys_in_bounds_3 = omega (arith, v, c.requires.n_in_bounds_3);
    }

pub slice_bounds-face_keys-end : goal.slice_bounds-face_keys-end
slice_bounds-face_keys-end c = omega (arith, c.requires.vhi_len)

pub slice_bounds-face_keys-end-2 : goal.slice_bounds-face_keys-end-2
slice_bounds-face_keys-end-2 c = sym (length-take-le c.args.n c.args.vhi.now (omega (arith, c.requires.vhi_len)))

pub slice_bounds-face_keys-end-3 : goal.slice_bounds-face_keys-end-3
slice_bounds-face_keys-end-3 c = omega (arith, c.requires.vlo_len)

pub slice_bounds-face_keys-end-4 : goal.slice_bounds-face_keys-end-4
slice_bounds-face_keys-end-4 c = sym (length-take-le c.args.n c.args.vlo.now (omega (arith, c.requires.vlo_len)))

pub face_keys-requires : goal.face_keys-requires
face_keys-requires c = record {
  n_in_bounds = omega (arith, c.first_indexes.auto.first, c.requires.n_in_bounds_3);
  keys_len = length-take-le c.args.n c.args.vhi.now (omega (arith, c.requires.vhi_len));
  low_keys_len = length-take-le c.args.n c.args.vlo.now (omega (arith, c.requires.vlo_len));
}

pub slice_bounds-first_indexes-end : goal.slice_bounds-first_indexes-end
slice_bounds-first_indexes-end c =
    let k = length_front c.args.vhi.now c.face_keys.new.keys c.args.n c.face_keys.auto.keys in
    omega (arith, k, c.requires.vhi_len)

pub slice_bounds-first_indexes-end-2 : goal.slice_bounds-first_indexes-end-2
slice_bounds-first_indexes-end-2 c =
    sym (ap length (room c.args.n c.args.vhi.now c.face_keys.new.keys c.requires.vhi_len c.face_keys.auto.keys) ∙ kept_length c.args.n c.args.vhi.now c.face_keys.new.keys c.requires.vhi_len c.face_keys.auto.keys)

pub slice_bounds-first_indexes-end-3 : goal.slice_bounds-first_indexes-end-3
slice_bounds-first_indexes-end-3 c =
    let k = length_front c.args.vlo.now c.face_keys.new.low_keys c.args.n c.face_keys.auto.low_keys in
    omega (arith, k, c.requires.vlo_len)

pub slice_bounds-first_indexes-end-4 : goal.slice_bounds-first_indexes-end-4
slice_bounds-first_indexes-end-4 c =
    sym (ap length (room c.args.n c.args.vlo.now c.face_keys.new.low_keys c.requires.vlo_len c.face_keys.auto.low_keys) ∙ kept_length c.args.n c.args.vlo.now c.face_keys.new.low_keys c.requires.vlo_len c.face_keys.auto.low_keys)

pub slice_bounds-first_indexes-end-5 : goal.slice_bounds-first_indexes-end-5
slice_bounds-first_indexes-end-5 c = omega (
  arith,
  c.first_indexes.auto.index,
  c.requires.index_len,
)

pub slice_bounds-first_indexes-end-6 : goal.slice_bounds-first_indexes-end-6
slice_bounds-first_indexes-end-6 c =
    sym (length-take-le c.args.n c.first_indexes.new.index (omega (arith, c.first_indexes.auto.index, c.requires.index_len)))

pub first_indexes-requires-2 : goal.first_indexes-requires-2
first_indexes-requires-2 c =
    let th = room c.args.n c.args.vhi.now c.face_keys.new.keys c.requires.vhi_len c.face_keys.auto.keys in
    let tl = room c.args.n c.args.vlo.now c.face_keys.new.low_keys c.requires.vlo_len c.face_keys.auto.low_keys in
    let kh = ap length th ∙ kept_length c.args.n c.args.vhi.now c.face_keys.new.keys c.requires.vhi_len c.face_keys.auto.keys in
    let kl = ap length tl ∙ kept_length c.args.n c.args.vlo.now c.face_keys.new.low_keys c.requires.vlo_len c.face_keys.auto.low_keys in
    let ki = length-take-le c.args.n c.first_indexes.new.index (omega (arith, c.first_indexes.auto.index, c.requires.index_len)) in record {
      keys_len_bound = omega (arith, kh, c.requires.n_bound);
      low_keys_len = kl ∙ sym kh;
      below = subst (Below 4294967296) (sym tl) c.face_keys.ensures.below;
      index_len = ki ∙ sym kh;
      keys_in_bounds = omega (arith, kh, c.first_indexes.auto.words, c.requires.n_in_bounds);
      keys_in_bounds_2 = omega (arith, kh, c.first_indexes.auto.scratch, c.requires.n_in_bounds_2);
      keys_in_bounds_3 = omega (arith, kh, c.requires.n_in_bounds_4);
    }

pub shape_of-vhi : goal.shape_of-vhi
shape_of-vhi c = length_front c.args.vhi.now c.face_keys.new.keys c.args.n c.face_keys.auto.keys

pub shape_of-vlo : goal.shape_of-vlo
shape_of-vlo c = length_front c.args.vlo.now c.face_keys.new.low_keys c.args.n c.face_keys.auto.low_keys

pub shape_of-index : goal.shape_of-index
shape_of-index c = length_front c.first_indexes.new.index c.first_indexes-2.new.index c.args.n c.first_indexes-2.auto.index ∙ c.first_indexes.auto.index

pub returns : goal.returns
returns c =
    let th = room c.args.n c.args.vhi.now c.face_keys.new.keys c.requires.vhi_len c.face_keys.auto.keys in
    let tl = room c.args.n c.args.vlo.now c.face_keys.new.low_keys c.requires.vlo_len c.face_keys.auto.low_keys in
    let kh = ap length th ∙ kept_length c.args.n c.args.vhi.now c.face_keys.new.keys c.requires.vhi_len c.face_keys.auto.keys in
    let named : (q : ℕ) → q < 3 * c.args.n → get_or c.first_indexes.new.first q 0 ≡ first_at (key_at c.args.vhi.now c.args.vlo.now) q = λ q l. c.first_indexes.ensures.firsts q (omega (arith, c.requires.vhi_len, l)) in record {
      by_index = named;
      by_index_2 = λ i h.
          new_is c.args.n (key_at c.args.vhi.now c.args.vlo.now) (key_at c.face_keys.new.keys c.face_keys.new.low_keys) c.first_indexes.new.first c.requires.n_bound
          named c.face_keys.ensures.by_index i (get_or c.first_indexes-2.new.first i 0) h
          (c.first_indexes-2.ensures.firsts i (omega (arith, kh, h)) ∙ ap (λ (z : List ℕ). first_at (key_at z (take c.args.n (c.face_keys.new.low_keys ++ drop c.args.n c.args.vlo.now))) i) th ∙ ap (λ (z : List ℕ). first_at (key_at c.face_keys.new.keys z) i) tl);
    }
