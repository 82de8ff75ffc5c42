-- `planes_fit::put_plane` meets its contract: floats and words are copied to their places.
use native.Mathlib.Omega.{arith}
use mathlib.Core.Path.{◌≡◌, ap, ◌∙◌}
use mathlib.Core.List.{List}
use Prim.Native.Nat.{ℕ, ◌+◌, ◌-◌, ◌*◌}
use lib.Ieee.{Float, nan}
use lib.ListN.{length, get_or}
use Rattle.planes_fit.specs.Rows.{floats_of_row, words_of}
use Rattle.planes_fit.proofs.Copying.{beside, row_other, row_stored, stands}
use Rattle.planes_fit.proofs.put_plane.Goals as goal

pub words_of-counts-requires : goal.words_of-counts-requires
words_of-counts-requires c = c.requires.small

pub overflow_mul-g : goal.overflow_mul-g
overflow_mul-g c = omega (arith, c.well_formed, c.requires.plane_floats_in_bounds)

pub overflow_mul-g-2 : goal.overflow_mul-g-2
overflow_mul-g-2 c =
    omega (arith, c.well_formed, c.requires.plane_words_in_bounds)

pub returns : goal.returns
returns c =
    let a = c.args in
    let g = a.g in
    let ys = c.copy_from_slice.new.self in
    let ws = c.copy_from_slice-2.new.self in
    let is : ys ≡ floats_of_row a.r = c.copy_from_slice.ensures.after ∙ c.floats_of-reals.ensures in
    let words_are : ws ≡ words_of a.r = c.copy_from_slice-2.ensures.after ∙ c.words_of-counts.ensures in
    let size : length ys ≡ 12 = ap length is in
    let words_size : length ws ≡ 5 = ap length words_are in
    let n : 12 * g + 12 - 12 * g ≡ 12 = omega arith in
    let m : 5 * g + 5 - 5 * g ≡ 5 = omega arith in
    let p = c.requires.plane_floats_in_bounds in
    let q = c.requires.plane_words_in_bounds in rw (n, m) (
    let floats = stands (12 * g) 12 a.plane_floats.now ys nan size p in
    let words = stands (5 * g) 5 a.plane_words.now ws 0 words_size q in record {
      g_after = row_stored a.plane_floats.now _ a.plane_words.now _ g a.r (λ k h. floats k h ∙ ap (λ (l : List Float). get_or l k nan) is) (λ k h. words k h ∙ ap (λ (l : List ℕ). get_or l k 0) words_are);
      by_index = row_other a.plane_floats.now _ a.plane_words.now _ g (beside (12 * g) 12 a.plane_floats.now ys nan size p) (beside (5 * g) 5 a.plane_words.now ws 0 words_size q);
    }
    )

pub floats_of-reals-requires : goal.floats_of-reals-requires
floats_of-reals-requires c = tt
