-- What `takes` rests on: tests one after another, and the triangles of a row.
use mathlib.Core.Path.{◌≡◌, refl, sym, ap, ◌∙◌}
use mathlib.Core.Bool.{Bool, true, false, ◌&&◌}
use mathlib.Core.List.{List}
use Prim.Native.Nat.{ℕ, suc, ◌+◌, ◌%◌, ◌<◌, ◌≤◌}
use native.Mathlib.Numerals.{add-one}
use native.Mathlib.Omega.{arith}
use lib.ListN.{length, get_or, drop, drop_of_length-le}
use lib.Seq.{drop-cons}
use Rattle.order.specs.Sort.{Below}
use Rattle.planes_patches.specs.Lists.{all_by}
use Rattle.planes_links.specs.Words.{lows}
use Rattle.planes_links.proofs.Linking.{low_at_lem, lows_length}

module _ (f : ℕ → Bool) (xs : List ℕ) (i : ℕ) where
  pub all_next : i < length xs → f (get_or xs i 0) ≡ true → all_by f (drop (i + 1) xs) ≡ all_by f (drop i xs)
  unfolding all_by
  all_next h e = ap (λ (k : ℕ). all_by f (drop k xs)) (add-one i) ∙ sym (ap (all_by f) (drop-cons xs i 0 h) ∙ ap (λ (b : Bool). b && all_by f (drop (suc i) xs)) e)

  pub all_stop : i < length xs → f (get_or xs i 0) ≡ false → false ≡ all_by f (drop i xs)
  unfolding all_by
  all_stop h e = sym (ap (all_by f) (drop-cons xs i 0 h) ∙ ap (λ (b : Bool). b && all_by f (drop (suc i) xs)) e)

  pub all_end : length xs ≤ i → true ≡ all_by f (drop i xs)
  unfolding all_by
  all_end h = sym (ap (all_by f) (drop_of_length-le xs h))

pub and_one : (b : Bool) → b ≡ b && true
and_one true = refl
and_one false = refl

pub low_below : (n : ℕ) (tris : List ℕ) (i : ℕ) → Below n (lows tris) → i < length tris → get_or tris i 0 % 4096 < n
unfolding Below
low_below n tris i b h = let l = b i (rw (lows_length tris) h) in let e = low_at_lem tris i in omega arith
