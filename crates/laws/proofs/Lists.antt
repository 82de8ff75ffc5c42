-- Lists that loops read and write.
--     fold_step, fold_done     one turn, and the end, of a fold over a list of numbers
--     map_map                  one `map` after another
--     get_or_inside              a place inside the list reads the same whatever stands for one outside
--     zero_of                  so many zeros are as many as the list is long
--     drop_later               what is the same from p on is the same from a later place on
--     emit                     a store at the end of what is done
use mathlib.Core.Path.{◌≡◌, refl, sym, ap, ◌∙◌}
use mathlib.Core.List.{List, [], ◌∷◌, ◌++◌, map, foldl}
use Prim.Native.Nat.{ℕ, zero, suc, ◌+◌, ◌-◌, ◌<◌, ◌≤◌}
use native.Mathlib.Nat.{le_of_suc-le-suc, not-suc-le-zero}
use native.Mathlib.Numerals.{add-one}
use lib.ListN.{length, get_or, set, take, drop, replicate, length-replicate, drop_of_length-le}
use lib.Seq.{drop-cons, take-suc-set, append_snoc}
use borrow.Rule.Slice.PartMut.{Post-is}

pub fold_step : {A : Type 0} (f : A → ℕ → A) (s : A) (xs : List ℕ) (k : ℕ) → k < length xs → foldl f s (drop k xs) ≡ foldl f (f s (get_or xs k 0)) (drop (k + 1) xs)
fold_step f s xs k h = rw (add-one, drop-cons xs k 0 h)

pub fold_done : {A : Type 0} (f : A → ℕ → A) (s : A) (xs : List ℕ) (k : ℕ) → length xs ≤ k → foldl f s (drop k xs) ≡ s
fold_done f s xs k h = rw (drop_of_length-le xs h)

pub map_map : {A B C : Type 0} (f : B → C) (g : A → B) (xs : List A) → map f (map g xs) ≡ map (λ x. f (g x)) xs
map_map f g [] = refl
map_map f g (x ∷ xs) = ap (λ r. f (g x) ∷ r) (map_map f g xs)

-- a place inside the list reads the same whatever stands for one outside
pub get_or_inside : (xs : List ℕ) (i d e : ℕ) → i < length xs → get_or xs i d ≡ get_or xs i e
get_or_inside [] i d e h = absurd (not-suc-le-zero h)
get_or_inside (x ∷ xs) zero d e h = refl
get_or_inside (x ∷ xs) (suc i) d e h = get_or_inside xs i d e (le_of_suc-le-suc h)

-- so many zeros are as many as the list is long
pub zero_of : {A : Type 0} (z : A) (n : ℕ) (l : List A) → l ≡ replicate n z → l ≡ replicate (length l) z
zero_of z n l e = e ∙ ap (λ (k : ℕ). replicate k z) (sym (ap length e ∙ length-replicate n z))

-- what is the same from p on is the same from a later place on
pub drop_later : (p q : ℕ) (s t : List ℕ) → p ≤ q → drop p s ≡ drop p t → drop q s ≡ drop q t
drop_later p q s t h e = sym (Post-is p q s h) ∙ ap (drop (q - p)) e ∙ Post-is p q t h

-- a store at the end of what is done
pub emit : {A : Type 0} (d : List A) (p : ℕ) (x : A) (r rest whole : List A) → p < length d → take p d ++ r ≡ whole → r ≡ x ∷ rest → take (p + 1) (set d p x) ++ rest ≡ whole
emit {A} d p x r rest whole h e s =
    ap (λ (l : List A). l ++ rest) (ap (λ (n : ℕ). take n (set d p x)) (add-one p) ∙ take-suc-set d p x h)
    ∙ append_snoc (take p d) x rest ∙ ap (λ (l : List A). take p d ++ l) (sym s) ∙ e
