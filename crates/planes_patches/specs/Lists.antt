-- Small functions on lists, beside those of `order`.
use Rattle.std.specs.Prelude.{ℕ, suc, Bool, true, false, cond, ◌&&◌, List, [], ◌∷◌}

module _ {A : Type 0} where
  -- x before the rest, where the test passed
  abbrev pub keep_if : Bool → A → List A → List A
  keep_if true x r = x ∷ r
  keep_if false x r = r

  -- the elements that pass the test, in order
  unfoldable pub filter_by : (A → Bool) → List A → List A
  filter_by p [] = []
  filter_by p (x ∷ xs) = keep_if (p x) x (filter_by p xs)

  -- all elements pass
  unfoldable pub all_by : (A → Bool) → List A → Bool
  all_by p [] = true
  all_by p (x ∷ xs) = p x && all_by p xs

  -- how many pass
  unfoldable pub count_by : (A → Bool) → List A → ℕ
  count_by p [] = 0
  count_by p (x ∷ xs) = cond (p x) (suc (count_by p xs)) (count_by p xs)
