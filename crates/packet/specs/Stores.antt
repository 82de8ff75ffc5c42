-- What a function that stores bytes in an output area promises.
use Rattle.std.specs.Prelude.{ℕ, ◌+◌, ◌≤◌, ◌≡◌, List, length}
use Rattle.std.proofs.lemmas.List.Edits.{sets}

-- out' is out with vs stored from p on, r is the place after them, and they are n at most
pub record Stores (out : List ℕ) (p : ℕ) (vs : List ℕ) (n : ℕ) (out' : List ℕ) (r : ℕ) : Type 0 where
  pub stored : out' ≡ sets out p vs
  pub next : r ≡ p + length vs
  pub short : r ≤ p + n
