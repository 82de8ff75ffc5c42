-- Runs of an area that are wiped: read, and written only where something is not zero.
use Rattle.std.specs.Prelude.{ℕ, ◌+◌, ◌<◌, ◌≤◌, ◌≡◌, List, get_or}

-- the n elements from `from` on are z
pub record Run {A : Type 0} (z d : A) (l : List A) (from n : ℕ) : Type 0 where
  pub zeros : (j : ℕ) → j < n → get_or l (from + j) d ≡ z

-- what lies from `from` up to `to` became z, and what was z stays so
pub record Wiped {A : Type 0} (z d : A) (found area : List A) (from to : ℕ) : Type 0 where
  pub stays : (j : ℕ) → get_or found j d ≡ z → get_or area j d ≡ z
  pub done : (j : ℕ) → from ≤ j → j < to → get_or area j d ≡ z

-- two runs of 64
pub record WipedBoth {A : Type 0} (z d : A) (found area : List A) (near far : ℕ) : Type 0 where
  pub stays : (j : ℕ) → get_or found j d ≡ z → get_or area j d ≡ z
  pub near_done : Run z d area near 64
  pub far_done : Run z d area far 64
