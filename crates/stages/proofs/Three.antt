-- Three numbers stored at the front of an area read back.
use mathlib.Core.Path.{◌≡◌, refl}
use mathlib.Core.List.{List, [], ◌∷◌}
use Prim.Native.Nat.{ℕ, ◌≤◌}
use native.Mathlib.Omega.{arith}
use lib.ListN.{length, get_or, set}

pub record Three (l : List ℕ) (a b c : ℕ) : Type 0 where
  pub zeroth : get_or l 0 0 ≡ a
  pub first : get_or l 1 0 ≡ b
  pub second : get_or l 2 0 ≡ c

pub three : (l : List ℕ) (a b c : ℕ) → 3 ≤ length l → Three (set (set (set l 0 a) 1 b) 2 c) a b c
three [] a b c h = absurd (omega arith)
three (x ∷ []) a b c h = absurd (omega arith)
three (x ∷ y ∷ []) a b c h = absurd (omega arith)
three (x ∷ y ∷ z ∷ r) a b c h = record { zeroth = refl; first = refl; second = refl }
