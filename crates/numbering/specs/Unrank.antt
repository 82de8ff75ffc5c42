-- The walls worked out by division, "without walking the earlier ones". `walls_found` (proofs/Unranked) has it that these are `walls_of`.
use Rattle.std.specs.Prelude.{ℕ, zero, suc, ◌-◌, ◌/◌, ◌%◌, Bool, cond, List, [], ◌∷◌, ◌++◌, length, ltb}
use Rattle.sequences.specs.Allowed.{may}
use Rattle.sequences.specs.Count.{count, series}

-- the number that has q smaller ones among those below n that pass the test
unfoldable pub nth : (ℕ → Bool) → ℕ → ℕ → ℕ
nth t zero q = 0
nth t (suc n) q = cond (ltb q (count t n)) (nth t n q) n

-- the sequence at place i, from 0, of those that go on from s by 1 to d planes: each plane that may follow s has a block of
-- 1 + m + .. + m^(d−1) of them, s and that plane first
unfoldable pub unrank : List ℕ → ℕ → List ℕ → ℕ → List ℕ
unrank on zero s i = []
unrank on (suc d) s i =
    let block = series (length on - 1) (suc d) in
    let t = s ++ nth (may on s) (length on) (i / block) ∷ [] in
    elim (i % block) [ zero ↦ t | suc j ↦ unrank on d t j ]
