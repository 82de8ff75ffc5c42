-- The least lengths one after the other; areas of these lengths are not short.
use mathlib.Core.Path.{◌≡◌, refl, sym, ◌∙◌}
use mathlib.Core.Bool.{false}
use mathlib.Core.List.{List, [], ◌∷◌, map}
use Prim.Native.Nat.{ℕ, zero, suc, ◌+◌, ◌*◌, ◌≤◌, ◌<◌}
use native.Mathlib.Numerals.{add-one}
use native.Mathlib.Omega.{arith}
use borrow.Author.Tests.{le-ltb}
use lib.ListN.{length, take, get_or, set}
use lib.Seq.{take-suc, take-suc-set}
use Rattle.scene.specs.Areas.{Area, area_table, least_of, short_in, short_of}
use Rattle.scene.proofs.Rooms.{triples_of, candidates_of, more_of}
use Rattle.exports.specs.Lengths.{least_lengths_of}

-- that of area i, by the table's columns
least_at :
    (table : List Area) (i t c : ℕ) → i < length table →
    get_or (map (λ (a : Area). least_of a t c) table) i 0
    ≡ get_or (triples_of table) i 0 * t + get_or (candidates_of table) i 0 * c + get_or (more_of table) i 0
least_at [] i t c h = absurd (omega arith)
least_at (a ∷ rest) zero t c h = refl
least_at (a ∷ rest) (suc i) t c h = least_at rest i t c (omega arith)

-- one more of them
pub put_one :
    (lens : List ℕ) (i t c : ℕ) → i < 20 → i < length lens → take i lens ≡ take i (least_lengths_of t c) →
    take (i + 1) (set lens i (get_or (triples_of area_table) i 0 * t + get_or (candidates_of area_table) i 0 * c + get_or (more_of area_table) i 0))
    ≡ take (i + 1) (least_lengths_of t c)
put_one lens i t c h k e = rw (add-one, ← least_at area_table i t c h, take-suc-set lens i (get_or (least_lengths_of t c) i 0) k, take-suc (least_lengths_of t c) i 0 h, e)

not_short : (table : List Area) (t c : ℕ) → short_in table t c (map (λ (a : Area). least_of a t c) table) ≡ false
unfolding short_in
not_short [] t c = refl
not_short (a ∷ rest) t c = rw (le-ltb (least_of a t c) (least_of a t c) (omega arith), not_short rest t c)

-- refusal 5 takes areas of these lengths
pub least_not_short : (t c : ℕ) → short_of t c (least_lengths_of t c) ≡ false
least_not_short t c = not_short area_table t c
