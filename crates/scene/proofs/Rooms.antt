-- The test of the areas, one area after the other, and what areas that pass it have.
use mathlib.Core.Path.{◌≡◌, refl}
use mathlib.Core.Bool.{Bool, true, false, ◌&&◌, ◌||◌, true≢false}
use mathlib.Core.List.{List, [], ◌∷◌, map}
use Prim.Native.Nat.{ℕ, zero, suc, ◌+◌, ◌*◌, ◌≤◌, ◌<◌}
use native.Mathlib.Numerals.{add-one}
use native.Mathlib.Nat.{mul-le-mul_right}
use native.Mathlib.Omega.{arith}
use borrow.Author.Tests.{ltb-false, leb-true}
use lib.Dec.{ltb, leb}
use lib.ListN.{length, drop, get_or}
use Rattle.laws.proofs.Bools.{both, neither}
use Rattle.packet.specs.Limits.{out_bytes}
use Rattle.scene.specs.Areas.{Area, area, area_table, least_of, short_in, short_of, Roomy, RoomyIn}

-- ---- the test, area by area

-- the numbers of a table, by column
abbrev pub triples_of : List Area → List ℕ
triples_of table = map (λ (a : Area). a.triples) table

abbrev pub candidates_of : List Area → List ℕ
candidates_of table = map (λ (a : Area). a.candidates) table

abbrev pub more_of : List Area → List ℕ
more_of table = map (λ (a : Area). a.more) table

step :
    (table : List Area) (ls : List ℕ) (i t c : ℕ) → i < length table → i < length ls →
    short_in (drop i table) t c (drop i ls)
    ≡ (ltb (get_or ls i 0) (get_or (triples_of table) i 0 * t + get_or (candidates_of table) i 0 * c + get_or (more_of table) i 0)
    || short_in (drop (suc i) table) t c (drop (suc i) ls))
unfolding short_in
step [] ls i t c h k = absurd (omega arith)
step (a ∷ rest) [] i t c h k = absurd (omega arith)
step (a ∷ rest) (l ∷ ls) zero t c h k = refl
step (a ∷ rest) (l ∷ ls) (suc i) t c h k = step rest ls i t c (omega arith) (omega arith)

-- area i and those after it
pub short_step :
    (ls : List ℕ) (i t c : ℕ) → i < 20 → i < length ls →
    short_in (drop i area_table) t c (drop i ls)
    ≡ (ltb (get_or ls i 0) (get_or (triples_of area_table) i 0 * t + get_or (candidates_of area_table) i 0 * c + get_or (more_of area_table) i 0)
    || short_in (drop (i + 1) area_table) t c (drop (i + 1) ls))
short_step ls i t c h k = rw (add-one) (step area_table ls i t c h k)

-- none is left
pub short_done : (ls : List ℕ) (i t c : ℕ) → i ≡ 20 → short_in (drop i area_table) t c (drop i ls) ≡ false
unfolding short_in
short_done ls i t c e = rw e

-- ---- the numbers of the table are small, so that no least length wraps

abbrev within : ℕ → List ℕ → Bool
within m [] = true
within m (x ∷ xs) = leb x m && within m xs

at_most : (m : ℕ) (xs : List ℕ) (i : ℕ) → within m xs ≡ true → get_or xs i 0 ≤ m
at_most m [] i e = omega arith
at_most m (x ∷ xs) zero e = leb-true x m (both (leb x m) (within m xs) e).one
at_most m (x ∷ xs) (suc i) e = at_most m xs i (both (leb x m) (within m xs) e).two

pub scaled_most : (m : ℕ) (xs : List ℕ) (i k : ℕ) → within m xs ≡ true → get_or xs i 0 * k ≤ m * k
scaled_most m xs i k e = mul-le-mul_right k (at_most m xs i e)

-- area i of the table, in t triples and c candidates
pub record Small (i t c : ℕ) : Type 0 where
  pub triples : get_or (triples_of area_table) i 0 * t ≤ 24 * t
  pub candidates : get_or (candidates_of area_table) i 0 * c ≤ 13 * c
  pub more : get_or (more_of area_table) i 0 ≤ out_bytes

pub small : (i t c : ℕ) → Small i t c
small i t c =
    record {
      triples = scaled_most 24 (triples_of area_table) i t refl;
      candidates = scaled_most 13 (candidates_of area_table) i c refl;
      more = at_most out_bytes (more_of area_table) i refl;
    }

-- ---- what areas that pass have

room :
    (table : List Area) (ls : List ℕ) (t c : ℕ) (none : Area) → short_in table t c ls ≡ false → (i : ℕ) → i < length table →
    least_of (get_or table i none) t c ≤ get_or ls i 0
unfolding short_in
room [] ls t c none e i h = absurd (omega arith)
room (a ∷ rest) [] t c none e i h = absurd (true≢false e)
room (a ∷ rest) (l ∷ ls) t c none e zero h = ltb-false l (least_of a t c) (neither (ltb l (least_of a t c)) (short_in rest t c ls) e).one
room (a ∷ rest) (l ∷ ls) t c none e (suc i) h = room rest ls t c none (neither (ltb l (least_of a t c)) (short_in rest t c ls) e).two i (omega arith)

-- all of them
pub rooms : (t c : ℕ) (lens : List ℕ) → short_of t c lens ≡ false → RoomyIn t c lens
rooms t c lens e =
    let none = area 0 0 0 0 in
    let at : (i : ℕ) → i < 20 → least_of (get_or area_table i none) t c ≤ get_or lens i 0 = λ i h. room area_table lens t c none e i h in
    record {
      triangles_room = omega (arith, at 0 (omega arith));
      handles_room = omega (arith, at 1 (omega arith));
      tree_room = omega (arith, at 2 (omega arith));
      nodes_room = omega (arith, at 3 (omega arith));
      leaf_order_room = omega (arith, at 4 (omega arith));
      keys_room = omega (arith, at 5 (omega arith));
      low_keys_room = omega (arith, at 6 (omega arith));
      words_room = omega (arith, at 7 (omega arith));
      scratch_room = omega (arith, at 8 (omega arith));
      index_room = omega (arith, at 9 (omega arith));
      numbers_room = omega (arith, at 10 (omega arith));
      adjacency_room = omega (arith, at 11 (omega arith));
      queue_room = omega (arith, at 12 (omega arith));
      offsets_room = omega (arith, at 13 (omega arith));
      floats_room = omega (arith, at 14 (omega arith));
      plane_triangles_room = omega (arith, at 15 (omega arith));
      plane_floats_room = omega (arith, at 16 (omega arith));
      plane_words_room = omega (arith, at 17 (omega arith));
      plane_edges_room = omega (arith, at 18 (omega arith));
      output_room = omega (arith, at 19 (omega arith));
    }

-- the same for lengths that are written out
pub roomy :
    (t c columns handles tree nodes perm hi lo words scratch index id linked queue starts gfloats members rows kept edges output : ℕ) →
    short_of t c
    (columns ∷ handles ∷ tree ∷ nodes ∷ perm ∷ hi ∷ lo ∷ words ∷ scratch ∷ index ∷ id ∷ linked
    ∷ queue ∷ starts ∷ gfloats ∷ members ∷ rows ∷ kept ∷ edges ∷ output ∷ [])
    ≡ false →
    Roomy t c columns handles tree nodes perm hi lo words scratch index id linked queue starts gfloats members rows kept edges output
roomy t c columns handles tree nodes perm hi lo words scratch index id linked queue starts gfloats members rows kept edges output e =
    rooms t c
    (columns ∷ handles ∷ tree ∷ nodes ∷ perm ∷ hi ∷ lo ∷ words ∷ scratch ∷ index ∷ id ∷ linked
    ∷ queue ∷ starts ∷ gfloats ∷ members ∷ rows ∷ kept ∷ edges ∷ output ∷ [])
    e
