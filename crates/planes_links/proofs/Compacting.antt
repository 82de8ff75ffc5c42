-- The loop that leaves repeats out, and the words that it reads.
use mathlib.Core.Path.{◌≡◌, refl, sym, ap, ◌∙◌}
use mathlib.Core.List.{List, [], ◌∷◌, ◌++◌, map, append-nil}
use Prim.Native.Nat.{ℕ, suc, ◌+◌, ◌*◌, ◌<◌, ◌≤◌}
use native.Mathlib.Numerals.{add-one}
use native.Mathlib.Omega.{arith}
use lib.ListN.{length, get_or, take, drop, set, length-set, length-map, drop_of_length-le, get_or-map}
use lib.Seq.{drop-cons, take-suc-set}
use Rattle.laws.proofs.Lists.{emit}
use Rattle.order.specs.Radix.{upper}
use Rattle.planes_links.specs.Words.{uppers, dedup_after, dedup}
use Rattle.planes_links.proofs.Rising.{after_same, after_new}

-- ---- words

map_snoc : (xs : List ℕ) (x : ℕ) → map upper (xs ++ (x ∷ [])) ≡ map upper xs ++ (upper x ∷ [])
map_snoc [] x = refl
map_snoc (y ∷ ys) x = ap (λ (l : List ℕ). upper y ∷ l) (map_snoc ys x)

pub pushed : (words : List ℕ) (k w : ℕ) → k < length words → uppers (set words k (w * 4294967296)) (k + 1) ≡ uppers words k ++ (w ∷ [])
unfolding uppers
pushed words k w h =
    let same : upper (w * 4294967296) ≡ w = omega arith in
    ap (map upper) (ap (λ (n : ℕ). take n (set words k (w * 4294967296))) (add-one k) ∙ take-suc-set words k (w * 4294967296) h)
    ∙ map_snoc (take k words) (w * 4294967296) ∙ ap (λ (u : ℕ). map upper (take k words) ++ (u ∷ [])) same

-- ---- repeats left out

from_none : (xs : List ℕ) (last : ℕ) → (0 < length xs → get_or xs 0 0 ≡ last → ⊥) → dedup_after last xs ≡ dedup xs
unfolding dedup dedup_after
from_none [] last d = refl
from_none (x ∷ xs) last d = after_new last x xs (d (omega arith))

-- the first k of sorted are what the first i of ws leave, the last of which is `last`
pub record Compacting (ws sorted : List ℕ) (last k i : ℕ) : Type 0 where
  pub within : i ≤ length ws
  pub fits : k ≤ i
  pub room : length ws ≤ length sorted
  pub so_far : take k sorted ++ dedup_after last (drop i ws) ≡ dedup_after 4294967296 ws

pub compact_none : (ws sorted : List ℕ) → length ws ≤ length sorted → Compacting ws sorted 4294967296 0 0
compact_none ws sorted h = record { within = omega arith; fits = omega arith; room = h; so_far = refl }

module _ (ws sorted : List ℕ) (last k i : ℕ) (m : Compacting ws sorted last k i) (h : i < length ws) where
  pub compact_same : get_or ws i 0 ≡ last → Compacting ws sorted last k (i + 1)
  compact_same e =
      record {
        within = omega arith;
        fits = omega (arith, m.fits);
        room = m.room;
        so_far =
            ap (λ (l : List ℕ). take k sorted ++ l)
            (ap (λ (n : ℕ). dedup_after last (drop n ws)) (add-one i)
            ∙ ap (λ (x : ℕ). dedup_after x (drop (suc i) ws)) (sym e)
            ∙ sym (after_same last (get_or ws i 0) (drop (suc i) ws) e) ∙ ap (dedup_after last) (sym (drop-cons ws i 0 h)))
            ∙ m.so_far;
      }

  pub compact_new : (get_or ws i 0 ≡ last → ⊥) → Compacting ws (set sorted k (get_or ws i 0)) (get_or ws i 0) (k + 1) (i + 1)
  compact_new d =
      let f = m.fits in
      let r = m.room in
      let x = get_or ws i 0 in
      record {
        within = omega arith;
        fits = omega arith;
        room = rw (length-set sorted k x) r;
        so_far =
            emit sorted k x (dedup_after last (drop i ws)) (dedup_after x (drop (i + 1) ws)) (dedup_after 4294967296 ws) (omega arith) m.so_far
            (ap (dedup_after last) (drop-cons ws i 0 h) ∙ after_new last x (drop (suc i) ws) d ∙ ap (λ (n : ℕ). x ∷ dedup_after x (drop n ws)) (sym (add-one i)));
      }

pub compacted : (ws sorted : List ℕ) (last k i : ℕ) → Compacting ws sorted last k i → length ws ≤ i → (0 < length ws → get_or ws 0 0 < 4294967296) → take k sorted ≡ dedup ws
unfolding dedup_after
compacted ws sorted last k i m h small =
    let s = m.so_far in
    let nothing : dedup_after last (drop i ws) ≡ [] = rw (drop_of_length-le ws h) in
    sym (append-nil (take k sorted)) ∙ ap (λ (l : List ℕ). take k sorted ++ l) (sym nothing) ∙ s ∙ from_none ws 4294967296 (λ p e. let b = small p in omega arith)

-- ---- of the upper halves of words

pub upper_at : (words : List ℕ) (i : ℕ) → get_or (map upper words) i 0 ≡ upper (get_or words i 0)
upper_at words i = get_or-map upper words i 0

pub words_none : (words sorted : List ℕ) → length words ≤ length sorted → Compacting (map upper words) sorted 4294967296 0 0
words_none words sorted h = compact_none (map upper words) sorted (rw (length-map words upper) h)

module _ (words sorted : List ℕ) (last k i : ℕ) (m : Compacting (map upper words) sorted last k i) (h : i < length words) where
  pub words_same : upper (get_or words i 0) ≡ last → Compacting (map upper words) sorted last k (i + 1)
  words_same e = compact_same (map upper words) sorted last k i m (rw (length-map words upper) h) (upper_at words i ∙ e)

  pub words_new : (upper (get_or words i 0) ≡ last → ⊥) → Compacting (map upper words) (set sorted k (upper (get_or words i 0))) (upper (get_or words i 0)) (k + 1) (i + 1)
  words_new d =
      rw (← upper_at words i) (compact_new (map upper words) sorted last k i m (rw (length-map words upper) h) (λ e. d (sym (upper_at words i) ∙ e)))

pub words_done : (words sorted : List ℕ) (last k i : ℕ) → Compacting (map upper words) sorted last k i → length words ≤ i
    → (0 < length words → get_or words 0 0 < 18446744073709551616) → (k ≤ length words) × (take k sorted ≡ dedup (map upper words))
words_done words sorted last k i m h small =
    let l = length-map words upper in
    let f = m.fits in
    let w = m.within in
    (omega arith, compacted (map upper words) sorted last k i m (omega arith) (λ p. let b = small (omega arith) in rw (upper_at words 0) (omega arith)))
