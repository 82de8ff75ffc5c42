-- The loop that lets the patches of a row in.
use mathlib.Core.Path.{◌≡◌, refl, sym, ap, ◌∙◌}
use mathlib.Core.Bool.{Bool, true, false, ◌&&◌}
use mathlib.Core.List.{List, ◌∷◌, ◌++◌, append-nil}
use Prim.Native.Nat.{ℕ, ◌+◌, ◌%◌, ◌<◌, ◌≤◌}
use native.Mathlib.Nat.{le_refl}
use native.Mathlib.Omega.{arith}
use lib.ListN.{length, get_or, take, drop, set}
use borrow.Author.Tests.{ne_eqb, eq-eqb}
use Rattle.laws.proofs.Lists.{emit}
use Rattle.order.specs.Runs.{up_to}
use Rattle.planes_patches.specs.Lists.{filter_by}
use Rattle.planes_links.specs.Words.{lows}
use Rattle.planes_links.proofs.Linking.{low_at_lem, lows_length}
use Rattle.planes_groups.specs.Rows.{is_free_at, free_of, Queue, LetIn}
use Rattle.planes_groups.proofs.Growing.{col_after, new_after, col_skip, new_skip, col_take, new_take, col_end, new_end, new_free, still_free}
use Rattle.planes_groups.proofs.Queueing.{queue_room, queue_push}

-- the rest of the row gives, from here, what the whole row gives from the start
pub record Letting (np : ℕ) (fit : ℕ → Bool) (mark : ℕ) (row col0 queue0 : List ℕ) (tail0 : ℕ) (col queue : List ℕ) (tail i : ℕ) : Type 0 where
  pub rise : tail0 ≤ tail
  pub queue_is : Queue np col queue tail
  pub cols : col_after fit mark col (drop i row) ≡ col_after fit mark col0 row
  pub news : take tail queue ++ new_after fit mark col (drop i row) ≡ take tail0 queue0 ++ new_after fit mark col0 row

pub let_none : (np : ℕ) (fit : ℕ → Bool) (mark : ℕ) (row col queue : List ℕ) (tail : ℕ) → Queue np col queue tail → Letting np fit mark row col queue tail col queue tail 0
let_none np fit mark row col queue tail q = record { rise = le_refl tail; queue_is = q; cols = refl; news = refl }

module _ (np : ℕ) (fit : ℕ → Bool) (mark : ℕ) (pos : 0 < mark) (words col0 queue0 : List ℕ) (tail0 : ℕ) (col queue : List ℕ) (tail i : ℕ)
    (m : Letting np fit mark (lows words) col0 queue0 tail0 col queue tail i) (h : i < length words) where
  long : i < length (lows words)
  long = rw (lows_length words) h

  skip : is_free_at col (get_or (lows words) i 0) && fit (get_or (lows words) i 0) ≡ false → Letting np fit mark (lows words) col0 queue0 tail0 col queue tail (i + 1)
  skip e =
      record {
        rise = m.rise;
        queue_is = m.queue_is;
        cols = col_skip fit mark col (lows words) i long e ∙ m.cols;
        news = ap (λ (l : List ℕ). take tail queue ++ l) (new_skip fit mark col (lows words) i long e) ∙ m.news;
      }

  pub let_taken : (get_or col (get_or words i 0 % 4096) 0 ≡ 0 → ⊥) → Letting np fit mark (lows words) col0 queue0 tail0 col queue tail (i + 1)
  let_taken d = skip (rw (low_at_lem words i, ne_eqb (get_or col (get_or words i 0 % 4096) 0) 0 d))

  pub let_unfit : fit (get_or words i 0 % 4096) ≡ false → Letting np fit mark (lows words) col0 queue0 tail0 col queue tail (i + 1)
  let_unfit e = skip (rw (low_at_lem words i, e) (none (is_free_at col (get_or words i 0 % 4096))))
    where
      none : (b : Bool) → b && false ≡ false
      none true = refl
      none false = refl

  is_free : get_or col (get_or words i 0 % 4096) 0 ≡ 0 → is_free_at col (get_or words i 0 % 4096) ≡ true
  is_free e = eq-eqb (get_or col (get_or words i 0 % 4096) 0) 0 e

  pub let_room : get_or words i 0 % 4096 < np → get_or col (get_or words i 0 % 4096) 0 ≡ 0 → tail < np
  let_room l z = queue_room np mark pos col queue tail (get_or words i 0 % 4096) m.queue_is l (is_free z)

  pub let_more : get_or words i 0 % 4096 < np → get_or col (get_or words i 0 % 4096) 0 ≡ 0 → fit (get_or words i 0 % 4096) ≡ true
      → Letting np fit mark (lows words) col0 queue0 tail0 (set col (get_or words i 0 % 4096) mark) (set queue tail (get_or words i 0 % 4096)) (tail + 1) (i + 1)
  let_more l z e =
      let q = get_or words i 0 % 4096 in
      let at = low_at_lem words i in
      let r = m.rise in
      let w = m.queue_is.room in
      let room = let_room l z in
      let test : is_free_at col (get_or (lows words) i 0) && fit (get_or (lows words) i 0) ≡ true = rw (at, is_free z, e) in
      let cols : col_after fit mark (set col q mark) (drop (i + 1) (lows words)) ≡ col_after fit mark col (drop i (lows words)) =
      ap (λ (x : ℕ). col_after fit mark (set col x mark) (drop (i + 1) (lows words))) (sym at) ∙ col_take fit mark col (lows words) i long test in
      let news : new_after fit mark col (drop i (lows words)) ≡ q ∷ new_after fit mark (set col q mark) (drop (i + 1) (lows words)) =
      new_take fit mark col (lows words) i long test ∙ ap (λ (x : ℕ). x ∷ new_after fit mark (set col x mark) (drop (i + 1) (lows words))) at in
      record {
        rise = omega arith;
        queue_is = queue_push np mark pos col queue tail q m.queue_is l (is_free z);
        cols = cols ∙ m.cols;
        news = emit queue tail q (new_after fit mark col (drop i (lows words))) (new_after fit mark (set col q mark) (drop (i + 1) (lows words))) (take tail0 queue0 ++ new_after fit mark col0 (lows words)) (omega arith) m.news news;
      }

pub let_done : (np : ℕ) (fit : ℕ → Bool) (mark : ℕ) → 0 < mark → (words col0 queue0 : List ℕ) (tail0 : ℕ) (col queue : List ℕ) (tail i : ℕ)
    → Letting np fit mark (lows words) col0 queue0 tail0 col queue tail i → length words ≤ i → np ≤ length col0
    → (adj : ℕ → Bool) → lows words ≡ filter_by adj (up_to np) → LetIn np fit adj col0 queue0 tail0 col queue tail
let_done np fit mark pos words col0 queue0 tail0 col queue tail i m h len adj e =
    let end : length (lows words) ≤ i = rw (lows_length words) h in
    let cols : col ≡ col_after fit mark col0 (filter_by adj (up_to np)) = sym (col_end fit mark col (lows words) i end) ∙ m.cols ∙ ap (col_after fit mark col0) e in
    let news : take tail queue ≡ take tail0 queue0 ++ new_after fit mark col0 (filter_by adj (up_to np)) =
    sym (append-nil (take tail queue)) ∙ ap (λ (l : List ℕ). take tail queue ++ l) (sym (new_end fit mark col (lows words) i end)) ∙ m.news
    ∙ ap (λ (l : List ℕ). take tail0 queue0 ++ new_after fit mark col0 l) e in
    record {
      added = news ∙ ap (λ (l : List ℕ). take tail0 queue0 ++ l) (new_free fit mark pos np adj col0 len);
      left = ap (free_of np) cols ∙ still_free fit mark pos np adj col0 len;
    }
