-- Rows of a rising list of words, cut out between where the words of a row start and where those of the next one do.
use mathlib.Core.Path.{◌≡◌, refl, sym, ap, ◌∙◌}
use mathlib.Core.List.{List, [], ◌∷◌, ◌++◌, map, append-nil}
use Prim.Native.Nat.{ℕ, suc, ◌+◌, ◌-◌, ◌*◌, ◌/◌, ◌%◌, ◌<◌, ◌≤◌}
use native.Mathlib.Nat.{le_refl}
use native.Mathlib.Omega.{arith}
use lib.ListN.{length, get_or, take, drop, set, length-take, length-drop, take-append-drop}
use lib.Seq.{get_or-set_same, get_or-set_other, get_or-take, get_or-drop, drop-drop, drop-append-le, take-append-le}
use Rattle.float.proofs.Numbers.{by_order}
use Rattle.order.specs.Sort.{Sorted, sort_by}
use Rattle.order.specs.Radix.{upper}
use Rattle.order.proofs.Stable.{by-eq, chain_sort}
use Rattle.order.proofs.Lexi.{sort_map}
use Rattle.planes_links.specs.Words.{itself, word_of, dedup, lows, part_of, row_in, Cut, LinkRows}
use Rattle.planes_links.proofs.Rising.{row, row_in_lem, row_out, row_of, rising_sorted, dedup_rising}

-- ---- the loop

-- the first i words are below row r, and each earlier row's start is known
pub record Starting (sorted starts : List ℕ) (r i : ℕ) : Type 0 where
  pub within : i ≤ length sorted
  pub before : (j : ℕ) → j < i → get_or sorted j 0 < word_of r 0
  pub done : (q : ℕ) → q < r → Cut sorted (get_or starts q 0) (word_of q 0)

pub start_none : (sorted starts : List ℕ) → Starting sorted starts 0 0
start_none sorted starts = record { within = omega arith; before = λ j h. absurd (omega arith); done = λ q h. absurd (omega arith) }

module _ (sorted starts : List ℕ) (r i : ℕ) (m : Starting sorted starts r i) where
  pub start_pass : i < length sorted → get_or sorted i 0 < r * 4096 → Starting sorted starts r (i + 1)
  start_pass h b =
      record {
        within = omega arith;
        before = λ j l. by_order j i (λ le. by-eq j i (λ e. rw e (omega arith)) (λ d. m.before j (omega arith))) (λ gt. absurd (omega arith));
        done = m.done;
      }

  pub start_row : Sorted itself sorted → r < length starts → (i < length sorted → r * 4096 ≤ get_or sorted i 0) → Starting sorted (set starts r i) (r + 1) i
  unfolding Sorted
  start_row s h b =
      record {
        within = m.within;
        before = λ j l. let u = m.before j l in omega arith;
        done = λ q l.
            by-eq q r
            (λ e.
            let at : get_or (set starts r i) q 0 ≡ i = rw e (get_or-set_same starts r i 0 h) in
            rw (at, e) (record { within = m.within; before = m.before; after = λ j f g. let v = s i j f g in let w = b (omega arith) in omega arith }))
            (λ d. let at : get_or (set starts r i) q 0 ≡ get_or starts q 0 = get_or-set_other starts r q i 0 d in rw at (m.done q (omega arith)));
      }

-- ---- the rows

module _ (p : ℕ) where
  row_append : (xs ys : List ℕ) → row 4096 p (xs ++ ys) ≡ row 4096 p xs ++ row 4096 p ys
  unfolding row
  row_append [] ys = refl
  row_append (x ∷ xs) ys =
      let r = row_append xs ys in
      by-eq (x / 4096) p
      (λ e. row_in_lem 4096 (omega arith) p x (xs ++ ys) e ∙ ap (λ (l : List ℕ). x % 4096 ∷ l) r ∙ ap (λ (l : List ℕ). l ++ row 4096 p ys) (sym (row_in_lem 4096 (omega arith) p x xs e)))
      (λ d. row_out 4096 (omega arith) p x (xs ++ ys) d ∙ r ∙ ap (λ (l : List ℕ). l ++ row 4096 p ys) (sym (row_out 4096 (omega arith) p x xs d)))

  row_none : (xs : List ℕ) → ((j : ℕ) → j < length xs → get_or xs j 0 / 4096 ≡ p → ⊥) → row 4096 p xs ≡ []
  unfolding row
  row_none [] d = refl
  row_none (x ∷ xs) d = row_out 4096 (omega arith) p x xs (d 0 (omega arith)) ∙ row_none xs (λ j h. d (suc j) (omega arith))

  row_all : (xs : List ℕ) → ((j : ℕ) → j < length xs → get_or xs j 0 / 4096 ≡ p) → row 4096 p xs ≡ lows xs
  unfolding lows row
  row_all [] d = refl
  row_all (x ∷ xs) d = row_in_lem 4096 (omega arith) p x xs (d 0 (omega arith)) ∙ ap (λ (l : List ℕ). x % 4096 ∷ l) (row_all xs (λ j h. d (suc j) (omega arith)))

module _ (sorted : List ℕ) (r a b : ℕ) (from : Cut sorted a (word_of r 0)) (to : Cut sorted b (word_of (r + 1) 0)) where
  pub cut_rise : a ≤ b
  cut_rise = by_order a b (λ h. h) (λ h. let u = from.before b h in let w = from.within in let v = to.after b (le_refl b) (omega arith) in absurd (omega arith))

  cut_middle : (j : ℕ) → j < length (part_of sorted a b) → get_or (part_of sorted a b) j 0 / 4096 ≡ r
  cut_middle j h =
      let w = to.within in
      let l = length-take (b - a) (drop a sorted) in
      let ld = length-drop a sorted in
      let jb : j < b - a = omega arith in
      let at : get_or (part_of sorted a b) j 0 ≡ get_or sorted (a + j) 0 = get_or-take (b - a) (drop a sorted) j 0 jb ∙ get_or-drop a sorted j 0 in
      let u = from.after (a + j) (omega arith) (omega arith) in
      let v = to.before (a + j) (omega arith) in
      rw at (omega arith)

  pub cut_row : lows (part_of sorted a b) ≡ row 4096 r sorted
  cut_row =
      let rise = cut_rise in
      let w = to.within in
      let whole : take a sorted ++ (part_of sorted a b ++ drop b sorted) ≡ sorted =
      ap (λ (l : List ℕ). take a sorted ++ (part_of sorted a b ++ l)) (ap (λ (n : ℕ). drop n sorted) (let e : b ≡ a + (b - a) = omega arith in e) ∙ sym (drop-drop (b - a) a sorted))
      ∙ ap (λ (l : List ℕ). take a sorted ++ l) (take-append-drop (b - a) (drop a sorted)) ∙ take-append-drop a sorted in
      let none1 : row 4096 r (take a sorted) ≡ [] = row_none r (take a sorted) (λ j h e.
      let l = length-take a sorted in
      let at : get_or (take a sorted) j 0 ≡ get_or sorted j 0 = get_or-take a sorted j 0 (omega arith) in
      let u = from.before j (omega arith) in
      let e2 : get_or sorted j 0 / 4096 ≡ r = ap (λ (n : ℕ). n / 4096) (sym at) ∙ e in
      omega arith) in
      let none2 : row 4096 r (drop b sorted) ≡ [] = row_none r (drop b sorted) (λ j h e.
      let l = length-drop b sorted in
      let at : get_or (drop b sorted) j 0 ≡ get_or sorted (b + j) 0 = get_or-drop b sorted j 0 in
      let u = to.after (b + j) (omega arith) (omega arith) in
      let e2 : get_or sorted (b + j) 0 / 4096 ≡ r = ap (λ (n : ℕ). n / 4096) (sym at) ∙ e in
      omega arith) in
      sym (row_all r (part_of sorted a b) cut_middle) ∙ sym (append-nil (row 4096 r (part_of sorted a b)))
      ∙ ap (λ (l : List ℕ). row 4096 r (part_of sorted a b) ++ l) (sym none2)
      ∙ sym (row_append r (part_of sorted a b) (drop b sorted))
      ∙ ap (λ (l : List ℕ). l ++ row 4096 r (part_of sorted a b ++ drop b sorted)) (sym none1)
      ∙ sym (row_append r (take a sorted) (part_of sorted a b ++ drop b sorted))
      ∙ ap (row 4096 r) whole

-- ---- rows of words that were sorted, and left without repeats

module _ (words w2 sorted : List ℕ) (k : ℕ) (is_sorted : w2 ≡ sort_by upper words) (is : take k sorted ≡ dedup (map upper w2)) where
  pub set_is : take k sorted ≡ dedup (sort_by itself (map upper words))
  set_is = is ∙ ap (λ (l : List ℕ). dedup (map upper l)) is_sorted ∙ ap dedup (sym (sort_map itself upper words))

  pub set_sorted : Sorted itself (take k sorted)
  set_sorted = rw set_is (rising_sorted (dedup (sort_by itself (map upper words))) (dedup_rising (sort_by itself (map upper words)) (chain_sort itself (map upper words))))

  part_same : (a b : ℕ) → k ≤ length sorted → a ≤ b → b ≤ length (take k sorted) → part_of sorted a b ≡ part_of (take k sorted) a b
  part_same a b h l u =
      let n = length-drop a (take k sorted) in
      ap (λ (s : List ℕ). part_of s a b) (sym (take-append-drop k sorted))
      ∙ ap (take (b - a)) (drop-append-le a (take k sorted) (drop k sorted) (omega arith))
      ∙ take-append-le (b - a) (drop a (take k sorted)) (drop k sorted) (omega arith)

  pub rows_are : (starts : List ℕ) (rows : ℕ) → k ≤ length sorted → ((r : ℕ) → r ≤ rows → Cut (take k sorted) (get_or starts r 0) (word_of r 0)) → LinkRows (map upper words) rows sorted starts
  unfolding row_in
  rows_are starts rows h cuts =
      record {
        bounds = record {
          rise = λ r l. cut_rise (take k sorted) r (get_or starts r 0) (get_or starts (r + 1) 0) (cuts r (omega arith)) (cuts (r + 1) (omega arith));
          ends = λ r l. let w = (cuts r l).within in let t = length-take k sorted in omega arith;
        };
        are = λ r l.
            let from = cuts r (omega arith) in
            let to = cuts (r + 1) (omega arith) in
            let rise = cut_rise (take k sorted) r (get_or starts r 0) (get_or starts (r + 1) 0) from to in
            ap lows (part_same (get_or starts r 0) (get_or starts (r + 1) 0) h rise to.within)
            ∙ cut_row (take k sorted) r (get_or starts r 0) (get_or starts (r + 1) 0) from to
            ∙ ap (row 4096 r) set_is ∙ row_of 4096 r (map upper words) (omega arith);
      }
