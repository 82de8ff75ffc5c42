-- Letting free patches in from a row, over a column that has 0 for a free patch, against the definition's two filters of the free patches.
--     new_free      what the loop appends to the queue: of the free patches, those that are adjacent and fit
--     still_free    what is free after it: of the free patches, those that are not
--     free_less     one patch taken: one fewer is free
use mathlib.Core.Path.{◌≡◌, refl, sym, ap, ◌∙◌}
use mathlib.Core.Bool.{Bool, true, false, cond, not, ◌&&◌}
use mathlib.Core.List.{List, [], ◌∷◌, ◌++◌}
use Prim.Native.Nat.{ℕ, zero, suc, ◌+◌, ◌<◌, ◌≤◌}
use native.Mathlib.Nat.{not-suc-le-zero}
use native.Mathlib.Numerals.{add-one}
use native.Mathlib.Omega.{arith}
use lib.Dec.{eqb}
use lib.ListN.{length, get_or, set, drop, length-set, length-append, drop_of_length-le}
use lib.Seq.{get_or-set_same, get_or-set_other, drop-cons}
use borrow.Author.Tests.{eq-eqb, ne_eqb, lt-ltb}
use Rattle.float.proofs.Numbers.{by_order}
use Rattle.order.specs.Runs.{any_by, up_to}
use Rattle.order.proofs.Stable.{by-eq, Least}
use Rattle.planes_patches.specs.Lists.{keep_if, filter_by}
use Rattle.planes_links.specs.Words.{has}
use Rattle.planes_links.proofs.Rising.{From, Rising, not_from, has_filter, has_up_to, filter_rising, up_to_rising}
use Rattle.planes_links.proofs.Filters.{filter_below}
use Rattle.planes_groups.specs.Rows.{is_free_at, free_of}

-- ---- filters

pub filter_filter : (p q : ℕ → Bool) (xs : List ℕ) → filter_by p (filter_by q xs) ≡ filter_by (λ x. q x && p x) xs
unfolding filter_by
filter_filter p q [] = refl
filter_filter p q (x ∷ xs) = go (q x) (filter_filter p q xs)
  where
    go : (b : Bool) → filter_by p (filter_by q xs) ≡ filter_by (λ y. q y && p y) xs → filter_by p (keep_if b x (filter_by q xs)) ≡ keep_if (b && p x) x (filter_by (λ y. q y && p y) xs)
    go true r = ap (keep_if (p x) x) r
    go false r = r

-- two tests that agree from v on
filter_from : (p q : ℕ → Bool) (v : ℕ) (xs : List ℕ) → From v xs → ((x : ℕ) → v ≤ x → p x ≡ q x) → filter_by p xs ≡ filter_by q xs
unfolding filter_by Least
filter_from p q v [] f e = refl
filter_from p q v (x ∷ xs) f e = rw (e x f.0, filter_from p q v xs f.1 e)

filter_last : (p : ℕ → Bool) (xs : List ℕ) (n : ℕ) → filter_by p (xs ++ (n ∷ [])) ≡ filter_by p xs ++ keep_if (p n) n []
unfolding filter_by
filter_last p [] n = refl
filter_last p (x ∷ xs) n = go (p x) (filter_last p xs n)
  where
    go : (b : Bool) → filter_by p (xs ++ (n ∷ [])) ≡ filter_by p xs ++ keep_if (p n) n [] → keep_if b x (filter_by p (xs ++ (n ∷ []))) ≡ keep_if b x (filter_by p xs) ++ keep_if (p n) n []
    go true r = ap (λ (l : List ℕ). x ∷ l) r
    go false r = r

-- ---- a patch that is taken

module _ (mark : ℕ) (pos : 0 < mark) where
  pub set_other : (col : List ℕ) (q x : ℕ) → (x ≡ q → ⊥) → is_free_at (set col q mark) x ≡ is_free_at col x
  set_other col q x d = ap (λ (v : ℕ). eqb v 0) (get_or-set_other col q x mark 0 d)

  pub set_same : (col : List ℕ) (q : ℕ) → q < length col → is_free_at (set col q mark) q ≡ false
  set_same col q h = ap (λ (v : ℕ). eqb v 0) (get_or-set_same col q mark 0 h) ∙ ne_eqb mark 0 (λ t. omega arith)

  free_before : (n : ℕ) (col : List ℕ) (q : ℕ) → n ≤ q → filter_by (is_free_at (set col q mark)) (up_to n) ≡ filter_by (is_free_at col) (up_to n)
  free_before n col q h = filter_below (is_free_at (set col q mark)) (is_free_at col) n (λ x l. set_other col q x (λ e. omega arith))

  pub free_less : (n : ℕ) (col : List ℕ) (q : ℕ) → q < n → q < length col → is_free_at col q ≡ true → suc (length (free_of n (set col q mark))) ≡ length (free_of n col)
  unfolding free_of up_to
  free_less zero col q h l e = absurd (not-suc-le-zero h)
  free_less (suc n) col q h l e =
      let rest : q < n → suc (length (filter_by (is_free_at (set col q mark)) (up_to n))) ≡ length (filter_by (is_free_at col) (up_to n)) = λ g. free_less n col q g l e in
      let before = length-append (filter_by (is_free_at (set col q mark)) (up_to n)) (keep_if (is_free_at (set col q mark) n) n []) in
      let after = length-append (filter_by (is_free_at col) (up_to n)) (keep_if (is_free_at col n) n []) in
      ap (λ (t : List ℕ). suc (length t)) (filter_last (is_free_at (set col q mark)) (up_to n) n)
      ∙ by-eq n q
      (λ s.
      let gone : is_free_at (set col q mark) n ≡ false = ap (is_free_at (set col q mark)) s ∙ set_same col q l in
      let was : is_free_at col n ≡ true = ap (is_free_at col) s ∙ e in
      let same = free_before n col q (omega arith) in
      rw (gone, was) (last (filter_by (is_free_at (set col q mark)) (up_to n)) (filter_by (is_free_at col) (up_to n)) same))
      (λ d.
      let kept : is_free_at (set col q mark) n ≡ is_free_at col n = set_other col q n d in
      let r = rest (omega_less q n h d) in
      rw kept (both (is_free_at col n) (filter_by (is_free_at (set col q mark)) (up_to n)) (filter_by (is_free_at col) (up_to n)) r))
      ∙ ap length (sym (filter_last (is_free_at col) (up_to n) n))
    where
      omega_less : (q n : ℕ) → q < suc n → (n ≡ q → ⊥) → q < n
      omega_less q n h d = by_order (suc q) n (λ g. g) (λ g. absurd (d (omega arith)))

      last : (xs ys : List ℕ) → xs ≡ ys → suc (length (xs ++ [])) ≡ length (ys ++ (n ∷ []))
      last xs ys s = let a = length-append xs [] in let b = length-append ys (n ∷ []) in let c = ap length s in omega arith

      both : (t : Bool) (xs ys : List ℕ) → suc (length xs) ≡ length ys → suc (length (xs ++ keep_if t n [])) ≡ length (ys ++ keep_if t n [])
      both t xs ys s = let a = length-append xs (keep_if t n []) in let b = length-append ys (keep_if t n []) in omega arith

  -- the seed taken: the free patches without it
  pub free_seed : (n : ℕ) (col : List ℕ) (q : ℕ) → q < length col → free_of n (set col q mark) ≡ filter_by (λ x. not (eqb q x)) (free_of n col)
  unfolding free_of
  free_seed n col q l =
      filter_below (is_free_at (set col q mark)) (λ x. is_free_at col x && not (eqb q x)) n
      (λ x h. by-eq x q
      (λ e. rw (eq-eqb q x (sym e)) (ap (is_free_at (set col q mark)) e ∙ set_same col q l ∙ none (is_free_at col x)))
      (λ d. rw (ne_eqb q x (λ e. d (sym e))) (set_other col q x d ∙ all (is_free_at col x))))
      ∙ sym (filter_filter (λ x. not (eqb q x)) (is_free_at col) (up_to n))
    where
      none : (b : Bool) → false ≡ b && false
      none true = refl
      none false = refl

      all : (b : Bool) → b ≡ b && true
      all true = refl
      all false = refl

-- ---- the loop

module _ (fit : ℕ → Bool) (mark : ℕ) where
  -- q is marked where it is free and fits
  abbrev pub given : List ℕ → ℕ → List ℕ
  given col q = cond (is_free_at col q && fit q) (set col q mark) col

  -- the column after a row, and what the row appends to the queue
  unfoldable pub col_after : List ℕ → List ℕ → List ℕ
  col_after col [] = col
  col_after col (q ∷ ns) = col_after (given col q) ns

  unfoldable pub new_after : List ℕ → List ℕ → List ℕ
  new_after col [] = []
  new_after col (q ∷ ns) = keep_if (is_free_at col q && fit q) q (new_after (given col q) ns)

  module _ (col ns : List ℕ) (i : ℕ) (h : i < length ns) where
    pub col_skip : is_free_at col (get_or ns i 0) && fit (get_or ns i 0) ≡ false → col_after col (drop (i + 1) ns) ≡ col_after col (drop i ns)
    unfolding col_after
    col_skip e = ap (λ (k : ℕ). col_after col (drop k ns)) (add-one i) ∙ sym (ap (col_after col) (drop-cons ns i 0 h) ∙ ap (λ (b : Bool). col_after (cond b (set col (get_or ns i 0) mark) col) (drop (suc i) ns)) e)

    pub new_skip : is_free_at col (get_or ns i 0) && fit (get_or ns i 0) ≡ false → new_after col (drop (i + 1) ns) ≡ new_after col (drop i ns)
    unfolding new_after
    new_skip e = ap (λ (k : ℕ). new_after col (drop k ns)) (add-one i) ∙ sym (ap (new_after col) (drop-cons ns i 0 h) ∙ rw e)

    pub col_take : is_free_at col (get_or ns i 0) && fit (get_or ns i 0) ≡ true → col_after (set col (get_or ns i 0) mark) (drop (i + 1) ns) ≡ col_after col (drop i ns)
    unfolding col_after
    col_take e = ap (λ (k : ℕ). col_after (set col (get_or ns i 0) mark) (drop k ns)) (add-one i) ∙ sym (ap (col_after col) (drop-cons ns i 0 h) ∙ ap (λ (b : Bool). col_after (cond b (set col (get_or ns i 0) mark) col) (drop (suc i) ns)) e)

    pub new_take : is_free_at col (get_or ns i 0) && fit (get_or ns i 0) ≡ true → new_after col (drop i ns) ≡ get_or ns i 0 ∷ new_after (set col (get_or ns i 0) mark) (drop (i + 1) ns)
    unfolding new_after
    new_take e = ap (new_after col) (drop-cons ns i 0 h) ∙ rw e (ap (λ (k : ℕ). get_or ns i 0 ∷ new_after (set col (get_or ns i 0) mark) (drop k ns)) (sym (add-one i)))

  pub col_end : (col ns : List ℕ) (i : ℕ) → length ns ≤ i → col_after col (drop i ns) ≡ col
  unfolding col_after
  col_end col ns i h = rw (drop_of_length-le ns h)

  pub new_end : (col ns : List ℕ) (i : ℕ) → length ns ≤ i → new_after col (drop i ns) ≡ []
  unfolding new_after
  new_end col ns i h = rw (drop_of_length-le ns h)

  module _ (pos : 0 < mark) where
    given_length : (col : List ℕ) (q : ℕ) → length (given col q) ≡ length col
    given_length col q = go (is_free_at col q && fit q)
      where
        go : (b : Bool) → length (cond b (set col q mark) col) ≡ length col
        go true = length-set col q mark
        go false = refl

    given_other : (col : List ℕ) (q x : ℕ) → (x ≡ q → ⊥) → is_free_at (given col q) x ≡ is_free_at col x
    given_other col q x d = go (is_free_at col q && fit q)
      where
        go : (b : Bool) → is_free_at (cond b (set col q mark) col) x ≡ is_free_at col x
        go true = set_other mark pos col q x d
        go false = refl

    given_same : (col : List ℕ) (q : ℕ) → q < length col → is_free_at (given col q) q ≡ is_free_at col q && not (fit q)
    given_same col q h = go (is_free_at col q) (fit q) refl
      where
        go : (a b : Bool) → is_free_at col q ≡ a → is_free_at (cond (a && b) (set col q mark) col) q ≡ a && not b
        go true true e = set_same mark pos col q h
        go true false e = e
        go false b e = e

    new_is : (col ns : List ℕ) → Rising ns → new_after col ns ≡ filter_by (λ q. is_free_at col q && fit q) ns
    unfolding new_after filter_by Rising
    new_is col [] r = refl
    new_is col (q ∷ ns) r =
        ap (keep_if (is_free_at col q && fit q) q)
        (new_is (given col q) ns r.1
        ∙ filter_from (λ x. is_free_at (given col q) x && fit x) (λ x. is_free_at col x && fit x) (suc q) ns r.0
        (λ x h. ap (λ (b : Bool). b && fit x) (given_other col q x (λ e. omega arith))))

    free_after : (col ns : List ℕ) (x : ℕ) → Rising ns → x < length col → is_free_at (col_after col ns) x ≡ is_free_at col x && not (has x ns && fit x)
    unfolding col_after any_by Rising
    free_after col [] x r h = and_true (is_free_at col x)
      where
        and_true : (b : Bool) → b ≡ b && true
        and_true true = refl
        and_true false = refl
    free_after col (q ∷ ns) x r h =
        let rest = free_after (given col q) ns x r.1 (rw (given_length col q) h) in
        rest ∙ by-eq x q
        (λ e. rw (not_from x (suc q) ns (omega arith) r.0, eq-eqb x q e, e) (and_yes (is_free_at (given col q) q) ∙ given_same col q (rw e at h)))
        (λ d. rw (ne_eqb x q d, given_other col q x d))
      where
        and_yes : (b : Bool) → b && true ≡ b
        and_yes true = refl
        and_yes false = refl

    -- ---- against the definition

    module _ (n : ℕ) (adj : ℕ → Bool) (col : List ℕ) (len : n ≤ length col) where
      turn : (a b c : Bool) → a && (b && c) ≡ b && (a && c)
      turn true true c = refl
      turn true false c = refl
      turn false true c = refl
      turn false false c = refl

      pub new_free : new_after col (filter_by adj (up_to n)) ≡ filter_by (λ q. adj q && fit q) (free_of n col)
      unfolding free_of
      new_free =
          new_is col (filter_by adj (up_to n)) (filter_rising adj (up_to n) (up_to_rising n))
          ∙ filter_filter (λ q. is_free_at col q && fit q) adj (up_to n)
          ∙ filter_below (λ q. adj q && (is_free_at col q && fit q)) (λ q. is_free_at col q && (adj q && fit q)) n (λ q h. turn (adj q) (is_free_at col q) (fit q))
          ∙ sym (filter_filter (λ q. adj q && fit q) (is_free_at col) (up_to n))

      pub still_free : free_of n (col_after col (filter_by adj (up_to n))) ≡ filter_by (λ q. not (adj q && fit q)) (free_of n col)
      unfolding free_of
      still_free =
          filter_below (is_free_at (col_after col (filter_by adj (up_to n)))) (λ q. is_free_at col q && not (adj q && fit q)) n
          (λ x h.
          free_after col (filter_by adj (up_to n)) x (filter_rising adj (up_to n) (up_to_rising n)) (omega arith)
          ∙ ap (λ (b : Bool). is_free_at col x && not (b && fit x))
          (has_filter adj x (up_to n) ∙ ap (λ (b : Bool). adj x && b) (has_up_to n x ∙ lt-ltb x n h) ∙ and_yes (adj x)))
          ∙ sym (filter_filter (λ q. not (adj q && fit q)) (is_free_at col) (up_to n))
        where
          and_yes : (b : Bool) → b && true ≡ b
          and_yes true = refl
          and_yes false = refl
