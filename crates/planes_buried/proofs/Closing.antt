-- Closing up: the numbers of the open patches, what the loop of `close_rows` holds (`Closing`), and that rows and numbers then stand for
-- the open patches (`closed_is`).
use mathlib.Core.Path.{◌≡◌, refl, sym, ap, ◌∙◌}
use mathlib.Core.Logic.{⊎_elim, ◌⊎◌, inl, inr}
use mathlib.Core.Bool.{Bool, true, false, cond, false≢true}
use mathlib.Core.List.{List, [], ◌∷◌, ◌++◌, append-nil, map}
use Prim.Native.Nat.{ℕ, zero, suc, ◌+◌, ◌<◌, ◌≤◌}
use native.Mathlib.Nat.{le_refl, not-suc-le-zero, le_of_suc-le-suc}
use native.Mathlib.Omega.{arith}
use lib.Dec.{eqb}
use lib.Ieee.{Float}
use lib.ListN.{length, get_or, set, length-set, length-append, get_or-append}
use lib.Seq.{get_or-set_same, get_or-set_other, get_or-append_seam, ext_get_or}
use borrow.Author.Tests.{eq-eqb, ne_eqb}
use Rattle.float.proofs.Numbers.{by_order}
use Rattle.order.specs.Runs.{up_to}
use Rattle.order.proofs.Stable.{by-eq}
use Rattle.order.proofs.Positions.{get_or_map_up_to}
use Rattle.planes_patches.specs.Lists.{keep_if, filter_by}
use Rattle.planes_patches.specs.Patch.{Patch, no_patch}
use Rattle.planes_patches.specs.Rows.{none_of, row_in, tris_in, patch_in, patches_in, Numbered}
use Rattle.planes_patches.proofs.Lists.{filter_more, filter_under, length_up_to}
use Rattle.planes_patches.proofs.Turns.{patch_rows}
use Rattle.planes_buried.specs.Passes.{is_open, open_to, number_in, renumbered_of}
use Rattle.planes_buried.proofs.Best.{get_d_any}

module _ (flags : List ℕ) where
  -- ---- the open patches below n

  open_more : (n : ℕ) → open_to flags (suc n) ≡ open_to flags n ++ keep_if (is_open flags n) n []
  unfolding open_to
  open_more n = filter_more (is_open flags) n

  open_yes : (n : ℕ) → is_open flags n ≡ true → open_to flags (suc n) ≡ open_to flags n ++ (n ∷ [])
  open_yes n e = open_more n ∙ rw e

  open_no : (n : ℕ) → is_open flags n ≡ false → open_to flags (suc n) ≡ open_to flags n
  open_no n e = open_more n ∙ rw e (append-nil (open_to flags n))

  length_yes : (n : ℕ) → is_open flags n ≡ true → length (open_to flags (suc n)) ≡ suc (length (open_to flags n))
  length_yes n e = ap length (open_yes n e) ∙ length-append (open_to flags n) (n ∷ []) ∙ omega arith

  by_open : {C : Type 0} (n : ℕ) → (is_open flags n ≡ true → C) → (is_open flags n ≡ false → C) → C
  by_open {C = C} n f g = go (is_open flags n) refl
    where
      go : (b : Bool) → is_open flags n ≡ b → C
      go true e = f e
      go false e = g e

  pub open_le : (n : ℕ) → length (open_to flags n) ≤ n
  unfolding open_to filter_by up_to
  open_le zero = le_refl 0
  open_le (suc n) =
      let r = open_le n in
      by_open n (λ e. let l = length_yes n e in omega arith) (λ e. let l = ap length (open_no n e) in omega arith)

  -- an open patch stands at its number
  rank_at : (n q : ℕ) → q < n → is_open flags q ≡ true → (length (open_to flags q) < length (open_to flags n)) × (get_or (open_to flags n) (length (open_to flags q)) 0 ≡ q)
  rank_at zero q h o = absurd (not-suc-le-zero h)
  rank_at (suc n) q h o =
      let r : q < n → (length (open_to flags q) < length (open_to flags n)) × (get_or (open_to flags n) (length (open_to flags q)) 0 ≡ q) = λ l. rank_at n q l o in
      by-eq q n
      (λ e. rw e (let y : is_open flags n ≡ true = rw e at o in let l = length_yes n y in
      (omega arith, ap (λ (k : List ℕ). get_or k (length (open_to flags n)) 0) (open_yes n y) ∙ get_or-append_seam (open_to flags n) n [] 0)))
      (λ d. let b = r (below d) in
      by_open n
      (λ y. let l = length_yes n y in (omega (arith, b.0), ap (λ (k : List ℕ). get_or k (length (open_to flags q)) 0) (open_yes n y) ∙ get_or-append (open_to flags n) (n ∷ []) 0 (length (open_to flags q)) b.0 ∙ b.1))
      (λ y. let l = ap length (open_no n y) in (omega (arith, b.0), ap (λ (k : List ℕ). get_or k (length (open_to flags q)) 0) (open_no n y) ∙ b.1)))
    where
      below : (q ≡ n → ⊥) → q < n
      below d = by_order n q (λ w. absurd (d (omega arith))) (λ w. w)

  -- what stands at j is open, and its number is j
  at_rank : (n j : ℕ) → j < length (open_to flags n)
      → (get_or (open_to flags n) j 0 < n) × (is_open flags (get_or (open_to flags n) j 0) ≡ true) × (length (open_to flags (get_or (open_to flags n) j 0)) ≡ j)
  unfolding open_to filter_by up_to
  at_rank zero j h = absurd (not-suc-le-zero h)
  at_rank (suc n) j h =
      let r : j < length (open_to flags n) → (get_or (open_to flags n) j 0 < n) × (is_open flags (get_or (open_to flags n) j 0) ≡ true) × (length (open_to flags (get_or (open_to flags n) j 0)) ≡ j) = at_rank n j in
      by_open n
      (λ y.
      let l = length_yes n y in
      by-eq j (length (open_to flags n))
      (λ e.
      let here : get_or (open_to flags (suc n)) j 0 ≡ n = ap (λ (k : ℕ). get_or (open_to flags (suc n)) k 0) e ∙ ap (λ (k : List ℕ). get_or k (length (open_to flags n)) 0) (open_yes n y) ∙ get_or-append_seam (open_to flags n) n [] 0 in
      rw here (le_refl (suc n), y, sym e))
      (λ d.
      let low : j < length (open_to flags n) = by_order (length (open_to flags n)) j (λ w. absurd (d (omega arith))) (λ w. w) in
      let b = r low in
      let here : get_or (open_to flags (suc n)) j 0 ≡ get_or (open_to flags n) j 0 = ap (λ (k : List ℕ). get_or k j 0) (open_yes n y) ∙ get_or-append (open_to flags n) (n ∷ []) 0 j low in
      rw here (omega (arith, b.0), b.1, b.2)))
      (λ y.
      let l = ap length (open_no n y) in
      let b = r (omega arith) in
      let here : get_or (open_to flags (suc n)) j 0 ≡ get_or (open_to flags n) j 0 = ap (λ (k : List ℕ). get_or k j 0) (open_no n y) in
      rw here (omega (arith, b.0), b.1, b.2))

  -- ---- the loop

  pub record Closing (rows₀ : List Float) (numbers₀ : List ℕ) (rows : List Float) (numbers : List ℕ) (w p : ℕ) : Type 0 where
    pub len_rows : length rows ≡ length rows₀
    pub len_numbers : length numbers ≡ length numbers₀
    pub count : w ≡ length (open_to flags p)
    pub named : (q : ℕ) → q < p → get_or numbers q 0 ≡ number_in flags q
    pub moved : (j : ℕ) → j < w → row_in rows j ≡ row_in rows₀ (get_or (open_to flags p) j 0)
    pub rest : (q : ℕ) → p ≤ q → row_in rows q ≡ row_in rows₀ q

  pub closing_none : (rows : List Float) (numbers : List ℕ) → Closing rows numbers rows numbers 0 0
  unfolding open_to filter_by up_to
  closing_none rows numbers =
      record { len_rows = refl; len_numbers = refl; count = refl; named = λ q h. absurd (not-suc-le-zero h); moved = λ j h. absurd (not-suc-le-zero h); rest = λ q h. refl }

  pub closing_more : (rows₀ : List Float) (numbers₀ : List ℕ) (rows : List Float) (numbers : List ℕ) (w p : ℕ) (rows' : List Float) (numbers' : List ℕ) (w' : ℕ)
      → Closing rows₀ numbers₀ rows numbers w p → p < length numbers → length rows' ≡ length rows
      → w' ≡ cond (is_open flags p) (suc w) w
      → numbers' ≡ set numbers p (cond (is_open flags p) w none_of)
      → ((q : ℕ) → row_in rows' q ≡ cond (is_open flags p) (cond (eqb q w) (row_in rows p) (row_in rows q)) (row_in rows q))
      → Closing rows₀ numbers₀ rows' numbers' w' (suc p)
  unfolding number_in
  closing_more rows₀ numbers₀ rows numbers w p rows' numbers' w' c h lr ew en er =
      by_open p
      (λ y.
      let e : w' ≡ suc w = ew ∙ rw y in
      let le = open_le p in
      let cw = c.count in
      record {
        len_rows = lr ∙ c.len_rows;
        len_numbers = length_new;
        count = e ∙ ap suc cw ∙ sym (length_yes p y);
        named = named';
        moved = λ j l.
            by-eq j w
            (λ s. er j ∙ rw (y, eq-eqb j w s) (c.rest p (le_refl p) ∙ ap (row_in rows₀) (sym (ap (λ (k : List ℕ). get_or k j 0) (open_yes p y) ∙ ap (λ (i : ℕ). get_or (open_to flags p ++ (p ∷ [])) i 0) (s ∙ cw) ∙ get_or-append_seam (open_to flags p) p [] 0))))
            (λ d.
            let low : j < w = by_order w j (λ g. absurd (d (omega arith))) (λ g. g) in
            let low' : j < length (open_to flags p) = omega arith in
            er j ∙ rw (y, ne_eqb j w d) (c.moved j low ∙ ap (row_in rows₀) (sym (ap (λ (k : List ℕ). get_or k j 0) (open_yes p y) ∙ get_or-append (open_to flags p) (p ∷ []) 0 j low'))));
        rest = λ q l. er q ∙ rw (y, ne_eqb q w (λ s. omega arith)) (c.rest q (omega arith));
      })
      (λ y.
      let e : w' ≡ w = ew ∙ rw y in
      record {
        len_rows = lr ∙ c.len_rows;
        len_numbers = length_new;
        count = e ∙ c.count ∙ sym (ap length (open_no p y));
        named = named';
        moved = λ j l. er j ∙ rw y (c.moved j (omega arith) ∙ ap (row_in rows₀) (sym (ap (λ (k : List ℕ). get_or k j 0) (open_no p y))));
        rest = λ q l. er q ∙ rw y (c.rest q (omega arith));
      })
    where
      length_new : length numbers' ≡ length numbers₀
      length_new = ap length en ∙ length-set numbers p (cond (is_open flags p) w none_of) ∙ c.len_numbers

      named' : (q : ℕ) → q < suc p → get_or numbers' q 0 ≡ number_in flags q
      named' q l =
          ap (λ (k : List ℕ). get_or k q 0) en
          ∙ by-eq q p
          (λ s. rw s (get_or-set_same numbers p (cond (is_open flags p) w none_of) 0 h ∙ ap (λ (k : ℕ). cond (is_open flags p) k none_of) c.count))
          (λ d. get_or-set_other numbers p q (cond (is_open flags p) w none_of) 0 d ∙ c.named q (by_order p q (λ g. absurd (d (omega arith))) (λ g. g)))

  -- ---- the new numbers

  module _ (np : ℕ) (few : np ≤ none_of) (numbers : List ℕ) (named : (p : ℕ) → p < np → get_or numbers p 0 ≡ number_in flags p) where
    abbrev at : ℕ → ℕ
    at j = get_or (open_to flags np) j 0

    number_low : (v : ℕ) → (v < np) ⊎ (v ≡ none_of) → (renumbered_of numbers v < length (open_to flags np)) ⊎ (renumbered_of numbers v ≡ none_of)
    unfolding renumbered_of number_in
    number_low v h =
        ⊎_elim
        (λ l. rw (ne_eqb v none_of (λ e. omega arith), named v l) (by_open v (λ y. rw y (inl (rank_at np v l y).0)) (λ y. rw y (inr refl))))
        (λ e. rw (eq-eqb v none_of e) (inr refl))
        h

    number_same : (v j : ℕ) → (v < np) ⊎ (v ≡ none_of) → j < length (open_to flags np) → eqb (renumbered_of numbers v) j ≡ eqb v (at j)
    unfolding renumbered_of number_in
    number_same v j h l =
        let r = at_rank np j l in
        let le = open_le np in
        ⊎_elim
        (λ s. rw (ne_eqb v none_of (λ e. omega arith), named v s)
        (by_open v
        (λ y. rw y
        (let k = rank_at np v s y in
        by-eq v (at j)
        (λ e. eq-eqb (length (open_to flags v)) j (ap (λ (i : ℕ). length (open_to flags i)) e ∙ r.2) ∙ sym (eq-eqb v (at j) e))
        (λ d. ne_eqb (length (open_to flags v)) j (λ e. d (sym k.1 ∙ ap at e)) ∙ sym (ne_eqb v (at j) d))))
        (λ y. rw y (ne_eqb none_of j (λ e. omega arith) ∙ sym (ne_eqb v (at j) (λ e. false≢true (sym y ∙ ap (is_open flags) e ∙ r.1)))))))
        (λ e. rw (eq-eqb v none_of e) (ne_eqb none_of j (λ w. omega arith) ∙ sym (ne_eqb v (at j) (λ w. let a = r.0 in omega arith))))
        h

    module _ (m : ℕ) (of of' : List ℕ) (old : Numbered of m np) (new : (i : ℕ) → i < m → get_or of' i none_of ≡ renumbered_of numbers (get_or of i none_of)) where
      pub numbered_new : Numbered of' m (length (open_to flags np))
      unfolding Numbered
      numbered_new i h = rw (new i h) (number_low (get_or of i none_of) (old i h))

      tris_new : (j : ℕ) → j < length (open_to flags np) → tris_in of' m j ≡ tris_in of m (at j)
      unfolding Numbered tris_in
      tris_new j l =
          filter_under (λ i. eqb (get_or of' i none_of) j) (λ i. eqb (get_or of i none_of) (at j)) m
          (λ i h. ap (λ (v : ℕ). eqb v j) (new i h) ∙ number_same (get_or of i none_of) j (old i h) l)

      module _ (rows rows' : List Float) (moved : (j : ℕ) → j < length (open_to flags np) → row_in rows' j ≡ row_in rows (at j)) where
        patches_new : patches_in rows' of' m (length (open_to flags np)) ≡ map (patch_in rows of m) (open_to flags np)
        unfolding patches_in
        patches_new =
            map_at (patch_in rows' of' m) (patch_in rows of m) (open_to flags np) (λ j l. patch_rows rows' rows of' of m j (at j) (moved j l) (tris_new j l))
          where
            get_d_map : (f : ℕ → Patch) (xs : List ℕ) (j : ℕ) → j < length xs → get_or (map f xs) j no_patch ≡ f (get_or xs j 0)
            get_d_map f [] j h = absurd (not-suc-le-zero h)
            get_d_map f (x ∷ xs) zero h = refl
            get_d_map f (x ∷ xs) (suc j) h = get_d_map f xs j (le_of_suc-le-suc h)

            length_of : (f : ℕ → Patch) (xs : List ℕ) → length (map f xs) ≡ length xs
            length_of f [] = refl
            length_of f (x ∷ xs) = ap suc (length_of f xs)

            map_at : (g f : ℕ → Patch) (xs : List ℕ) → ((j : ℕ) → j < length xs → g j ≡ f (get_or xs j 0)) → map g (up_to (length xs)) ≡ map f xs
            map_at g f xs e =
                let lg = length_up_to g (length xs) in
                ext_get_or no_patch (map g (up_to (length xs))) (map f xs) (lg ∙ sym (length_of f xs))
                (λ j h. let l : j < length xs = omega arith in get_or_map_up_to g (length xs) j no_patch l ∙ e j l ∙ sym (get_d_map f xs j l))

        -- with a test of patches that the flags tell
        pub closed_is : (test : Patch → Bool) → ((p : ℕ) → p < np → is_open flags p ≡ test (patch_in rows of m p))
            → patches_in rows' of' m (length (open_to flags np)) ≡ filter_by test (patches_in rows of m np)
        unfolding open_to patches_in filter_by
        closed_is test e =
            patches_new
            ∙ ap (map (patch_in rows of m)) (filter_under (is_open flags) (λ p. test (patch_in rows of m p)) np e)
            ∙ sym (filter_map (patch_in rows of m) (up_to np))
          where
            filter_map : (f : ℕ → Patch) (xs : List ℕ) → filter_by test (map f xs) ≡ map f (filter_by (λ p. test (f p)) xs)
            filter_map f [] = refl
            filter_map f (x ∷ xs) = go (test (f x)) (filter_map f xs)
              where
                go : (b : Bool) → filter_by test (map f xs) ≡ map f (filter_by (λ p. test (f p)) xs) → keep_if b (f x) (filter_by test (map f xs)) ≡ map f (keep_if b x (filter_by (λ p. test (f p)) xs))
                go true r = ap (λ (l : List Patch). f x ∷ l) r
                go false r = r

-- ---- the loop of `renumber`

pub record Renumbering (numbers of₀ of : List ℕ) (i : ℕ) : Type 0 where
  pub len : length of ≡ length of₀
  pub done : (j : ℕ) → j < i → get_or of j none_of ≡ renumbered_of numbers (get_or of₀ j none_of)
  pub rest : (j : ℕ) (d : ℕ) → i ≤ j → get_or of j d ≡ get_or of₀ j d

pub renumbering_none : (numbers of : List ℕ) → Renumbering numbers of of 0
renumbering_none numbers of = record { len = refl; done = λ j h. absurd (not-suc-le-zero h); rest = λ j d h. refl }

pub renumbering_at : (numbers of₀ of : List ℕ) (i : ℕ) → Renumbering numbers of₀ of i → get_or of i 0 ≡ get_or of₀ i 0
renumbering_at numbers of₀ of i r = r.rest i 0 (le_refl i)

pub renumbering_more : (numbers of₀ of : List ℕ) (i v : ℕ) → Renumbering numbers of₀ of i → i < length of₀ → v ≡ renumbered_of numbers (get_or of i 0) → Renumbering numbers of₀ (set of i v) (i + 1)
renumbering_more numbers of₀ of i v r h e =
    let l = r.len in
    let low : i < length of = omega arith in
    let here : get_or of i 0 ≡ get_or of₀ i none_of = get_d_any of i 0 none_of low ∙ r.rest i none_of (le_refl i) in
    record {
      len = length-set of i v ∙ l;
      done = λ j g. by-eq j i (λ s. rw (s, get_or-set_same of i v none_of low) (e ∙ ap (renumbered_of numbers) here)) (λ d. get_or-set_other of i j v none_of d ∙ r.done j (by_order i j (λ w. absurd (d (omega arith))) (λ w. w)));
      rest = λ j d g. get_or-set_other of i j v d (λ s. omega arith) ∙ r.rest j d (omega arith);
    }

-- room for more patches
pub numbered_wider : (of : List ℕ) (m np k : ℕ) → Numbered of m np → np ≤ k → Numbered of m k
unfolding Numbered
numbered_wider of m np k d h i l = ⊎_elim (λ w. inl (omega arith)) (λ w. inr w) (d i l)
