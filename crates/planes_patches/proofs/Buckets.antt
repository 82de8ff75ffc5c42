-- The circular lists of the grid, one a bucket, from the oldest patch to the newest, the tail.
--     walk_start, walk_step               the walk from the oldest patch on passes no match
--     walk_empty, walk_found, walk_done   it ends with the first patch of a cell, or with none
--     grid_joined, grid_more              a patch that a triangle joins, and a new one
use mathlib.Core.Path.{◌≡◌, refl, sym, ap, ◌∙◌}
use mathlib.Core.Bool.{Bool, true, false, ◌&&◌, false≢true}
use mathlib.Core.List.{List, [], ◌∷◌, append-nil, flat_map}
use Prim.Native.Nat.{ℕ, zero, suc, ◌+◌, ◌-◌, ◌*◌, ◌<◌, ◌≤◌}
use native.Mathlib.Nat.{le_refl, not-suc-le-zero}
use native.Mathlib.Omega.{arith}
use lib.Dec.{eqb}
use lib.Ieee.{Float}
use lib.ListN.{length, get_or, set, length-set}
use lib.Seq.{get_or-set_same, get_or-set_other}
use borrow.Author.Tests.{eq-eqb, ne_eqb, eqb-true}
use Rattle.vector.specs.declared.Vec3.{Vec3}
use Rattle.order.specs.Runs.{first_by, up_to}
use Rattle.order.proofs.Stable.{by-eq}
use Rattle.planes_faces.specs.Key.{Key, same_key}
use Rattle.planes_patches.specs.Lists.{filter_by}
use Rattle.planes_patches.specs.Rows.{patch_floats}
use Rattle.planes_patches.specs.Grid.{bucket_count, bucket_of, cell_at, in_bucket, newest, linked_of, coplanar_at, match_at, cell_in, first_among, Grid}
use Rattle.planes_patches.proofs.Newest.{by_bool, by_link, less, newest_le, newest_under, newest_is, newest_above, by_newer, by_oldest}
use Rattle.planes_patches.proofs.Lists.{filter_under, first_filter, first_none, first_at_lem}

-- ---- the walk round a bucket

same_bucket : (a b : Key) → same_key a b ≡ true → eqb (bucket_of a) (bucket_of b) ≡ true
unfolding same_key bucket_of
same_bucket a b e = go (eqb a.x b.x) (eqb a.y b.y) (eqb a.z b.z) refl refl refl e
  where
    equal : a.x ≡ b.x → a.y ≡ b.y → a.z ≡ b.z → bucket_of a ≡ bucket_of b
    equal s t u = rw (s, t, u)

    go : (p q r : Bool) → eqb a.x b.x ≡ p → eqb a.y b.y ≡ q → eqb a.z b.z ≡ r → p && q && r ≡ true → eqb (bucket_of a) (bucket_of b) ≡ true
    go true true true s t u e = eq-eqb (bucket_of a) (bucket_of b) (equal (eqb-true _ _ s) (eqb-true _ _ t) (eqb-true _ _ u))
    go true true false s t u e = absurd (false≢true e)
    go true false r s t u e = absurd (false≢true e)
    go false q r s t u e = absurd (false≢true e)

bucket_low : (c : Key) → bucket_of c < bucket_count
unfolding bucket_of
bucket_low c = omega arith

pub head_low : {rows : List Float} {cells heads next : List ℕ} {np : ℕ} → Grid rows cells heads next np → (c : Key) → get_or heads (bucket_of c) 0 ≤ np
head_low {np = np} g c = rw (g.heads_are (bucket_of c) (bucket_low c)) (newest_le _ np)

-- the walk is at patch p of the bucket of cell c, no further than the tail, and no patch before p matches
abbrev pub Walked : List Float → List ℕ → Key → Vec3 → Float → ℕ → ℕ → Type 0
Walked rows cells c n d tail p = (p ≤ tail) × (in_bucket cells (bucket_of c) p ≡ true) × ((j : ℕ) → j < p → match_at rows cells c n d j ≡ false)

module _ {rows : List Float} {cells heads next : List ℕ} {np : ℕ} (g : Grid rows cells heads next np) (c : Key) (n : Vec3) (d : Float) {h : ℕ} (eh : h ≡ bucket_of c) where
  abbrev match : ℕ → Bool
  match = match_at rows cells c n d

  abbrev mine : ℕ → Bool
  mine = in_bucket cells (bucket_of c)

  abbrev among : ℕ
  among = first_among rows np n d (c ∷ [])

  -- no patch before p matches
  abbrev Past : ℕ → Type 0
  Past p = (j : ℕ) → j < p → match j ≡ false

  -- a patch that matches is in the bucket
  match_mine : (j : ℕ) → match j ≡ true → mine j ≡ true
  unfolding match_at
  match_mine j e = by_bool (same_key (cell_at cells j) c) (same_bucket (cell_at cells j) c) (λ w. absurd (false≢true (rw w at e)))

  -- up to the newest of the bucket before q is as good as up to q
  past_to : (q : ℕ) → Past (newest mine q) → Past q
  past_to q past j l = by_bool (match j) (λ w. past j (newest_above mine q j l (match_mine j w))) (λ w. w)

  past_more : (p : ℕ) → Past p → match p ≡ false → Past (suc p)
  past_more p past miss j l = by-eq j p (λ s. rw s miss) (λ e. past j (less j p l e))

  head_is : get_or heads h 0 ≡ newest mine np
  head_is = rw eh (g.heads_are (bucket_of c) (bucket_low c))

  -- by the stored cells
  among_is : first_by match np (up_to np) ≡ among
  unfolding match_at first_among flat_map
  among_is =
      sym (first_filter (λ j. same_key (cell_at cells j) c) (coplanar_at rows n d) np (up_to np))
      ∙ ap (first_by (coplanar_at rows n d) np)
      (filter_under (λ j. same_key (cell_at cells j) c) (λ j. same_key (cell_in rows j) c) np (λ j l. ap (λ (k : Key). same_key k c) (g.cells_are j l))
      ∙ sym (append-nil (filter_by (λ j. same_key (cell_in rows j) c) (up_to np))))

  found_none : Past (get_or heads h 0) → np ≡ among
  found_none past = sym (first_none match np np (past_to np (rw head_is at past))) ∙ among_is

  -- an empty bucket
  pub walk_empty : get_or heads h 0 ≡ 0 → np ≡ among
  walk_empty e = found_none (rw e (λ j l. absurd (not-suc-le-zero l)))

  module _ (some : get_or heads h 0 ≡ 0 → ⊥) where
    abbrev tail : ℕ
    tail = get_or heads h 0 - 1

    abbrev At : ℕ → Type 0
    At = Walked rows cells c n d tail

    head_tail : get_or heads h 0 ≡ suc tail
    head_tail = by_link (get_or heads h 0) (λ z. absurd (some z)) (λ p s. omega arith)

    top : newest mine np ≡ suc tail
    top = sym head_is ∙ head_tail

    pub tail_low : tail < np
    tail_low = (newest_is mine np tail top).0

    pub walk_start : At (get_or next tail 0)
    walk_start =
        let last = top in
        by_oldest mine np tail last
        (λ q l m z.
        let same = eqb-true (bucket_of (cell_at cells q)) (bucket_of c) m in
        let a = newest_above mine np q l m in
        rw (g.round_are tail q l (rw same z) (rw same last)) (omega arith, m, past_to q (rw z (λ j i. absurd (not-suc-le-zero i)))))

    pub walk_step : (p : ℕ) → At p → (p ≡ tail → ⊥) → match p ≡ false → (p < get_or next p 0) × At (get_or next p 0)
    walk_step p w ne miss =
        let last = top in
        let low = tail_low in
        by_newer mine np p (omega arith) w.1 (λ s. absurd (ne (omega arith)))
        (λ q l m s.
        let same = eqb-true (bucket_of (cell_at cells q)) (bucket_of c) m in
        let a = newest_above mine np q l m in
        let b = newest_le mine q in
        rw (g.next_are p q l (rw same s)) (omega arith, (omega arith, m, past_to q (rw s (past_more p w.2 miss)))))

    pub walk_found : (p : ℕ) → At p → match p ≡ true → p ≡ among
    walk_found p w m = let low = tail_low in sym (first_at_lem match np np p (omega arith) m w.2) ∙ among_is

    pub walk_done : (p : ℕ) → At p → p ≡ tail → match p ≡ false → np ≡ among
    walk_done p w s miss = found_none (rw (head_tail, ← s) (past_more p w.2 miss))

-- ---- a new patch

-- patches with other rows, but the same cells
pub grid_joined : (rows rows' : List Float) (cells heads next : List ℕ) (np : ℕ) → Grid rows cells heads next np → length rows' ≡ length rows
    → ((p : ℕ) → cell_in rows' p ≡ cell_in rows p) → Grid rows' cells heads next np
grid_joined rows rows' cells heads next np g s e =
    let a = g.room_rows in
    record { room_rows = omega arith; room_cells = g.room_cells; room_next = g.room_next; buckets = g.buckets; cells_are = λ p l. g.cells_are p l ∙ sym (e p); heads_are = g.heads_are; next_are = g.next_are; round_are = g.round_are }

-- the tail of a bucket that patch n was put into
heads_more : (b : ℕ → ℕ) (n : ℕ) (heads : List ℕ) (k : ℕ) → ((h : ℕ) → h < bucket_count → get_or heads h 0 ≡ newest (λ j. eqb (b j) h) n) → b n ≡ k → k < length heads
    → (h : ℕ) → h < bucket_count → get_or (set heads k (suc n)) h 0 ≡ newest (λ j. eqb (b j) h) (suc n)
unfolding newest
heads_more b n heads k ok e low h l =
    by-eq h k
    (λ s. rw (s, eq-eqb (b n) k e) (get_or-set_same heads k (suc n) 0 low))
    (λ d. rw (ne_eqb (b n) h (λ s. d (sym s ∙ e))) (get_or-set_other heads k h (suc n) 0 d ∙ ok h l))

-- what `linked_of` has at the new patch, at the tail before it, and at others
linked_new : (next : List ℕ) (n link q : ℕ) → n < length next → link ≤ n → (link ≡ 0 → q ≡ n) → ((t : ℕ) → link ≡ suc t → get_or next t 0 ≡ q) → get_or (linked_of next n link) n 0 ≡ q
unfolding linked_of
linked_new next n zero q h l a b = get_or-set_same next n n 0 h ∙ sym (a refl)
linked_new next n (suc t) q h l a b = get_or-set_other (set next n (get_or next t 0)) t n n 0 (λ s. omega arith) ∙ get_or-set_same next n (get_or next t 0) 0 h ∙ b t refl

linked_tail : (next : List ℕ) (n link p : ℕ) → link ≡ suc p → p < length next → get_or (linked_of next n link) p 0 ≡ n
unfolding linked_of
linked_tail next n link p e h = rw e (get_or-set_same (set next n (get_or next p 0)) p n 0 (simp length-set h))

linked_other : (next : List ℕ) (n link p : ℕ) → (p ≡ n → ⊥) → (link ≡ suc p → ⊥) → get_or (linked_of next n link) p 0 ≡ get_or next p 0
unfolding linked_of
linked_other next n zero p a b = get_or-set_other next n p n 0 a
linked_other next n (suc t) p a b = get_or-set_other (set next n (get_or next t 0)) t p n 0 (λ s. b (ap suc (sym s))) ∙ get_or-set_other next n p (get_or next t 0) 0 a

-- with the tail by its number
pub linked_at : (next : List ℕ) (n link : ℕ) → (link ≡ 0 → ⊥) → set (set next n (get_or next (link - 1) 0)) (link - 1) n ≡ linked_of next n link
unfolding linked_of
linked_at next n zero some = absurd (some refl)
linked_at next n (suc t) some = let e : suc t - 1 ≡ t = omega arith in rw e

linked_length : (next : List ℕ) (n link : ℕ) → length (linked_of next n link) ≡ length next
unfolding linked_of
linked_length next n zero = length-set next n n
linked_length next n (suc t) = length-set (set next n (get_or next t 0)) t n ∙ length-set next n (get_or next t 0)

-- round the buckets of n patches
module _ (b : ℕ → ℕ) (next : List ℕ) (n : ℕ) where
  abbrev like : ℕ → ℕ → Bool
  like q j = eqb (b j) (b q)

  abbrev Nexts : Type 0
  Nexts = (p q : ℕ) → q < n → newest (like q) q ≡ suc p → get_or next p 0 ≡ q

  abbrev Rounds : Type 0
  Rounds = (p q : ℕ) → q < n → newest (like q) q ≡ 0 → newest (like q) n ≡ suc p → get_or next p 0 ≡ q

  module _ (link : ℕ) (e : link ≡ newest (like n) n) (h : n < length next) where
    -- a patch p with one of its bucket, q, behind it is no tail
    other : (p q : ℕ) → q < n → p < q → b p ≡ b q → link ≡ suc p → ⊥
    other p q l i s w =
        let top = newest_is (like n) n p (sym e ∙ w) in
        let a = newest_above (like n) n q l (eq-eqb (b q) (b n) (sym s ∙ eqb-true (b p) (b n) top.1)) in
        omega arith

    nexts_more : Nexts → (p q : ℕ) → q < suc n → newest (like q) q ≡ suc p → get_or (linked_of next n link) p 0 ≡ q
    nexts_more ok p q l w =
        let at = newest_is (like q) q p w in
        by-eq q n
        (λ s. rw s (linked_tail next n link p (e ∙ rw s at w) (omega arith)))
        (λ d.
        let i = less q n l d in
        linked_other next n link p (λ s. omega arith) (other p q i at.0 (eqb-true (b p) (b q) at.1)) ∙ ok p q i w)

    rounds_more : Rounds → (p q : ℕ) → q < suc n → newest (like q) q ≡ 0 → newest (like q) (suc n) ≡ suc p → get_or (linked_of next n link) p 0 ≡ q
    unfolding newest
    rounds_more ok p q l z w =
        by-eq (b n) (b q)
        (λ s.
        let it : p ≡ n = let k : suc n ≡ suc p = rw (eq-eqb (b n) (b q) s) at w in omega arith in
        rw it (linked_new next n link q h (rw e (newest_le (like n) n))
        (λ none. by-eq q n (λ r. r) (λ d. absurd (let a = newest_above (like n) n q (less q n l d) (eq-eqb (b q) (b n) (sym s)) in let v : ⊥ = omega arith in v)))
        (λ t some. by-eq q n (λ r. absurd (let k : newest (like n) n ≡ 0 = rw r at z in let v : ⊥ = omega arith in v)) (λ d. ok t q (less q n l d) z (ap (λ (v : ℕ). newest (λ j. eqb (b j) v) n) (sym s) ∙ sym e ∙ some)))))
        (λ ne.
        let at : newest (like q) n ≡ suc p = rw (ne_eqb (b n) (b q) ne) at w in
        let top = newest_is (like q) n p at in
        linked_other next n link p (λ s. omega arith) (λ some. ne (sym (eqb-true (b p) (b n) (newest_is (like n) n p (sym e ∙ some)).1) ∙ eqb-true (b p) (b q) top.1))
        ∙ ok p q (by-eq q n (λ s. absurd (ne (ap b (sym s)))) (λ d. less q n l d)) z at)

-- patch np, of cell c, is the new tail of its bucket
pub grid_more : (rows rows' : List Float) (cells cells' heads next : List ℕ) (np : ℕ) (c : Key) → Grid rows cells heads next np
    → patch_floats * np + patch_floats ≤ length rows' → 3 * np + 3 ≤ length cells' → np < length next
    → ((p : ℕ) → (p ≡ np → ⊥) → cell_in rows' p ≡ cell_in rows p) → cell_in rows' np ≡ c
    → ((p : ℕ) → (p ≡ np → ⊥) → cell_at cells' p ≡ cell_at cells p) → cell_at cells' np ≡ c
    → Grid rows' cells' (set heads (bucket_of c) (suc np)) (linked_of next np (get_or heads (bucket_of c) 0)) (suc np)
grid_more rows rows' cells cells' heads next np c g rr rc rn er nr ec nc =
    let b : ℕ → ℕ = λ j. bucket_of (cell_at cells j) in
    let b' : ℕ → ℕ = λ j. bucket_of (cell_at cells' j) in
    let new : b' np ≡ bucket_of c = ap bucket_of nc in
    let old : (j : ℕ) → j < np → b' j ≡ b j = λ j l. ap bucket_of (ec j (λ s. omega arith)) in
    let same : (h n : ℕ) → n ≤ np → newest (λ j. eqb (b j) h) n ≡ newest (λ j. eqb (b' j) h) n =
    λ h n l. newest_under (λ j. eqb (b j) h) (λ j. eqb (b' j) h) n (λ j i. ap (λ (v : ℕ). eqb v h) (sym (old j (omega arith)))) in
    let like : (q n : ℕ) → q < np → n ≤ np → newest (λ j. eqb (b j) (b q)) n ≡ newest (λ j. eqb (b' j) (b' q)) n =
    λ q n l i. same (b q) n i ∙ ap (λ (h : ℕ). newest (λ j. eqb (b' j) h) n) (sym (old q l)) in
    let low = bucket_low c in
    let bk = g.buckets in
    let head : (h : ℕ) → h < bucket_count → get_or heads h 0 ≡ newest (λ j. eqb (b' j) h) np = λ h l. g.heads_are h l ∙ same h np (le_refl np) in
    let link : get_or heads (bucket_of c) 0 ≡ newest (λ j. eqb (b' j) (b' np)) np = head (bucket_of c) low ∙ ap (λ (h : ℕ). newest (λ j. eqb (b' j) h) np) (sym new) in
    record {
      room_rows = omega arith;
      room_cells = omega arith;
      room_next = rw (linked_length next np (get_or heads (bucket_of c) 0)) rn;
      buckets = length-set heads (bucket_of c) (suc np) ∙ bk;
      cells_are = λ p l. by-eq p np (λ s. rw s (nc ∙ sym nr)) (λ d. ec p d ∙ g.cells_are p (less p np l d) ∙ sym (er p d));
      heads_are = λ h l. heads_more b' np heads (bucket_of c) head new (omega arith) h l;
      next_are = nexts_more b' next np (get_or heads (bucket_of c) 0) link rn (λ p q l e. g.next_are p q l (like q q l (omega arith) ∙ e));
      round_are = rounds_more b' next np (get_or heads (bucket_of c) 0) link rn (λ p q l z e. g.round_are p q l (like q q l (omega arith) ∙ z) (like q np l (le_refl np) ∙ e));
    }
