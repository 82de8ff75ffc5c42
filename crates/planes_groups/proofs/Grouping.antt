-- The loop over the seeds: one group after another.
use mathlib.Core.Path.{◌≡◌, refl, sym, ap, ◌∙◌}
use mathlib.Core.Bool.{Bool, true, false, not, ◌&&◌}
use mathlib.Core.List.{List, [], ◌∷◌, ◌++◌, map, append-nil}
use Prim.Native.Nat.{ℕ, suc, ◌+◌, ◌<◌, ◌≤◌}
use native.Mathlib.Nat.{le_refl}
use native.Mathlib.Numerals.{add-one}
use native.Mathlib.Omega.{arith}
use lib.Dec.{eqb}
use lib.ListN.{length, get_or, take, drop, set, drop_of_length-le}
use lib.Seq.{append_snoc, drop-cons, get_or-take, get_or-set_same, get_or-set_other, length-take-le, take-suc, take-suc-set}
use borrow.Author.Tests.{eq-eqb, ne_eqb, lt-ltb}
use Rattle.float.proofs.Numbers.{by_order}
use Rattle.order.specs.Sort.{Below}
use Rattle.order.specs.Runs.{any_by, up_to}
use Rattle.order.proofs.Stable.{by-eq}
use Rattle.order.proofs.Positions.{Under, under_up_to}
use Rattle.planes_patches.specs.Lists.{filter_by}
use Rattle.planes_links.specs.Words.{part_of}
use Rattle.planes_links.proofs.Rising.{has_filter, has_up_to}
use Rattle.planes_groups.specs.Groups.{grown_of, groups_from}
use Rattle.planes_groups.specs.Rows.{groups_in, Grouped, is_free_at, free_of, Queue, Grown, RowsOf}
use Rattle.planes_groups.proofs.Queueing.{part_kept, part_new}

-- ---- groups in areas

map_snoc : (f : ℕ → List ℕ) (xs : List ℕ) (x : ℕ) → map f (xs ++ (x ∷ [])) ≡ map f xs ++ (f x ∷ [])
map_snoc f [] x = refl
map_snoc f (y ∷ ys) x = ap (λ (l : List (List ℕ)). f y ∷ l) (map_snoc f ys x)

map_under : (f g : ℕ → List ℕ) (n : ℕ) (xs : List ℕ) → Under n xs → ((x : ℕ) → x < n → f x ≡ g x) → map f xs ≡ map g xs
unfolding Under
map_under f g n [] u e = refl
map_under f g n (x ∷ xs) u e = rw (e x u.0, map_under f g n xs u.1 e)

module _ (queue queue2 starts new : List ℕ) (ng tail r : ℕ) (e : take r queue2 ≡ take tail queue ++ new) (le : tail ≤ r) (long : tail ≤ length queue) (room : ng + 1 < length starts)
    (at : get_or starts ng 0 ≡ tail) (rise : (g : ℕ) → g ≤ ng → get_or starts g 0 ≤ tail) where
  pub groups_more : groups_in queue2 (set starts (ng + 1) r) (ng + 1) ≡ groups_in queue starts ng ++ (new ∷ [])
  unfolding groups_in up_to
  groups_more =
      let s2 = set starts (ng + 1) r in
      let f : ℕ → List ℕ = λ g. part_of queue2 (get_or s2 g 0) (get_or s2 (g + 1) 0) in
      ap (λ (k : ℕ). map f (up_to k)) (add-one ng) ∙ map_snoc f (up_to ng) ng
      ∙ ap (λ (l : List (List ℕ)). l ++ (f ng ∷ [])) (map_under f (λ g. part_of queue (get_or starts g 0) (get_or starts (g + 1) 0)) ng (up_to ng) (under_up_to ng) older)
      ∙ ap (λ (l : List ℕ). map (λ g. part_of queue (get_or starts g 0) (get_or starts (g + 1) 0)) (up_to ng) ++ (l ∷ [])) newest
    where
      older : (g : ℕ) → g < ng → part_of queue2 (get_or (set starts (ng + 1) r) g 0) (get_or (set starts (ng + 1) r) (g + 1) 0) ≡ part_of queue (get_or starts g 0) (get_or starts (g + 1) 0)
      older g h =
          let a : get_or (set starts (ng + 1) r) g 0 ≡ get_or starts g 0 = get_or-set_other starts (ng + 1) g r 0 (λ s. omega arith) in
          let b : get_or (set starts (ng + 1) r) (g + 1) 0 ≡ get_or starts (g + 1) 0 = get_or-set_other starts (ng + 1) (g + 1) r 0 (λ s. omega arith) in
          rw (a, b) (part_kept queue queue2 new tail r e le long (get_or starts g 0) (get_or starts (g + 1) 0) (rise (g + 1) (omega arith)))

      newest : part_of queue2 (get_or (set starts (ng + 1) r) ng 0) (get_or (set starts (ng + 1) r) (ng + 1) 0) ≡ new
      newest =
          let a : get_or (set starts (ng + 1) r) ng 0 ≡ tail = get_or-set_other starts (ng + 1) ng r 0 (λ s. omega arith) ∙ at in
          let b : get_or (set starts (ng + 1) r) (ng + 1) 0 ≡ r = get_or-set_same starts (ng + 1) r 0 room in
          rw (a, b) (part_new queue queue2 new tail r e le long)

-- ---- one seed

pub seed_free : (np : ℕ) (col : List ℕ) (s : ℕ) → s < np → any_by (eqb s) (free_of np col) ≡ is_free_at col s
unfolding free_of
seed_free np col s h = has_filter (is_free_at col) s (up_to np) ∙ ap (λ (b : Bool). is_free_at col s && b) (has_up_to np s ∙ lt-ltb s np h) ∙ one (is_free_at col s)
  where
    one : (b : Bool) → b && true ≡ b
    one true = refl
    one false = refl

module _ (np : ℕ) (adj fit : ℕ → ℕ → Bool) (s : ℕ) (seeds free : List ℕ) where
  -- by whether the seed is free
  abbrev by_free : Bool → List (List ℕ)
  by_free b = elim b [
    | true ↦ let g = grown_of np adj (fit s) (s ∷ []) (filter_by (λ q. not (eqb s q)) free) in g.0 ∷ groups_from np adj fit seeds g.1
    | false ↦ groups_from np adj fit seeds free
  ]

  pub from_skip : any_by (eqb s) free ≡ false → groups_from np adj fit (s ∷ seeds) free ≡ groups_from np adj fit seeds free
  unfolding groups_from
  from_skip e = ap by_free e

  pub from_start : any_by (eqb s) free ≡ true → groups_from np adj fit (s ∷ seeds) free
      ≡ (grown_of np adj (fit s) (s ∷ []) (filter_by (λ q. not (eqb s q)) free)).0 ∷ groups_from np adj fit seeds (grown_of np adj (fit s) (s ∷ []) (filter_by (λ q. not (eqb s q)) free)).1
  unfolding groups_from
  from_start e = ap by_free e

-- ---- the loop

pub record Grouping (np : ℕ) (fit : ℕ → ℕ → Bool) (asorted astarts seeds col0 col queue starts : List ℕ) (ng tail i : ℕ) : Type 0 where
  pub few : ng ≤ i
  pub queue_is : Queue np col queue tail
  pub at : get_or starts ng 0 ≡ tail
  pub rise : (g : ℕ) → g ≤ ng → get_or starts g 0 ≤ tail
  pub steps : (g : ℕ) → g < ng → get_or starts g 0 ≤ get_or starts (g + 1) 0
  pub is : (adj : ℕ → ℕ → Bool) → RowsOf np asorted astarts adj → groups_in queue starts ng ++ groups_from np adj fit (drop i seeds) (free_of np col) ≡ groups_from np adj fit seeds (free_of np col0)

pub group_none : (np : ℕ) (fit : ℕ → ℕ → Bool) (asorted astarts seeds col queue starts : List ℕ) → Queue np col queue 0 → get_or starts 0 0 ≡ 0 → Grouping np fit asorted astarts seeds col col queue starts 0 0 0
unfolding groups_in up_to
group_none np fit asorted astarts seeds col queue starts q z =
    record { few = le_refl 0; queue_is = q; at = z; rise = λ g h. let e : g ≡ 0 = omega arith in rw (e, z) (le_refl 0); steps = λ g h. absurd (omega arith); is = λ adj rows. refl }

module _ (np : ℕ) (fit : ℕ → ℕ → Bool) (asorted astarts seeds col0 col queue starts : List ℕ) (ng tail i : ℕ) (m : Grouping np fit asorted astarts seeds col0 col queue starts ng tail i) (h : i < length seeds) (low : get_or seeds i 0 < np) where
  rest : drop i seeds ≡ get_or seeds i 0 ∷ drop (i + 1) seeds
  rest = drop-cons seeds i 0 h ∙ ap (λ (k : ℕ). get_or seeds i 0 ∷ drop k seeds) (sym (add-one i))

  pub group_skip : (get_or col (get_or seeds i 0) 0 ≡ 0 → ⊥) → Grouping np fit asorted astarts seeds col0 col queue starts ng tail (i + 1)
  group_skip d =
      let f = m.few in
      let s = get_or seeds i 0 in
      record {
        few = omega arith;
        queue_is = m.queue_is;
        at = m.at;
        rise = m.rise;
        steps = m.steps;
        is = λ adj rows.
            ap (λ (l : List (List ℕ)). groups_in queue starts ng ++ l)
            (sym (ap (λ (l : List ℕ). groups_from np adj fit l (free_of np col)) rest ∙ from_skip np adj fit s (drop (i + 1) seeds) (free_of np col) (seed_free np col s low ∙ ne_eqb (get_or col s 0) 0 d)))
            ∙ m.is adj rows;
      }

  pub group_more : get_or col (get_or seeds i 0) 0 ≡ 0 → (col2 queue2 : List ℕ) (r : ℕ) → tail ≤ r → Queue np col2 queue2 r → ng + 1 < length starts
      → ((adj : ℕ → ℕ → Bool) → RowsOf np asorted astarts adj → Grown np adj (fit (get_or seeds i 0)) (take tail queue) (get_or seeds i 0 ∷ []) (filter_by (λ q. not (eqb (get_or seeds i 0) q)) (free_of np col)) col2 queue2 r)
      → Grouping np fit asorted astarts seeds col0 col2 queue2 (set starts (ng + 1) r) (ng + 1) r (i + 1)
  group_more z col2 queue2 r le q2 room grown =
      let f = m.few in
      let s = get_or seeds i 0 in
      let long : tail ≤ length queue = let w = m.queue_is.room in let t = m.queue_is.total in omega arith in
      record {
        few = omega arith;
        queue_is = q2;
        at = get_or-set_same starts (ng + 1) r 0 room;
        rise = λ g l. by-eq g (ng + 1)
            (λ e. let v : get_or (set starts (ng + 1) r) g 0 ≡ r = ap (λ (k : ℕ). get_or (set starts (ng + 1) r) k 0) e ∙ get_or-set_same starts (ng + 1) r 0 room in omega arith)
            (λ d. let v = get_or-set_other starts (ng + 1) g r 0 d in let w = m.rise g (by_order g ng (λ y. y) (λ y. absurd (d (omega arith)))) in omega arith);
        steps = λ g l.
            let v = get_or-set_other starts (ng + 1) g r 0 (λ e. omega arith) in
            by-eq g ng
            (λ e. let w : get_or (set starts (ng + 1) r) (g + 1) 0 ≡ r = ap (λ (k : ℕ). get_or (set starts (ng + 1) r) (k + 1) 0) e ∙ get_or-set_same starts (ng + 1) r 0 room in let y = m.rise g (omega arith) in omega arith)
            (λ d.
            let low : g < ng = by_order (suc g) ng (λ y. y) (λ y. absurd (d (omega arith))) in
            let w = get_or-set_other starts (ng + 1) (g + 1) r 0 (λ e. omega arith) in
            let y = m.steps g low in
            omega arith);
        is = λ adj rows.
            let g = grown adj rows in
            let new = (grown_of np adj (fit s) (s ∷ []) (filter_by (λ q. not (eqb s q)) (free_of np col))).0 in
            ap (λ (l : List (List ℕ)). l ++ groups_from np adj fit (drop (i + 1) seeds) (free_of np col2)) (groups_more queue queue2 starts new ng tail r g.group le long room m.at m.rise)
            ∙ groups_snoc (groups_in queue starts ng) new (groups_from np adj fit (drop (i + 1) seeds) (free_of np col2))
            ∙ ap (λ (l : List (List ℕ)). groups_in queue starts ng ++ l)
            (ap (λ (l : List ℕ). new ∷ groups_from np adj fit (drop (i + 1) seeds) l) g.left
            ∙ sym (ap (λ (l : List ℕ). groups_from np adj fit l (free_of np col)) rest ∙ from_start np adj fit s (drop (i + 1) seeds) (free_of np col) (seed_free np col s low ∙ eq-eqb (get_or col s 0) 0 z)))
            ∙ m.is adj rows;
      }
    where
      groups_snoc : (xs : List (List ℕ)) (a : List ℕ) (ys : List (List ℕ)) → (xs ++ (a ∷ [])) ++ ys ≡ xs ++ a ∷ ys
      groups_snoc xs a ys = append_snoc xs a ys

  pub group_free : get_or col (get_or seeds i 0) 0 ≡ 0 → is_free_at col (get_or seeds i 0) ≡ true
  group_free z = eq-eqb (get_or col (get_or seeds i 0) 0) 0 z

pub group_done : (np : ℕ) (fit : ℕ → ℕ → Bool) (asorted astarts seeds col0 col queue starts : List ℕ) (ng tail i : ℕ) → Grouping np fit asorted astarts seeds col0 col queue starts ng tail i → length seeds ≤ i
    → (adj : ℕ → ℕ → Bool) → RowsOf np asorted astarts adj → groups_in queue starts ng ≡ groups_from np adj fit seeds (free_of np col0)
unfolding groups_from
group_done np fit asorted astarts seeds col0 col queue starts ng tail i m h adj rows =
    let none : groups_from np adj fit (drop i seeds) (free_of np col) ≡ [] = rw (drop_of_length-le seeds h) in
    sym (append-nil (groups_in queue starts ng)) ∙ ap (λ (l : List (List ℕ)). groups_in queue starts ng ++ l) (sym none) ∙ m.is adj rows

pub group_grouped : (np : ℕ) (fit : ℕ → ℕ → Bool) (asorted astarts seeds col0 col queue starts : List ℕ) (ng tail i : ℕ) → Grouping np fit asorted astarts seeds col0 col queue starts ng tail i → Grouped np ng queue starts
group_grouped np fit asorted astarts seeds col0 col queue starts ng tail i m =
    let t = m.queue_is.total in
    record { rise = m.steps; ends = λ g h. let r = m.rise g h in omega arith; below = rw m.at m.queue_is.below }

-- ---- the seeds as the first np of an area

pub seed_below : (np : ℕ) (order : List ℕ) (i : ℕ) → Below np (take np order) → np ≤ length order → i < np → get_or order i 0 < np
unfolding Below
seed_below np order i b h l = let n = length-take-le np order h in let v = b i (omega arith) in let e = get_or-take np order i 0 l in omega arith

pub seed_at : (np : ℕ) (order : List ℕ) (i : ℕ) → i < np → get_or (take np order) i 0 ≡ get_or order i 0
seed_at np order i l = get_or-take np order i 0 l

-- ---- each patch alone

pub record Alone (order queue starts : List ℕ) (i : ℕ) : Type 0 where
  pub at : (g : ℕ) → g ≤ i → get_or starts g 0 ≡ g
  pub same : take i queue ≡ take i order
  pub is : groups_in queue starts i ≡ map (λ p. p ∷ []) (take i order)

pub alone_none : (order queue starts : List ℕ) → get_or starts 0 0 ≡ 0 → Alone order queue starts 0
unfolding groups_in up_to
alone_none order queue starts z = record { at = λ g h. let e : g ≡ 0 = omega arith in rw e z; same = refl; is = refl }

pub alone_more : (order queue starts : List ℕ) (i : ℕ) → i < length order → i < length queue → i + 1 < length starts → Alone order queue starts i
    → Alone order (set queue i (get_or order i 0)) (set starts (i + 1) (i + 1)) (i + 1)
alone_more order queue starts i ho hq hs m =
    let x = get_or order i 0 in
    let pushed : take (i + 1) (set queue i x) ≡ take i queue ++ (x ∷ []) = ap (λ (k : ℕ). take k (set queue i x)) (add-one i) ∙ take-suc-set queue i x hq in
    let taken : take (i + 1) order ≡ take i order ++ (x ∷ []) = ap (λ (k : ℕ). take k order) (add-one i) ∙ take-suc order i 0 ho in
    record {
      at = λ g h. by-eq g (i + 1)
          (λ e. ap (λ (k : ℕ). get_or (set starts (i + 1) (i + 1)) k 0) e ∙ get_or-set_same starts (i + 1) (i + 1) 0 hs ∙ sym e)
          (λ d. get_or-set_other starts (i + 1) g (i + 1) 0 d ∙ m.at g (by_order g i (λ y. y) (λ y. absurd (d (omega arith)))));
      same = pushed ∙ ap (λ (l : List ℕ). l ++ (x ∷ [])) m.same ∙ sym taken;
      is =
          groups_more queue (set queue i x) starts (x ∷ []) i i (i + 1) pushed (omega arith) (omega arith) hs (m.at i (le_refl i)) (λ g h. let e = m.at g h in omega arith)
          ∙ ap (λ (l : List (List ℕ)). l ++ ((x ∷ []) ∷ [])) m.is
          ∙ sym (map_snoc (λ p. p ∷ []) (take i order) x)
          ∙ ap (map (λ (p : ℕ). p ∷ [])) (sym taken);
    }

pub alone_grouped : (order queue starts : List ℕ) (np : ℕ) → Below np (take np order) → Alone order queue starts np → Grouped np np queue starts
alone_grouped order queue starts np b m =
    let last = m.at np (le_refl np) in
    record {
      rise = λ g h. let x = m.at g (omega arith) in let y = m.at (g + 1) (omega arith) in omega arith;
      ends = λ g h. let x = m.at g h in omega arith;
      below = rw (last, m.same) b;
    }
