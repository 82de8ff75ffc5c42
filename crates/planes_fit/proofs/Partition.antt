-- The groups of the definition are a partition: none is empty, and no patch stands twice (`grouped`).
use mathlib.Core.Path.{◌≡◌, refl, sym, ap, ◌∙◌}
use mathlib.Core.Bool.{Bool, true, false, cond, not, ◌&&◌, ◌||◌}
use mathlib.Core.List.{List, [], ◌∷◌, ◌++◌, map, append_assoc}
use Prim.Native.Nat.{ℕ, zero, suc, ◌+◌, ◌-◌, ◌<◌, ◌≤◌}
use native.Mathlib.Nat.{not-suc-le-zero}
use native.Mathlib.Omega.{arith}
use lib.Dec.{eqb, ltb}
use lib.Ieee.{lt}
use lib.ListN.{length, get_or}
use borrow.Author.Tests.{eq-eqb, eqb-true, ltb-true}
use Rattle.laws.proofs.Bools.{or_right, and_second}
use Rattle.float.specs.Literals.{zero32}
use Rattle.order.specs.Sort.{Below, Perm, none, skip, swap, then}
use Rattle.order.specs.Runs.{any_by, up_to}
use Rattle.order.proofs.Stable.{sort_perm, perm_same}
use Rattle.order.proofs.Positions.{get_or_map_up_to}
use Rattle.geometry.specs.declared.Triangle.{Triangle}
use Rattle.planes_patches.specs.Lists.{keep_if, filter_by}
use Rattle.planes_patches.specs.Patch.{Patch, patch_at}
use Rattle.planes_patches.proofs.Lists.{length_up_to}
use Rattle.planes_links.specs.Words.{has, part_of}
use Rattle.planes_links.proofs.Rising.{has_head, clash, has_filter, has_up_to, up_to_rising, perm_has}
use Rattle.planes_groups.specs.Settings.{Settings}
use Rattle.planes_groups.specs.Groups.{seeds_of, is_adjacent, runs_of, takes, grown_of, groups_from, groups_of}
use Rattle.planes_groups.specs.Rows.{groups_in}
use Rattle.planes_fit.specs.Rows.{group_in, PatchesOnce, Grouped}
use Rattle.planes_fit.proofs.Members.{rising_once, perm_once, perm_turn, has_append}

-- ---- lists in another order

perm_before : (xs : List ℕ) {ys zs : List ℕ} → Perm ys zs → Perm (xs ++ ys) (xs ++ zs)
perm_before [] p = p
perm_before (x ∷ xs) p = skip (perm_before xs p)

perm_middle : (x : ℕ) (xs ys : List ℕ) → Perm (x ∷ xs ++ ys) (xs ++ (x ∷ ys))
perm_middle x [] ys = perm_same (x ∷ ys)
perm_middle x (y ∷ xs) ys = then swap (skip (perm_middle x xs ys))

-- those that pass, then the others
perm_filter : (t : ℕ → Bool) (xs : List ℕ) → Perm xs (filter_by t xs ++ filter_by (λ q. not (t q)) xs)
unfolding filter_by
perm_filter t [] = none
perm_filter t (x ∷ xs) = go (t x) (perm_filter t xs)
  where
    go : (b : Bool) → Perm xs (filter_by t xs ++ filter_by (λ q. not (t q)) xs) → Perm (x ∷ xs) (keep_if b x (filter_by t xs) ++ keep_if (not b) x (filter_by (λ q. not (t q)) xs))
    go true p = skip p
    go false p = then (skip p) (perm_middle x (filter_by t xs) (filter_by (λ q. not (t q)) xs))

-- ---- lists in which no number stands twice

once_both : (xs ys : List ℕ) → PatchesOnce (xs ++ ys) → PatchesOnce xs × (PatchesOnce ys × ((p : ℕ) → has p xs ≡ true → has p ys ≡ false))
unfolding PatchesOnce any_by
once_both [] ys o = (tt, (o, λ p h. absurd (clash h refl)))
once_both (x ∷ xs) ys o =
    let r = once_both xs ys o.1 in
    let e : has x xs || has x ys ≡ false = sym (has_append x xs ys) ∙ o.0 in
    ((left (has x xs) (has x ys) e, r.0), (r.1.0, λ p h. go p (eqb p x) refl (r.1.1 p) h))
  where
    left : (a b : Bool) → a || b ≡ false → a ≡ false
    left true b e = e
    left false b e = refl

    right : (a b : Bool) → a || b ≡ false → b ≡ false
    right true b e = absurd (clash refl e)
    right false b e = e

    go : (p : ℕ) (b : Bool) → eqb p x ≡ b → (has p xs ≡ true → has p ys ≡ false) → eqb p x || has p xs ≡ true → has p ys ≡ false
    go p true e f h = ap (λ (q : ℕ). has q ys) (eqb-true p x e) ∙ right (has x xs) (has x ys) (sym (has_append x xs ys) ∙ o.0)
    go p false e f h = f (sym (ap (λ (b : Bool). b || has p xs) e) ∙ h)

-- the others than s, after it
seed_once : (s : ℕ) (free : List ℕ) → PatchesOnce free → PatchesOnce (s ∷ filter_by (λ q. not (eqb s q)) free)
unfolding PatchesOnce
seed_once s free o = (
  has_filter (λ q. not (eqb s q)) s free ∙ ap (λ (b : Bool). not b && has s free) (eq-eqb s s refl),
  (once_both (filter_by (eqb s) free) (filter_by (λ q. not (eqb s q)) free) (perm_once (perm_filter (eqb s) free) o)).1.0,
)

-- ---- one group

grown_perm : (n : ℕ) (adj : ℕ → ℕ → Bool) (fit : ℕ → Bool) (queue free : List ℕ) → Perm (queue ++ free) ((grown_of n adj fit queue free).0 ++ (grown_of n adj fit queue free).1)
unfolding grown_of
grown_perm zero adj fit queue free = perm_same (queue ++ free)
grown_perm (suc n) adj fit [] free = perm_same free
grown_perm (suc n) adj fit (p ∷ queue) free =
    let a = filter_by (λ q. adj p q && fit q) free in
    let b = filter_by (λ q. not (adj p q && fit q)) free in
    let r : Perm (queue ++ (a ++ b)) ((grown_of n adj fit (queue ++ a) b).0 ++ (grown_of n adj fit (queue ++ a) b).1) = rw (← append_assoc queue a b) (grown_perm n adj fit (queue ++ a) b) in
    skip (then (perm_before queue (perm_filter (λ q. adj p q && fit q) free)) r)

grown_some : (n : ℕ) (adj : ℕ → ℕ → Bool) (fit : ℕ → Bool) (p : ℕ) (queue free : List ℕ) → 0 < length (grown_of n adj fit (p ∷ queue) free).0
unfolding grown_of
grown_some zero adj fit p queue free = omega arith
grown_some (suc n) adj fit p queue free = omega arith

-- ---- all groups

-- whether p is in some group
abbrev in_some : ℕ → List (List ℕ) → Bool
in_some p gs = any_by (has p) gs

-- none is empty, and no number stands twice
unfoldable Parted : List (List ℕ) → Type 0
Parted [] = Unit {0}
Parted (g ∷ gs) = (0 < length g) × ((PatchesOnce g × ((p : ℕ) → has p g ≡ true → in_some p gs ≡ false)) × Parted gs)

module _ (n : ℕ) (adj fit : ℕ → ℕ → Bool) (s : ℕ) (seeds free : List ℕ) where
  abbrev by_free : Bool → List (List ℕ)
  by_free b = elim b [
    | true ↦ let g = grown_of n adj (fit s) (s ∷ []) (filter_by (λ q. not (eqb s q)) free) in g.0 ∷ groups_from n adj fit seeds g.1
    | false ↦ groups_from n adj fit seeds free
  ]

  from_is : (b : Bool) → any_by (eqb s) free ≡ b → groups_from n adj fit (s ∷ seeds) free ≡ by_free b
  unfolding groups_from
  from_is b e = ap by_free e

abbrev Parts : List (List ℕ) → List ℕ → Type 0
Parts gs free = Parted gs × ((p : ℕ) → in_some p gs ≡ true → has p free ≡ true)

from_parted : (n : ℕ) (adj fit : ℕ → ℕ → Bool) (seeds free : List ℕ) → PatchesOnce free → Parts (groups_from n adj fit seeds free) free
unfolding groups_from Parted any_by
from_parted n adj fit [] free o = (tt, λ p h. absurd (clash h refl))
from_parted n adj fit (s ∷ seeds) free o = go (has s free) refl (λ l q. from_parted n adj fit seeds l q)
  where
    go : (b : Bool) → has s free ≡ b → ((l : List ℕ) → PatchesOnce l → Parts (groups_from n adj fit seeds l) l) → Parts (groups_from n adj fit (s ∷ seeds) free) free
    go false e further = rw (from_is n adj fit s seeds free false e) (further free o)
    go true e further =
        let others = filter_by (λ q. not (eqb s q)) free in
        let g = grown_of n adj (fit s) (s ∷ []) others in
        let perm = grown_perm n adj (fit s) (s ∷ []) others in
        let both = once_both g.0 g.1 (perm_once perm (seed_once s free o)) in
        let rest = further g.1 both.1.0 in
        let back : (p : ℕ) → has p (g.0 ++ g.1) ≡ true → has p free ≡ true = λ p h. inside p (eqb p s) refl (perm_has p perm ∙ h) in
        rw (from_is n adj fit s seeds free true e) (
          (grown_some n adj (fit s) s [] others, ((both.0, λ p h. apart p (in_some p (groups_from n adj fit seeds g.1)) refl (rest.1 p) (both.1.1 p h)), rest.0)),
          λ p h. back p (has_append p g.0 g.1 ∙ either (has p g.0) (in_some p (groups_from n adj fit seeds g.1)) (has p g.1) (rest.1 p) h),
        )
      where
        inside : (p : ℕ) (b : Bool) → eqb p s ≡ b → eqb p s || has p (filter_by (λ q. not (eqb s q)) free) ≡ true → has p free ≡ true
        inside p true d h = ap (λ (q : ℕ). has q free) (eqb-true p s d) ∙ e
        inside p false d h =
            and_second (not (eqb s p)) (has p free) (sym (has_filter (λ q. not (eqb s q)) p free) ∙ sym (ap (λ (b : Bool). b || has p (filter_by (λ q. not (eqb s q)) free)) d) ∙ h)

        apart : (p : ℕ) (b : Bool) {c d : Bool} → d ≡ b → (d ≡ true → c ≡ true) → c ≡ false → d ≡ false
        apart p true r f z = absurd (clash (f r) z)
        apart p false r f z = r

        either : (a b c : Bool) → (b ≡ true → c ≡ true) → a || b ≡ true → a || c ≡ true
        either true b c f h = refl
        either false b c f h = f h

-- each number alone
alone_in : (p : ℕ) (xs : List ℕ) → in_some p (map (λ x. x ∷ []) xs) ≡ has p xs
unfolding any_by
alone_in p [] = refl
alone_in p (x ∷ xs) = rw (alone_in p xs) (none_left (eqb p x) (has p xs))
  where
    none_left : (a b : Bool) → (a || false) || b ≡ a || b
    none_left true b = refl
    none_left false b = refl

alone_parted : (xs : List ℕ) → PatchesOnce xs → Parted (map (λ x. x ∷ []) xs)
unfolding PatchesOnce Parted any_by
alone_parted [] o = tt
alone_parted (x ∷ xs) o = (omega arith, (((refl, tt), λ p h. alone_in p xs ∙ ap (λ (q : ℕ). has q xs) (same p h) ∙ o.0), alone_parted xs o.1))
  where
    or_none : (b : Bool) → b || false ≡ b
    or_none true = refl
    or_none false = refl

    same : (p : ℕ) → eqb p x || false ≡ true → p ≡ x
    same p h = eqb-true p x (sym (or_none (eqb p x)) ∙ h)

up_to_once : (n : ℕ) → PatchesOnce (up_to n)
up_to_once n = rising_once (up_to n) (up_to_rising n)

-- the groups of the definition
groups_parted : (s : Settings) (ts : List Triangle) (ps : List Patch) → Parts (groups_of s ts ps) (up_to (length ps))
unfolding groups_of seeds_of
groups_parted s ts ps = go (s.merge_on && lt zero32 s.merge_offset && ltb 1 (length ps))
  where
    go : (b : Bool) →
        Parts (cond b (groups_from (length ps) (is_adjacent (runs_of ts ps)) (λ a b. takes s ts (patch_at ps a) (patch_at ps b)) (seeds_of ps) (up_to (length ps))) (map (λ p. p ∷ []) (seeds_of ps))) (up_to (length ps))
    go true = from_parted (length ps) _ _ (seeds_of ps) (up_to (length ps)) (up_to_once (length ps))
    go false = (
      alone_parted (seeds_of ps) (perm_once (perm_turn (sort_perm _ (up_to (length ps)))) (up_to_once (length ps))),
      λ p h. sym (perm_has p (sort_perm _ (up_to (length ps)))) ∙ sym (alone_in p (seeds_of ps)) ∙ h,
    )

-- ---- by number

has_in : (p g : ℕ) (gs : List (List ℕ)) → g < length gs → has p (get_or gs g []) ≡ true → in_some p gs ≡ true
unfolding any_by
has_in p g [] l h = absurd (not-suc-le-zero l)
has_in p zero (x ∷ gs) l h = ap (λ (b : Bool). b || in_some p gs) h
has_in p (suc g) (x ∷ gs) l h = or_right (has p x) (in_some p gs) (has_in p g gs (omega arith) h)

parted_at : (gs : List (List ℕ)) (g : ℕ) → Parted gs → g < length gs → (0 < length (get_or gs g [])) × PatchesOnce (get_or gs g [])
unfolding Parted
parted_at [] g h l = absurd (not-suc-le-zero l)
parted_at (x ∷ gs) zero h l = (h.0, h.1.0.0)
parted_at (x ∷ gs) (suc g) h l = parted_at gs g h.1.1 (omega arith)

parted_apart : (gs : List (List ℕ)) (g h p : ℕ) → Parted gs → g < length gs → h < g → has p (get_or gs g []) ≡ true → has p (get_or gs h []) ≡ false
unfolding Parted
parted_apart [] g h p o l u w = absurd (not-suc-le-zero l)
parted_apart (x ∷ gs) zero h p o l u w = absurd (not-suc-le-zero u)
parted_apart (x ∷ gs) (suc g) zero p o l u w = go (has p x) refl
  where
    go : (b : Bool) → has p x ≡ b → has p x ≡ false
    go true e = absurd (clash (has_in p g gs (omega arith) w) (o.1.0.1 p e))
    go false e = e
parted_apart (x ∷ gs) (suc g) (suc h) p o l u w = parted_apart gs g h p o.1.1 (omega arith) (omega arith) w

has_at : (xs : List ℕ) (i : ℕ) → i < length xs → has (get_or xs i 0) xs ≡ true
unfolding any_by
has_at [] i l = absurd (not-suc-le-zero l)
has_at (x ∷ xs) zero l = has_head x xs
has_at (x ∷ xs) (suc i) l = or_right (eqb (get_or xs i 0) x) (has (get_or xs i 0) xs) (has_at xs i (omega arith))

-- a part that is not empty begins before its end
part_some : (xs : List ℕ) (a b : ℕ) → 0 < length (part_of xs a b) → a < b
part_some xs a b h = go (b - a) refl h
  where
    go : (k : ℕ) → b - a ≡ k → 0 < length (part_of xs a b) → a < b
    go zero e h = absurd (not-suc-le-zero (rw e at h))
    go (suc k) e h = omega arith

-- starts that rise are at most the last one
rise_le : (starts : List ℕ) (ng : ℕ) → ((g : ℕ) → g < ng → get_or starts g 0 < get_or starts (g + 1) 0) → (k g : ℕ) → g + k ≡ ng → get_or starts g 0 ≤ get_or starts ng 0
rise_le starts ng rise zero g e = let s : g ≡ ng = omega arith in rw s (omega arith)
rise_le starts ng rise (suc k) g e =
    let r = rise g (omega arith) in
    let t = rise_le starts ng rise k (g + 1) (omega arith) in
    omega arith

-- THE GROUPS in areas are a partition, where they are those of the definition
pub grouped :
    (queue starts : List ℕ) (np ng : ℕ) (s : Settings) (ts : List Triangle) (ps : List Patch) → length ps ≡ np → groups_in queue starts ng ≡ groups_of s ts ps → ng < length starts →
    get_or starts ng 0 ≤ length queue → Grouped queue starts np ng
unfolding groups_in Below
grouped queue starts np ng s ts ps len is long room =
    let gs = map (group_in queue starts) (up_to ng) in
    let all : Parts gs (up_to (length ps)) = rw is (groups_parted s ts ps) in
    let count : length gs ≡ ng = length_up_to (group_in queue starts) ng in
    let at : (g : ℕ) → g < ng → get_or gs g [] ≡ group_in queue starts g = λ g l. get_or_map_up_to (group_in queue starts) ng g [] l in
    let some : (g : ℕ) → g < ng → 0 < length (group_in queue starts g) = λ g l. rw (← at g l) (parted_at gs g all.0 (omega arith)).0 in
    let once : (g : ℕ) → g < ng → PatchesOnce (group_in queue starts g) = λ g l. rw (← at g l) (parted_at gs g all.0 (omega arith)).1 in
    let rise : (g : ℕ) → g < ng → get_or starts g 0 < get_or starts (g + 1) 0 = λ g l. part_some queue (get_or starts g 0) (get_or starts (g + 1) 0) (some g l) in
    record {
      long = long;
      rise = rise;
      ends = λ g l. let t = rise_le starts ng rise (ng - g) g (omega arith) in omega arith;
      below = λ g l i h.
          let p = get_or (group_in queue starts g) i 0 in
          let inside : has p (up_to (length ps)) ≡ true = all.1 p (has_in p g gs (omega arith) (ap (has p) (at g l) ∙ has_at (group_in queue starts g) i h)) in
          rw (← len) (ltb-true p (length ps) (sym (has_up_to (length ps) p) ∙ inside));
      once = once;
      apart = λ g h p l u w. ap (has p) (sym (at h (omega arith))) ∙ parted_apart gs g h p all.0 (omega arith) u (ap (has p) (at g l) ∙ w);
    }
