-- Filters of the numbers below a bound, and whether some number below it passes a test.
--     filter_cut     a filter that asks for a number below n is the filter of those below n
--     filter_under   two tests that agree below n
--     any_at         some x of the list is p, and passes
use mathlib.Core.Path.{◌≡◌, refl, sym, ap, ◌∙◌}
use mathlib.Core.Bool.{Bool, true, false, ◌||◌, ◌&&◌}
use mathlib.Core.List.{List, [], ◌∷◌, ◌++◌}
use Prim.Native.Nat.{ℕ, suc, ◌+◌, ◌<◌, ◌≤◌}
use native.Mathlib.Numerals.{add-one}
use native.Mathlib.Omega.{arith}
use lib.Dec.{eqb, ltb}
use lib.ListN.{length, get_or, take}
use lib.Seq.{take-suc}
use borrow.Author.Tests.{eq-eqb, ne_eqb, lt-ltb, le-ltb}
use Rattle.laws.proofs.Bools.{or_none}
use Rattle.float.proofs.Numbers.{by_order}
use Rattle.order.specs.Runs.{any_by, up_to}
use Rattle.order.proofs.Stable.{by-eq}
use Rattle.order.proofs.Positions.{Under, under_up_to}
use Rattle.planes_patches.specs.Lists.{filter_by}
use Rattle.planes_links.specs.Words.{has}
use Rattle.planes_links.proofs.Rising.{rising_unique, filter_rising, up_to_rising, has_filter, has_up_to, has_snoc}

pub eqb_turn : (a b : ℕ) → eqb a b ≡ eqb b a
eqb_turn a b = by-eq a b (λ e. eq-eqb a b e ∙ sym (eq-eqb b a (sym e))) (λ d. ne_eqb a b d ∙ sym (ne_eqb b a (λ e. d (sym e))))

pub filter_under : (p q : ℕ → Bool) (n : ℕ) (xs : List ℕ) → Under n xs → ((x : ℕ) → x < n → p x ≡ q x) → filter_by p xs ≡ filter_by q xs
unfolding filter_by Under
filter_under p q n [] u e = refl
filter_under p q n (x ∷ xs) u e = rw (e x u.0, filter_under p q n xs u.1 e)

pub filter_below : (p q : ℕ → Bool) (n : ℕ) → ((x : ℕ) → x < n → p x ≡ q x) → filter_by p (up_to n) ≡ filter_by q (up_to n)
filter_below p q n e = filter_under p q n (up_to n) (under_up_to n) e

pub filter_cut : (g : ℕ → Bool) (n b : ℕ) → n ≤ b → filter_by (λ x. ltb x n && g x) (up_to b) ≡ filter_by g (up_to n)
filter_cut g n b h =
    rising_unique (filter_by (λ x. ltb x n && g x) (up_to b)) (filter_by g (up_to n))
    (filter_rising (λ x. ltb x n && g x) (up_to b) (up_to_rising b)) (filter_rising g (up_to n) (up_to_rising n))
    (λ q. has_filter (λ x. ltb x n && g x) q (up_to b) ∙ ap (λ (t : Bool). (ltb q n && g q) && t) (has_up_to b q) ∙ side q
    ∙ sym (has_filter g q (up_to n) ∙ ap (λ (t : Bool). g q && t) (has_up_to n q)))
  where
    side : (q : ℕ) → (ltb q n && g q) && ltb q b ≡ g q && ltb q n
    side q = by_order (suc q) n (λ l. rw (lt-ltb q n l, lt-ltb q b (omega arith))) (λ l. rw (le-ltb q n (omega arith)) (none (g q)))
      where
        none : (a : Bool) → false ≡ a && false
        none true = refl
        none false = refl

-- ---- some number passes

or_assoc : (a b c : Bool) → a || (b || c) ≡ (a || b) || c
or_assoc true b c = refl
or_assoc false b c = refl

any_last : (g : ℕ → Bool) (xs : List ℕ) (x : ℕ) → any_by g (xs ++ (x ∷ [])) ≡ any_by g xs || g x
unfolding any_by
any_last g [] x = or_none (g x)
any_last g (y ∷ ys) x = rw (any_last g ys x) (or_assoc (g y) (any_by g ys) (g x))

pub any_more : (g : ℕ → Bool) (n : ℕ) → any_by g (up_to (n + 1)) ≡ any_by g (up_to n) || g n
unfolding up_to
any_more g n = ap (λ (k : ℕ). any_by g (up_to k)) (add-one n) ∙ any_last g (up_to n) n

pub has_more : (b i : ℕ) (xs : List ℕ) → i < length xs → has b (take (i + 1) xs) ≡ has b (take i xs) || eqb b (get_or xs i 0)
has_more b i xs h = ap (λ (k : ℕ). has b (take k xs)) (add-one i) ∙ ap (has b) (take-suc xs i 0 h) ∙ has_snoc b (get_or xs i 0) (take i xs)

pub any_at : (p : ℕ) (g : ℕ → Bool) (xs : List ℕ) → any_by (λ x. eqb p x && g x) xs ≡ has p xs && g p
unfolding any_by
any_at p g [] = refl
any_at p g (x ∷ xs) =
    rw (any_at p g xs)
    (by-eq p x (λ e. rw (eq-eqb p x e, e) (absorb (g x) (has x xs))) (λ d. rw (ne_eqb p x d)))
  where
    absorb : (a c : Bool) → a || (c && a) ≡ a
    absorb true c = refl
    absorb false true = refl
    absorb false false = refl
