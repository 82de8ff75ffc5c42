-- The newest patch that passes a test, as a link (`newest`): where it stands, and which one comes before and after another.
use mathlib.Core.Path.{◌≡◌, refl, sym, ap, ◌∙◌}
use mathlib.Core.Bool.{Bool, true, false, false≢true}
use Prim.Native.Nat.{ℕ, zero, suc, ◌<◌, ◌≤◌}
use native.Mathlib.Nat.{le_refl, not-suc-le-zero}
use native.Mathlib.Omega.{arith}
use Rattle.float.proofs.Numbers.{by_order}
use Rattle.order.proofs.Stable.{by-eq}
use Rattle.planes_patches.specs.Grid.{newest}

-- a test, and a link, by its cases
pub by_bool : {C : Type 0} (b : Bool) → (b ≡ true → C) → (b ≡ false → C) → C
by_bool true f g = f refl
by_bool false f g = g refl

pub by_link : {C : Type 0} (link : ℕ) → (link ≡ 0 → C) → ((p : ℕ) → link ≡ suc p → C) → C
by_link zero f g = f refl
by_link (suc p) f g = g p refl

pub less : (q n : ℕ) → q < suc n → (q ≡ n → ⊥) → q < n
less q n l d = by_order n q (λ g. absurd (d (omega arith))) (λ g. g)

pub newest_le : (p : ℕ → Bool) (n : ℕ) → newest p n ≤ n
unfolding newest
newest_le p zero = le_refl 0
newest_le p (suc n) = let r = newest_le p n in by_bool (p n) (λ w. rw w (le_refl (suc n))) (λ w. rw w (omega arith))

-- two tests that agree below n
pub newest_under : (p q : ℕ → Bool) (n : ℕ) → ((j : ℕ) → j < n → p j ≡ q j) → newest p n ≡ newest q n
unfolding newest
newest_under p q zero e = refl
newest_under p q (suc n) e = rw (e n (le_refl (suc n)), newest_under p q n (λ j l. e j (omega arith)))

-- it is below n, and passes
pub newest_is : (f : ℕ → Bool) (n q : ℕ) → newest f n ≡ suc q → (q < n) × (f q ≡ true)
unfolding newest
newest_is f zero q e = absurd (let z : ⊥ = omega arith in z)
newest_is f (suc n) q e =
    by_bool (f n)
    (λ w. let s : suc n ≡ suc q = rw w at e in let i : q ≡ n = omega arith in (omega arith, rw i w))
    (λ w. let r = newest_is f n q (rw w at e) in (omega arith, r.1))

-- none that passes is after it
pub newest_above : (f : ℕ → Bool) (n j : ℕ) → j < n → f j ≡ true → j < newest f n
unfolding newest
newest_above f zero j l e = absurd (not-suc-le-zero l)
newest_above f (suc n) j l e =
    by_bool (f n) (λ w. rw w l)
    (λ w. rw w (newest_above f n j (less j n l (λ s. false≢true (sym w ∙ ap f (sym s) ∙ e))) e))

-- one that passes is the newest, or some q comes next
pub by_newer : {C : Type 0} (f : ℕ → Bool) (n p : ℕ) → p < n → f p ≡ true → (newest f n ≡ suc p → C) → ((q : ℕ) → q < n → f q ≡ true → newest f q ≡ suc p → C) → C
unfolding newest
by_newer f zero p l e last more = absurd (not-suc-le-zero l)
by_newer f (suc n) p l e last more =
    by_bool (f n)
    (λ w. by-eq p n (λ s. last (rw (w, s))) (λ d. by_newer f n p (less p n l d) e (more n (le_refl (suc n)) w) (λ q i. more q (omega arith))))
    (λ w. by_newer f n p (less p n l (λ s. false≢true (sym w ∙ ap f (sym s) ∙ e))) e (λ s. last (rw w s)) (λ q i. more q (omega arith)))

-- where one passes, some q is the oldest
pub by_oldest : {C : Type 0} (f : ℕ → Bool) (n p : ℕ) → newest f n ≡ suc p → ((q : ℕ) → q < n → f q ≡ true → newest f q ≡ 0 → C) → C
unfolding newest
by_oldest f zero p e some = absurd (let z : ⊥ = omega arith in z)
by_oldest f (suc n) p e some =
    by_bool (f n)
    (λ w. by_link (newest f n) (some n (le_refl (suc n)) w) (λ k s. by_oldest f n k s (λ q i. some q (omega arith))))
    (λ w. by_oldest f n p (rw w at e) (λ q i. some q (omega arith)))
