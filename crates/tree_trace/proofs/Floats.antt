-- The order of floats, with no NaN among them, and the cases of `min` and `max`:
--     lt_trans, lt_le_trans, lt_between     three floats
--     min_case, max_case                    by which of the two it is
use mathlib.Core.Bool.{Bool, true, false, not, cond, ◌||◌}
use Prim.Native.Nat.{ℕ, ◌+◌, ◌*◌}
use native.Mathlib.Omega.{arith}
use lib.Dec.{T, nltb→le}
use lib.Ieee.{Float, nan, inf, fin, up, down, below, lt, le, eq, is_nan}
use Rattle.float.specs.Compare.{min_of, max_of}
use Rattle.float.proofs.Keys.{SignedLe, →tested}
use Rattle.float.proofs.Beyond.{float_turn}

-- a test passes or not
pub either : {C : Type 0} (b : Bool) → (T b → C) → (T (not b) → C) → C
either true f g = f tt
either false f g = g tt

abbrev pub Number : Float → Type 0
Number x = T (not (is_nan x))

-- ---- the order

pub lt_left : (a b : Float) → T (lt a b) → Number a
unfolding lt is_nan
lt_left nan b h = h
lt_left (inf s) b h = tt
lt_left (fin s m e) b h = tt

pub lt_right : (a b : Float) → T (lt a b) → Number b
unfolding lt is_nan
lt_right nan b h = absurd h
lt_right (inf s) nan h = h
lt_right (inf s) (inf t) h = tt
lt_right (inf s) (fin t n d) h = tt
lt_right (fin s m e) nan h = h
lt_right (fin s m e) (inf t) h = tt
lt_right (fin s m e) (fin t n d) h = tt

pub le_left : (a b : Float) → T (le a b) → Number a
unfolding le lt eq is_nan
le_left nan b h = h
le_left (inf s) b h = tt
le_left (fin s m e) b h = tt

pub le_right : (a b : Float) → T (le a b) → Number b
unfolding le lt eq is_nan
le_right nan b h = absurd h
le_right (inf s) nan h = h
le_right (inf s) (inf t) h = tt
le_right (inf s) (fin t n d) h = tt
le_right (fin s m e) nan h = h
le_right (fin s m e) (inf t) h = tt
le_right (fin s m e) (fin t n d) h = tt

lt_le : (a b : Float) → T (lt a b) → T (le a b)
unfolding le
lt_le a b h = go (lt a b) h
  where
    go : (t : Bool) → T t → T (t || eq a b)
    go true h = tt
    go false h = absurd h

not_below : (s : Bool) (a : ℕ) (t : Bool) (b : ℕ) → T (not (below s a t b)) → SignedLe t b s a
not_below false a false b h = nltb→le a b h
not_below false a true b h = tt
not_below true a false b h = let p = nltb→le 0 (a + b) h in (omega arith, omega arith)
not_below true a true b h = nltb→le b a h

-- of two numbers one is below the other, or the other is at most it
pub not_lt : (a b : Float) → Number a → Number b → T (not (lt a b)) → T (le b a)
unfolding le lt eq is_nan
not_lt nan b p q h = absurd p
not_lt (inf s) nan p q h = absurd q
not_lt (inf false) (inf false) p q h = tt
not_lt (inf false) (inf true) p q h = tt
not_lt (inf true) (inf false) p q h = absurd h
not_lt (inf true) (inf true) p q h = tt
not_lt (inf false) (fin t n d) p q h = tt
not_lt (inf true) (fin t n d) p q h = absurd h
not_lt (fin s m e) nan p q h = absurd q
not_lt (fin s m e) (inf false) p q h = absurd h
not_lt (fin s m e) (inf true) p q h = tt
not_lt (fin s m e) (fin t n d) p q h =
    →tested t (n * up d * down e) s (m * up e * down d) (not_below s (m * up e * down d) t (n * up d * down e) h)

le_self : (a : Float) → Number a → T (le a a)
le_self a p = either (lt a a) (lt_le a a) (not_lt a a p p)

pub lt_le_trans : (a b c : Float) → T (lt a b) → T (le b c) → T (lt a c)
lt_le_trans a b c h k = either (lt a c) (λ l. l) (λ n. absurd (float_turn a b c h k (not_lt a c (lt_left a b h) (le_right b c k) n)))

pub lt_trans : (a b c : Float) → T (lt a b) → T (lt b c) → T (lt a c)
lt_trans a b c h k = lt_le_trans a b c h (lt_le b c k)

pub lt_between : (a b m : Float) → T (lt a b) → Number m → T (not (lt m b)) → T (lt a m)
lt_between a b m h p k =
    either (lt a m) (λ l. l) (λ n. absurd (float_turn a b m h (not_lt m b p (lt_right a b h) k) (not_lt a m (lt_left a b h) p n)))

pub le_not_lt : (a b : Float) → T (le a b) → T (not (lt b a))
le_not_lt a b h = either (lt b a) (λ l. absurd (float_turn b a b l h (le_self b (le_right a b h)))) (λ n. n)

-- ---- the lesser and the greater of two

pub min_case : (P : Float → Type 0) (a b : Float) → (T (is_nan a) → P b) → (Number a → T (lt b a) → P b) → (Number a → T (not (lt b a)) → P a) → P (min_of a b)
unfolding min_of
min_case P a b f g h = go (is_nan a) (lt b a) f g h
  where
    go : (s t : Bool) → (T s → P b) → (T (not s) → T t → P b) → (T (not s) → T (not t) → P a) → P (cond s b (cond t b a))
    go true t f g h = f tt
    go false true f g h = g tt tt
    go false false f g h = h tt tt

pub max_case : (P : Float → Type 0) (a b : Float) → (T (is_nan a) → P b) → (Number a → T (lt a b) → P b) → (Number a → T (not (lt a b)) → P a) → P (max_of a b)
unfolding max_of
max_case P a b f g h = go (is_nan a) (lt a b) f g h
  where
    go : (s t : Bool) → (T s → P b) → (T (not s) → T t → P b) → (T (not s) → T (not t) → P a) → P (cond s b (cond t b a))
    go true t f g h = f tt
    go false true f g h = g tt tt
    go false false f g h = h tt tt
