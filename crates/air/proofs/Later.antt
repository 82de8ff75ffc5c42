-- The rule goes on: where k serves s, a tenth of k, rounded down, serves s + n; and only one number serves s. Over any n and any bound.
use Rattle.std.proofs.Common.{◌≡◌, ℕ, zero, suc, ◌+◌, ◌*◌, ◌/◌, ◌^◌, ◌<◌, ◌≤◌, sym, ap, ◌∙◌, subst, le_trans, lt_of_lt_of_le, lt_irrefl, mul-le-mul_right, zero-lt-suc, mul_assoc, suc-mul, mul_comm, pow-suc, div-mul-le_self, div-one, arith, pow-add}
use native.Mathlib.Nat.{pow-zero, mul-mul-mul_comm, pow-le-pow_left, lt-mul-div-succ, div-div-eq-div-mul}
use native.Mathlib.Decide.{dec_lt}

-- k ^ n * 10 ^ s is at most b, and (k + 1) ^ n * 10 ^ s above it
pub record ServesIn (n b s k : ℕ) : Type 0 where
  pub low : k ^ n * 10 ^ s ≤ b
  pub high : b < suc k ^ n * 10 ^ s

pow_mul : (a b n : ℕ) → (a * b) ^ n ≡ a ^ n * b ^ n
pow_mul a b zero = pow-zero (a * b) ∙ sym (ap (λ (x : ℕ). x * b ^ 0) (pow-zero a) ∙ ap (λ (x : ℕ). 1 * x) (pow-zero b))
pow_mul a b (suc n) =
    pow-suc (a * b) n ∙ ap (λ (x : ℕ). x * (a * b)) (pow_mul a b n) ∙ mul-mul-mul_comm (a ^ n) (b ^ n) a b
    ∙ ap (λ (x : ℕ). x * (b ^ n * b)) (sym (pow-suc a n)) ∙ ap (λ (x : ℕ). a ^ suc n * x) (sym (pow-suc b n))

shift : (q n s : ℕ) → q ^ n * 10 ^ (s + n) ≡ (q * 10) ^ n * 10 ^ s
shift q n s =
    ap (λ (x : ℕ). q ^ n * x) (pow-add 10 s n ∙ mul_comm (10 ^ s) (10 ^ n)) ∙ sym (mul_assoc (q ^ n) (10 ^ n) (10 ^ s))
    ∙ ap (λ (x : ℕ). x * 10 ^ s) (sym (pow_mul q 10 n))

over : (k : ℕ) → suc k ≤ suc (k / 10) * 10
over k = let h = lt-mul-div-succ k (zero-lt-suc 9) in omega arith

pub later : (n b s k : ℕ) → ServesIn n b s k → ServesIn n b (s + n) (k / 10)
later n b s k h = record {
  low = subst (λ (x : ℕ). x ≤ b) (sym (shift (k / 10) n s)) (le_trans (mul-le-mul_right (10 ^ s) (pow-le-pow_left (div-mul-le_self k 10) n)) h.low);
  high = subst (λ (x : ℕ). b < x) (sym (shift (suc (k / 10)) n s)) (lt_of_lt_of_le h.high (mul-le-mul_right (10 ^ s) (pow-le-pow_left (over k) n)));
}

-- j times
pub later_times : (j n b s k : ℕ) → ServesIn n b s k → ServesIn n b (s + j * n) (k / 10 ^ j)
later_times zero n b s k h =
    subst (λ (x : ℕ). ServesIn n b x (k / 10 ^ 0)) (let e : s ≡ s + 0 * n = omega arith in e)
    (subst (λ (x : ℕ). ServesIn n b s x) (let e : k ≡ k / 10 ^ 0 = sym (div-one k) in e) h)
later_times (suc j) n b s k h =
    let r = later n b (s + j * n) (k / 10 ^ j) (later_times j n b s k h) in
    let m = suc-mul j n in
    subst (λ (x : ℕ). ServesIn n b x (k / 10 ^ suc j)) (let e : s + j * n + n ≡ s + suc j * n = omega arith in e)
    (subst (λ (x : ℕ). ServesIn n b (s + j * n + n) x) (div-div-eq-div-mul k (10 ^ j) 10 ∙ ap (λ (x : ℕ). k / x) (sym (pow-suc 10 j))) r)

below_not : (n b s k l : ℕ) → ServesIn n b s k → ServesIn n b s l → k < l → ⊥
below_not n b s k l g h less =
    lt_irrefl b (lt_of_lt_of_le g.high (le_trans (mul-le-mul_right (10 ^ s) (pow-le-pow_left less n)) h.low))

-- only one number serves
pub one_serves : (n b s k l : ℕ) → ServesIn n b s k → ServesIn n b s l → k ≡ l
one_serves n b s k l g h = by (dec_lt k l) (dec_lt l k)
  where
    by : Dec (k < l) → Dec (l < k) → k ≡ l
    by (yes a) c = absurd (below_not n b s k l g h a)
    by (no a) (yes c) = absurd (below_not n b s l k h g c)
    by (no a) (no c) = omega arith
