-- Wiping an area, for any element: what is zero already stays as it is.
use mathlib.Core.Path.{◌≡◌, refl, sym, ◌∙◌, ap, subst}
use mathlib.Core.List.{List}
use mathlib.Core.Bool.{Bool, true, false, not}
use Prim.Native.Nat.{ℕ, zero, suc, ◌+◌, ◌-◌, ◌*◌, ◌<◌, ◌≤◌}
use native.Mathlib.Numerals.{add-one}
use native.Mathlib.Omega.{arith}
use borrow.Author.Count.{below_none, below_more}
use lib.Bits.{bit_or, or_add_and, and_le_l, and_le_r}
use lib.Dec.{T, ltb, ltb→lt, nltb→le}
use lib.Ieee.{Float, binary32, fits, to_bits, of_bits}
use lib.Ieee.Bits.{of_bits-to_bits}
use lib.ListN.{length, get_or, set, take, replicate, replicate-append-replicate}
use lib.Seq.{take-suc, take-length, get_or-set_same, get_or-set_other}
use Rattle.float.specs.Literals.{zero32}
use Rattle.clearing.specs.Runs.{Run, Wiped, WipedBoth}

-- where no bit of the two is set, none of either is
pub or_left : (a b : ℕ) → bit_or a b ≡ 0 → a ≡ 0
or_left a b h = omega (arith, h, or_add_and a b, and_le_r a b)

pub or_right : (a b : ℕ) → bit_or a b ≡ 0 → b ≡ 0
or_right a b h = omega (arith, h, or_add_and a b, and_le_l a b)

-- bits that are 0 are those of +0
pub bits_zero : (x : Float) → T (fits binary32 x) → to_bits binary32 x ≡ 0 → x ≡ zero32
bits_zero x h e = sym (of_bits-to_bits binary32 x h) ∙ ap (of_bits binary32) e

-- below n or not
below_or : (P : Type 0) (j n : ℕ) → (j < n → P) → (n ≤ j → P) → P
below_or P j n y o = go (ltb j n) (ltb→lt j n) (nltb→le j n)
  where
    go : (b : Bool) → (T b → j < n) → (T (not b) → n ≤ j) → P
    go true u v = y (u tt)
    go false u v = o (v tt)

module _ {A : Type 0} (z d : A) where
  -- a zero stored keeps every zero
  set_stays : (l : List A) (i j : ℕ) → i < length l → get_or l j d ≡ z → get_or (set l i z) j d ≡ z
  set_stays l i j h e =
      below_or (get_or (set l i z) j d ≡ z) j i (λ b. get_or-set_other l i j z d (λ c. let no : ⊥ = omega (arith, b, c) in no) ∙ e)
      (λ a. below_or (get_or (set l i z) j d ≡ z) i j (λ b. get_or-set_other l i j z d (λ c. let no : ⊥ = omega (arith, b, c) in no) ∙ e)
      (λ b. let same : i ≡ j = omega (arith, a, b) in subst (λ (k : ℕ). get_or (set l i z) k d ≡ z) same (get_or-set_same l i z d h)))

  pub wiped_none : (l : List A) (i : ℕ) → Wiped z d l l i i
  wiped_none l i = record { stays = λ j e. e; done = λ j a b. absurd (let no : ⊥ = omega (arith, a, b) in no) }

  -- one element more
  pub wiped_more : (found l : List A) (from i : ℕ) → i < length l → Wiped z d found l from i → Wiped z d found (set l i z) from (i + 1)
  wiped_more found l from i h w =
      record {
        stays = λ j e. set_stays l i j h (w.stays j e);
        done =
            λ j a b. below_or (get_or (set l i z) j d ≡ z) j i (λ c. set_stays l i j h (w.done j a c))
            (λ c. let same : i ≡ j = omega (arith, b, c) in subst (λ (k : ℕ). get_or (set l i z) k d ≡ z) same (get_or-set_same l i z d h));
      }

  -- nothing to do
  pub both_kept : (l : List A) (near far : ℕ) → Run z d l near 64 × Run z d l far 64 → WipedBoth z d l l near far
  both_kept l near far r = record { stays = λ j e. e; near_done = r.0; far_done = r.1 }

  -- one run and then the other
  pub both_wiped : (found l m : List A) (near far n f : ℕ) → n ≡ near + 64 → f ≡ far + 64 → Wiped z d found l near n → Wiped z d l m far f → WipedBoth z d found m near far
  both_wiped found l m near far n f e g v w =
      record {
        stays = λ j h. w.stays j (v.stays j h);
        near_done = record { zeros = λ j h. w.stays (near + j) (v.done (near + j) (omega arith) (omega (arith, e, h))) };
        far_done = record { zeros = λ j h. w.done (far + j) (omega arith) (omega (arith, g, h)) };
      }

  -- k spans of either half of m
  pub record Halves (found l : List A) (m k : ℕ) : Type 0 where
    pub few : k ≤ m
    pub len : length l ≡ length found
    pub near_zero : (j : ℕ) → j < 64 * k → get_or l j d ≡ z
    pub far_zero : (j : ℕ) → j < 64 * k → get_or l (64 * m + j) d ≡ z

  pub halves_none : (l : List A) (m : ℕ) → Halves l l m 0
  halves_none l m = record { few = omega arith; len = refl; near_zero = λ j h. absurd (let no : ⊥ = omega (arith, h) in no); far_zero = λ j h. absurd (let no : ⊥ = omega (arith, h) in no) }

  pub halves_more :
      (found l r : List A) (m k near far : ℕ) → k < m → length r ≡ length l → near ≡ 64 * k → far ≡ 64 * (m + k) →
      Halves found l m k → WipedBoth z d l r near far → Halves found r m (k + 1)
  halves_more found l r m k near far few len e g h w =
      record {
        few = omega (arith, few);
        len = len ∙ h.len;
        near_zero =
            λ j u. below_or (get_or r j d ≡ z) j (64 * k) (λ b. w.stays j (h.near_zero j b))
            (λ a. let at : near + (j - 64 * k) ≡ j = omega (arith, a, e) in subst (λ (p : ℕ). get_or r p d ≡ z) at (w.near_done.zeros (j - 64 * k) (omega (arith, a, u))));
        far_zero =
            λ j u. below_or (get_or r (64 * m + j) d ≡ z) j (64 * k) (λ b. w.stays (64 * m + j) (h.far_zero j b))
            (λ a. let at : far + (j - 64 * k) ≡ 64 * m + j = omega (arith, a, g) in subst (λ (p : ℕ). get_or r p d ≡ z) at (w.far_done.zeros (j - 64 * k) (omega (arith, a, u))));
      }

  all_zero : (l : List A) (n : ℕ) → n ≤ length l → ((j : ℕ) → j < n → get_or l j d ≡ z) → take n l ≡ replicate n z
  all_zero l zero h f = refl
  all_zero l (suc n) h f =
      rw (take-suc l n d (omega (arith, h)), all_zero l n (omega (arith, h)) (λ j u. f j (omega (arith, u))), f n (omega arith))
      (replicate-append-replicate n 1 z ∙ ap (λ (k : ℕ). replicate k z) (add-one n))

  -- both halves, and what is left behind them
  pub halves_all :
      (found l r : List A) (m k from to : ℕ) → m ≤ k → from ≡ 128 * m → to ≡ length l → length r ≡ length l →
      Halves found l m k → Wiped z d l r from to → r ≡ replicate (length found) z
  halves_all found l r m k from to last e g len h w = sym (take-length r) ∙ all_zero r (length r) (omega arith) each ∙ ap (λ (n : ℕ). replicate n z) (len ∙ h.len)
    where
      each : (j : ℕ) → j < length r → get_or r j d ≡ z
      each j u =
          below_or (get_or r j d ≡ z) j (64 * m) (λ b. w.stays j (h.near_zero j (omega (arith, b, last))))
          (λ a. below_or (get_or r j d ≡ z) j (128 * m)
          (λ b. let at : 64 * m + (j - 64 * m) ≡ j = omega (arith, a) in w.stays j (subst (λ (p : ℕ). get_or l p d ≡ z) at (h.far_zero (j - 64 * m) (omega (arith, a, b, last)))))
          (λ b. w.done j (omega (arith, b, e)) (omega (arith, u, g, len))))

  -- a run of 64 by its quarters, of which k elements each were read
  pub record Quarters (l : List A) (from k : ℕ) : Type 0 where
    pub first : (j : ℕ) → j < k → get_or l (from + j) d ≡ z
    pub second : (j : ℕ) → j < k → get_or l (from + j + 16) d ≡ z
    pub third : (j : ℕ) → j < k → get_or l (from + j + 32) d ≡ z
    pub fourth : (j : ℕ) → j < k → get_or l (from + j + 48) d ≡ z

  pub quarters_none : (l : List A) (from : ℕ) → Quarters l from 0
  quarters_none l from =
      record {
        first = below_none (λ (j : ℕ). get_or l (from + j) d ≡ z);
        second = below_none (λ (j : ℕ). get_or l (from + j + 16) d ≡ z);
        third = below_none (λ (j : ℕ). get_or l (from + j + 32) d ≡ z);
        fourth = below_none (λ (j : ℕ). get_or l (from + j + 48) d ≡ z);
      }

  pub quarters_more :
      (l : List A) (from k : ℕ) → get_or l (from + k) d ≡ z → get_or l (from + k + 16) d ≡ z → get_or l (from + k + 32) d ≡ z → get_or l (from + k + 48) d ≡ z →
      Quarters l from k → Quarters l from (k + 1)
  quarters_more l from k a b c e q =
      record {
        first = below_more (λ (j : ℕ). get_or l (from + j) d ≡ z) k q.first a;
        second = below_more (λ (j : ℕ). get_or l (from + j + 16) d ≡ z) k q.second b;
        third = below_more (λ (j : ℕ). get_or l (from + j + 32) d ≡ z) k q.third c;
        fourth = below_more (λ (j : ℕ). get_or l (from + j + 48) d ≡ z) k q.fourth e;
      }

  pub quarters_all : (l : List A) (from k : ℕ) → 16 ≤ k → Quarters l from k → Run z d l from 64
  quarters_all l from k h q = record { zeros = each }
    where
      at : (j o : ℕ) → o ≤ j → get_or l (from + (j - o) + o) d ≡ z → get_or l (from + j) d ≡ z
      at j o le e = let here : from + (j - o) + o ≡ from + j = omega (arith, le) in subst (λ (p : ℕ). get_or l p d ≡ z) here e

      each : (j : ℕ) → j < 64 → get_or l (from + j) d ≡ z
      each j u =
          below_or (get_or l (from + j) d ≡ z) j 16 (λ b. q.first j (omega (arith, b, h)))
          (λ a. below_or (get_or l (from + j) d ≡ z) j 32 (λ b. at j 16 a (q.second (j - 16) (omega (arith, a, b, h))))
          (λ a2. below_or (get_or l (from + j) d ≡ z) j 48 (λ b. at j 32 a2 (q.third (j - 32) (omega (arith, a2, b, h)))) (λ a3. at j 48 a3 (q.fourth (j - 48) (omega (arith, a3, u, h))))))

  -- a run of which k elements were read
  pub run_none : (l : List A) (from : ℕ) → Run z d l from 0
  run_none l from = record { zeros = below_none (λ (j : ℕ). get_or l (from + j) d ≡ z) }

  run_more : (l : List A) (from k : ℕ) → get_or l (from + k) d ≡ z → Run z d l from k → Run z d l from (k + 1)
  run_more l from k e r = record { zeros = below_more (λ (j : ℕ). get_or l (from + j) d ≡ z) k r.zeros e }

  pub run_all : (l : List A) (from k : ℕ) → 64 ≤ k → Run z d l from k → Run z d l from 64
  run_all l from k h r = record { zeros = λ j u. r.zeros j (omega (arith, u, h)) }

-- of two runs of whole numbers one element more each
pub marks_more :
    (l : List ℕ) (near far k marks : ℕ) → bit_or marks (bit_or (get_or l (near + k) 0) (get_or l (far + k) 0)) ≡ 0 → (marks ≡ 0 → Run 0 0 l near k × Run 0 0 l far k) →
    Run 0 0 l near (k + 1) × Run 0 0 l far (k + 1)
marks_more l near far k marks e old =
    let x = get_or l (near + k) 0 in
    let y = get_or l (far + k) 0 in
    let b = or_right marks (bit_or x y) e in
    let o = old (or_left marks (bit_or x y) e) in
    (run_more 0 0 l near k (or_left x y b) o.0, run_more 0 0 l far k (or_right x y b) o.1)
