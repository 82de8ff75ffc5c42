-- Lemmas for `RoundTrips.antt`: numbers, gains and taps are the same after they are written and read, and after they are read and written.
-- By induction on the list written, and on the count read.
use Prim.Native.Nat.{ℕ, zero, suc, ◌+◌, ◌*◌, ◌/◌, ◌%◌, ◌^◌, ◌≤◌, ◌<◌}
use mathlib.Core.Path.{◌≡◌, refl, sym, ap, ◌∙◌}
use mathlib.Core.Bool.{Bool, true, false, cond, not, ◌&&◌, ◌||◌}
use mathlib.Core.List.{List, [], ◌∷◌, ◌++◌, map, foldl}
use native.Mathlib.Omega.{arith}
use native.Mathlib.Decide.{dec_lt}
use native.Mathlib.Nat.{pow-succ'}
use lib.ListN.{length, get_or, take, drop, length-append, length-take, length-drop}
use lib.Seq.{drop-drop, drop_at, get_or-drop}
use lib.Dec.{leb, ltb, eqb}
use lib.Ieee.{Float, binary32, of_bits, of_fields, mul, odd, round, size, span, climb, units, add}
use lib.Count.{count_trailing_zeros}
use borrow.Author.Tests.{le-leb, leb-true, eqb-true, eq-eqb, ne_eqb, ltb-true}
use Rattle.std.specs.Prelude.{None}
use Rattle.packet.specs.Limits.{bands, count_bytes, head_bytes, fixed_bytes, fixed_words, tap_words, area_words, out_bytes, most_taps, most_images}
use Rattle.packet.specs.Floats.{finite_bits, positive_bits, zero_bits}
use Rattle.packet.specs.Tap.{Tap, bits_of_gains, read_back_gain, tap_read_back, stored_tap, taps_of}
use Rattle.packet.specs.Bytes.{little_endian, word, gain_bytes, tap_bytes, taps_bytes, encode, value_of, word_of, ones, size_of_tap, gain_in, gains_in, tap_in, has_only_taps, taps_in, count_in, images_in, rays_in, decode}
use Rattle.packet.specs.Refusals.{all, in_range, valid_gain, valid_gains, valid_floats, square, plus_square, sum_of_squared_gains, number_of, first_failed, tests}
use Rattle.packet.specs.Helpers.{in_area}
use Rattle.packet.specs.Reader.{whole, refused_read}
use Rattle.packet.specs.Writer.{refused_write}
use Rattle.packet.proofs.Runs.{and_both}
use Rattle.packet.proofs.ToBytes.{gain_length}
use Rattle.packet.proofs.Answers.{cond_none}

-- lists of bytes, and of words of 32 bits
abbrev pub Bytes : List ℕ → Type 0
Bytes bs = (i : ℕ) → get_or bs i 0 < 256

abbrev pub Words : List ℕ → Type 0
Words a = (i : ℕ) → get_or a i 0 < 4294967296

-- ---- numbers of k bytes

-- a number that k bytes hold is read back from them
pub value_back : (k n : ℕ) (r : List ℕ) → n < 256 ^ k → value_of k (little_endian k n ++ r) ≡ n
value_back zero n r h = omega arith
value_back (suc k) n r h =
    let p : 256 ^ suc k ≡ 256 * 256 ^ k = pow-succ' 256 k in
    let ih : value_of k (little_endian k (n / 256) ++ r) ≡ n / 256 = value_back k (n / 256) r (omega arith) in
    ap (λ (q : ℕ). n % 256 + 256 * q) ih ∙ (let e : n % 256 + 256 * (n / 256) ≡ n = omega arith in e)

pub word_back : (n : ℕ) (r : List ℕ) → n < 4294967296 → word_of (word n ++ r) ≡ n
word_back n r h = value_back 4 n r h

-- k bytes are written again from the number that they are
pub bytes_back : (k : ℕ) (bs : List ℕ) → Bytes bs → k ≤ length bs → little_endian k (value_of k bs) ++ drop k bs ≡ bs
bytes_back zero bs b h = refl
bytes_back (suc k) [] b h = absurd (omega arith)
bytes_back (suc k) (x ∷ r) b h =
    let bx : x < 256 = b 0 in
    let lo : (x + 256 * value_of k r) % 256 ≡ x = omega arith in
    let hi : (x + 256 * value_of k r) / 256 ≡ value_of k r = omega arith in
    (λ i. lo i ∷ (little_endian k (hi i) ++ drop k r)) ∙ ap (λ (l : List ℕ). x ∷ l) (bytes_back k r (λ i. b (suc i)) (omega arith))

pub bytes_drop : (k : ℕ) (bs : List ℕ) → Bytes bs → Bytes (drop k bs)
bytes_drop k bs b i = rw (get_or-drop k bs i 0) (b (k + i))

-- ---- gains: written, and read back

low_bit : (z : Bool) (n : ℕ) → (cond z 0 1 + 2 * n) % 2 ≡ cond z 0 1
low_bit true n = omega arith
low_bit false n = omega arith

high_bits : (z : Bool) (n : ℕ) → (cond z 0 1 + 2 * n) / 2 ≡ n
high_bits true n = omega arith
high_bits false n = omega arith

gain_round : (k g m n : ℕ) (gs r : List ℕ) (z : Bool) → m % 2 ≡ cond z 0 1 → m / 2 ≡ n → g < 4294967296
    → gains_in (suc k) m ((cond (eqb (m % 2) 1) (word g) [] ++ gain_bytes (m / 2) gs) ++ r) ≡ cond z 0 g ∷ gains_in k n (gain_bytes n gs ++ r)
unfolding gains_in
gain_round k g m n gs r true e f h = rw (e, f)
gain_round k g m n gs r false e f h = rw (e, f) (ap (λ (w : ℕ). w ∷ gains_in k n (gain_bytes n gs ++ r)) (word_back g (gain_bytes n gs ++ r) h))

gains_round : (gs r : List ℕ) → Words gs → gains_in (length gs) (bits_of_gains gs) (gain_bytes (bits_of_gains gs) gs ++ r) ≡ map read_back_gain gs
unfolding gains_in bits_of_gains gain_bytes
gains_round [] r w = refl
gains_round (g ∷ gs) r w =
    gain_round (length gs) g (bits_of_gains (g ∷ gs)) (bits_of_gains gs) gs r (zero_bits g) (low_bit (zero_bits g) (bits_of_gains gs)) (high_bits (zero_bits g) (bits_of_gains gs)) (w 0)
    ∙ ap (λ (l : List ℕ). read_back_gain g ∷ l) (gains_round gs r (λ i. w (suc i)))

gain_bytes_length : (m : ℕ) (gs : List ℕ) → length (gain_bytes m gs) ≡ 4 * ones (length gs) m
unfolding gain_bytes ones
gain_bytes_length m [] = refl
gain_bytes_length m (g ∷ gs) =
    let a = gain_length m g in
    let b = gain_bytes_length (m / 2) gs in
    let c = length-append (cond (eqb (m % 2) 1) (word g) []) (gain_bytes (m / 2) gs) in
    let e : length (cond (eqb (m % 2) 1) (word g) [] ++ gain_bytes (m / 2) gs) ≡ 4 * (m % 2 + ones (length gs) (m / 2)) = omega (arith, a, b, c) in
    e

-- ---- a tap: written, and read back

-- a tap of words of 32 bits, with eight gains and their bit map
pub record Fine (t : Tap) : Type 0 where
  pub bits_are : t.bits ≡ bits_of_gains t.gains
  pub eight : length t.gains ≡ bands
  pub number_fits : t.number < 4294967296
  pub x_fits : t.x < 4294967296
  pub y_fits : t.y < 4294967296
  pub z_fits : t.z < 4294967296
  pub delay_fits : t.delay < 4294967296
  pub gains_fit : Words t.gains

tap_gains_round : (t : Tap) (r : List ℕ) → Fine t → gains_in bands t.bits (gain_bytes t.bits t.gains ++ r) ≡ map read_back_gain t.gains
tap_gains_round t r f =
    (λ i. gains_in (sym f.eight i) (f.bits_are i) (gain_bytes (f.bits_are i) t.gains ++ r)) ∙ gains_round t.gains r f.gains_fit

tap_round : (t : Tap) (r : List ℕ) → Fine t → tap_in (tap_bytes t ++ r) ≡ tap_read_back t
unfolding tap_in
tap_round t r f =
    let e = tap_gains_round t r f in
    λ i. record {
      bits = t.bits;
      order = t.order;
      number = word_back t.number [] f.number_fits i;
      x = word_back t.x [] f.x_fits i;
      y = word_back t.y [] f.y_fits i;
      z = word_back t.z [] f.z_fits i;
      delay = word_back t.delay [] f.delay_fits i;
      gains = e i;
    }

tap_length : (t : Tap) → Fine t → length (tap_bytes t) ≡ size_of_tap t.bits
tap_length t f =
    let e : length (gain_bytes t.bits t.gains) ≡ 4 * ones bands t.bits = gain_bytes_length t.bits t.gains ∙ ap (λ (k : ℕ). 4 * ones k t.bits) f.eight in
    omega arith

abbrev pub AllFine : List Tap → Type 0
AllFine [] = Unit
AllFine (t ∷ ts) = Fine t × AllFine ts

pub taps_round : (ts : List Tap) → AllFine ts → taps_in (length ts) (taps_bytes ts) ≡ map tap_read_back ts
unfolding taps_in taps_bytes
taps_round [] f = refl
taps_round (t ∷ ts) f =
    (λ i. tap_round t (taps_bytes ts) f.0 i ∷ taps_in (length ts) (drop_at (tap_bytes t) (taps_bytes ts) (size_of_tap t.bits) (tap_length t f.0) i))
    ∙ ap (λ (l : List Tap). tap_read_back t ∷ l) (taps_round ts f.1)

pub taps_exact : (ts : List Tap) → AllFine ts → has_only_taps (length ts) (taps_bytes ts) ≡ true
unfolding has_only_taps taps_bytes
taps_exact [] f = refl
taps_exact (t ∷ ts) f =
    let l = tap_length t f.0 in
    let c = length-append (tap_bytes t) (taps_bytes ts) in
    let h : size_of_tap t.bits ≤ length (tap_bytes t ++ taps_bytes ts) = omega (arith, l, c) in
    (λ i. le-leb (size_of_tap t.bits) (length (tap_bytes t ++ taps_bytes ts)) h i && has_only_taps (length ts) (drop_at (tap_bytes t) (taps_bytes ts) (size_of_tap t.bits) l i))
    ∙ taps_exact ts f.1

-- the taps of an area are such taps
words_drop : (k : ℕ) (a : List ℕ) → Words a → Words (drop k a)
words_drop k a w i = rw (get_or-drop k a i 0) (w (k + i))

words_take : (k : ℕ) (a : List ℕ) → Words a → Words (take k a)
words_take zero a w i = omega arith
words_take (suc k) [] w i = w i
words_take (suc k) (x ∷ a) w zero = w 0
words_take (suc k) (x ∷ a) w (suc i) = words_take k a (λ j. w (suc j)) i

tap_of_fine : (a : List ℕ) → Words a → tap_words ≤ length a → Fine (stored_tap a)
unfolding stored_tap
tap_of_fine a w h = record {
  bits_are = refl;
  eight = simp (length-take, length-drop) (omega arith);
  number_fits = w 1;
  x_fits = w 2;
  y_fits = w 3;
  z_fits = w 4;
  delay_fits = w 5;
  gains_fit = words_take bands (drop fixed_words a) (words_drop fixed_words a w);
}

pub taps_of_fine : (n : ℕ) (a : List ℕ) → Words a → n * tap_words ≤ length a → AllFine (taps_of n a)
unfolding taps_of
taps_of_fine zero a w h = tt
taps_of_fine (suc n) a w h =
    (tap_of_fine a w (omega arith), taps_of_fine n (drop tap_words a) (words_drop tap_words a w) (let e = length-drop tap_words a in omega arith))

-- ---- the tests do not tell −0 from +0

range_clean : (images : ℕ) (ts : List Tap) → all (in_range images) (map tap_read_back ts) ≡ all (in_range images) ts
unfolding all
range_clean images [] = refl
range_clean images (t ∷ ts) = ap (λ (b : Bool). in_range images t && b) (range_clean images ts)

numbers_clean : (ts : List Tap) → map number_of (map tap_read_back ts) ≡ map number_of ts
numbers_clean [] = refl
numbers_clean (t ∷ ts) = ap (λ (l : List ℕ). t.number ∷ l) (numbers_clean ts)

valid_gain_clean : (g m : ℕ) (z : Bool) → zero_bits g ≡ z → m % 2 ≡ cond z 0 1 → valid_gain m (cond z 0 g) ≡ valid_gain m g
valid_gain_clean g m false e f = refl
valid_gain_clean g m true e f =
    let l : g % 2147483648 ≡ 0 = eqb-true (g % 2147483648) 0 e in
    rw (f, l)

valid_gains_clean : (gs : List ℕ) → valid_gains (bits_of_gains gs) (map read_back_gain gs) ≡ valid_gains (bits_of_gains gs) gs
unfolding valid_gains bits_of_gains
valid_gains_clean [] = refl
valid_gains_clean (g ∷ gs) =
    let m : ℕ = bits_of_gains (g ∷ gs) in
    let h : m / 2 ≡ bits_of_gains gs = high_bits (zero_bits g) (bits_of_gains gs) in
    let ih : valid_gains (m / 2) (map read_back_gain gs) ≡ valid_gains (m / 2) gs = rw h (valid_gains_clean gs) in
    λ i. valid_gain_clean g m (zero_bits g) refl (low_bit (zero_bits g) (bits_of_gains gs)) i && ih i

floats_clean : (t : Tap) → Fine t → valid_floats (tap_read_back t) ≡ valid_floats t
floats_clean t f =
    let e : valid_gains t.bits (map read_back_gain t.gains) ≡ valid_gains t.bits t.gains = rw f.bits_are (valid_gains_clean t.gains) in
    ap (λ (b : Bool). finite_bits t.x && (finite_bits t.y && (finite_bits t.z && (positive_bits t.delay && b)))) e

all_floats_valid_clean : (ts : List Tap) → AllFine ts → all valid_floats (map tap_read_back ts) ≡ all valid_floats ts
unfolding all
all_floats_valid_clean [] f = refl
all_floats_valid_clean (t ∷ ts) f = λ i. floats_clean t f.0 i && all_floats_valid_clean ts f.1 i

square_zero : square 0x8000_0000 ≡ square 0
unfolding mul of_bits of_fields odd round size span climb units count_trailing_zeros
square_zero = refl

square_clean : (g : ℕ) (z : Bool) → zero_bits g ≡ z → g < 4294967296 → square (cond z 0 g) ≡ square g
square_clean g false e h = refl
square_clean g true e h =
    let l : g % 2147483648 ≡ 0 = eqb-true (g % 2147483648) 0 e in
    which g h l
  where
    which : (g : ℕ) → g < 4294967296 → g % 2147483648 ≡ 0 → square 0 ≡ square g
    which g h l = pick (dec_lt g 2147483648)
      where
        pick : Dec (g < 2147483648) → square 0 ≡ square g
        pick (yes k) = let e : 0 ≡ g = omega arith in ap square e
        pick (no k) = let e : 0x8000_0000 ≡ g = omega arith in sym square_zero ∙ ap square e

sum_clean : (s : Float) (gs : List ℕ) → Words gs → foldl plus_square s (map read_back_gain gs) ≡ foldl plus_square s gs
sum_clean s [] w = refl
sum_clean s (g ∷ gs) w =
    ap (λ (q : Float). foldl plus_square (add binary32 s q) (map read_back_gain gs)) (square_clean g (zero_bits g) refl (w 0))
    ∙ sum_clean (plus_square s g) gs (λ i. w (suc i))

sums_clean : (ts : List Tap) → AllFine ts → map sum_of_squared_gains (map tap_read_back ts) ≡ map sum_of_squared_gains ts
sums_clean [] f = refl
sums_clean (t ∷ ts) f = λ i. sum_clean (of_bits binary32 0) t.gains f.0.gains_fit i ∷ sums_clean ts f.1 i

pub tests_clean : (count images : ℕ) (ts : List Tap) → AllFine ts → first_failed (tests count images (map tap_read_back ts)) ≡ first_failed (tests count images ts)
tests_clean count images ts f = rw (range_clean images ts, all_floats_valid_clean ts f, numbers_clean ts, sums_clean ts f)

-- ---- what an acceptance tells

pub accepts_write : (count images : ℕ) (a out : List ℕ) → refused_write count images a out ≡ None
    → (area_words ≤ length a) × (out_bytes ≤ length out) × (first_failed (tests count images (taps_of count a)) ≡ None)
unfolding refused_write
accepts_write count images a out e =
    let p = cond_none (leb area_words (length a)) _ _ e in
    let q = cond_none (leb out_bytes (length out)) _ _ p.1 in
    (leb-true area_words (length a) p.0, leb-true out_bytes (length out) q.0, q.1)

pub accepts_read : (bs t : List ℕ) → refused_read bs t ≡ None
    → (area_words ≤ length t) × (whole bs ≡ true) × (first_failed (tests (count_in bs) (images_in bs) (decode bs)) ≡ None)
unfolding refused_read
accepts_read bs t e =
    let p = cond_none (leb area_words (length t)) _ _ e in
    let q = cond_none (whole bs) _ _ p.1 in
    (leb-true area_words (length t) p.0, q.0, q.1)

-- ---- gains: read, and written again

bit_of : (m : ℕ) (bs : List ℕ) → valid_gain m (gain_in m bs) ≡ true → cond (zero_bits (gain_in m bs)) 0 1 ≡ m % 2
bit_of m bs s = go (dec_lt 0 (m % 2))
  where
    go : Dec (0 < m % 2) → cond (zero_bits (gain_in m bs)) 0 1 ≡ m % 2
    go (yes h) =
        let e : m % 2 ≡ 1 = omega arith in
        let b : eqb (m % 2) 1 ≡ true = eq-eqb (m % 2) 1 e in
        let g : gain_in m bs ≡ word_of bs = ap (λ (x : Bool). cond x (word_of bs) 0) b in
        let f = and_both (finite_bits (gain_in m bs)) (not (eqb (m % 2) 1) || positive_bits (gain_in m bs)) s in
        let u : positive_bits (gain_in m bs) ≡ true = ap (λ (x : Bool). not x || positive_bits (gain_in m bs)) (sym b) ∙ f.1 in
        let v = and_both (ltb 0 (gain_in m bs)) (ltb (gain_in m bs) 0x7f80_0000) u in
        let lo = ltb-true 0 (gain_in m bs) v.0 in
        let hi = ltb-true (gain_in m bs) 0x7f80_0000 v.1 in
        let z : zero_bits (gain_in m bs) ≡ false = ne_eqb (gain_in m bs % 2147483648) 0 (λ q. omega arith) in
        ap (λ (x : Bool). cond x 0 1) z ∙ sym e
    go (no h) =
        let e : m % 2 ≡ 0 = omega arith in
        let b : eqb (m % 2) 1 ≡ false = ne_eqb (m % 2) 1 (λ q. omega arith) in
        let g : gain_in m bs ≡ 0 = ap (λ (x : Bool). cond x (word_of bs) 0) b in
        ap (λ (x : ℕ). cond (zero_bits x) 0 1) g ∙ sym e

bits_back : (k m : ℕ) (bs : List ℕ) → m < 2 ^ k → valid_gains m (gains_in k m bs) ≡ true → bits_of_gains (gains_in k m bs) ≡ m
unfolding valid_gains gains_in bits_of_gains
bits_back zero m bs h s = omega arith
bits_back (suc k) m bs h s =
    let p = and_both (valid_gain m (gain_in m bs)) (valid_gains (m / 2) (gains_in k (m / 2) (drop (m % 2 * 4) bs))) s in
    let w : 2 ^ suc k ≡ 2 * 2 ^ k = pow-succ' 2 k in
    let ih : bits_of_gains (gains_in k (m / 2) (drop (m % 2 * 4) bs)) ≡ m / 2 = bits_back k (m / 2) (drop (m % 2 * 4) bs) (omega arith) p.1 in
    (λ i. bit_of m bs p.0 i + 2 * ih i) ∙ (let e : m % 2 + 2 * (m / 2) ≡ m = omega arith in e)

tap_again : (bs : List ℕ) → Bytes bs → valid_floats (tap_in bs) ≡ true → in_area (tap_in bs) ≡ tap_in bs
unfolding tap_in
tap_again bs b s =
    let t : Tap = tap_in bs in
    let p1 = and_both (finite_bits t.x) _ s in
    let p2 = and_both (finite_bits t.y) _ p1.1 in
    let p3 = and_both (finite_bits t.z) _ p2.1 in
    let p4 = and_both (positive_bits t.delay) _ p3.1 in
    let e : bits_of_gains (gains_in bands (get_or bs 0 0) (drop fixed_bytes bs)) ≡ get_or bs 0 0 = bits_back bands (get_or bs 0 0) (drop fixed_bytes bs) (b 0) p4.1 in
    λ i. record { bits = e i; order = t.order; number = t.number; x = t.x; y = t.y; z = t.z; delay = t.delay; gains = t.gains }

pub taps_again : (n : ℕ) (bs : List ℕ) → Bytes bs → all valid_floats (taps_in n bs) ≡ true → map in_area (taps_in n bs) ≡ taps_in n bs
unfolding all taps_in
taps_again zero bs b s = refl
taps_again (suc n) bs b s =
    let p = and_both (valid_floats (tap_in bs)) (all valid_floats (taps_in n (drop (size_of_tap (get_or bs 0 0)) bs))) s in
    λ i. tap_again bs b p.0 i ∷ taps_again n (drop (size_of_tap (get_or bs 0 0)) bs) (bytes_drop (size_of_tap (get_or bs 0 0)) bs b) p.1 i

module _ (k m : ℕ) (bs : List ℕ) (b : Bytes bs)
    (ih : (l : List ℕ) → Bytes l → 4 * ones k (m / 2) ≤ length l → gain_bytes (m / 2) (gains_in k (m / 2) l) ++ drop (4 * ones k (m / 2)) l ≡ l)
    (h : 4 * (m % 2 + ones k (m / 2)) ≤ length bs) where
  gain_back : Dec (0 < m % 2)
      → (cond (eqb (m % 2) 1) (word (gain_in m bs)) [] ++ gain_bytes (m / 2) (gains_in k (m / 2) (drop (m % 2 * 4) bs))) ++ drop (4 * (m % 2 + ones k (m / 2))) bs ≡ bs
  gain_back (yes l) =
      let e : m % 2 ≡ 1 = omega arith in
      let d = length-drop 4 bs in
      let f : 4 * (1 + ones k (m / 2)) ≡ 4 + 4 * ones k (m / 2) = omega arith in
      rw e (ap (λ (j : ℕ). word (word_of bs) ++ (gain_bytes (m / 2) (gains_in k (m / 2) (drop 4 bs)) ++ drop j bs)) f
      ∙ ap (λ (l : List ℕ). word (word_of bs) ++ (gain_bytes (m / 2) (gains_in k (m / 2) (drop 4 bs)) ++ l)) (sym (drop-drop (4 * ones k (m / 2)) 4 bs))
      ∙ ap (λ (l : List ℕ). word (word_of bs) ++ l) (ih (drop 4 bs) (bytes_drop 4 bs b) (omega arith))
      ∙ bytes_back 4 bs b (omega arith))
  gain_back (no l) =
      let e : m % 2 ≡ 0 = omega arith in
      let f : 4 * (0 + ones k (m / 2)) ≡ 4 * ones k (m / 2) = omega arith in
      rw e (ap (λ (j : ℕ). gain_bytes (m / 2) (gains_in k (m / 2) bs) ++ drop j bs) f ∙ ih bs b (omega arith))

gains_back : (k m : ℕ) (bs : List ℕ) → Bytes bs → 4 * ones k m ≤ length bs → gain_bytes m (gains_in k m bs) ++ drop (4 * ones k m) bs ≡ bs
unfolding gain_bytes gains_in ones
gains_back zero m bs b h = refl
gains_back (suc k) m bs b h = gain_back k m bs b (λ l c g. gains_back k (m / 2) l c g) h (dec_lt 0 (m % 2))

-- ---- taps: read, and written again

-- word by word
on_word : (bs v : List ℕ) (k : ℕ) → Bytes bs → k + 4 ≤ length bs → v ≡ drop (k + 4) bs → word (word_of (drop k bs)) ++ v ≡ drop k bs
on_word bs v k b h e =
    let d = length-drop k bs in
    ap (λ (l : List ℕ). word (word_of (drop k bs)) ++ l) (e ∙ sym (drop-drop 4 k bs)) ∙ bytes_back 4 (drop k bs) (bytes_drop k bs b) (omega arith)

tap_back : (bs : List ℕ) → Bytes bs → size_of_tap (get_or bs 0 0) ≤ length bs → tap_bytes (tap_in bs) ++ drop (size_of_tap (get_or bs 0 0)) bs ≡ bs
unfolding tap_in
tap_back [] b h = absurd (omega arith)
tap_back (m ∷ []) b h = absurd (omega arith)
tap_back (m ∷ o ∷ r) b h =
    let br : Bytes r = λ i. b (suc (suc i)) in
    let x : ℕ = 4 * ones bands m in
    let d = length-drop 20 r in
    let g : gain_bytes m (gains_in bands m (drop 20 r)) ++ drop (22 + x) (m ∷ o ∷ r) ≡ drop 20 r =
    ap (λ (l : List ℕ). gain_bytes m (gains_in bands m (drop 20 r)) ++ l) (sym (drop-drop x 22 (m ∷ o ∷ r)))
    ∙ gains_back 8 m (drop 20 r) (bytes_drop 20 r br) (omega arith) in
    ap (λ (l : List ℕ). m ∷ o ∷ l)
    (on_word r _ 0 br (omega arith) (on_word r _ 4 br (omega arith) (on_word r _ 8 br (omega arith) (on_word r _ 12 br (omega arith) (on_word r _ 16 br (omega arith) g)))))

taps_back : (n : ℕ) (bs : List ℕ) → Bytes bs → has_only_taps n bs ≡ true → taps_bytes (taps_in n bs) ≡ bs
unfolding has_only_taps taps_in taps_bytes
taps_back zero [] b e = refl
taps_back zero (x ∷ bs) b e = absurd (let z = eqb-true (suc (length bs)) 0 e in omega arith)
taps_back (suc n) bs b e =
    let s : ℕ = size_of_tap (get_or bs 0 0) in
    let p = and_both (leb s (length bs)) (has_only_taps n (drop s bs)) e in
    ap (λ (l : List ℕ). tap_bytes (tap_in bs) ++ l) (taps_back n (drop s bs) (bytes_drop s bs b) p.1)
    ∙ tap_back bs b (leb-true s (length bs) p.0)

taps_in_length : (n : ℕ) (bs : List ℕ) → length (taps_in n bs) ≡ n
unfolding taps_in
taps_in_length zero bs = refl
taps_in_length (suc n) bs = ap suc (taps_in_length n (drop (size_of_tap (get_or bs 0 0)) bs))

pub packet_back : (bs : List ℕ) → Bytes bs → head_bytes ≤ length bs → has_only_taps (count_in bs) (drop head_bytes bs) ≡ true → encode (images_in bs) (rays_in bs) (decode bs) ≡ bs
packet_back bs b h e =
    let n : length (decode bs) ≡ count_in bs = taps_in_length (count_in bs) (drop head_bytes bs) in
    let t : taps_bytes (decode bs) ≡ drop head_bytes bs = taps_back (count_in bs) (drop head_bytes bs) (bytes_drop head_bytes bs b) e in
    (λ i. little_endian count_bytes (n i) ++ on_word bs _ count_bytes b (omega arith) (on_word bs _ (count_bytes + 4) b (omega arith) t) i)
    ∙ bytes_back count_bytes bs b (omega arith)

pub valid_floats_lem : (count images : ℕ) (ts : List Tap) → first_failed (tests count images ts) ≡ None → all valid_floats ts ≡ true
valid_floats_lem count images ts e =
    let a = cond_none (leb count most_taps) _ _ e in
    let b = cond_none (leb images most_images) _ _ a.1 in
    let c = cond_none (all (in_range images) ts) _ _ b.1 in
    (cond_none (all valid_floats ts) _ _ c.1).0
