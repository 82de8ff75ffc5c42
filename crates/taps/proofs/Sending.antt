-- The packet writer takes the taps of candidates that are `Sendable`, ranked: none of its tests fails.
--     rankable_of     such candidates can be ranked
--     ranked_sent     the tests hold for what is ranked of them
--     sent_bytes, sent_out     so the writer answers the packet's length, and the output holds the packet
use Prim.Native.Nat.{ℕ, zero, suc, ◌+◌, ◌*◌, ◌/◌, ◌%◌, ◌≤◌, ◌<◌}
use mathlib.Core.Path.{◌≡◌, refl, sym, ap, subst, ◌∙◌}
use mathlib.Core.Bool.{Bool, true, false, cond, not, ◌&&◌, ◌||◌}
use mathlib.Core.Logic.{◌⊎◌, inl, inr, ⊎_elim}
use mathlib.Core.List.{List, [], ◌∷◌, ◌++◌, map}
use native.Mathlib.Nat.{mul-pos, zero-lt-suc, zero-mul}
use native.Mathlib.Omega.{arith}
use lib.ListN.{length, drop, length-take}
use lib.Dec.{T, ltb, eqb, nltb→le, ltb→lt}
use lib.IntN.{pos}
use lib.Ieee.{Float, nan, inf, fin, binary32, up, down, lt, eq, fits, is_nan, of_bits}
use lib.Ieee.Bits.{of_bits-to_bits, to_bits-lt}
use lib.Ieee.Fits.{up_pos}
use borrow.Author.Tests.{lt-ltb, le-ltb, le-leb, ne_eqb}
use Rattle.float.specs.Key.{key_of_float}
use Rattle.float.specs.Literals.{zero32}
use Rattle.float.specs.Compare.{is_finite}
use Rattle.bands.specs.Band8.{sum_of_squares_of}
use Rattle.packet.specs.Limits.{most_taps, most_images, most_order, area_words, out_bytes}
use Rattle.packet.specs.Floats.{finite_bits, positive_bits, zero_bits}
use Rattle.packet.specs.Tap.{Tap, bits_of_gains, taps_of}
use Rattle.packet.specs.Bytes.{encode}
use Rattle.std.specs.Prelude.{None, Ok}
use Rattle.packet.specs.Refusals.{all, in_range, valid_gain, valid_gains, valid_floats, member, distinct, number_of, sum_of_squared_gains, least_sum, none_exceeds, first_failed, tests}
use Rattle.packet.specs.Writer.{refused_write, write_answer, write_out}
use Rattle.packet.proofs.Meaning.{above_zero, is_zero, finite_is, positive_is, zero_is}
use Rattle.packet.proofs.Answers.{by_tests_write, write_taken}
use Rattle.ranking.specs.declared.Candidate.{Candidate}
use Rattle.ranking.specs.Lists.{Has, BestFirst}
use Rattle.ranking.specs.Candidate.{decides, better, ranked, Rankable}
use Rattle.ranking.specs.Listed.{Once, Listed}
use Rattle.ranking.proofs.Keys.{lt_key}
use Rattle.ranking.proofs.Laws.{ranked_listed}
use Rattle.paths.proofs.Numbers.{energy_fits}
use Rattle.taps.specs.Tap.{bits_of, sent_tap, packet_of}
use Rattle.taps.specs.Sendable.{Plain, Level, Sound, Placed, Sendable}
use Rattle.taps.proofs.Storing.{plain_number}

true_of : (b : Bool) → T b → b ≡ true
true_of true h = refl
true_of false h = absurd h

false_of : (b : Bool) → T (not b) → b ≡ false
false_of true h = absurd h
false_of false h = refl

-- ---- one float

finite_bits_lem : (x : Float) → Plain x → finite_bits (bits_of x) ≡ true
finite_bits_lem x p = finite_is (bits_of x) ∙ ap is_finite (of_bits-to_bits binary32 x p.held) ∙ true_of (is_finite x) p.finite

zero_first : zero32 ≡ fin false 0 (pos 0)
unfolding of_bits
zero_first = refl

above_bits : (x : Float) → Plain x → lt (fin false 0 (pos 0)) x ≡ true → positive_bits (bits_of x) ≡ true
above_bits x p h =
    positive_is (bits_of x) (to_bits-lt binary32 x p.held) ∙ ap above_zero (of_bits-to_bits binary32 x p.held)
    ∙ (λ i. true_of (is_finite x) p.finite i && h i)

positive_bits_lem : (x : Float) → Plain x → T (lt zero32 x) → positive_bits (bits_of x) ≡ true
positive_bits_lem x p h = above_bits x p (sym (ap (λ (z : Float). lt z x) zero_first) ∙ true_of (lt zero32 x) h)

-- a finite float that is not below 0 is a zero, or above it
zero_or_above : (x : Float) → T (is_finite x) → T (not (lt x zero32)) → (is_zero x ≡ true) ⊎ (lt (fin false 0 (pos 0)) x ≡ true)
unfolding is_finite lt eq of_bits
zero_or_above nan f h = absurd f
zero_or_above (inf s) f h = absurd f
zero_or_above (fin false zero e) f h = inl (rw (zero-mul (down e), zero-mul (up e)) refl)
zero_or_above (fin true zero e) f h = inl (rw (zero-mul (down e), zero-mul (up e)) refl)
zero_or_above (fin false (suc m) e) f h =
    let p : 0 < suc m * up e = mul-pos (zero-lt-suc m) (up_pos e) in
    let z = zero-mul (down e) in
    inr (lt-ltb (0 * 1 * down e) (suc m * up e * 1) (omega arith))
zero_or_above (fin true (suc m) e) f h =
    let l : suc m * up e * 1 + 0 * 1 * down e ≤ 0 = nltb→le 0 (suc m * up e * 1 + 0 * 1 * down e) h in
    let p : 0 < suc m * up e = mul-pos (zero-lt-suc m) (up_pos e) in
    absurd (let no : ⊥ = omega arith in no)

-- ---- gains

abbrev Levels : List Float → Type 0
Levels [] = Unit {0}
Levels (x ∷ xs) = Level x × Levels xs

gain_valid : (b rest : ℕ) → finite_bits b ≡ true → (zero_bits b ≡ true) ⊎ (positive_bits b ≡ true) → valid_gain (cond (zero_bits b) 0 1 + 2 * rest) b ≡ true
gain_valid b rest f k = ⊎_elim (λ z. zeros z) (λ p. above p) k
  where
    even : eqb ((0 + 2 * rest) % 2) 1 ≡ false
    even = ne_eqb ((0 + 2 * rest) % 2) 1 (λ e. omega arith)

    zeros : zero_bits b ≡ true → valid_gain (cond (zero_bits b) 0 1 + 2 * rest) b ≡ true
    zeros z = (λ i. f i && (not (eqb ((cond (z i) 0 1 + 2 * rest) % 2) 1) || positive_bits b)) ∙ ap (λ (c : Bool). not c || positive_bits b) even

    or_true : (a : Bool) → (a || true) ≡ true
    or_true true = refl
    or_true false = refl

    above : positive_bits b ≡ true → valid_gain (cond (zero_bits b) 0 1 + 2 * rest) b ≡ true
    above p = (λ i. f i && (not (eqb ((cond (zero_bits b) 0 1 + 2 * rest) % 2) 1) || p i)) ∙ or_true (not (eqb ((cond (zero_bits b) 0 1 + 2 * rest) % 2) 1))

half : (z : Bool) (rest : ℕ) → (cond z 0 1 + 2 * rest) / 2 ≡ rest
half true rest = omega arith
half false rest = omega arith

gains_valid : (xs : List Float) → Levels xs → valid_gains (bits_of_gains (map bits_of xs)) (map bits_of xs) ≡ true
unfolding valid_gains bits_of_gains
gains_valid [] h = refl
gains_valid (x ∷ xs) h =
    let b = bits_of x in
    let rest = bits_of_gains (map bits_of xs) in
    let p = h.0.plain in
    let k = ⊎_elim (λ z. inl (zero_is b ∙ ap is_zero (of_bits-to_bits binary32 x p.held) ∙ z)) (λ a. inr (above_bits x p a)) (zero_or_above x p.finite h.0.not_below) in
    (λ i. gain_valid b rest (finite_bits_lem x p) k i && valid_gains (half (zero_bits b) rest i) (map bits_of xs)) ∙ gains_valid xs h.1

-- ---- one tap

floats_valid : (c : Candidate) → Sound c → valid_floats (sent_tap c) ≡ true
unfolding sent_tap
floats_valid c s =
    let g = s.gains in
    let x = finite_bits_lem c.direction.x s.x in
    let y = finite_bits_lem c.direction.y s.y in
    let z = finite_bits_lem c.direction.z s.z in
    let d = positive_bits_lem c.delay s.delay s.delay_above in
    let v =
    gains_valid (c.gains.b0 ∷ c.gains.b1 ∷ c.gains.b2 ∷ c.gains.b3 ∷ c.gains.b4 ∷ c.gains.b5 ∷ c.gains.b6 ∷ c.gains.b7 ∷ [])
    (g.l0, (g.l1, (g.l2, (g.l3, (g.l4, (g.l5, (g.l6, (g.l7, tt)))))))) in
    λ i. x i && (y i && (z i && (d i && v i)))

in_range_lem : (images : ℕ) (c : Candidate) → Placed images c → in_range images (sent_tap c) ≡ true
unfolding sent_tap
in_range_lem images c p =
    let a = le-leb 1 c.order p.order_some in
    let b = le-leb c.order most_order p.order_most in
    let d = le-leb 1 c.number p.number_some in
    let e = le-leb c.number images p.number_most in
    λ i. a i && (b i && (d i && e i))

-- the sum of the gains' squares, by their bits, is the energy
sum_is : (c : Candidate) → Sound c → sum_of_squared_gains (sent_tap c) ≡ c.energy
unfolding sent_tap sum_of_squares_of
sum_is c s =
    let g = s.gains in
    let back : (x : Float) → Level x → of_bits binary32 (bits_of x) ≡ x = λ x l. of_bits-to_bits binary32 x l.plain.held in
    (λ i.
    sum_of_squares_of
    (record {
      b0 = back c.gains.b0 g.l0 i;
      b1 = back c.gains.b1 g.l1 i;
      b2 = back c.gains.b2 g.l2 i;
      b3 = back c.gains.b3 g.l3 i;
      b4 = back c.gains.b4 g.l4 i;
      b5 = back c.gains.b5 g.l5 i;
      b6 = back c.gains.b6 g.l6 i;
      b7 = back c.gains.b7 g.l7 i;
    }))
    ∙ sym s.energy_is

-- ---- what the ranking asks

above_number : (x : Float) → T (lt least_sum x) → T (not (is_nan x))
unfolding lt is_nan of_bits
above_number nan h = absurd h
above_number (inf s) h = tt
above_number (fin s m e) h = tt

pub rankable_of : (images : ℕ) (c : Candidate) → images ≤ most_images → Sound c → Placed images c → Rankable c
rankable_of images c few s p =
    let o = p.order_most in
    let n = p.number_most in
    record {
      energy_fits = subst (λ (x : Float). T (fits binary32 x)) (sym s.energy_is) (energy_fits c.gains);
      energy_number = above_number c.energy s.energy_above;
      delay_fits = s.delay.held;
      delay_number = plain_number c.delay s.delay;
      order_small = omega arith;
      number_small = omega arith;
    }

-- ---- a list

all_of : (p : Tap → Bool) (cs : List Candidate) → ((c : Candidate) → Has c cs → p (sent_tap c) ≡ true) → all p (map sent_tap cs) ≡ true
unfolding all
all_of p [] h = refl
all_of p (c ∷ cs) h = (λ i. h c (inl refl) i && all_of p cs (λ d k. h d (inr k)) i)

member_none : (n : ℕ) (cs : List Candidate) → ((d : Candidate) → Has d cs → n ≡ d.number → ⊥) → member n (map number_of (map sent_tap cs)) ≡ false
unfolding sent_tap
member_none n [] h = refl
member_none n (c ∷ cs) h = (λ i. ne_eqb n c.number (h c (inl refl)) i || member_none n cs (λ d k. h d (inr k)) i)

numbers_distinct : (cs : List Candidate) → Once cs → distinct (map number_of (map sent_tap cs)) ≡ true
unfolding distinct sent_tap
numbers_distinct [] o = refl
numbers_distinct (c ∷ cs) o = (λ i. not (member_none c.number cs o.0 i) && numbers_distinct cs o.1 i)

-- the better of two does not have the lesser energy
better_energy : (a b : Candidate) → Rankable a → Rankable b → better a b ≡ true → lt a.energy b.energy ≡ false
unfolding better
better_energy a b r s e =
    go (lt b.energy a.energy) (lt a.energy b.energy) _
    (lt_key b.energy a.energy s.energy_fits r.energy_fits s.energy_number r.energy_number)
    (lt_key a.energy b.energy r.energy_fits s.energy_fits r.energy_number s.energy_number) e
  where
    go :
        (less more rest : Bool) → less ≡ ltb (key_of_float b.energy) (key_of_float a.energy) → more ≡ ltb (key_of_float a.energy) (key_of_float b.energy) →
        decides less more rest ≡ true → more ≡ false
    go less false rest f g e = refl
    go false true rest f g e = sym e
    go true true rest f g e =
        let l : key_of_float b.energy < key_of_float a.energy = ltb→lt (key_of_float b.energy) (key_of_float a.energy) (subst T f tt) in
        g ∙ le-ltb (key_of_float a.energy) (key_of_float b.energy) (omega arith)

none_exceeds_lem : (cs : List Candidate) → ((c : Candidate) → Has c cs → Rankable c) → BestFirst better cs → none_exceeds (map (λ (c : Candidate). c.energy) cs) ≡ true
unfolding none_exceeds
none_exceeds_lem [] r b = refl
none_exceeds_lem (c ∷ []) r b = refl
none_exceeds_lem (c ∷ d ∷ cs) r b =
    (λ i. not (better_energy c d (r c (inl refl)) (r d (inr (inl refl))) (b.0 d (inl refl)) i) && none_exceeds_lem (d ∷ cs) (λ e k. r e (inr k)) b.1 i)

sums_are : (cs : List Candidate) → ((c : Candidate) → Has c cs → Sound c) → map sum_of_squared_gains (map sent_tap cs) ≡ map (λ (c : Candidate). c.energy) cs
sums_are [] s = refl
sums_are (c ∷ cs) s = (λ i. sum_is c (s c (inl refl)) i ∷ sums_are cs (λ d k. s d (inr k)) i)

all_above : (cs : List Candidate) → ((c : Candidate) → Has c cs → Sound c) → all (lt least_sum) (map (λ (c : Candidate). c.energy) cs) ≡ true
unfolding all
all_above [] s = refl
all_above (c ∷ cs) s = (λ i. true_of (lt least_sum c.energy) (s c (inl refl)).energy_above i && all_above cs (λ d k. s d (inr k)) i)

-- ---- the tests

module _ (speed rate : Float) (limit images : ℕ) (cs : List Candidate) (few : limit ≤ most_taps) (s : Sendable images cs) where
  abbrev sent : List Candidate
  sent = ranked speed rate limit cs

  rankable : (c : Candidate) → Has c cs → Rankable c
  rankable c h = rankable_of images c s.few (s.sound c h) (s.placed c h)

  listed : Listed speed rate limit cs sent
  listed = ranked_listed speed rate limit cs rankable s.once

  among : (c : Candidate) → Has c sent → Has c cs
  among c h = ((listed.exactly c).0 h).among

  pub sent_length : length sent ≤ limit
  sent_length = simp length-take (omega arith)

  pub ranked_sent : first_failed (tests (length sent) images (map sent_tap sent)) ≡ None
  ranked_sent =
      let l = sent_length in
      rw (
        le-leb (length sent) most_taps (omega arith),
        le-leb images most_images s.few,
        all_of (in_range images) sent (λ c h. in_range_lem images c (s.placed c (among c h))),
        all_of valid_floats sent (λ c h. floats_valid c (s.sound c (among c h))),
        numbers_distinct sent listed.once,
        sums_are sent (λ c h. s.sound c (among c h)),
        all_above sent (λ c h. s.sound c (among c h)),
        none_exceeds_lem sent (λ c h. rankable c (among c h)) listed.best_first,
      )

  module _ (rays count : ℕ) (a out : List ℕ) (e : count ≡ length sent) (t : taps_of count a ≡ map sent_tap sent) (area : area_words ≤ length a) (room : out_bytes ≤ length out) where
    not_refused : refused_write count images a out ≡ None
    not_refused = by_tests_write count images rays a out area room ∙ (λ i. first_failed (tests (e i) images (t i))) ∙ ranked_sent

    pub sent_bytes : write_answer count images rays a out ≡ Ok (length (packet_of images rays sent))
    sent_bytes = sym (write_taken count images rays a out not_refused).0 ∙ ap (λ (ts : List Tap). Ok (length (encode images rays ts))) t

    pub sent_out : write_out count images rays a out ≡ packet_of images rays sent ++ drop (length (packet_of images rays sent)) out
    sent_out =
        sym (write_taken count images rays a out not_refused).1
        ∙ ap (λ (ts : List Tap). encode images rays ts ++ drop (length (encode images rays ts)) out) t
