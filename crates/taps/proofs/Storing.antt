-- Taps stored in an area: the stores of a tap are its words, one tap after the other is the list, and the area then reads as the list.
--     eight_stored, tap_stored     the stores of the gains, and of a tap
--     taps_step, taps_done     what is left to store gives the same area from each turn on
--     stored_back     the area reads as the taps stored
use Prim.Native.Nat.{ℕ, suc, ◌+◌, ◌*◌, ◌≤◌, ◌<◌}
use mathlib.Core.Path.{◌≡◌, refl, sym, ap, ◌∙◌}
use mathlib.Core.Bool.{not}
use mathlib.Core.List.{List, [], ◌∷◌, ◌++◌, map}
use native.Mathlib.Numerals.{add-one}
use native.Mathlib.Omega.{arith}
use lib.ListN.{length, get_or, take, drop, set, drop_of_length-le, length-append}
use lib.Seq.{sets, drop-cons, get_or-take, length-take-le}
use lib.Dec.{T}
use lib.Ieee.{Float, nan, inf, fin, is_nan}
use Rattle.float.specs.Compare.{is_finite}
use Rattle.packet.specs.Limits.{tap_words, fixed_words}
use Rattle.packet.specs.Tap.{Tap, taps_of, words_of, all_words}
use Rattle.packet.specs.Tap as area
use Rattle.packet.proofs.Runs.{goes_on, sets_front, sets_six}
use Rattle.ranking.specs.declared.Candidate.{Candidate}
use Rattle.ranking.specs.Rows.{candidate_at, candidate_float_count, candidate_word_count}
use Rattle.taps.specs.Tap.{bits_of, gain_bits, sent_tap}
use Rattle.taps.specs.Sendable.{Plain}
use Rattle.taps.specs.Areas.{gains_at}

pub plain_number : (x : Float) → Plain x → T (not (is_nan x))
unfolding is_finite is_nan
plain_number x p = go x p.finite
  where
    go : (x : Float) → T (is_finite x) → T (not (is_nan x))
    go nan h = absurd h
    go (inf s) h = absurd h
    go (fin s m e) h = tt

-- ---- a tap

pub eight_stored :
    (l : List ℕ) (at a b c d e f g h : ℕ) →
    set (set (set (set (set (set (set (set l (at + 6) a) (at + 7) b) (at + 8) c) (at + 9) d) (at + 10) e) (at + 11) f) (at + 12) g) (at + 13) h
    ≡ sets l (at + 6) (a ∷ b ∷ c ∷ d ∷ e ∷ f ∷ g ∷ h ∷ [])
eight_stored l at a b c d e f g h =
    let e7 : at + 7 ≡ suc (at + 6) = omega arith in
    let e8 : at + 8 ≡ suc (suc (at + 6)) = omega arith in
    let e9 : at + 9 ≡ suc (suc (suc (at + 6))) = omega arith in
    let e10 : at + 10 ≡ suc (suc (suc (suc (at + 6)))) = omega arith in
    let e11 : at + 11 ≡ suc (suc (suc (suc (suc (at + 6))))) = omega arith in
    let e12 : at + 12 ≡ suc (suc (suc (suc (suc (suc (at + 6)))))) = omega arith in
    let e13 : at + 13 ≡ suc (suc (suc (suc (suc (suc (suc (at + 6))))))) = omega arith in
    λ i. set (set (set (set (set (set (set (set l (at + 6) a) (e7 i) b) (e8 i) c) (e9 i) d) (e10 i) e) (e11 i) f) (e12 i) g) (e13 i) h

pub tap_stored :
    (fs : List Float) (ws : List ℕ) (i at : ℕ) (l l' : List ℕ) (x y z d : ℕ) → x ≡ bits_of (get_or fs (i * candidate_float_count + 2) nan) →
    y ≡ bits_of (get_or fs (i * candidate_float_count + 3) nan) → z ≡ bits_of (get_or fs (i * candidate_float_count + 4) nan) → d ≡ bits_of (get_or fs (i * candidate_float_count + 1) nan) →
    l'
    ≡ sets (set (set (set (set (set (set l at (get_or ws (i * candidate_word_count) 0)) (at + 1) (get_or ws (i * candidate_word_count + 1) 0)) (at + 2) x) (at + 3) y) (at + 4) z) (at + 5) d)
    (at + fixed_words) (gain_bits (gains_at fs (i * candidate_float_count))) →
    l' ≡ sets l at (words_of (sent_tap (candidate_at fs ws i)))
unfolding sent_tap candidate_at
tap_stored fs ws i at l l' x y z d ex ey ez ed e =
    let o : ℕ = get_or ws (i * candidate_word_count) 0 in
    let n : ℕ = get_or ws (i * candidate_word_count + 1) 0 in
    let g : List ℕ = gain_bits (gains_at fs (i * candidate_float_count)) in
    e ∙ sets_six l at o n x y z d g ∙ (λ j. sets l at (o ∷ n ∷ ex j ∷ ey j ∷ ez j ∷ ed j ∷ g))

-- ---- the taps in turn

words_length : (c : Candidate) → length (words_of (sent_tap c)) ≡ tap_words
unfolding sent_tap
words_length c = refl

module _ (fs : List Float) (ws : List ℕ) where
  -- the taps from the k-th on
  abbrev pub taps_from : ℕ → List ℕ → ℕ → List Tap
  taps_from count positions k = map (λ i. sent_tap (candidate_at fs ws i)) (drop k (take count positions))

  pub taps_step :
      (count : ℕ) (positions : List ℕ) (k : ℕ) (l l' final : List ℕ) → k < count → count ≤ length positions →
      l' ≡ sets l (k * tap_words) (words_of (sent_tap (candidate_at fs ws (get_or positions k 0)))) →
      sets l (k * tap_words) (all_words (taps_from count positions k)) ≡ final → sets l' ((k + 1) * tap_words) (all_words (taps_from count positions (k + 1))) ≡ final
  unfolding all_words
  taps_step count positions k l l' final h room e f =
      let len = length-take-le count positions room in
      let c : Candidate = candidate_at fs ws (get_or positions k 0) in
      let w = words_length c in
      let cons : drop k (take count positions) ≡ get_or positions k 0 ∷ drop (k + 1) (take count positions) = (
      drop-cons (take count positions) k 0 (omega arith)
      ∙ (λ j. get_or-take count positions k 0 h j ∷ drop (sym (add-one k) j) (take count positions))) in
      sym (goes_on l l' (k * tap_words) ((k + 1) * tap_words) (words_of (sent_tap c)) (all_words (taps_from count positions (k + 1))) e (omega arith))
      ∙ sym (ap (λ (is : List ℕ). sets l (k * tap_words) (all_words (map (λ i. sent_tap (candidate_at fs ws i)) is))) cons)
      ∙ f

  pub taps_done :
      (count : ℕ) (positions : List ℕ) (k : ℕ) (l final : List ℕ) → count ≤ k → count ≤ length positions →
      sets l (k * tap_words) (all_words (taps_from count positions k)) ≡ final → l ≡ final
  unfolding all_words
  taps_done count positions k l final h room f =
      let len = length-take-le count positions room in
      sym (ap (λ (is : List ℕ). sets l (k * tap_words) (all_words (map (λ i. sent_tap (candidate_at fs ws i)) is))) (drop_of_length-le (take count positions) {i = k} (omega arith)))
      ∙ f

-- ---- read back

read_back : (cs : List Candidate) (r : List ℕ) → taps_of (length cs) (all_words (map sent_tap cs) ++ r) ≡ map sent_tap cs
unfolding taps_of all_words area.stored_tap sent_tap
read_back [] r = refl
read_back (c ∷ cs) r = ap (λ (ts : List Tap). sent_tap c ∷ ts) (read_back cs r)

all_length : (cs : List Candidate) → length (all_words (map sent_tap cs)) ≡ length cs * tap_words
unfolding all_words
all_length [] = refl
all_length (c ∷ cs) =
    let w = words_length c in
    let r = all_length cs in
    length-append (words_of (sent_tap c)) (all_words (map sent_tap cs)) ∙ (let e : length (words_of (sent_tap c)) + length (all_words (map sent_tap cs)) ≡ suc (length cs) * tap_words = omega arith in e)

pub stored_back : (cs : List Candidate) (n : ℕ) (l : List ℕ) → n ≡ length cs → n * tap_words ≤ length l → taps_of n (sets l 0 (all_words (map sent_tap cs))) ≡ map sent_tap cs
stored_back cs n l e h =
    let w = all_length cs in
    ap (taps_of n) (sets_front l (all_words (map sent_tap cs)) (omega arith)) ∙ ap (λ (m : ℕ). taps_of m (all_words (map sent_tap cs) ++ drop (length (all_words (map sent_tap cs))) l)) e
    ∙ read_back cs (drop (length (all_words (map sent_tap cs))) l)
