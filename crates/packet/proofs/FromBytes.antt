-- From bytes to an area: the packet's structure tap by tap, what is stored of each tap, and that the area then holds the packet's taps but for
-- their bit maps. By one step of each definition, and by induction on the count.
use Prim.Native.Nat.{ℕ, zero, suc, ◌+◌, ◌-◌, ◌*◌, ◌/◌, ◌%◌, ◌≤◌, ◌<◌}
use mathlib.Core.Path.{◌≡◌, refl, sym, ap, ◌∙◌}
use mathlib.Core.Bool.{Bool, true, false, ◌&&◌}
use mathlib.Core.List.{List, [], ◌∷◌, ◌++◌, map, append_assoc}
use native.Mathlib.Nat.{add-zero}
use lib.Ieee.{Float}
use native.Mathlib.Omega.{arith}
use lib.ListN.{length, get_or, take, drop, set, length-append, length-drop}
use lib.Seq.{sets, drop-drop, get_or-drop, take_at, drop_at}
use lib.Dec.{leb, eqb}
use borrow.Author.Tests.{leb-true, le-leb, lt-leb}
use Rattle.packet.specs.Limits.{bands, fixed_bytes, fixed_words, tap_words}
use Rattle.packet.specs.Tap.{Tap, stored_tap, taps_of, bits_of_gains, all_words, words_of}
use Rattle.packet.specs.Bytes.{value_of, count_in, has_only_taps, size_of_tap, ones, taps_in, tap_in, gains_in, gain_in, word_of}
use Rattle.packet.specs.Refusals.{all, in_range, valid_floats, valid_floats_by, number_of, sum_of_squared_gains}
use Rattle.packet.specs.Helpers.{in_area, finite_gains}
use Rattle.packet.proofs.Runs.{and_both, goes_on, sets_front, sets_six, sets_step, sub_done, sub_step}
use Rattle.packet.proofs.Areas.{from_step, taps_from}

-- ---- a number of four bytes where it stands

value_at : (k at : ℕ) (b : List ℕ) → value_of (suc k) (drop at b) ≡ get_or b at 0 + 256 * value_of k (drop (at + 1) b)
value_at k at b = λ i. (get_or-drop at b 0 0 ∙ ap (λ (j : ℕ). get_or b j 0) (add-zero at)) i + 256 * value_of k (drop-drop 1 at b i)

pub word_at : (r at : ℕ) (b : List ℕ) → r ≡ get_or b at 0 + 256 * (get_or b (at + 1) 0 + 256 * (get_or b (at + 2) 0 + 256 * get_or b (at + 3) 0)) → r ≡ word_of (drop at b)
word_at r at b e =
    let two : at + 1 + 1 ≡ at + 2 = omega arith in
    let three : at + 2 + 1 ≡ at + 3 = omega arith in
    let d : value_of 1 (drop (at + 3) b) ≡ get_or b (at + 3) 0 = value_at 0 (at + 3) b ∙ (let z : get_or b (at + 3) 0 + 256 * 0 ≡ get_or b (at + 3) 0 = omega arith in z) in
    let c = value_at 1 (at + 2) b ∙ ap (λ (j : ℕ). get_or b (at + 2) 0 + 256 * value_of 1 (drop j b)) three ∙ ap (λ (q : ℕ). get_or b (at + 2) 0 + 256 * q) d in
    let w = value_at 2 (at + 1) b ∙ ap (λ (j : ℕ). get_or b (at + 1) 0 + 256 * value_of 2 (drop j b)) two ∙ ap (λ (q : ℕ). get_or b (at + 1) 0 + 256 * q) c in
    e ∙ sym (value_at 3 at b ∙ ap (λ (q : ℕ). get_or b at 0 + 256 * q) w)

-- the same of two bytes
pub count_at : (r : ℕ) (b : List ℕ) → r ≡ get_or b 0 0 + 256 * get_or b 1 0 → r ≡ count_in b
count_at r b e =
    let one : value_of 1 (drop 1 b) ≡ get_or b 1 0 = value_at 0 1 b ∙ (let z : get_or b 1 0 + 256 * 0 ≡ get_or b 1 0 = omega arith in z) in
    e ∙ ap (λ (q : ℕ). get_or b 0 0 + 256 * q) (sym one)

-- ---- taps of a packet, from a place on

pub holds_step : (n i at : ℕ) (b : List ℕ) → i < n
    → has_only_taps (n - i) (drop at b) ≡ (leb (size_of_tap (get_or b at 0)) (length b - at) && has_only_taps (n - (i + 1)) (drop (at + size_of_tap (get_or b at 0)) b))
unfolding has_only_taps
holds_step n i at b h =
    let e : get_or (drop at b) 0 0 ≡ get_or b at 0 = get_or-drop at b 0 0 ∙ ap (λ (k : ℕ). get_or b k 0) (omega arith) in
    rw (sub_step n i h, e, length-drop at b, drop-drop (size_of_tap (get_or b at 0)) at b)

pub holds_done : (n i at : ℕ) (b : List ℕ) → n ≤ i → has_only_taps (n - i) (drop at b) ≡ eqb (length b - at) 0
unfolding has_only_taps
holds_done n i at b h = rw (sub_done n i h, length-drop at b)

pub taps_in_step : (n i at : ℕ) (b : List ℕ) → i < n
    → taps_in (n - i) (drop at b) ≡ tap_in (drop at b) ∷ taps_in (n - (i + 1)) (drop (at + size_of_tap (get_or b at 0)) b)
unfolding taps_in
taps_in_step n i at b h =
    let e : get_or (drop at b) 0 0 ≡ get_or b at 0 = get_or-drop at b 0 0 ∙ ap (λ (k : ℕ). get_or b k 0) (omega arith) in
    rw (sub_step n i h, e, drop-drop (size_of_tap (get_or b at 0)) at b)

pub taps_in_done : (n i at : ℕ) (b : List ℕ) → n ≤ i → taps_in (n - i) (drop at b) ≡ []
unfolding taps_in
taps_in_done n i at b h = rw (sub_done n i h)

-- ---- gains

pub gains_step : (k m p : ℕ) (b : List ℕ) → k < bands
    → gains_in (bands - k) m (drop p b) ≡ gain_in m (drop p b) ∷ gains_in (bands - (k + 1)) (m / 2) (drop (p + m % 2 * 4) b)
unfolding gains_in
gains_step k m p b h = rw (sub_step bands k h, drop-drop (m % 2 * 4) p b)

pub gains_done : (k m : ℕ) (b : List ℕ) → bands ≤ k → gains_in (bands - k) m b ≡ []
unfolding gains_in
gains_done k m b h = rw (sub_done bands k h)

pub ones_step : (k m : ℕ) → k < bands → ones (bands - k) m ≡ m % 2 + ones (bands - (k + 1)) (m / 2)
unfolding ones
ones_step k m h = rw (sub_step bands k h)

-- ---- the gains of a packet, to an area

pub take_gain : (area b : List ℕ) (base k m p x : ℕ) (final : List ℕ) → k < bands → x ≡ gain_in m (drop p b)
    → sets area (base + k) (gains_in (bands - k) m (drop p b)) ≡ final
    → sets (set area (base + k) x) (base + (k + 1)) (gains_in (bands - (k + 1)) (m / 2) (drop (p + m % 2 * 4) b)) ≡ final
take_gain area b base k m p x final h e f =
    sym (sets_step area base k x (gains_in (bands - (k + 1)) (m / 2) (drop (p + m % 2 * 4) b)))
    ∙ ap (λ (y : ℕ). sets area (base + k) (y ∷ gains_in (bands - (k + 1)) (m / 2) (drop (p + m % 2 * 4) b))) e
    ∙ ap (sets area (base + k)) (sym (gains_step k m p b h))
    ∙ f

-- ---- a tap, to an area and to a packet

pub read_tap_sets : (area b : List ℕ) (base at o n x y z d : ℕ)
    → o ≡ get_or b (at + 1) 0 → n ≡ word_of (drop (at + 2) b) → x ≡ word_of (drop (at + 6) b) → y ≡ word_of (drop (at + 10) b) → z ≡ word_of (drop (at + 14) b) → d ≡ word_of (drop (at + 18) b)
    → sets (set (set (set (set (set (set area base o) (base + 1) n) (base + 2) x) (base + 3) y) (base + 4) z) (base + 5) d) (base + fixed_words) (gains_in bands (get_or b at 0) (drop (at + fixed_bytes) b))
    ≡ sets area base (words_of (tap_in (drop at b)))
unfolding tap_in
read_tap_sets area b base at o n x y z d eo en ex ey ez ed =
    let zero_at : get_or b at 0 ≡ get_or (drop at b) 0 0 = sym (get_or-drop at b 0 0 ∙ ap (λ (k : ℕ). get_or b k 0) (add-zero at)) in
    let w : (k : ℕ) → word_of (drop (at + k) b) ≡ word_of (drop k (drop at b)) = λ k. ap word_of (sym (drop-drop k at b)) in
    sets_six area base o n x y z d (gains_in bands (get_or b at 0) (drop (at + fixed_bytes) b))
    ∙ (λ i. sets area base ((eo ∙ sym (get_or-drop at b 1 0)) i ∷ (en ∙ w 2) i ∷ (ex ∙ w 6) i ∷ (ey ∙ w 10) i ∷ (ez ∙ w 14) i ∷ (ed ∙ w 18) i ∷ gains_in bands (zero_at i) (sym (drop-drop fixed_bytes at b) i)))

-- ---- the structure, tap by tap

module _ (n i at : ℕ) (b : List ℕ) (h : i < n) where
  pub holds_short : length b - at < size_of_tap (get_or b at 0) → has_only_taps (n - i) (drop at b) ≡ false
  holds_short l = rw (holds_step n i at b h, lt-leb (size_of_tap (get_or b at 0)) (length b - at) l)

  pub holds_go : size_of_tap (get_or b at 0) ≤ length b - at → has_only_taps (n - i) (drop at b) ≡ has_only_taps (n - (i + 1)) (drop (at + size_of_tap (get_or b at 0)) b)
  holds_go l = rw (holds_step n i at b h, le-leb (size_of_tap (get_or b at 0)) (length b - at) l)

  pub holds_room : has_only_taps (n - i) (drop at b) ≡ true → size_of_tap (get_or b at 0) ≤ length b - at
  holds_room e = leb-true _ _ (and_both (leb (size_of_tap (get_or b at 0)) (length b - at)) (has_only_taps (n - (i + 1)) (drop (at + size_of_tap (get_or b at 0)) b)) (sym (holds_step n i at b h) ∙ e)).0

  pub holds_next : has_only_taps (n - i) (drop at b) ≡ true → has_only_taps (n - (i + 1)) (drop (at + size_of_tap (get_or b at 0)) b) ≡ true
  holds_next e = (and_both (leb (size_of_tap (get_or b at 0)) (length b - at)) (has_only_taps (n - (i + 1)) (drop (at + size_of_tap (get_or b at 0)) b)) (sym (holds_step n i at b h) ∙ e)).1

-- ---- the taps of a packet, to an area

pub gains_length : (k m : ℕ) (bs : List ℕ) → length (gains_in k m bs) ≡ k
unfolding gains_in
gains_length zero m bs = refl
gains_length (suc k) m bs = ap suc (gains_length k (m / 2) (drop (m % 2 * 4) bs))

pub words_length : (bs : List ℕ) → length (words_of (tap_in bs)) ≡ tap_words
unfolding tap_in
words_length bs = let e = gains_length bands (get_or bs 0 0) (drop fixed_bytes bs) in omega arith

pub read_taps_sets : (n i at : ℕ) (b area area' final : List ℕ) (s : ℕ) → i < n → s ≡ size_of_tap (get_or b at 0) → area' ≡ sets area (i * tap_words) (words_of (tap_in (drop at b)))
    → sets area (i * tap_words) (all_words (taps_in (n - i) (drop at b))) ≡ final
    → sets area' ((i + 1) * tap_words) (all_words (taps_in (n - (i + 1)) (drop (at + s) b))) ≡ final
unfolding all_words
read_taps_sets n i at b area area' final s h q e f =
    let r : List ℕ = all_words (taps_in (n - (i + 1)) (drop (at + size_of_tap (get_or b at 0)) b)) in
    let l = words_length (drop at b) in
    ap (λ (k : ℕ). sets area' ((i + 1) * tap_words) (all_words (taps_in (n - (i + 1)) (drop (at + k) b)))) q
    ∙ sym (goes_on area area' (i * tap_words) ((i + 1) * tap_words) (words_of (tap_in (drop at b))) r e (omega arith))
    ∙ ap (λ (ts : List Tap). sets area (i * tap_words) (all_words ts)) (sym (taps_in_step n i at b h))
    ∙ f

pub read_taps_done : (n i at : ℕ) (b area final : List ℕ) → n ≤ i → sets area (i * tap_words) (all_words (taps_in (n - i) (drop at b))) ≡ final → area ≡ final
unfolding all_words
read_taps_done n i at b area final h f = ap (λ (ts : List Tap). sets area (i * tap_words) (all_words ts)) (sym (taps_in_done n i at b h)) ∙ f

-- ---- the taps that an area holds are those that were stored in it, but for the bit maps

head_is : (t u : Tap) (ts us : List Tap) → t ∷ ts ≡ u ∷ us → (t ≡ u) × (ts ≡ us)
head_is t u ts us e = (cc, cc)

pub back_head : (n i at : ℕ) (b a : List ℕ) → i < n → taps_from n i a ≡ map in_area (taps_in (n - i) (drop at b))
    → (stored_tap (drop (i * tap_words) a) ≡ in_area (tap_in (drop at b))) × (taps_from n (i + 1) a ≡ map in_area (taps_in (n - (i + 1)) (drop (at + size_of_tap (get_or b at 0)) b)))
back_head n i at b a h e = head_is _ _ _ _ (sym (from_step n i a h) ∙ e ∙ ap (map in_area) (taps_in_step n i at b h))

pub floats_in : (at : ℕ) (b : List ℕ) (t : Tap) → t ≡ in_area (tap_in (drop at b)) → valid_floats_by (get_or b at 0) t ≡ valid_floats (tap_in (drop at b))
unfolding tap_in
floats_in at b t e =
    let z : get_or b at 0 ≡ get_or (drop at b) 0 0 = sym (get_or-drop at b 0 0 ∙ ap (λ (k : ℕ). get_or b k 0) (add-zero at)) in
    ap (valid_floats_by (get_or b at 0)) e ∙ ap (λ (m : ℕ). valid_floats_by m (tap_in (drop at b))) z

module _ (n i at : ℕ) (b : List ℕ) (h : i < n) where
  pub floats_no : valid_floats (tap_in (drop at b)) ≡ false → all valid_floats (taps_in (n - i) (drop at b)) ≡ false
  unfolding all
  floats_no e = rw (taps_in_step n i at b h, e)

  pub floats_yes : valid_floats (tap_in (drop at b)) ≡ true → all valid_floats (taps_in (n - i) (drop at b)) ≡ all valid_floats (taps_in (n - (i + 1)) (drop (at + size_of_tap (get_or b at 0)) b))
  unfolding all
  floats_yes e = rw (taps_in_step n i at b h, e)

-- ---- what does not look at the bit maps

pub range_in_area : (images : ℕ) (ts : List Tap) → all (in_range images) (map in_area ts) ≡ all (in_range images) ts
unfolding all
range_in_area images [] = refl
range_in_area images (t ∷ ts) = ap (λ (b : Bool). in_range images t && b) (range_in_area images ts)

pub finite_gains_in_area : (ts : List Tap) → all finite_gains (map in_area ts) ≡ all finite_gains ts
unfolding all
finite_gains_in_area [] = refl
finite_gains_in_area (t ∷ ts) = ap (λ (b : Bool). finite_gains t && b) (finite_gains_in_area ts)

pub numbers_in_area : (ts : List Tap) → map number_of (map in_area ts) ≡ map number_of ts
numbers_in_area [] = refl
numbers_in_area (t ∷ ts) = ap (λ (l : List ℕ). t.number ∷ l) (numbers_in_area ts)

pub sums_in_area : (ts : List Tap) → map sum_of_squared_gains (map in_area ts) ≡ map sum_of_squared_gains ts
sums_in_area [] = refl
sums_in_area (t ∷ ts) = ap (λ (l : List Float). sum_of_squared_gains t ∷ l) (sums_in_area ts)

-- ---- reading the words back

front_is : (t : Tap) (r : List ℕ) → length t.gains ≡ bands → stored_tap (words_of t ++ r) ≡ in_area t
unfolding stored_tap
front_is t r e =
    let g : take bands (t.gains ++ r) ≡ t.gains = take_at t.gains r bands e in
    λ i. record { bits = bits_of_gains (g i); order = t.order; number = t.number; x = t.x; y = t.y; z = t.z; delay = t.delay; gains = g i }

tap_gains : (bs : List ℕ) → length (tap_in bs).gains ≡ bands
unfolding tap_in
tap_gains bs = gains_length bands (get_or bs 0 0) (drop fixed_bytes bs)

pub read_back : (n : ℕ) (bs r : List ℕ) → taps_of n (all_words (taps_in n bs) ++ r) ≡ map in_area (taps_in n bs)
unfolding taps_of taps_in all_words
read_back zero bs r = refl
read_back (suc n) bs r =
    let t : Tap = tap_in bs in
    let rest : List ℕ = all_words (taps_in n (drop (size_of_tap (get_or bs 0 0)) bs)) in
    rw (append_assoc (words_of t) rest r) (
    (λ i. front_is t (rest ++ r) (tap_gains bs) i ∷ taps_of n (drop_at (words_of t) (rest ++ r) tap_words (words_length bs) i))
    ∙ ap (λ (l : List Tap). in_area t ∷ l) (read_back n (drop (size_of_tap (get_or bs 0 0)) bs) r))

pub all_words_length : (n : ℕ) (bs : List ℕ) → length (all_words (taps_in n bs)) ≡ n * tap_words
unfolding taps_in all_words
all_words_length zero bs = refl
all_words_length (suc n) bs =
    let l = words_length bs in
    let ih = all_words_length n (drop (size_of_tap (get_or bs 0 0)) bs) in
    length-append (words_of (tap_in bs)) (all_words (taps_in n (drop (size_of_tap (get_or bs 0 0)) bs))) ∙ (let e : length (words_of (tap_in bs)) + length (all_words (taps_in n (drop (size_of_tap (get_or bs 0 0)) bs))) ≡ suc n * tap_words = omega arith in e)

pub stored_back : (n : ℕ) (bs l : List ℕ) → n * tap_words ≤ length l → taps_of n (sets l 0 (all_words (taps_in n bs))) ≡ map in_area (taps_in n bs)
stored_back n bs l h =
    let e = all_words_length n bs in
    ap (taps_of n) (sets_front l (all_words (taps_in n bs)) (omega arith)) ∙ read_back n bs (drop (length (all_words (taps_in n bs))) l)
