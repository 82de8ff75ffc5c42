-- From an area to bytes: what is stored of each gain, of each tap and of all taps. By one step of each definition.
use Prim.Native.Nat.{ℕ, ◌+◌, ◌*◌, ◌/◌, ◌%◌, ◌≤◌, ◌<◌}
use mathlib.Core.Path.{◌≡◌, sym, ap, ◌∙◌}
use mathlib.Core.Bool.{cond}
use mathlib.Core.List.{List, [], ◌++◌}
use native.Mathlib.Decide.{dec_lt}
use native.Mathlib.Numerals.{add-one, add-two}
use native.Mathlib.Omega.{arith}
use lib.ListN.{length, get_or, drop, set, length-append}
use lib.Seq.{sets}
use lib.Dec.{eqb}
use Rattle.packet.specs.Limits.{bands, fixed_bytes, tap_words}
use Rattle.packet.specs.Tap.{Tap, stored_tap}
use Rattle.packet.specs.Bytes.{gain_bytes, word, tap_bytes, taps_bytes}
use Rattle.packet.proofs.Runs.{goes_on, sets_append}
use Rattle.packet.proofs.Areas.{from_done, from_step, taps_from, window, window_done, window_step}

-- ---- the gains of an area, to a packet

pub gain_length : (m g : ℕ) → length (cond (eqb (m % 2) 1) (word g) []) ≡ m % 2 * 4
gain_length m g = go (dec_lt 0 (m % 2))
  where
    go : Dec (0 < m % 2) → length (cond (eqb (m % 2) 1) (word g) []) ≡ m % 2 * 4
    go (yes h) = let e : m % 2 ≡ 1 = omega arith in rw e
    go (no h) = let e : m % 2 ≡ 0 = omega arith in rw e

module _ (at k m : ℕ) (a : List ℕ) (h : k < bands) (r : at + bands ≤ length a) where
  gain_bytes_step : gain_bytes m (window at k a) ≡ cond (eqb (m % 2) 1) (word (get_or a (at + k) 0)) [] ++ gain_bytes (m / 2) (window at (k + 1) a)
  unfolding gain_bytes
  gain_bytes_step = ap (gain_bytes m) (window_step at k a h r)

  pub write_gain_sets : (out out' : List ℕ) (p p' : ℕ) → p' ≡ p + m % 2 * 4 → out' ≡ sets out p (cond (eqb (m % 2) 1) (word (get_or a (at + k) 0)) [])
      → sets out' p' (gain_bytes (m / 2) (window at (k + 1) a)) ≡ sets out p (gain_bytes m (window at k a))
  write_gain_sets out out' p p' e f =
      let u : List ℕ = cond (eqb (m % 2) 1) (word (get_or a (at + k) 0)) [] in
      ap (λ (o : List ℕ). sets o p' (gain_bytes (m / 2) (window at (k + 1) a))) f
      ∙ ap (λ (q : ℕ). sets (sets out p u) q (gain_bytes (m / 2) (window at (k + 1) a))) (e ∙ ap (λ (j : ℕ). p + j) (sym (gain_length m (get_or a (at + k) 0))))
      ∙ sym (sets_append out p u (gain_bytes (m / 2) (window at (k + 1) a)))
      ∙ ap (sets out p) (sym gain_bytes_step)

  pub write_gain_length : length (gain_bytes m (window at k a)) ≡ m % 2 * 4 + length (gain_bytes (m / 2) (window at (k + 1) a))
  write_gain_length =
      ap length gain_bytes_step ∙ length-append (cond (eqb (m % 2) 1) (word (get_or a (at + k) 0)) []) (gain_bytes (m / 2) (window at (k + 1) a)) ∙ ap (λ (j : ℕ). j + length (gain_bytes (m / 2) (window at (k + 1) a))) (gain_length m (get_or a (at + k) 0))

pub gain_bytes_done : (at k m : ℕ) (a : List ℕ) → bands ≤ k → gain_bytes m (window at k a) ≡ []
unfolding gain_bytes
gain_bytes_done at k m a h = ap (gain_bytes m) (window_done at k a h)

module _ (n i : ℕ) (a : List ℕ) (h : i < n) where
  pub bytes_step : taps_bytes (taps_from n i a) ≡ tap_bytes (stored_tap (drop (i * tap_words) a)) ++ taps_bytes (taps_from n (i + 1) a)
  unfolding taps_bytes
  bytes_step = ap taps_bytes (from_step n i a h)

pub write_tap_sets : (o o₁ o₂ o₃ o₄ o₅ o₆ : List ℕ) (p : ℕ) (t : Tap)
    → o₁ ≡ sets (set (set o p t.bits) (p + 1) t.order) (p + 2) (word t.number) → o₂ ≡ sets o₁ (p + 6) (word t.x) → o₃ ≡ sets o₂ (p + 10) (word t.y)
    → o₄ ≡ sets o₃ (p + 14) (word t.z) → o₅ ≡ sets o₄ (p + 18) (word t.delay) → o₆ ≡ sets o₅ (p + fixed_bytes) (gain_bytes t.bits t.gains)
    → o₆ ≡ sets o p (tap_bytes t)
write_tap_sets o o₁ o₂ o₃ o₄ o₅ o₆ p t e₁ e₂ e₃ e₄ e₅ e₆ =
    let g : List ℕ = gain_bytes t.bits t.gains in
    sym (
    (λ i. sets (set (set o p t.bits) (sym (add-one p) i) t.order) (sym (add-two p) i) (word t.number ++ (word t.x ++ (word t.y ++ (word t.z ++ (word t.delay ++ g))))))
    ∙ goes_on (set (set o p t.bits) (p + 1) t.order) o₁ (p + 2) (p + 6) (word t.number) (word t.x ++ (word t.y ++ (word t.z ++ (word t.delay ++ g)))) e₁ (omega arith)
    ∙ goes_on o₁ o₂ (p + 6) (p + 10) (word t.x) (word t.y ++ (word t.z ++ (word t.delay ++ g))) e₂ (omega arith)
    ∙ goes_on o₂ o₃ (p + 10) (p + 14) (word t.y) (word t.z ++ (word t.delay ++ g)) e₃ (omega arith)
    ∙ goes_on o₃ o₄ (p + 14) (p + 18) (word t.z) (word t.delay ++ g) e₄ (omega arith)
    ∙ goes_on o₄ o₅ (p + 18) (p + fixed_bytes) (word t.delay) g e₅ (omega arith)
    ∙ sym e₆)

-- ---- the taps of an area, to a packet

pub write_taps_sets : (n i p q : ℕ) (a out out' : List ℕ) → i < n → out' ≡ sets out p (tap_bytes (stored_tap (drop (i * tap_words) a))) → q ≡ p + length (tap_bytes (stored_tap (drop (i * tap_words) a)))
    → sets out' q (taps_bytes (taps_from n (i + 1) a)) ≡ sets out p (taps_bytes (taps_from n i a))
write_taps_sets n i p q a out out' h e f =
    sym (goes_on out out' p q (tap_bytes (stored_tap (drop (i * tap_words) a))) (taps_bytes (taps_from n (i + 1) a)) e f)
    ∙ ap (sets out p) (sym (bytes_step n i a h))

pub write_taps_length : (n i : ℕ) (a : List ℕ) → i < n → length (taps_bytes (taps_from n i a)) ≡ length (tap_bytes (stored_tap (drop (i * tap_words) a))) + length (taps_bytes (taps_from n (i + 1) a))
write_taps_length n i a h = ap length (bytes_step n i a h) ∙ length-append (tap_bytes (stored_tap (drop (i * tap_words) a))) (taps_bytes (taps_from n (i + 1) a))

pub bytes_done : (n i : ℕ) (a : List ℕ) → n ≤ i → taps_bytes (taps_from n i a) ≡ []
unfolding taps_bytes
bytes_done n i a h = ap taps_bytes (from_done n i a h)
