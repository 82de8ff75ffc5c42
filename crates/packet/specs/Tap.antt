-- A tap, and the taps of a tap area: words of 32 bits, a float as its bits.
use Rattle.std.specs.Prelude.{ℕ, zero, suc, ◌+◌, ◌*◌, cond, List, [], ◌∷◌, ◌++◌, map, get_or, take, drop}
use Rattle.packet.specs.Limits.{bands, fixed_words, tap_words}
use Rattle.packet.specs.Floats.{zero_bits}

-- "per tap a bit map first .., order (1), number (4), direction (12), delay (4)", and a gain for each band
pub record Tap : Type 0 where
  pub bits : ℕ
  pub order : ℕ
  pub number : ℕ
  pub x : ℕ
  pub y : ℕ
  pub z : ℕ
  pub delay : ℕ
  pub gains : List ℕ

-- "bit k is band k", "A zero gain has no bit": the bit map of the gains, band 0 first
unfoldable pub bits_of_gains : List ℕ → ℕ
bits_of_gains [] = 0
bits_of_gains (g ∷ gs) = cond (zero_bits g) 0 1 + 2 * bits_of_gains gs

-- The tap at the front of a tap area: order, number, three words of direction, delay, a word for each gain
unfoldable pub stored_tap : List ℕ → Tap
unfolding bits_of_gains
stored_tap a = record {
  bits = bits_of_gains (take bands (drop fixed_words a));
  order = get_or a 0 0;
  number = get_or a 1 0;
  x = get_or a 2 0;
  y = get_or a 3 0;
  z = get_or a 4 0;
  delay = get_or a 5 0;
  gains = take bands (drop fixed_words a);
}

-- The first n taps of a tap area
unfoldable pub taps_of : ℕ → List ℕ → List Tap
unfolding stored_tap
taps_of zero a = []
taps_of (suc n) a = stored_tap a ∷ taps_of n (drop tap_words a)

-- The words of a tap in a tap area
abbrev pub words_of : Tap → List ℕ
words_of t = t.order ∷ t.number ∷ t.x ∷ t.y ∷ t.z ∷ t.delay ∷ t.gains

-- The words of taps, one tap after the other
unfoldable pub all_words : List Tap → List ℕ
all_words [] = []
all_words (t ∷ ts) = words_of t ++ all_words ts

-- ---- what the writer's packet is read as

-- "A zero gain has no bit and is read as +0"
abbrev pub read_back_gain : ℕ → ℕ
read_back_gain g = cond (zero_bits g) 0 g

-- The tap that is read where this one was written: a gain of −0 is +0, and all else is the same
abbrev pub tap_read_back : Tap → Tap
tap_read_back t = record {
  bits = t.bits;
  order = t.order;
  number = t.number;
  x = t.x;
  y = t.y;
  z = t.z;
  delay = t.delay;
  gains = map read_back_gain t.gains;
}
