-- What the contracts of private functions cite besides: steps on the way to the definitions before.
use Rattle.std.specs.Prelude.{ℕ, ◌*◌, Bool, true, not, ◌&&◌, List, [], ◌∷◌, eqb}
use Rattle.order.specs.Radix.{upper}
use Rattle.packet.specs.Floats.{finite_bits}
use Rattle.packet.specs.Tap.{Tap, bits_of_gains}
use Rattle.packet.specs.Refusals.{all}

-- A tap as a tap area holds it: no bit map is stored there, so it is that of the gains
abbrev pub in_area : Tap → Tap
in_area t = record {
  bits = bits_of_gains t.gains;
  order = t.order;
  number = t.number;
  x = t.x;
  y = t.y;
  z = t.z;
  delay = t.delay;
  gains = t.gains;
}

-- Every gain of a tap is finite, so that it has a square
abbrev pub finite_gains : Tap → Bool
finite_gains t = all finite_bits t.gains

-- ---- repeated image numbers: each is the upper half of a word, the words are sorted, and equal ones then stand side by side

-- Numbers as the upper halves of words
unfoldable pub keys_of : List ℕ → List ℕ
keys_of [] = []
keys_of (n ∷ ns) = n * 4294967296 ∷ keys_of ns

-- No word has the upper half of the word before it
unfoldable pub none_repeats : List ℕ → Bool
none_repeats [] = true
none_repeats (x ∷ []) = true
none_repeats (x ∷ y ∷ ys) = not (eqb (upper x) (upper y)) && none_repeats (y ∷ ys)
