-- The tap of a candidate, and the packet of a list of candidates.
use Rattle.std.specs.Prelude.{ℕ, List, [], ◌∷◌, map, Float}
use Rattle.std.specs.Float.{binary32}
use Rattle.std.specs.Float.Ieee.{to_bits}
use Rattle.bands.specs.declared.Band8.{Band8}
use Rattle.packet.specs.Tap.{Tap, bits_of_gains}
use Rattle.packet.specs.Bytes.{encode}
use Rattle.ranking.specs.declared.Candidate.{Candidate}

-- the bits of a float
abbrev pub bits_of : Float → ℕ
bits_of x = to_bits binary32 x

-- "bit k is band k": the bits of the eight gains, band 0 first
abbrev pub gain_bits : Band8 → List ℕ
gain_bits g =
    bits_of g.b0 ∷ bits_of g.b1 ∷ bits_of g.b2 ∷ bits_of g.b3 ∷ bits_of g.b4 ∷ bits_of g.b5 ∷ bits_of g.b6 ∷ bits_of g.b7 ∷ []

-- "a bit map first .., order (1), number (4), direction (12), delay (4)", and the gains
unfoldable pub sent_tap : Candidate → Tap
sent_tap c =
    record {
      bits = bits_of_gains (gain_bits c.gains);
      order = c.order;
      number = c.number;
      x = bits_of c.direction.x;
      y = bits_of c.direction.y;
      z = bits_of c.direction.z;
      delay = bits_of c.delay;
      gains = gain_bits c.gains;
    }

-- the packet of the candidates in turn
abbrev pub packet_of : ℕ → ℕ → List Candidate → List ℕ
packet_of images rays cs = encode images rays (map sent_tap cs)
