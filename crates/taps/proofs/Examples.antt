-- A packet by computing: one tap of order 1, number 1, direction (0, 0, 1), 750 samples late, a half in each band but the last, whose gain is 0 and
-- has no bit.
use mathlib.Core.Path.{◌≡◌, refl}
use mathlib.Core.List.{[], ◌∷◌}
use lib.Ieee.{Float, binary32, of_bits, to_bits}
use Rattle.float.specs.Literals.{zero32, one32}
use Rattle.vector.specs.Vector.{vec}
use Rattle.packet.specs.Tap.{bits_of_gains}
use Rattle.packet.specs.Bytes.{taps_bytes, gain_bytes}
use Rattle.ranking.specs.declared.Candidate.{Candidate}
use Rattle.taps.specs.Tap.{sent_tap, packet_of}

abbrev half : Float
half = of_bits binary32 0x3f00_0000

abbrev tap : Candidate
tap =
    record {
      energy = of_bits binary32 0x3fe0_0000;
      order = 1;
      delay = of_bits binary32 0x443b_8000;
      direction = vec zero32 zero32 one32;
      gains = record { b0 = half; b1 = half; b2 = half; b3 = half; b4 = half; b5 = half; b6 = half; b7 = zero32 };
      number = 1;
    }

one_tap :
    packet_of 1 36 (tap ∷ [])
    ≡ 1 ∷ 0 ∷ 1 ∷ 0 ∷ 0 ∷ 0 ∷ 36 ∷ 0 ∷ 0 ∷ 0
    ∷ 127 ∷ 1 ∷ 1 ∷ 0 ∷ 0 ∷ 0 ∷ 0 ∷ 0 ∷ 0 ∷ 0 ∷ 0 ∷ 0 ∷ 0 ∷ 0 ∷ 0 ∷ 0 ∷ 128 ∷ 63 ∷ 0 ∷ 128 ∷ 59 ∷ 68
    ∷ 0 ∷ 0 ∷ 0 ∷ 63 ∷ 0 ∷ 0 ∷ 0 ∷ 63 ∷ 0 ∷ 0 ∷ 0 ∷ 63 ∷ 0 ∷ 0 ∷ 0 ∷ 63 ∷ 0 ∷ 0 ∷ 0 ∷ 63 ∷ 0 ∷ 0 ∷ 0 ∷ 63 ∷ 0 ∷ 0 ∷ 0 ∷ 63 ∷ []
unfolding sent_tap taps_bytes gain_bytes bits_of_gains of_bits to_bits
one_tap = refl
