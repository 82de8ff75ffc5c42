-- Tests on the 32 bits of a float. `proofs/Meaning.antt` has what each says of the float itself.
use Rattle.std.specs.Prelude.{ℕ, ◌%◌, Bool, ◌&&◌, ltb, eqb}

-- "a float is not finite": the bits of a finite float
abbrev pub finite_bits : ℕ → Bool
finite_bits b = ltb (b % 0x8000_0000) 0x7f80_0000

-- "is not above 0": the bits of a finite float above 0
abbrev pub positive_bits : ℕ → Bool
positive_bits b = ltb 0 b && ltb b 0x7f80_0000

-- "A zero gain": the bits of +0 or −0
abbrev pub zero_bits : ℕ → Bool
zero_bits b = eqb (b % 0x8000_0000) 0
