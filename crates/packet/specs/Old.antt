-- The packet as it was before document 02's Note 7, whose count was one byte. `proofs/Old.antt` proves that the reader refuses every such packet.
use Rattle.std.specs.Prelude.{ℕ, List, ◌++◌, length}
use Rattle.packet.specs.Tap.{Tap}
use Rattle.packet.specs.Bytes.{little_endian, word, taps_bytes}

-- "Count (1 byte), images (4), rays (4); then per tap ..", as document 01 has it
abbrev pub old_encode : ℕ → ℕ → List Tap → List ℕ
old_encode images rays ts = little_endian 1 (length ts) ++ (word images ++ (word rays ++ taps_bytes ts))
