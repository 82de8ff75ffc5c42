-- What the writer answers, and what its output area then holds: for any count, images and rays, any tap area a and any output area out, as it is found.
use Rattle.std.specs.Prelude.{ℕ, List, ◌∷◌, ◌++◌, length, drop, leb, Option, Result, Ok, Err}
use Rattle.refusals.specs.declared.Refusal.{Refusal}
use Rattle.refusals.specs.declared.Refusal.TheVariants.{Areas}
use Rattle.packet.specs.Limits.{area_words, out_bytes}
use Rattle.packet.specs.Tap.{taps_of}
use Rattle.packet.specs.Bytes.{encode}
use Rattle.packet.specs.Refusals.{must, first_failed, tests, unless, unless_refused}

-- "The writer, called alone on taps, refuses with 5, 9, 10 or 11 in the same way"
unfoldable pub refused_write : ℕ → ℕ → List ℕ → List ℕ → Option Refusal
refused_write count images a out =
    first_failed ((must Areas (leb area_words (length a))) ∷ (must Areas (leb out_bytes (length out))) ∷ tests count images (taps_of count a))

-- The packet of the first count taps
abbrev pub packet : ℕ → ℕ → ℕ → List ℕ → List ℕ
packet count images rays a = encode images rays (taps_of count a)

-- What the writer answers: the packet's length
unfoldable pub write_answer : ℕ → ℕ → ℕ → List ℕ → List ℕ → Result ℕ Refusal
write_answer count images rays a out = unless_refused (refused_write count images a out) (length (packet count images rays a))

-- "Output bytes past the packet are unchanged", and a refusal leaves the output area as found
unfoldable pub write_out : ℕ → ℕ → ℕ → List ℕ → List ℕ → List ℕ
write_out count images rays a out =
    unless (refused_write count images a out) (packet count images rays a ++ drop (length (packet count images rays a)) out) out

-- The length of the packet, 0 for a refusal
abbrev pub write_length : Result ℕ Refusal → ℕ
write_length (Ok n) = n
write_length (Err r) = 0
