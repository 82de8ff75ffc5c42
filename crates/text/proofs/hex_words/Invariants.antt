-- `text::hex_words` meets its contract: what is done of the line and what is left of it give what the whole line gives. There are no more digits than
-- bytes passed.
use Rattle.std.proofs.Common.{◌≡◌, ◌≤◌, fold, drop}
use Rattle.text.specs.Numbers.{hex_step, hex_words_of}
use Rattle.text.proofs.hex_words.Given as goal

abbrev pub invariant-loop-b : goal.invariant-loop-b
invariant-loop-b l = (l.k ≤ l.b-index) × (fold hex_step (l.words, l.k) (drop l.b-index l.s) ≡ hex_words_of l.s l.initial.words)
