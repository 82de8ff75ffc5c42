-- `text::value` meets its contract. The loop's invariant: v is the fold over the digits passed.
use Rattle.std.proofs.Common.{◌≡◌, ◌≤◌, take, fold}
use Rattle.text.specs.Numbers.{push, word_end}
use Rattle.text.proofs.value.Given as goal

abbrev pub invariant-loop-d : goal.invariant-loop-d
invariant-loop-d l = (l.v ≤ word_end) × (l.v ≡ fold push l.n (take l.d-index l.word))
