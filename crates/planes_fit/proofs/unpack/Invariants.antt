-- `planes_fit::unpack` meets its contract: the words so far are done.
use Rattle.planes_fit.proofs.Naming.{Unpacked}
use Rattle.planes_fit.proofs.unpack.Given as goal

abbrev pub invariant-loop-word : goal.invariant-loop-word
invariant-loop-word l = Unpacked l.initial.words l.words l.word-index
