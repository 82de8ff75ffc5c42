-- `clearing::wipe` meets its contract: k spans of either half are zero, then what lies behind both.
use Rattle.clearing.proofs.Wiping.{Halves}
use Rattle.clearing.proofs.wipe.Given as goal

abbrev pub invariant-loop-k : goal.invariant-loop-k
invariant-loop-k g l = Halves g.T.Clear.zero g.T.Clear.past l.initial.area l.area l.m l.k
