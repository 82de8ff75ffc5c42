-- `planes_patches::link` meets its contract: a store at the head, and those of `linked_of`.
use mathlib.Core.Path.{ap}
use Prim.Native.Nat.{◌-◌}
use native.Mathlib.Numerals.{add-one}
use native.Mathlib.Omega.{arith}
use lib.ListN.{get_or, set}
use lib.Seq.{lt-length-set}
use Rattle.planes_patches.specs.Grid.{linked_of}
use Rattle.planes_patches.proofs.Buckets.{linked_at}
use Rattle.planes_patches.proofs.link.Goals as goal

pub returns-then-head-eq0 : goal.returns-then-head-eq0
unfolding linked_of
returns-then-head-eq0 c = let a = c.args in record {
  heads_after = ap (set a.heads.now a.h) (add-one a.p);
  next_after = rw c.if-head-eq0.true;
}

pub bounds-next-tail-2 : goal.bounds-next-tail-2
bounds-next-tail-2 c = let a = c.args in let t = get_or a.heads.now a.h 0 - 1 in lt-length-set a.next.now a.p (get_or a.next.now t 0) (omega arith)

pub returns : goal.returns
returns c = let a = c.args in record {
  heads_after = ap (set a.heads.now a.h) (add-one a.p);
  next_after = linked_at a.next.now a.p (get_or a.heads.now a.h 0) c.if-head-eq0.false;
}
