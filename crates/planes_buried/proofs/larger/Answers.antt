-- `planes_buried::larger` meets its contract, by its tests.
use mathlib.Core.Path.{refl}
use Rattle.planes_buried.proofs.Best.{best_both, best_larger, best_met, best_other, best_stays}
use Rattle.planes_buried.proofs.larger.Goals as goal

pub returns-then-areas-p : goal.returns-then-areas-p
returns-then-areas-p c = let a = c.args in record {
  p_after = λ ts e. best_larger a.areas.now a.largest.now a.p a.t a.a c.requires.0 c.requires.1 c.if-areas-p.true ts e;
  by_index = best_both a.areas.now a.largest.now a.p a.t a.a;
}

pub returns-then-largest-p : goal.returns-then-largest-p
returns-then-largest-p c = let a = c.args in record {
  p_after = λ ts e. best_met a.areas.now a.largest.now a.p a.t a.a c.requires.1 c.if-areas-p.false c.if-largest-p.true ts e;
  by_index = best_other a.areas.now a.largest.now a.p a.t a.a;
}

pub returns : goal.returns
returns c = let a = c.args in record {
  p_after = λ ts e. best_stays a.areas.now a.largest.now a.p a.t a.a c.if-areas-p.false c.if-largest-p.false ts e;
  by_index = λ q d. refl;
}
