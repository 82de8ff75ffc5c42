-- `search::made` meets its contract: it tells whether all bounces are made.
use mathlib.Core.Path.{sym, ap, subst, ◌∙◌}
use lib.Dec.{T}
use Rattle.std.specs.Prelude.{is_ok}
use Rattle.search.proofs.made.Goals as goal

pub returns : goal.returns
returns c = λ z tri fade h m. absurd (subst T (sym (ap is_ok (c.fate_back.ensures tri fade h ∙ m)) ∙ sym c.is_ok.ensures.value ∙ z) tt)
