-- `mirror::border_distance` meets its contract: the edges from here on give what all give.
use mathlib.Core.Path.{sym, ◌∙◌}
use Rattle.mirror.specs.Border.{nearer_of, border_distance_of}
use Rattle.mirror.proofs.Laws.{border_step, border_done}
use Rattle.mirror.proofs.border_distance.Goals as goal

pub loop-k-preserved : goal.loop-k-preserved
unfolding nearer_of
loop-k-preserved c =
    rw (c.min-dist.ensures, c.edge_distance.ensures) (sym (border_step _ _ _ _ _ _ c.loop-k-test.true) ∙ c.loop-k.invariant)

pub returns : goal.returns
unfolding border_distance_of
returns c = rw (← c.infinity-dist.ensures) (sym (border_done _ _ _ _ _ _ c.loop-k-test.false) ∙ c.loop-k.invariant)
