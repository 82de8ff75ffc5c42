-- `paths::judge` meets its contract, by whether all bounces are made and the tests of the way.
use mathlib.Core.Path.{◌≡◌, refl, sym}
use lib.ListN.{take}
use Rattle.bounces.specs.Areas.{ended_by, trail_of}
use Rattle.bounces.specs.Bounces.{Bounces, not_crossed, off_surface}
use Rattle.bounces.specs.declared.Lost.{Lost}
use Rattle.bounces.specs.declared.Lost.TheVariants as lost
use Rattle.paths.specs.declared.Fate.TheVariants.{NotCrossed, OffSurface}
use Rattle.paths.specs.declared.Verdict.{Verdict}
use Rattle.paths.specs.Visibility.{way_of}
use Rattle.paths.specs.Path.{verdict, lost_of, bounced_of}
use Rattle.paths.specs.Areas.{soft_in}
use Rattle.paths.proofs.Laws.{last_taken}
use Rattle.paths.proofs.judge.Goals as goal

-- what a bounce that fails says of its path
told : (e : Lost) (on : Bounces → Verdict) → on not_crossed ≡ verdict NotCrossed 0 → on off_surface ≡ verdict OffSurface 0 → verdict (lost_of e) 0 ≡ on (ended_by e)
told lost.NotCrossed on p q = sym p
told lost.OffSurface on p q = sym q

pub returns-in-Err-clause-by_index : goal.returns-in-Err-clause-by_index
unfolding bounced_of trail_of
returns-in-Err-clause-by_index c = λ tri t h.
    let a = c.args in
    rw (c.in-Err.is, c.counted.ensures, c.from.ensures)
    (told c.in-Err.broken.by (bounced_of (soft_in a.s.crossing_limit a.s.probe_radius tri t a.materials.now) a.s a.materials.now tri a.order a.source a.listener) refl refl)

pub returns-then-usable-clause-by_index : goal.returns-then-usable-clause-by_index
unfolding bounced_of trail_of
returns-then-usable-clause-by_index c = λ tri t h.
    let a = c.args in
    let points = c.in-Ok.made.points in
    let way : c.go_all-way.result ≡ way_of (soft_in a.s.crossing_limit a.s.probe_radius tri t a.materials.now) a.listener a.source (take a.order points) = c.go_all-way.ensures.by_index tri t h in
    rw (
      c.in-Ok.is,
      ← way,
      ← c.usable.ensures,
      c.if-usable.true,
      ← c.reflected.ensures tri h.handles_of,
      ← c.gains-g.ensures,
      last_taken points a.order c.requires.order_nonzero.0,
      ← c.arrived.ensures,
      ← c.counted-then-usable.ensures,
    )

pub returns-clause-by_index : goal.returns-clause-by_index
unfolding bounced_of trail_of
returns-clause-by_index c = λ tri t h. rw (c.in-Ok.is, ← c.go_all-way.ensures.by_index tri t h, ← c.usable.ensures, c.if-usable.false, ← c.counted-2.ensures)
