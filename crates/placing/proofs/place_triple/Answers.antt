-- `placing::place_triple` meets its contract: nothing after a far corner, else by its tests of the three indices nothing or the contract of `keep`.
use mathlib.Core.Path.{sym, ◌∙◌}
use native.Mathlib.Omega.{arith}
use borrow.Author.Tests.{lt-ltb, le-ltb}
use borrow.Author.Rules.{rules}
use Rattle.placing.specs.Corners.{corners_in}
use Rattle.placing.proofs.Passes.{point_of, run_none, run_one, run_far}
use Rattle.placing.proofs.place_triple.Goals as goal

pub returns-then-st : goal.returns-then-st
unfolding corners_in
returns-then-st c = record { made = sym (run_far _ _ _ c.if-st.true); kept = omega arith; placed = omega arith }

pub returns-then-k-vertices : goal.returns-then-k-vertices
unfolding corners_in
returns-then-k-vertices c = let done = c.keep.ensures in
    record {
      made =
          rw (
            lt-ltb _ _ c.if-i-vertices.true,
            lt-ltb _ _ c.if-j-vertices.true,
            lt-ltb _ _ c.if-k-vertices.true,
            ← point_of _ _ _ c.corner-a.ensures,
            ← point_of _ _ _ c.corner-b.ensures,
            ← point_of _ _ _ c.corner-c.ensures,
          )
          (done.made ∙ sym (run_one _ _ _));
      kept = done.kept;
      placed = done.placed;
    }

pub returns-else-k-vertices : goal.returns-else-k-vertices
unfolding corners_in
returns-else-k-vertices c = record {
  made = rw (lt-ltb _ _ c.if-i-vertices.true, lt-ltb _ _ c.if-j-vertices.true, le-ltb _ _ c.if-k-vertices.false) (sym (run_none _ _));
  kept = omega arith;
  placed = omega arith;
}

pub returns-else-j-vertices : goal.returns-else-j-vertices
unfolding corners_in
returns-else-j-vertices c = record { made = rw (lt-ltb _ _ c.if-i-vertices.true, le-ltb _ _ c.if-j-vertices.false) (sym (run_none _ _)); kept = omega arith; placed = omega arith }

pub returns-else-i-vertices : goal.returns-else-i-vertices
unfolding corners_in
returns-else-i-vertices c = record { made = rw (le-ltb _ _ c.if-i-vertices.false) (sym (run_none _ _)); kept = omega arith; placed = omega arith }
