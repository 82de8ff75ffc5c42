-- `placing::keep` meets its contract: by its tests: a far corner, a degenerate triangle, or one triangle stored.
use native.Mathlib.Omega.{arith}
use borrow.Author.Rules.{rules}
use Rattle.geometry.specs.Triangle.{is_degenerate_of, triangle_of_corners}
use Rattle.placing.specs.Passing.{step_of}
use Rattle.placing.proofs.Passes.{told_degenerate, told_proper}
use Rattle.placing.proofs.keep.Goals as goal

pub returns-then-far_corners : goal.returns-then-far_corners
unfolding step_of
returns-then-far_corners c = let asked = c.requires in
    record {
      made = rw (asked.far_value, asked.made_value, ← c.far_corners.ensures, c.if-far_corners.true);
      kept = omega arith;
      placed = omega arith;
    }

pub returns-in_default : goal.returns-in_default
unfolding step_of
returns-in_default c = let asked = c.requires in
    let flat = told_degenerate (is_degenerate_of c.args.a c.args.b c.args.c) (triangle_of_corners c.args.a c.args.b c.args.c c.args.handle) _ c.triangle_of.ensures c.in_default.is in
    record {
      made = rw (asked.far_value, asked.made_value, ← c.far_corners.ensures, c.if-far_corners.false, flat);
      kept = omega arith;
      placed = omega arith;
    }

pub returns : goal.returns
unfolding step_of
returns c = let asked = c.requires in
    let told = told_proper (is_degenerate_of c.args.a c.args.b c.args.c) (triangle_of_corners c.args.a c.args.b c.args.c c.args.handle) _ _ c.triangle_of.ensures c.in-Some.is in
    record {
      made =
          rw (
            asked.far_value,
            asked.made_value,
            ← c.far_corners.ensures,
            c.if-far_corners.false,
            told.proper,
            ← told.same,
            ← c.put_triangle.ensures,
          );
      kept = omega arith;
      placed = omega arith;
    }
