-- `exports::biv_planes` meets its contract: a curve that is not known is refused at once; else the planes are those of `walls::planes_of`, with settings and
-- source read from arrays, and the bytes those of `mark_front`.
use mathlib.Core.Path.{refl}
use native.Mathlib.Omega.{arith}
use Rattle.exports.proofs.Answers.{apart, marked, none_marked}
use Rattle.exports.proofs.biv_planes.Goals as goal

pub returns-then-counts-gt-LAST_CURVE : goal.returns-then-counts-gt-LAST_CURVE
returns-then-counts-gt-LAST_CURVE c =
    record {
      called = λ h. absurd (apart _ 1 _ h c.if-counts-gt-LAST_CURVE.true (omega arith));
      refused = λ h. record { answer = refl; count = refl; bytes = refl; areas = refl };
    }

pub mark_front-requires : goal.mark_front-requires
mark_front-requires c =
    let p = c.in-Ok.ensures in
    (omega (arith, p.few), p.floats_room, p.words_room)

pub returns-in-Ok : goal.returns-in-Ok
returns-in-Ok c =
    record {
      called = λ h. marked _ _ _ _ _ _ _ _ _ _ _ _ c.settings_from-s.ensures c.point_from-from.ensures c.in-Ok.ensures (c.mark_front.ensures _ _);
      refused = λ h. absurd (apart _ _ 1 c.if-counts-gt-LAST_CURVE.false h (omega arith));
    }

pub returns-in-Err : goal.returns-in-Err
returns-in-Err c =
    record {
      called = λ h. none_marked _ _ _ _ _ _ _ _ _ _ _ c.settings_from-s.ensures c.point_from-from.ensures c.number.ensures c.in-Err.ensures;
      refused = λ h. absurd (apart _ _ 1 c.if-counts-gt-LAST_CURVE.false h (omega arith));
    }

pub planes_of-requires : goal.planes_of-requires
planes_of-requires c = tt
