-- `planes_patches::turn` meets its contract: by that of `place`, and where the triangle is not kept by `turn_none`.
use mathlib.Core.Path.{◌∙◌, sym}
use native.Mathlib.Omega.{arith}
use lib.Seq.{get_or-set_other, get_or-set_same}
use lib.ListN.{get_or}
use borrow.Author.Tests.{eq-eqb, eqb-false, ne_eqb}
use Rattle.planes_patches.specs.Rows.{none_of}
use Rattle.planes_patches.proofs.Turns.{none_standing, turn_none}
use Rattle.planes_patches.proofs.turn.Goals as goal

pub overflow_cast-t : goal.overflow_cast-t
overflow_cast-t c = let p = c.requires.n_in_bounds.3 in omega arith

pub place-requires : goal.place-requires
place-requires c =
    let p = c.requires.n_in_bounds in record {
      n_in_bounds = (p.0, p.1, p.2, p.3);
      patch_floats_in_bounds = c.requires.patch_floats_in_bounds;
      standing = c.requires.standing;
    }

pub returns-then-first-t : goal.returns-then-first-t
returns-then-first-t c = record {
  standing_2 = c.place.ensures.standing_2;
  result_after = λ ts w. c.place.ensures.result_after ts w ∙ sym (rw (eq-eqb (get_or c.args.first.now c.args.t 0) c.args.t c.if-first-t.true));
  by_index = c.place.ensures.by_index;
  none_of_after = λ e. absurd (eqb-false (get_or c.args.first.now c.args.t 0) c.args.t e c.if-first-t.true);
}

pub bounds-of-t : goal.bounds-of-t
bounds-of-t c = c.requires.patch_floats_in_bounds.3

pub returns : goal.returns
returns c =
    let a = c.args in let s = c.requires.standing in let f = s.few in let p = c.requires.n_in_bounds.3 in record {
      standing_2 = none_standing a.rows.now a.of.now a.cells.now a.heads.now a.next.now a.t a.np s c.requires.patch_floats_in_bounds.3;
      result_after = λ ts w. turn_none a.rows.now a.of.now a.t a.np c.requires.patch_floats_in_bounds.3 (omega arith) ∙ sym (rw (ne_eqb (get_or a.first.now a.t 0) a.t c.if-first-t.false));
      by_index = λ i d. get_or-set_other a.of.now a.t i none_of none_of d;
      none_of_after = λ e. get_or-set_same a.of.now a.t none_of none_of c.requires.patch_floats_in_bounds.3;
    }
