-- `planes_buried::close_row` meets its contract, by its test and the contract of `put_row`.
use mathlib.Core.Path.{◌∙◌, ap, sym}
use native.Mathlib.Numerals.{add-one}
use lib.ListN.{get_or}
use borrow.Author.Tests.{eq-eqb, ne_eqb}
use Rattle.order.proofs.Stable.{by-eq}
use Rattle.planes_patches.specs.Rows.{row_in}
use Rattle.planes_buried.specs.Passes.{is_open}
use Rattle.planes_buried.proofs.close_row.Goals as goal

pub returns-then-flags-p-eq0 : goal.returns-then-flags-p-eq0
unfolding is_open
returns-then-flags-p-eq0 c = let e = eq-eqb (get_or c.args.flags.now c.args.p 0) 0 c.if-flags-p-eq0.true in record {
  value = sym (rw e);
  numbers_after = sym (rw e);
  by_index = λ q. sym (rw e);
}

pub returns : goal.returns
unfolding is_open
returns c = let a = c.args in let e = ne_eqb (get_or a.flags.now a.p 0) 0 c.if-flags-p-eq0.false in record {
  value = sym (rw (e, add-one a.w));
  numbers_after = sym (rw e);
  by_index = λ q. rw e (by-eq q a.w (λ s. rw (eq-eqb q a.w s) (ap (row_in c.put_row.new.rows) s ∙ c.put_row.ensures.p_after ∙ c.row_at-r.ensures)) (λ d. rw (ne_eqb q a.w d) (c.put_row.ensures.by_index q d)));
}
