-- `planes_buried::open_patches` meets its contract: the passes together give the definition's (`opened_is`).
use mathlib.Core.Path.{refl, sym}
use Prim.Native.Nat.{◌≤◌}
use native.Mathlib.Omega.{arith}
use lib.ListN.{length}
use borrow.Author.Rules.{rules}
use Rattle.planes_patches.specs.Rows.{none_of}
use Rattle.planes_buried.proofs.Opening.{largest_below, opened_is}
use Rattle.planes_buried.proofs.Closing.{numbered_new, numbered_wider, open_le}
use Rattle.planes_buried.specs.Probe.{probe_of}
use Rattle.planes_buried.specs.Buried.{open_of}
use Rattle.planes_buried.proofs.open_patches.Goals as goal

pub returns-else-reach : goal.returns-else-reach
unfolding open_of
returns-else-reach c = record {
  by_index = λ tri k h. sym (rw c.if-reach.false);
  upper_bound = (omega arith, c.requires.numbered);
  rest = (refl, refl, refl);
}

pub mark_open-requires : goal.mark_open-requires
mark_open-requires c =
    let a = c.args in let p = c.requires.n_in_bounds in let q = c.requires.np_le_m in let k = c.largest_triangles.auto.largest in record {
      n_in_bounds = (p.0, p.1, omega arith, q.3, omega arith);
      held = c.requires.held;
      count_nonzero = c.requires.count_nonzero;
      by_index = λ i h. let b = largest_below a.triangles.now a.bvh.now.handles.now a.n a.m a.of.now a.np c.largest_triangles.new.areas
          c.largest_triangles.new.largest p.3 c.largest_triangles.ensures i h q.0 in omega arith;
    }

pub renumber-requires : goal.renumber-requires
renumber-requires c =
    let a = c.args in let p = c.requires.n_in_bounds in let q = c.requires.np_le_m in let k = c.close_rows-r.auto.numbers in let l = c.largest_triangles.auto.largest in record {
      m_in_bounds = p.4;
      numbered = numbered_wider a.of.now a.m a.np (length c.close_rows-r.new.numbers) c.requires.numbered (omega arith);
    }

pub returns : goal.returns
returns c =
    let a = c.args in let q = c.requires.np_le_m in let f = c.mark_open.new.flags in let old = c.requires.numbered in
    let far : a.np ≤ none_of = omega (arith, c.requires.n_in_bounds.3, q.0) in
    let le = open_le f a.np in
    let er = c.close_rows-r.ensures.value in record {
      by_index = λ tri k h. opened_is a.triangles.now a.bvh.now.handles.now a.n a.m a.of.now a.np c.largest_triangles.new.areas c.largest_triangles.new.largest c.requires.n_in_bounds.3 c.largest_triangles.ensures
          (probe_of tri k) a.reach a.rows.now c.close_rows-r.new.rows c.renumber.new.of f
          c.close_rows-r.new.numbers c.close_rows-r.result q.0 c.if-reach.true (λ p g. c.mark_open.ensures p g tri k h) er
          c.close_rows-r.ensures.by_index c.close_rows-r.ensures.by_index_2 old c.renumber.ensures;
      upper_bound = (omega arith, rw er (numbered_new f a.np far c.close_rows-r.new.numbers c.close_rows-r.ensures.by_index a.m a.of.now c.renumber.new.of old c.renumber.ensures));
      rest = ((search rules), (search rules), (search rules));
    }
