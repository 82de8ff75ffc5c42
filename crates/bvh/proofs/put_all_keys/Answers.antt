-- `bvh::put_all_keys` meets its contract: by the answers of the three axes, whose parts do not meet (`keys_in`).
use mathlib.Core.Path.{sym, ◌∙◌}
use native.Mathlib.Omega.{arith}
use Rattle.bvh.proofs.Laws as law
use Rattle.bvh.specs.Bvh.{centroid_in}
use Rattle.bvh.proofs.put_all_keys.Goals as goal

pub put_axis-requires : goal.put_axis-requires
put_axis-requires c =
    let p = c.requires.n_in_bounds in
    let q = c.requires.count_in_bounds in record {
      n_in_bounds = (p.0, p.1, p.2);
      count_bound = (omega arith, omega arith);
    }

pub put_axis-requires-then-put_axis : goal.put_axis-requires-then-put_axis
put_axis-requires-then-put_axis c =
    let p = c.requires.n_in_bounds in
    let q = c.requires.count_in_bounds in
    let l = c.put_axis.auto.keys in record {
      n_in_bounds = (p.0, p.1, p.2);
      count_bound = (omega arith, omega arith);
    }

pub put_axis-requires-then-put_axis-2 : goal.put_axis-requires-then-put_axis-2
put_axis-requires-then-put_axis-2 c =
    let p = c.requires.n_in_bounds in
    let q = c.requires.count_in_bounds in
    let l = c.put_axis.auto.keys in
    let m = c.put_axis-then-put_axis.auto.keys in record {
      n_in_bounds = (p.0, p.1, p.2);
      count_bound = (omega arith, omega arith);
    }

pub shape_of-keys-then-put_axis-2 : goal.shape_of-keys-then-put_axis-2
shape_of-keys-then-put_axis-2 c = c.put_axis-then-put_axis-2.auto.keys ∙ c.put_axis-then-put_axis.auto.keys ∙ c.put_axis.auto.keys

pub returns-then-put_axis-2 : goal.returns-then-put_axis-2
returns-then-put_axis-2 c =
    let a = c.args in
    let mid = centroid_in a.triangles.now a.handles.now a.n in (
      law.finite_third mid a.count c.put_axis-then-put_axis-2.result (sym c.put_axis.ensures.0 ∙ c.if-put_axis.true) (sym c.put_axis-then-put_axis.ensures.0 ∙ c.if-put_axis-2.true) c.put_axis-then-put_axis-2.ensures.0,
      λ e. law.keys_in mid a.count c.put_axis.new.keys c.put_axis-then-put_axis.new.keys c.put_axis-then-put_axis-2.new.keys
          (c.put_axis.ensures.1 c.if-put_axis.true) (c.put_axis-then-put_axis.ensures.1 c.if-put_axis-2.true) (c.put_axis-then-put_axis-2.ensures.1 e) c.put_axis-then-put_axis.ensures.2 c.put_axis-then-put_axis-2.ensures.2,
    )

pub shape_of-keys-else-put_axis-2 : goal.shape_of-keys-else-put_axis-2
shape_of-keys-else-put_axis-2 c = c.put_axis-then-put_axis.auto.keys ∙ c.put_axis.auto.keys

pub returns-else-put_axis-2 : goal.returns-else-put_axis-2
returns-else-put_axis-2 c =
    let a = c.args in
    let mid = centroid_in a.triangles.now a.handles.now a.n in
    (law.finite_second mid a.count (sym c.put_axis.ensures.0 ∙ c.if-put_axis.true) (sym c.put_axis-then-put_axis.ensures.0 ∙ c.if-put_axis-2.false), λ e. law.not_both e)

pub shape_of-keys-else-put_axis : goal.shape_of-keys-else-put_axis
shape_of-keys-else-put_axis c = c.put_axis.auto.keys

pub returns-else-put_axis : goal.returns-else-put_axis
returns-else-put_axis c =
    let a = c.args in
    let mid = centroid_in a.triangles.now a.handles.now a.n in
    (law.finite_first mid a.count (sym c.put_axis.ensures.0 ∙ c.if-put_axis.false), λ e. law.not_both e)
