-- `bvh::put_axis` meets its contract: the part comes back in its place (`mid_back`), and what lies before it is as it was.
use mathlib.Core.Path.{sym, ◌∙◌, subst}
use mathlib.Core.List.{List}
use native.Mathlib.Omega.{arith}
use Prim.Native.Nat.{ℕ, ◌-◌}
use borrow.Rule.Slice.PartMut.{same_len_mid, mid_len, take_put}
use Rattle.vector.specs.Vector.{axis_of}
use Rattle.tree_split.specs.Split.{KeysInOrder}
use Rattle.bvh.specs.Bvh.{centroid_in}
use Rattle.bvh.proofs.Parts.{mid_back}
use Rattle.bvh.proofs.put_axis.Goals as goal

pub put_keys-requires : goal.put_keys-requires
put_keys-requires c =
    let a = c.args in
    let p = c.requires.n_in_bounds in
    let q = c.requires.count_bound in
    let long = mid_len a.from a.to a.keys.now q.1 in
    (p.0, p.1, p.2, omega (arith, q.0, long))

pub shape_of-keys : goal.shape_of-keys
shape_of-keys c =
    let a = c.args in
    same_len_mid a.from (a.to - a.from) a.keys.now c.put_keys.new.keys c.put_keys.auto.keys

pub returns : goal.returns
returns c =
    let a = c.args in
    let q = c.requires.count_bound in
    let long = mid_len a.from a.to a.keys.now q.1 in
    let ys = c.put_keys.new.keys in
    let back = mid_back a.from a.to a.keys.now ys (omega (arith, q.0, q.1)) (c.put_keys.auto.keys ∙ long) in (
      c.put_keys.ensures.0,
      λ e. subst (λ (l : List ℕ). KeysInOrder a.count l (λ i. axis_of (centroid_in a.triangles.now a.handles.now a.n i) a.k)) (sym back) (c.put_keys.ensures.1 e),
      take_put a.from (a.to - a.from) a.keys.now ys (omega (arith, q.0, q.1)),
    )
