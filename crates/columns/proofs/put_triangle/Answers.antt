-- `columns::put_triangle` meets its contract: part by part, by the law of proofs/Storing.antt.
use Prim.Native.Nat.{◌+◌, ◌*◌}
use mathlib.Core.Path.{ap, ◌∙◌}
use native.Mathlib.Omega.{arith}
use lib.ListN.{length-set}
use Rattle.float.specs.Literals.{zero32}
use Rattle.geometry.specs.declared.Edges.{Edges}
use Rattle.geometry.specs.declared.Dots.{Dots}
use Rattle.columns.specs.Columns.{dots_row_of, put_columns}
use Rattle.columns.proofs.Storing.{parts_stored}
use Rattle.columns.proofs.put_triangle.Goals as goal

pub put_vec-requires : goal.put_vec-requires
put_vec-requires c = let a = c.requires.0 in let b = c.requires.1 in let d = c.requires.2 in (omega arith, omega arith, omega arith)

pub put_vec-requires-2 : goal.put_vec-requires-2
put_vec-requires-2 c = let a = c.requires.0 in let b = c.requires.1 in let d = c.requires.2 in let k1 = c.put_vec.auto.triangles in (omega arith, omega arith, omega arith)

pub put_vec-requires-3 : goal.put_vec-requires-3
put_vec-requires-3 c =
    let a = c.requires.0 in let b = c.requires.1 in let d = c.requires.2 in let k1 = c.put_vec.auto.triangles in let k2 = c.put_vec-2.auto.triangles in (omega arith, omega arith, omega arith)

pub put_vec-requires-4 : goal.put_vec-requires-4
put_vec-requires-4 c =
    let a = c.requires.0 in let b = c.requires.1 in let d = c.requires.2 in let k1 = c.put_vec.auto.triangles in let k2 = c.put_vec-2.auto.triangles in let k3 = c.put_vec-3.auto.triangles in (omega arith, omega arith, omega arith)

pub overflow_mul-n-4 : goal.overflow_mul-n-4
overflow_mul-n-4 c =
    let a = c.requires.0 in let b = c.requires.1 in let d = c.requires.2 in omega arith

pub overflow_add-i-4 : goal.overflow_add-i-4
overflow_add-i-4 c =
    let a = c.requires.0 in let b = c.requires.1 in let d = c.requires.2 in omega arith

pub put_vec-requires-5 : goal.put_vec-requires-5
put_vec-requires-5 c =
    let a = c.requires.0 in let b = c.requires.1 in let d = c.requires.2 in let k1 = c.put_vec.auto.triangles in let k2 = c.put_vec-2.auto.triangles in let k3 = c.put_vec-3.auto.triangles in let k4 = c.put_vec-4.auto.triangles in (omega arith, omega arith, omega arith)

pub overflow_mul-n-5 : goal.overflow_mul-n-5
overflow_mul-n-5 c =
    let a = c.requires.0 in let b = c.requires.1 in let d = c.requires.2 in omega arith

pub overflow_add-i-5 : goal.overflow_add-i-5
overflow_add-i-5 c =
    let a = c.requires.0 in let b = c.requires.1 in let d = c.requires.2 in omega arith

pub put_vec-requires-6 : goal.put_vec-requires-6
put_vec-requires-6 c =
    let a = c.requires.0 in let b = c.requires.1 in let d = c.requires.2 in let k1 = c.put_vec.auto.triangles in let k2 = c.put_vec-2.auto.triangles in let k3 = c.put_vec-3.auto.triangles in let k4 = c.put_vec-4.auto.triangles in let k5 = c.put_vec-5.auto.triangles in
    (omega arith, omega arith, omega arith)

pub overflow_mul-n-6 : goal.overflow_mul-n-6
overflow_mul-n-6 c =
    let a = c.requires.0 in let b = c.requires.1 in let d = c.requires.2 in omega arith

pub overflow_add-i-6 : goal.overflow_add-i-6
overflow_add-i-6 c =
    let a = c.requires.0 in let b = c.requires.1 in let d = c.requires.2 in omega arith

pub put_dots-requires : goal.put_dots-requires
put_dots-requires c =
    let a = c.requires.0 in let b = c.requires.1 in let d = c.requires.2 in let k1 = c.put_vec.auto.triangles in let k2 = c.put_vec-2.auto.triangles in let k3 = c.put_vec-3.auto.triangles in let k4 = c.put_vec-4.auto.triangles in let k5 = c.put_vec-5.auto.triangles in let k6 = c.put_vec-6.auto.triangles in (omega arith, omega arith, omega arith)

pub overflow_mul-triangles : goal.overflow_mul-triangles
overflow_mul-triangles c =
    let a = c.requires.0 in let b = c.requires.1 in let d = c.requires.2 in omega arith

pub overflow_add-triangles : goal.overflow_add-triangles
overflow_add-triangles c =
    let a = c.requires.0 in let b = c.requires.1 in let d = c.requires.2 in omega arith

pub offset_bounds-triangles-i : goal.offset_bounds-triangles-i
offset_bounds-triangles-i c =
    let a = c.requires.0 in let b = c.requires.1 in let d = c.requires.2 in let k1 = c.put_vec.auto.triangles in let k2 = c.put_vec-2.auto.triangles in let k3 = c.put_vec-3.auto.triangles in let k4 = c.put_vec-4.auto.triangles in let k5 = c.put_vec-5.auto.triangles in let k6 = c.put_vec-6.auto.triangles in let k7 = c.put_dots.auto.triangles in omega arith

pub bounds-triangles-i : goal.bounds-triangles-i
bounds-triangles-i c =
    let a = c.requires.0 in let b = c.requires.1 in let d = c.requires.2 in let k1 = c.put_vec.auto.triangles in let k2 = c.put_vec-2.auto.triangles in let k3 = c.put_vec-3.auto.triangles in let k4 = c.put_vec-4.auto.triangles in let k5 = c.put_vec-5.auto.triangles in let k6 = c.put_vec-6.auto.triangles in let k7 = c.put_dots.auto.triangles in omega arith

pub shape_of-triangles : goal.shape_of-triangles
shape_of-triangles c = simp length-set (c.put_dots.auto.triangles ∙ c.put_vec-6.auto.triangles ∙ c.put_vec-5.auto.triangles
    ∙ c.put_vec-4.auto.triangles ∙ c.put_vec-3.auto.triangles
    ∙ c.put_vec-2.auto.triangles
    ∙ c.put_vec.auto.triangles)

pub returns : goal.returns
returns c =
    let b = c.requires.1 in parts_stored c.args.t c.args.n c.args.i c.args.triangles.now _ _ _ _ _ _ _
    (record { edge1 = c.sub3-edge1.result; edge2 = c.sub3-edge2.result; least_det = zero32 }) _ (omega arith)
    c.put_vec.ensures
    c.put_vec-2.ensures
    c.put_vec-3.ensures c.put_vec-4.ensures
    c.put_vec-5.ensures c.put_vec-6.ensures (c.put_dots.ensures ∙ ap (λ (d : Dots). put_columns c.put_vec-6.new.triangles
    c.args.n (c.args.i + 19 * c.args.n) (dots_row_of d)) c.dots_of.ensures)
    c.sub3-edge1.ensures c.sub3-edge2.ensures (ap (λ (x : Edges). x.least_det) c.edges_of-e.ensures)

pub sub3-edge1-requires : goal.sub3-edge1-requires
sub3-edge1-requires c = tt

pub sub3-edge2-requires : goal.sub3-edge2-requires
sub3-edge2-requires c = tt

pub dots_of-requires : goal.dots_of-requires
dots_of-requires c = tt

pub edges_of-e-requires : goal.edges_of-e-requires
edges_of-e-requires c = tt
