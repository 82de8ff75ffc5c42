-- `bvh::put_keys` meets its contract: the keys so far are those of finite values, whose order they have (`float_key_leb`).
use mathlib.Core.Path.{◌≡◌, refl, sym, ap, ◌∙◌}
use Prim.Native.Nat.{ℕ}
use native.Mathlib.Omega.{arith}
use borrow.Author.Rules.{scaled_Fits}
use lib.ListN.{length, length-set}
use Rattle.bvh.proofs.Laws as law
use lib.Ieee.{Float}
use Rattle.vector.specs.declared.Vec3.{Vec3}
use Rattle.vector.specs.Vector.{axis_of}
use Rattle.geometry.specs.Triangle as triangle
use Rattle.float.specs.Compare.{is_finite}
use Rattle.bvh.specs.Bvh.{centroid_in}
use Rattle.bvh.proofs.put_keys.Goals as goal

pub loop-i-init : goal.loop-i-init
loop-i-init c = let a = c.args in (omega arith, refl, law.keys_none (λ j. axis_of (centroid_in a.triangles.now a.handles.now a.n j) a.k) a.keys.now)

pub triangle_at-requires : goal.triangle_at-requires
triangle_at-requires c = let p = c.requires in let t = c.loop-i-test.true in (p.0, p.1, omega arith)

pub float_key-requires : goal.float_key-requires
float_key-requires c = law.finite_number c.axis-x.result (sym c.is_finite.ensures ∙ c.if-is_finite.true)

pub offset_bounds-keys-i : goal.offset_bounds-keys-i
offset_bounds-keys-i c =
    let inv = c.loop-i.invariant.1 in
    let p = c.requires in
    let t = c.loop-i-test.true in
    let g = c.well_formed.1.1.1.1.1.0 in
    scaled_Fits c.loop-i.i (length c.loop-i.keys) 8 (omega arith) (omega (arith, c.well_formed.1.1.1.1.1.0.0))

pub bounds-keys-i : goal.bounds-keys-i
bounds-keys-i c = let inv = c.loop-i.invariant.1 in let p = c.requires in let t = c.loop-i-test.true in omega arith

pub shape_of-keys-else-is_finite : goal.shape_of-keys-else-is_finite
shape_of-keys-else-is_finite c = c.loop-i.invariant.1

pub returns-else-is_finite : goal.returns-else-is_finite
unfolding centroid_in
returns-else-is_finite c =
    let a = c.args in
    let f : ℕ → Float = λ j. axis_of (centroid_in a.triangles.now a.handles.now a.n j) a.k in
    let e : c.axis-x.result ≡ f c.loop-i.i = c.axis-x.ensures ∙ ap (λ (v : Vec3). axis_of v a.k) (c.centroid-c.ensures ∙ ap triangle.centroid_of c.triangle_at.ensures) in
    (sym (law.all_false f a.count c.loop-i.i c.loop-i-test.true (ap is_finite (sym e) ∙ sym c.is_finite.ensures ∙ c.if-is_finite.false)), λ z. law.not_both z)

pub loop-i-preserved : goal.loop-i-preserved
unfolding centroid_in
loop-i-preserved c =
    let a = c.args in
    let f : ℕ → Float = λ j. axis_of (centroid_in a.triangles.now a.handles.now a.n j) a.k in
    let inv = c.loop-i.invariant in
    let long = inv.1 in
    let p = c.requires in
    let t = c.loop-i-test.true in
    let e : c.axis-x.result ≡ f c.loop-i.i = c.axis-x.ensures ∙ ap (λ (v : Vec3). axis_of v a.k) (c.centroid-c.ensures ∙ ap triangle.centroid_of c.triangle_at.ensures) in (
      omega arith,
      length-set c.loop-i.keys c.loop-i.i c.float_key.result ∙ inv.1,
      law.keys_more f c.loop-i.keys c.loop-i.i c.float_key.result c.axis-x.result (omega arith) e (sym c.is_finite.ensures ∙ c.if-is_finite.true) c.float_key.ensures inv.2,
    )

pub shape_of-keys : goal.shape_of-keys
shape_of-keys c = c.loop-i.invariant.1

pub returns : goal.returns
returns c =
    let a = c.args in
    let f : ℕ → Float = λ j. axis_of (centroid_in a.triangles.now a.handles.now a.n j) a.k in
    law.keys_done f (law.axes_fit a.triangles.now a.handles.now a.n a.k) c.loop-i.keys c.loop-i.i a.count (omega arith) c.loop-i.invariant.2

pub centroid-c-requires : goal.centroid-c-requires
centroid-c-requires c = tt

pub axis-x-requires : goal.axis-x-requires
axis-x-requires c = tt

pub is_finite-requires : goal.is_finite-requires
is_finite-requires c = tt
