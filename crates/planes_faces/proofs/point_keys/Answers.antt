-- `planes_faces::point_keys` meets its contract: the loop holds that the keys of the first i points are there, and that nothing before them is changed.
use mathlib.Core.Path.{◌≡◌, refl}
use native.Mathlib.Omega.{arith}
use Rattle.planes_faces.proofs.Corners.{Made, made_none, made_more, made_all, part_x, part_y, part_z}
use Rattle.planes_faces.proofs.point_keys.Goals as goal

pub loop-i-init : goal.loop-i-init
loop-i-init c = let g = c.args in (omega arith, made_none g.triangles.now g.n g.at g.put g.scale g.keys.now g.low_keys.now)

pub bounds-keys-put : goal.bounds-keys-put
bounds-keys-put c = omega (arith, c.loop-i.invariant.1.len_hi, c.loop-i-test.true, c.requires.n_in_bounds_2)

pub bounds-low_keys-put : goal.bounds-low_keys-put
bounds-low_keys-put c = omega (arith, c.loop-i.invariant.1.len_lo, c.loop-i-test.true, c.requires.n_in_bounds_3)

pub loop-i-preserved : goal.loop-i-preserved
loop-i-preserved c =
    let g = c.args in (
      omega arith,
      made_more g.triangles.now g.n g.at g.put g.scale c.loop-i.i g.keys.now g.low_keys.now c.loop-i.keys c.loop-i.low_keys c.step-x.result c.step-y.result c.step-z.result c.pair.result c.step-z.result c.loop-i.invariant.1
          (omega (arith, c.loop-i-test.true, c.requires.n_in_bounds_2)) (omega (arith, c.loop-i-test.true, c.requires.n_in_bounds_3))
          (part_x g.triangles.now g.n g.at g.scale c.loop-i.i c.step-x.result c.step-x.ensures) (part_y g.triangles.now g.n g.at g.scale c.loop-i.i c.step-y.result c.step-y.ensures) (part_z
          g.triangles.now g.n g.at g.scale c.loop-i.i c.step-z.result c.step-z.ensures)
          c.pair.ensures (refl, omega arith),
    )

pub shape_of-keys : goal.shape_of-keys
shape_of-keys c = c.loop-i.invariant.1.len_hi

pub shape_of-low_keys : goal.shape_of-low_keys
shape_of-low_keys c = c.loop-i.invariant.1.len_lo

pub returns : goal.returns
returns c =
    let g = c.args in
    let e : c.loop-i.i ≡ g.n = omega arith in
    let k : Made g.triangles.now g.n g.at g.put g.scale g.n g.keys.now g.low_keys.now c.loop-i.keys c.loop-i.low_keys = rw e at c.loop-i.invariant.1 in record {
      by_index = made_all g.triangles.now g.n g.at g.put g.scale g.keys.now g.low_keys.now c.loop-i.keys c.loop-i.low_keys k;
      by_index_2 = k.fits;
      by_index_3 = k.same_hi;
      by_index_4 = k.same_lo;
    }
