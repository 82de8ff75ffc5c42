-- `planes_fit::name_planes` meets its contract: the triangles so far have their plane's number.
use native.Mathlib.Omega.{arith}
use Rattle.planes_fit.proofs.Naming.{planed_more, planed_none}
use Rattle.planes_fit.proofs.name_planes.Goals as goal

pub loop-t-init : goal.loop-t-init
loop-t-init c = planed_none _ _ _ _

pub offset_bounds-of-t : goal.offset_bounds-of-t
offset_bounds-of-t c = omega (arith, c.well_formed, c.requires.m_in_bounds, c.requires.m_in_bounds_2, c.loop-t-test.true)

pub bounds-of-t : goal.bounds-of-t
bounds-of-t c = omega (arith, c.requires.m_in_bounds, c.requires.m_in_bounds_2, c.loop-t-test.true)

pub offset_bounds-plane_of-t : goal.offset_bounds-plane_of-t
offset_bounds-plane_of-t c =
    omega (arith, c.well_formed, c.requires.m_in_bounds, c.requires.m_in_bounds_2, c.loop-t-test.true)

pub bounds-plane_of-t : goal.bounds-plane_of-t
bounds-plane_of-t c = omega (arith, c.requires.m_in_bounds, c.requires.m_in_bounds_2, c.loop-t-test.true, c.loop-t.invariant.len)

pub loop-t-preserved : goal.loop-t-preserved
loop-t-preserved c =
    planed_more _ _ _ _ _ _ _ c.loop-t.invariant c.loop-t-test.true (omega (arith, c.requires.m_in_bounds, c.requires.m_in_bounds_2, c.loop-t-test.true)) (omega (
      arith,
      c.requires.m_in_bounds,
      c.requires.m_in_bounds_2,
      c.loop-t-test.true,
      c.loop-t.invariant.len,
    )) c.plane_number.ensures

pub shape_of-plane_of : goal.shape_of-plane_of
shape_of-plane_of c = c.loop-t.invariant.len

pub returns : goal.returns
returns c = λ t h. c.loop-t.invariant.done t (omega (arith, h, c.loop-t-test.false))

pub plane_number-requires : goal.plane_number-requires
plane_number-requires c = tt
