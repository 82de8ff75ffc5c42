-- What the ranking and a packet need of a candidate: nothing in it is NaN, all are values of the format, the delay is above 0, the direction
-- finite, and no gain below 0. That a candidate of a path has it, where distance, temperature and rate lie within their limits, is `path_numbers` of
-- proofs/Numbers.antt.
use Rattle.std.specs.Prelude.{T, Float, ◌≡◌, Bool, not}
use Rattle.std.specs.Float.{binary32}
use Rattle.std.specs.Float.Ieee.{lt, fits, is_nan}
use Rattle.std.specs.Float.Ieee.Positive.{positive}
use Rattle.float.specs.Literals.{zero32}
use Rattle.float.specs.Compare.{is_finite}
use Rattle.vector.specs.declared.Vec3.{Vec3}
use Rattle.bands.specs.declared.Band8.{Band8}
use Rattle.bands.specs.declared.DistanceModel.{DistanceModel}
use Rattle.bands.specs.Band8.{sum_of_squares_of}
use Rattle.paths.specs.declared.PathCandidate.{PathCandidate}
use Rattle.paths.specs.Gains.{least_energy}

abbrev pub is_number : Float → Bool
is_number x = not (is_nan x)

pub record Finite3 (v : Vec3) : Type 0 where
  pub fx : T (is_finite v.x)
  pub fy : T (is_finite v.y)
  pub fz : T (is_finite v.z)

-- values of the format
pub record Fits3 (v : Vec3) : Type 0 where
  pub hx : T (fits binary32 v.x)
  pub hy : T (fits binary32 v.y)
  pub hz : T (fits binary32 v.z)

pub record Fits8 (g : Band8) : Type 0 where
  pub h0 : T (fits binary32 g.b0)
  pub h1 : T (fits binary32 g.b1)
  pub h2 : T (fits binary32 g.b2)
  pub h3 : T (fits binary32 g.b3)
  pub h4 : T (fits binary32 g.b4)
  pub h5 : T (fits binary32 g.b5)
  pub h6 : T (fits binary32 g.b6)
  pub h7 : T (fits binary32 g.b7)

pub record Numbers8 (g : Band8) : Type 0 where
  pub n0 : T (is_number g.b0)
  pub n1 : T (is_number g.b1)
  pub n2 : T (is_number g.b2)
  pub n3 : T (is_number g.b3)
  pub n4 : T (is_number g.b4)
  pub n5 : T (is_number g.b5)
  pub n6 : T (is_number g.b6)
  pub n7 : T (is_number g.b7)

pub record Finite8 (g : Band8) : Type 0 where
  pub f0 : T (is_finite g.b0)
  pub f1 : T (is_finite g.b1)
  pub f2 : T (is_finite g.b2)
  pub f3 : T (is_finite g.b3)
  pub f4 : T (is_finite g.b4)
  pub f5 : T (is_finite g.b5)
  pub f6 : T (is_finite g.b6)
  pub f7 : T (is_finite g.b7)

-- none is below 0
pub record NotBelow8 (g : Band8) : Type 0 where
  pub p0 : T (not (lt g.b0 zero32))
  pub p1 : T (not (lt g.b1 zero32))
  pub p2 : T (not (lt g.b2 zero32))
  pub p3 : T (not (lt g.b3 zero32))
  pub p4 : T (not (lt g.b4 zero32))
  pub p5 : T (not (lt g.b5 zero32))
  pub p6 : T (not (lt g.b6 zero32))
  pub p7 : T (not (lt g.b7 zero32))

pub record Numbers (c : PathCandidate) : Type 0 where
  pub energy_is : c.energy ≡ sum_of_squares_of c.gains
  pub energy_above : T (lt least_energy c.energy)
  pub energy_fits : T (fits binary32 c.energy)
  pub energy_number : T (is_number c.energy)
  pub delay_fits : T (fits binary32 c.delay)
  pub delay_number : T (is_number c.delay)
  -- finite and above 0
  pub delay_positive : T (positive c.delay)
  pub gains_fit : Fits8 c.gains
  pub gains_numbers : Numbers8 c.gains
  pub gains_not_below : NotBelow8 c.gains
  pub direction_fits : Fits3 c.direction
  pub direction_finite : Finite3 c.direction

-- of a distance model whose numbers are values of the format, as those of a program are, no energy is infinite: `path_finite` of proofs/Finite.antt
pub record ModelFits (m : DistanceModel) : Type 0 where
  pub reference : T (fits binary32 m.reference_distance)
  pub least : T (fits binary32 m.min_distance)
  pub greatest : T (fits binary32 m.max_distance)
