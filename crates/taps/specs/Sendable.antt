-- What candidates must be so that the packet writer takes their taps: none of its tests 9, 10 and 11 then fails (`ranked_sent` of
-- proofs/Sending.antt).
use Rattle.std.specs.Prelude.{ℕ, ◌≤◌, ◌≡◌, not, List, T, Float}
use Rattle.std.specs.Float.{binary32}
use Rattle.std.specs.Float.Ieee.{lt, fits}
use Rattle.float.specs.Literals.{zero32}
use Rattle.float.specs.Compare.{is_finite}
use Rattle.bands.specs.declared.Band8.{Band8}
use Rattle.bands.specs.Band8.{sum_of_squares_of}
use Rattle.packet.specs.Limits.{most_images, most_order}
use Rattle.packet.specs.Refusals.{least_sum}
use Rattle.ranking.specs.declared.Candidate.{Candidate}
use Rattle.ranking.specs.Lists.{Has}
use Rattle.ranking.specs.Listed.{Once}

-- a finite value of the format
pub record Plain (x : Float) : Type 0 where
  pub held : T (fits binary32 x)
  pub finite : T (is_finite x)

-- and not below 0
pub record Level (x : Float) : Type 0 where
  pub plain : Plain x
  pub not_below : T (not (lt x zero32))

pub record Level8 (g : Band8) : Type 0 where
  pub l0 : Level g.b0
  pub l1 : Level g.b1
  pub l2 : Level g.b2
  pub l3 : Level g.b3
  pub l4 : Level g.b4
  pub l5 : Level g.b5
  pub l6 : Level g.b6
  pub l7 : Level g.b7

-- the floats of a candidate: "finite", the delay "above 0", no gain below 0, and the squared-gain sum "above 1e-14"
pub record Sound (c : Candidate) : Type 0 where
  pub x : Plain c.direction.x
  pub y : Plain c.direction.y
  pub z : Plain c.direction.z
  pub delay : Plain c.delay
  pub delay_above : T (lt zero32 c.delay)
  pub gains : Level8 c.gains
  pub energy_is : c.energy ≡ sum_of_squares_of c.gains
  pub energy_above : T (lt least_sum c.energy)

-- its numbers: an order of "1 to 8", and an image number that is not "0 or above images"
pub record Placed (images : ℕ) (c : Candidate) : Type 0 where
  pub order_some : 1 ≤ c.order
  pub order_most : c.order ≤ most_order
  pub number_some : 1 ≤ c.number
  pub number_most : c.number ≤ images

-- candidates of at most 250,000 images, each such, no number twice
pub record Sendable (images : ℕ) (cs : List Candidate) : Type 0 where
  pub few : images ≤ most_images
  pub sound : (c : Candidate) → Has c cs → Sound c
  pub placed : (c : Candidate) → Has c cs → Placed images c
  pub once : Once cs
