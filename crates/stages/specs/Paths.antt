-- A path as numbers: the course of a sequence of planes, and what `biv_path` leaves for a verdict of `validate_image_path`.
use Rattle.std.specs.Prelude.{ℕ, ◌+◌, ◌≤◌, ◌<◌, eqb, Float, length, get_or, take, ◌≡◌, cond, List, [], ◌∷◌}
use Rattle.std.proofs.lemmas.List.Edits.{sets}
use Rattle.float.specs.Literals.{zero32}
use Rattle.vector.specs.declared.Vec3.{Vec3}
use Rattle.vector.specs.Vector.{vec}
use Rattle.bands.specs.Band8.{splat_of}
use Rattle.mirror.specs.Plane.{no_point}
use Rattle.mirror.specs.Rows.{planes_in}
use Rattle.bounces.specs.Image.{image_of}
use Rattle.bounces.specs.Bounces.{Bounces, not_crossed, off_surface, made}
use Rattle.bounces.specs.Areas.{max_order, point_in}
use Rattle.bounces.specs.declared.Lost.{Lost}
use Rattle.bounces.specs.declared.Lost.TheVariants as lost
use Rattle.paths.specs.declared.Fate.{Fate}
use Rattle.paths.specs.declared.Fate.TheVariants.{TooFar, NotCrossed, OffSurface, TooLong, Faded, Blocked, Faint, Passed}
use Rattle.paths.specs.declared.Verdict.{Verdict}
use Rattle.paths.specs.Path.{number_of_fate}
use Rattle.stages.specs.declared.Course.{Course}
use Rattle.stages.specs.declared.FlatPath.{FlatPath}

-- a course has the first k planes of seq, and the images of the source in its beginnings
pub record Coursed (floats : List Float) (words : List ℕ) (count : ℕ) (source : Vec3) (seq : List ℕ) (k : ℕ) (c : Course) : Type 0 where
  pub seq_room : length c.seq ≡ max_order
  pub images_room : length c.images ≡ max_order + 1
  pub planes : take k c.seq ≡ take k seq
  pub mirrored :
      (members : List ℕ) (edges : List Float) (j : ℕ) → j ≤ k →
      get_or c.images j no_point ≡ image_of (planes_in floats words members edges count) source (take j c.seq)

-- no candidate
unfoldable pub nothing_of : ℕ → FlatPath
nothing_of k = record { number = k; energy = zero32; delay = zero32; direction = vec zero32 zero32 zero32; gains = splat_of zero32 }

unfoldable pub flat_path_of : Fate → FlatPath
flat_path_of TooFar = nothing_of 1
flat_path_of NotCrossed = nothing_of 2
flat_path_of OffSurface = nothing_of 3
flat_path_of TooLong = nothing_of 4
flat_path_of Faded = nothing_of 5
flat_path_of Blocked = nothing_of 6
flat_path_of Faint = nothing_of 7
flat_path_of (Passed c) =
    record { number = 0; energy = c.energy; delay = c.delay; direction = c.direction; gains = c.gains }

-- the floats of a candidate: energy, delay, direction, gains
abbrev pub path_floats : FlatPath → List Float
path_floats p =
    p.energy ∷ p.delay ∷ p.direction.x ∷ p.direction.y ∷ p.direction.z ∷
    p.gains.b0 ∷ p.gains.b1 ∷ p.gains.b2 ∷ p.gains.b3 ∷ p.gains.b4 ∷ p.gains.b5 ∷ p.gains.b6 ∷ p.gains.b7 ∷ []

-- the answer is the fate's number; a candidate is put into `found`, the count of rays into `rays`
pub record Walked (v : Verdict) (found : List Float) (rays : List ℕ) (r : ℕ) (found' : List Float) (rays' : List ℕ) : Type 0 where
  pub fate_is : r ≡ number_of_fate v.fate
  pub floats : found' ≡ cond (eqb (number_of_fate v.fate) 0) (sets found 0 (path_floats (flat_path_of v.fate))) found
  pub traced : rays' ≡ sets rays 0 (v.rays ∷ [])

-- the number of what a bounce fails by, and of the fate of bounces: 0 where all are made
abbrev pub lost_number : Lost → ℕ
lost_number lost.NotCrossed = 2
lost_number lost.OffSurface = 3

abbrev pub fate_number : Bounces → ℕ
fate_number not_crossed = lost_number lost.NotCrossed
fate_number off_surface = lost_number lost.OffSurface
fate_number (made points tris weight) = 0

-- the points of bounces that were all made
abbrev pub points_of : Bounces → List Vec3
points_of not_crossed = []
points_of off_surface = []
points_of (made points tris weight) = points

-- the answer is the fate's number; the points stand one after the other
pub record Bounced (b : Bounces) (r : ℕ) (points : List Float) : Type 0 where
  pub fate_is : r ≡ fate_number b
  pub points_are : (j : ℕ) → j < length (points_of b) → point_in points j ≡ get_or (points_of b) j no_point
