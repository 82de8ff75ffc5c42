-- What the functions ask of the areas, and what a trail of bounces reads as.
use Rattle.std.specs.Prelude.{ℕ, ◌*◌, ◌≤◌, ◌<◌, Float, length, take, ◌≡◌, List, Result, Ok, Err}
use Rattle.sequences.specs.Allowed.{most_order}
use Rattle.geometry.specs.declared.Triangle.{Triangle}
use Rattle.columns.specs.Columns.{column_count}
use Rattle.vector.specs.declared.Vec3.{Vec3}
use Rattle.mirror.specs.Rows.{vec_of_floats, row_of, tris_of, PlanesHeld, AllRead, planes_in}
use Rattle.bounces.specs.declared.Broken.{Broken}
use Rattle.bounces.specs.declared.Lost.{Lost}
use Rattle.bounces.specs.declared.Lost.TheVariants.{NotCrossed, OffSurface}
use Rattle.bounces.specs.declared.Trail.{Trail}
use Rattle.bounces.specs.Bounces.{Bounces, not_crossed, off_surface, made}
use Rattle.bounces.specs.declared.PlaneTable.{PlaneTable}
use Rattle.mirror.specs.Plane.{Plane}

-- columns of n triples, and the areas of `count` planes
pub record PlanesLent (columns : List Float) (n : ℕ) (floats : List Float) (words members : List ℕ) (edges : List Float) (count : ℕ) : Type 0 where
  pub columns_room : column_count * n ≤ length columns
  pub held : PlanesHeld floats words members edges n count

-- the columns read as the triangles of each plane
unfoldable pub PlanesRead : (ℕ → Triangle) → List Float → ℕ → List Float → List ℕ → List ℕ → ℕ → Type 0
PlanesRead tri columns n floats words members count = (p : ℕ) → p < count → AllRead tri columns n (tris_of (row_of floats words p) members)

-- the longest sequence: `MAX_IMAGE_ORDER`
abbrev pub max_order : ℕ
max_order = most_order

-- whether all bounces are made, or what the first that fails fails by
unfoldable pub fate_of : Bounces → Result (Unit {0}) Lost
fate_of not_crossed = Err NotCrossed
fate_of off_surface = Err OffSurface
fate_of (made points tris weight) = Ok tt

-- floats of a point, and point k of an area of points
abbrev pub point_floats : ℕ
point_floats = 3

abbrev pub point_in : List Float → ℕ → Vec3
point_in l k = vec_of_floats l (point_floats * k)

-- what the bounce says that ends a way back
abbrev pub ended_by : Lost → Bounces
ended_by NotCrossed = not_crossed
ended_by OffSurface = off_surface

-- what a trail of n bounces says, or what one that fails says
unfoldable pub trail_of : Result Trail Broken → ℕ → Bounces
trail_of (Ok t) n = made (take n t.points) (take n t.tris) t.weight
trail_of (Err broken) n = ended_by broken.by

-- a trail has room for the longest sequence
pub record Going (t : Trail) : Type 0 where
  pub points_room : length t.points ≡ max_order
  pub tris_room : length t.tris ≡ max_order

-- the same of the planes that are lent; and what they read as
abbrev pub TableLent : PlaneTable → Type 0
TableLent p = PlanesLent p.triangles.now p.n p.floats.now p.words.now p.members.now p.edges.now p.count

abbrev pub TableReads : (ℕ → Triangle) → PlaneTable → Type 0
TableReads tri p = PlanesRead tri p.triangles.now p.n p.floats.now p.words.now p.members.now p.count

abbrev pub planes_of_table : PlaneTable → List Plane
planes_of_table p = planes_in p.floats.now p.words.now p.members.now p.edges.now p.count
