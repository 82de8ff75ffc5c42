-- The planes of a scene as C asks for them, with settings and answer as arrays of numbers.
use Rattle.std.specs.Prelude.{ℕ, ◌≤◌, ◌<◌, ◌≡◌, List, [], ◌∷◌, ◌++◌, Float, get_or, drop}
use Rattle.vector.specs.declared.Vec3.{Vec3}
use Rattle.scene.specs.declared.Settings.{Settings}
use Rattle.scene.specs.Scene.{Scene}
use Rattle.mirror.specs.Plane.{Plane}
use Rattle.mirror.specs.Rows.{planes_in}
use Rattle.arguments.specs.Settings.{given_settings}
use Rattle.search.specs.Outcome.{on_bytes}
use Rattle.query.specs.Areas.{Work}
use Rattle.walls.specs.Walls.{PlanesOf}
use Rattle.exports.specs.Entry.{curve_in}

-- the first n planes that stand in the areas
abbrev pub planes_left : Work → ℕ → List Plane
planes_left w n = planes_in w.plane_floats w.plane_words w.plane_triangles w.plane_edges n

-- the planes are those of `planes_of`, with the refusal's number and how many they are; the front of `on` has a byte for each, 1 where the source lies on it, and is as found behind them
pub record PlanesMarked (st : Settings) (c : ℕ) (s : Scene) (source : Vec3) (number count : ℕ) (on on' : List ℕ) (before after : Work) : Type 0 where
  pub planes : PlanesOf st c s before after number count
  pub marked : on' ≡ on_bytes (planes_left after count) source ++ drop count on

-- Refusal 1, before anything is looked at: the number 1, no planes, bytes and work areas as found
pub record NoPlanes (r : ℕ) (found on on' : List ℕ) (before after : Work) : Type 0 where
  pub answer : r ≡ 1
  pub count : found ≡ 0 ∷ []
  pub bytes : on' ≡ on
  pub areas : after ≡ before

-- What `biv_planes` promises: r is the number that it gives, found the one that it stores, on and before what the bytes and the work areas held at the
-- call, on' and after what they hold then
pub record PlanesEntered
    (counts : List ℕ) (floats : List Float) (c : ℕ) (s : Scene) (source : Vec3) (r : ℕ) (found on on' : List ℕ) (before after : Work)
    : Type 0 where
  pub called : curve_in counts ≤ 1 → PlanesMarked (given_settings counts floats) c s source r (get_or found 0 0) on on' before after
  -- a curve of another number is a setting outside its limits, as in the whole call
  pub refused : 1 < curve_in counts → NoPlanes r found on on' before after
