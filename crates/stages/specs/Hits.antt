-- A ray as eight floats, and what `biv_intersect` leaves for an answer of `FlatBvh::intersect`.
use Rattle.std.specs.Prelude.{ℕ, Float, get_or, ◌≡◌, Bool, List, [], ◌∷◌, Option, is_some}
use Rattle.std.specs.Option.{option_map_or}
use Rattle.std.specs.Float.{nan}
use Rattle.std.proofs.lemmas.List.Edits.{sets}
use Rattle.vector.specs.declared.Ray.{Ray}
use Rattle.vector.specs.Vector.{vec}
use Rattle.tree_trace.specs.declared.RayHit.{RayHit}

-- origin, direction, least and greatest distance
unfoldable pub given_ray : List Float → Ray
given_ray l =
    record {
      origin = vec (get_or l 0 nan) (get_or l 1 nan) (get_or l 2 nan);
      direction = vec (get_or l 3 nan) (get_or l 4 nan) (get_or l 5 nan);
      min_distance = get_or l 6 nan;
      max_distance = get_or l 7 nan;
    }

-- the distance and the point of a hit
abbrev pub hit_floats : RayHit → List Float
hit_floats h = h.distance ∷ h.point.x ∷ h.point.y ∷ h.point.z ∷ []

-- the answer says whether there is a hit; the areas then have it, and are else as they were
pub record Hits (h : Option RayHit) (hit : List Float) (place : List ℕ) (r : Bool) (hit' : List Float) (place' : List ℕ) : Type 0 where
  pub found : r ≡ is_some h
  pub floats : hit' ≡ option_map_or (λ x. sets hit 0 (hit_floats x)) h hit
  pub triangle : place' ≡ option_map_or (λ x. sets place 0 (x.triangle ∷ [])) h place
