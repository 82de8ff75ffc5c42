-- The search for paths, with the settings and positions that `biv_search_images` is given as slices.
use Rattle.std.specs.Prelude.{ℕ, Float, List}
use Rattle.vector.specs.declared.Vec3.{Vec3}
use Rattle.geometry.specs.declared.Triangle.{Triangle}
use Rattle.tree_build.specs.Tree.{Tree}
use Rattle.scene.specs.declared.Settings.{Settings}
use Rattle.mirror.specs.Plane.{Plane}
use Rattle.claim.specs.Query.{Search, searched}
use Rattle.search.specs.Outcome.{on_bytes, outcomes_of}

abbrev pub searched_from : List Plane → Settings → (ℕ → Triangle) → Tree → List Float → Vec3 → Vec3 → ℕ → ℕ → Search
searched_from planes s tri t materials source listener order room = searched (on_bytes planes source) order room (outcomes_of s planes tri t materials source listener)
