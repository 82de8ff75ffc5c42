-- A probe that tries all triangles in turn, for the scenes.
use mathlib.Core.Bool.{Bool}
use mathlib.Core.List.{List}
use Rattle.vector.specs.declared.Ray.{Ray}
use Rattle.geometry.specs.declared.Triangle.{Triangle}
use Rattle.std.specs.Prelude.{is_some}
use Rattle.geometry.specs.Intersect.{intersect_max_of}
use Rattle.order.specs.Runs.{any_by}

abbrev pub probe_all : List Triangle → Ray → Bool
probe_all ts r = any_by (λ t. is_some (intersect_max_of t r r.max_distance)) ts
