-- A PATH, from settings, scene, positions and its own sequence of planes, and from nothing found for another image (document 01): the turn of
-- `expand_images` that tests an image, and `validate_image_path`.
use Rattle.std.specs.Prelude.{ℕ, ◌-◌, Float, length, get_or, cond, List}
use Rattle.std.specs.Float.Ieee.{le}
use Rattle.vector.specs.declared.Vec3.{Vec3}
use Rattle.vector.specs.Vector.{distance3_of}
use Rattle.geometry.specs.declared.Triangle.{Triangle}
use Rattle.tree_build.specs.Tree.{Tree}
use Rattle.scene.specs.declared.Settings.{Settings}
use Rattle.mirror.specs.Plane.{Plane, no_point}
use Rattle.segments.specs.declared.Transmission.{Transmission}
use Rattle.segments.specs.Materials.{transmission_of_handle}
use Rattle.segments.specs.Segment.{segment_soft_transmission_of}
use Rattle.segments.specs.Areas.{trace_in}
use Rattle.bounces.specs.declared.Lost.{Lost}
use Rattle.bounces.specs.declared.Lost.TheVariants as lost
use Rattle.bounces.specs.Image.{image_of}
use Rattle.bounces.specs.Bounces.{Bounces, not_crossed, off_surface, made, bounces_of}
use Rattle.paths.specs.declared.Way.{Way}
use Rattle.paths.specs.declared.Fate.{Fate}
use Rattle.paths.specs.declared.Fate.TheVariants.{TooFar, NotCrossed, OffSurface, TooLong, Faded, Blocked, Faint, Passed}
use Rattle.paths.specs.declared.Verdict.{Verdict}
use Rattle.paths.specs.Visibility.{way_of}
use Rattle.paths.specs.Gains.{usable_of, reflected_of, gains_of, arrived_of}

abbrev pub verdict : Fate → ℕ → Verdict
verdict f n = record { fate = f; rays = n }

-- the fate of a path with a bounce that fails
abbrev pub lost_of : Lost → Fate
lost_of lost.NotCrossed = NotCrossed
lost_of lost.OffSurface = OffSurface

-- `pts[n - 1]`: the bounce next to the listener
abbrev pub last_of : List Vec3 → ℕ → Vec3
last_of points n = get_or points (n - 1) no_point

-- the way is gone: its length, and what arrives
abbrev pub gone_of : Settings → List Float → (ℕ → Triangle) → ℕ → Vec3 → List Vec3 → List ℕ → Float → Way → Verdict
gone_of s materials tri n listener points tris weight w =
    verdict
    (cond (usable_of w.total s.max_reflection_distance)
    (arrived_of s (last_of points n) listener w.total weight (gains_of s.distance_model s.air (reflected_of materials tri tris) w.total weight) w.gain)
    TooLong)
    w.rays

-- after the bounces
unfoldable pub bounced_of : (Vec3 → Vec3 → Transmission) → Settings → List Float → (ℕ → Triangle) → ℕ → Vec3 → Vec3 → Bounces → Verdict
bounced_of soft s materials tri n source listener not_crossed = verdict NotCrossed 0
bounced_of soft s materials tri n source listener off_surface = verdict OffSurface 0
bounced_of soft s materials tri n source listener (made points tris weight) =
    gone_of s materials tri n listener points tris weight (way_of soft listener source points)

-- with so many crossings of a half segment, and probes so far out
unfoldable pub path_with : ℕ → Float → Settings → List Plane → (ℕ → Triangle) → Tree → List Float → Vec3 → Vec3 → List ℕ → Verdict
path_with limit radius s planes tri t materials source listener seq =
    cond (le (distance3_of listener (image_of planes source seq)) s.max_reflection_distance)
    (bounced_of (segment_soft_transmission_of (trace_in tri t) (transmission_of_handle materials) limit radius) s materials tri (length seq) source listener
    (bounces_of tri s.reflection_edge_fade planes source listener seq))
    (verdict TooFar 0)

-- the path of a sequence, by the crossing limit and the probe radius of the settings: which test failed first, or its candidate; and the rays traced for it
unfoldable pub path_of : Settings → List Plane → (ℕ → Triangle) → Tree → List Float → Vec3 → Vec3 → List ℕ → Verdict
path_of s planes tri t materials source listener seq = path_with s.crossing_limit s.probe_radius s planes tri t materials source listener seq

-- the number of a fate: 0 for a candidate, else the place of the test that failed first in the Rust's order
unfoldable pub number_of_fate : Fate → ℕ
number_of_fate TooFar = 1
number_of_fate NotCrossed = 2
number_of_fate OffSurface = 3
number_of_fate TooLong = 4
number_of_fate Faded = 5
number_of_fate Blocked = 6
number_of_fate Faint = 7
number_of_fate (Passed c) = 0
