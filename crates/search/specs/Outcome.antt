-- What the claim's `searched` is given: which planes the source lies on, and what each sequence's path comes to.
use Rattle.std.specs.Prelude.{ℕ, cond, List, map, Float}
use Rattle.vector.specs.declared.Vec3.{Vec3}
use Rattle.geometry.specs.declared.Triangle.{Triangle}
use Rattle.tree_build.specs.Tree.{Tree}
use Rattle.scene.specs.declared.Settings.{Settings}
use Rattle.mirror.specs.Plane.{Plane}
use Rattle.bounces.specs.Image.{lies_on_of}
use Rattle.paths.specs.declared.PathCandidate.{PathCandidate}
use Rattle.paths.specs.declared.Fate.{Fate}
use Rattle.paths.specs.declared.Fate.TheVariants.{TooFar, NotCrossed, OffSurface, TooLong, Faded, Blocked, Faint, Passed}
use Rattle.paths.specs.declared.Verdict.{Verdict}
use Rattle.paths.specs.Path.{path_of}
use Rattle.claim.specs.Answer.{Found, Outcome, fails, passes}

-- a byte for each plane: 0 where the source does not lie on it, so that it may come first
unfoldable pub on_bytes : List Plane → Vec3 → List ℕ
on_bytes planes source = map (λ (plane : Plane). cond (lies_on_of plane source) 1 0) planes

abbrev pub found_of : PathCandidate → Found
found_of c = record { energy = c.energy; delay = c.delay; direction = c.direction; gains = c.gains }

-- a path passes where its fate is `Passed`, and fails by every other
abbrev pub by_fate : Fate → ℕ → Outcome
by_fate TooFar r = fails r
by_fate NotCrossed r = fails r
by_fate OffSurface r = fails r
by_fate TooLong r = fails r
by_fate Faded r = fails r
by_fate Blocked r = fails r
by_fate Faint r = fails r
by_fate (Passed c) r = passes r (found_of c)

unfoldable pub outcome_of : Verdict → Outcome
outcome_of v = by_fate v.fate v.rays

-- of each sequence in a scene
abbrev pub outcomes_of : Settings → List Plane → (ℕ → Triangle) → Tree → List Float → Vec3 → Vec3 → List ℕ → Outcome
outcomes_of s planes tri t materials source listener seq = outcome_of (path_of s planes tri t materials source listener seq)
