-- The whole call as C makes it, with settings and answer as arrays of numbers: what it promises for any numbers, any scene and areas of any length.
use Rattle.std.specs.Prelude.{ℕ, ◌≤◌, ◌<◌, ◌≡◌, Bool, List, [], ◌∷◌, Float, get_or}
use Rattle.vector.specs.declared.Vec3.{Vec3}
use Rattle.scene.specs.Scene.{Scene}
use Rattle.arguments.specs.Settings.{given_settings}
use Rattle.query.specs.Areas.{Work}
use Rattle.query.specs.Trace.{Traced}
use Rattle.exports.specs.Answers.{answered_from}

-- the number of the curve, the fifth of the counts
abbrev pub curve_in : List ℕ → ℕ
curve_in counts = get_or counts 4 0

-- Refusal 1, before anything is looked at: the number 1, the four counts 0, output and work areas as found
pub record RefusedCurve (r : ℕ) (found out out' : List ℕ) (before after : Work) : Type 0 where
  pub answer : r ≡ 1
  pub counts : found ≡ 0 ∷ 0 ∷ 0 ∷ 0 ∷ []
  pub output : out' ≡ out
  pub areas : after ≡ before

-- What `biv_trace_early_reflections` promises: r is the number that it gives, found the four that it stores, out and before what the output and the
-- work areas held at the call, out' and after what they hold then
pub record Entered
    (counts : List ℕ) (floats : List Float) (c : ℕ) (s : Scene) (source listener : Vec3) (separated : Bool) (r : ℕ) (found out out' : List ℕ) (before after : Work)
    : Type 0 where
  -- document 01 knows two curves, here 0 and 1: the call is the query's, of the settings that the numbers stand for
  pub called :
      curve_in counts ≤ 1 →
      Traced (given_settings counts floats) c s source listener separated (answered_from r found) out out' before after
  -- a curve of another number is a setting outside its limits: refusal 1, the lowest, whatever else is wrong
  pub refused : 1 < curve_in counts → RefusedCurve r found out out' before after
