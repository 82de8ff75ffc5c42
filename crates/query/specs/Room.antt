-- What a forecast (document 02, note 8) says of a call: that of its own crossing limit, planes, first planes and order, as `query_cost` answers it (`cost_of` of
-- cost/specs/Cost).
use Rattle.std.specs.Prelude.{ℕ, ◌≤◌, min, ◌≡◌, length, Result}
use Rattle.refusals.specs.declared.Refusal.{Refusal}
use Rattle.vector.specs.declared.Vec3.{Vec3}
use Rattle.scene.specs.declared.Settings.{Settings}
use Rattle.scene.specs.Scene.{Scene}
use Rattle.placing.specs.Corners.{triangles}
use Rattle.bounces.specs.Areas.{max_order}
use Rattle.sequences.specs.Count.{firsts}
use Rattle.cost.specs.Cost.{cost_of}
use Rattle.cost.specs.declared.Cost.{Cost}
use Rattle.search.specs.Outcome.{on_bytes}
use Rattle.scene_planes.specs.ScenePlanes.{planes_for}
use Rattle.answer.specs.declared.Answered.{Answered}

-- the forecast for a call's crossing limit, planes, those of them that may come first, its order, and so many triples
abbrev pub forecast_of : Settings → Scene → Vec3 → ℕ → Result Cost Refusal
forecast_of st s source triples =
    cost_of st.crossing_limit (length (planes_for st (triangles s))) (firsts (on_bytes (planes_for st (triangles s)) source))
    (min st.max_reflection_order max_order) triples

-- What a call answers keeps to the forecast r: with room for its candidates the call is never refused with 7, and it has at most so many images and rays
pub record Foreseen (c : ℕ) (r : Cost) (answered : Answered) : Type 0 where
  pub room : r.candidates ≤ c → answered.refusal ≡ 7 → ⊥
  pub images : answered.images ≤ r.candidates
  pub rays : answered.rays ≤ r.rays
