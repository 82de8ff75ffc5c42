-- `trace_early_reflections`: the answer of a call over settings, scene and positions alone, and what the call promises of it.
use Rattle.std.specs.Prelude.{ℕ, ◌≤◌, min, ◌≡◌, Bool, cond, ◌&&◌, List, ltb, length}
use Rattle.vector.specs.declared.Vec3.{Vec3}
use Rattle.scene.specs.declared.Settings.{Settings}
use Rattle.scene.specs.Scene.{Scene}
use Rattle.scene.specs.Speed.{speed_of}
use Rattle.placing.specs.Corners.{triangles}
use Rattle.placing.specs.Loading.{first_refusal}
use Rattle.bounces.specs.Areas.{max_order}
use Rattle.sequences.specs.Allowed.{visited}
use Rattle.cost.specs.Forecast.{most_rays}
use Rattle.claim.specs.Answer.{Answer}
use Rattle.claim.specs.Complete.{Complete}
use Rattle.claim.specs.Query.{Query, given}
use Rattle.search.specs.Outcome.{on_bytes}
use Rattle.scene_planes.specs.ScenePlanes.{planes_for}
use Rattle.answer.specs.Query.{path_for}
use Rattle.answer.specs.Answer.{query_for, answered_of, output_of}
use Rattle.answer.specs.declared.Answered.{Answered}
pub use Rattle.front.specs.Asked.{is_finite_point, silent_of, used_order, limit_of}
pub use Rattle.answer.specs.Answer.{by_refusal}
use Rattle.query.specs.Areas.{Work, zeroed, lengths_of}

-- "order .. any u32 (used as at most 8 ..)": the order of the search, 0 where nothing is searched (`silent_of` of front/specs/Asked)
abbrev pub order_of : Settings → Scene → Vec3 → Vec3 → Bool → ℕ
order_of st s source listener separated = used_order (silent_of separated source listener (length (triangles s))) (min st.max_reflection_order max_order)

-- the query over a scene that passes the refusals 1 to 6: refusal 7, or the answer
abbrev pub query_in : Settings → ℕ → Scene → Vec3 → Vec3 → Bool → Query
query_in st c s source listener separated = query_for st (triangles s) s.materials source listener (order_of st s source listener separated) c (limit_of st)

-- THE ANSWER of a call: the first refusal of 1 to 6 that applies, else the query's
abbrev pub trace_of : Settings → ℕ → Scene → List ℕ → Vec3 → Vec3 → Bool → Query
trace_of st c s lens source listener separated = by_refusal (first_refusal st c s lens) (query_in st c s source listener separated)

-- "Refusals 1 to 5 leave work areas as found; 6, 7 and every result leave them zero"; k is the first refusal of 1 to 6, 0 for none
abbrev pub work_after : ℕ → Work → Work
work_after k w = cond (ltb 0 k && ltb k 6) w (zeroed w)

-- THE ANSWER of a call that is lent these work areas and this output area
abbrev pub call_of : Settings → ℕ → Scene → Vec3 → Vec3 → Bool → Work → List ℕ → Query
call_of st c s source listener separated found out = trace_of st c s (lengths_of found out) source listener separated

-- What a call promises, for any settings, scene, positions and areas
pub record Traced
    (st : Settings) (c : ℕ) (s : Scene) (source listener : Vec3) (separated : Bool) (r : Answered) (out out' : List ℕ) (found left : Work)
    : Type 0 where
  -- the refusal's number and counts 0, or the counts of the answer and the packet's length
  pub answer : r ≡ answered_of (call_of st c s source listener separated found out)
  -- the packet and what stood past it, or the output area as found
  pub output : out' ≡ output_of (call_of st c s source listener separated found out) out
  pub areas : left ≡ work_after (first_refusal st c s (lengths_of found out)) found
  -- DEMAND 3, one claim about the answer's count and list together
  pub complete :
      (a : Answer) → call_of st c s source listener separated found out ≡ given a →
      Complete (on_bytes (planes_for st (triangles s)) source) (order_of st s source listener separated) (speed_of st.temperature_celsius) st.sample_rate (limit_of st)
      (path_for st (triangles s) s.materials source listener) a
  -- Note 12: "An image of order n then costs at most 18 × (limit + 1) × (n + 1) rays"
  pub rays :
      (a : Answer) → call_of st c s source listener separated found out ≡ given a →
      a.rays ≤ most_rays st.crossing_limit (visited (on_bytes (planes_for st (triangles s)) source) (order_of st s source listener separated))
