-- The answer over a scene's triangles: refusal 7, or the counts and the packet.
use Rattle.std.specs.Prelude.{ℕ, zero, suc, ◌≤◌, ◌≡◌, List, ◌++◌, T, Float, length, drop}
use Rattle.vector.specs.declared.Vec3.{Vec3}
use Rattle.geometry.specs.declared.Triangle.{Triangle}
use Rattle.scene.specs.declared.Settings.{Settings}
use Rattle.scene.specs.Limits.{rates_of, model_numbers_of}
use Rattle.scene.specs.Speed.{speed_of}
use Rattle.packet.specs.Limits.{most_taps, out_bytes}
use Rattle.paths.specs.Numbers.{ModelFits}
use Rattle.claim.specs.Query.{Query, refused, given, query_of}
use Rattle.search.specs.Outcome.{on_bytes}
use Rattle.taps.specs.Tap.{packet_of}
use Rattle.scene_planes.specs.ScenePlanes.{planes_for}
use Rattle.answer.specs.declared.Answered.{Answered}
use Rattle.answer.specs.Query.{path_for}

-- the claim's query over the scene's planes and paths, with the list cut at `limit`
abbrev pub query_for : Settings → List Triangle → List Float → Vec3 → Vec3 → ℕ → ℕ → ℕ → Query
query_for st ts materials source listener order room limit =
    query_of (on_bytes (planes_for st ts) source) order (speed_of st.temperature_celsius) st.sample_rate limit room (path_for st ts materials source listener)

-- "The lowest that applies is returned .. with counts 0"; else the counts and the packet's length
abbrev pub answered_of : Query → Answered
answered_of (refused k) = record { refusal = k; count = 0; images = 0; rays = 0; bytes = 0 }
answered_of (given a) = record { refusal = 0; count = length a.taps; images = a.images; rays = a.rays; bytes = length (packet_of a.images a.rays a.taps) }

-- the output area: as found after a refusal, else the packet and what stood past it
abbrev pub output_of : Query → List ℕ → List ℕ
output_of (refused k) out = out
output_of (given a) out = packet_of a.images a.rays a.taps ++ drop (length (packet_of a.images a.rays a.taps)) out

-- "The lowest that applies is returned"
abbrev pub by_refusal : ℕ → Query → Query
by_refusal zero q = q
by_refusal (suc k) q = refused (suc k)

-- the answer and the output area are those of a query
pub record Answers (q : Query) (r : Answered) (out out' : List ℕ) : Type 0 where
  pub answer : r ≡ answered_of q
  pub output : out' ≡ output_of q out

-- settings within the limits that the numbers of a tap rest on
pub record Sane (st : Settings) : Type 0 where
  pub rates : T (rates_of st.max_reflection_distance st.temperature_celsius st.sample_rate)
  pub model : T (model_numbers_of st.distance_model)
  pub fit : ModelFits st.distance_model

-- the areas of ranking and the packet, beside those of the planes
pub record SendRoom (room limit : ℕ) (keys queue words scratch out : List ℕ) : Type 0 where
  pub few : limit ≤ most_taps
  pub keys_room : room ≤ length keys
  pub queue_room : room ≤ length queue
  pub words_room : room ≤ length words
  pub scratch_room : room ≤ length scratch
  pub out_room : out_bytes ≤ length out
