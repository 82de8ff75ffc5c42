-- Two calls that differ in the length of their lists alone (document 02, note 13): what two operators who compare their printouts may rely on; and the
-- list as it was before note 7.
use Rattle.std.specs.Prelude.{ℕ, ◌≤◌, min, ◌≡◌, Bool, List, length, take}
use Rattle.vector.specs.declared.Vec3.{Vec3}
use Rattle.scene.specs.declared.Settings.{Settings}
use Rattle.scene.specs.Scene.{Scene}
use Rattle.placing.specs.Corners.{triangles}
use Rattle.ranking.specs.declared.Candidate.{Candidate}
use Rattle.packet.specs.Limits.{most_taps}
use Rattle.claim.specs.Answer.{Answer}
use Rattle.claim.specs.Query.{Query}
use Rattle.taps.specs.Tap.{packet_of}
use Rattle.answer.specs.Answer.{query_for}
use Rattle.answer.specs.declared.Answered.{Answered}
use Rattle.query.specs.Trace.{order_of}

-- "equal inputs but `max_reflections`": settings with k in its place
abbrev pub with_list : Settings → ℕ → Settings
with_list st k =
    record {
      max_reflection_order = st.max_reflection_order;
      max_reflections = k;
      max_reflection_planes = st.max_reflection_planes;
      reflection_edge_fade = st.reflection_edge_fade;
      max_reflection_distance = st.max_reflection_distance;
      temperature_celsius = st.temperature_celsius;
      sample_rate = st.sample_rate;
      plane_merge_cos = st.plane_merge_cos;
      plane_merge = st.plane_merge;
      plane_merge_offset = st.plane_merge_offset;
      plane_buried_distance = st.plane_buried_distance;
      distance_model = st.distance_model;
      crossing_limit = st.crossing_limit;
      probe_radius = st.probe_radius;
      air = st.air;
    }

-- "the taps for a are the first a of the taps for b, or all where there are fewer, zeros of either sign alike, with equal images and rays": of two answers,
-- and here the floats are equal, zeros with their signs
pub record FirstOf (a : ℕ) (short long : Answer) : Type 0 where
  pub images : short.images ≡ long.images
  pub rays : short.rays ≡ long.rays
  pub taps : short.taps ≡ take a long.taps

-- The same of what two callers have: what each call answers, and its output area. a is `max_reflections` of the short list.
pub record ShortAndLong (a : ℕ) (short long : Answered) (short_out long_out : List ℕ) : Type 0 where
  -- both calls give a result, or both the same refusal
  pub refusal : short.refusal ≡ long.refusal
  pub images : short.images ≡ long.images
  pub rays : short.rays ≡ long.rays
  -- the taps of the long list, and of the short one the first a of them: as many are counted, and the packets are theirs
  pub taps : List Candidate
  pub few : length taps ≤ most_taps
  pub long_count : long.count ≡ length taps
  pub short_count : short.count ≡ length (take a taps)
  pub long_packet : long.refusal ≡ 0 → take long.bytes long_out ≡ packet_of long.images long.rays taps
  pub short_packet : short.refusal ≡ 0 → take short.bytes short_out ≡ packet_of long.images long.rays (take a taps)

-- the list's limit before document 02, note 7: "used as at most 8 and 64"
abbrev pub old_most_taps : ℕ
old_most_taps = 64

-- the query with that limit, and all else as it is (`query_in` of Trace): `old_limit` of `proofs/Prefix.antt` proves that its list is the first 64 taps
abbrev pub old_query_in : Settings → ℕ → Scene → Vec3 → Vec3 → Bool → Query
old_query_in st c s source listener separated =
    query_for st (triangles s) s.materials source listener (order_of st s source listener separated) c (min st.max_reflections old_most_taps)
