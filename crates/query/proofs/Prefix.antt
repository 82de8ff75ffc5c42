-- Two lists of one scene (document 02, note 13): nothing but the cut of the list reads `max_reflections`.
--     prefix_answers    of two answers, for a and b, the taps for a are the first a of those for b, with equal images and rays; C and the lengths of the
--                       areas may differ, as between two stations
--     prefix_calls      the same of two calls with equal C and lengths, by their contract, and that both are refused alike or neither
--     prefix_stations   the same of two calls that both gave a result, where C and lengths differ
--     old_limit         a list cut at the limit before note 7 is the first 64 taps of the list, with equal images and rays
use Prim.Native.Nat.{ℕ, zero, suc, ◌≤◌, min}
use mathlib.Core.Path.{◌≡◌, refl, sym, ap, subst, ◌∙◌}
use mathlib.Core.Bool.{Bool, true, false, cond}
use mathlib.Core.List.{List, []}
use native.Mathlib.Omega.{arith}
use lib.Ieee.{Float, le}
use lib.Dec.{ltb}
use lib.ListN.{length, take, drop, length-take}
use lib.Seq.{take_all, take_at}
use Rattle.float.proofs.Numbers.{by_order}
use Rattle.vector.specs.declared.Vec3.{Vec3}
use Rattle.vector.specs.Vector.{distance3_of}
use Rattle.geometry.specs.declared.Triangle.{Triangle}
use Rattle.tree_build.specs.Tree.{Tree}
use Rattle.mirror.specs.Plane.{Plane}
use Rattle.planes_patches.specs.Triangles.{nth_triangle}
use Rattle.scene.specs.declared.Settings.{Settings}
use Rattle.scene.specs.Scene.{Scene}
use Rattle.scene.specs.Limits.{settings_of, later_settings_of}
use Rattle.scene.specs.Refusals.{refusal1}
use Rattle.scene.specs.Speed.{speed_of}
use Rattle.segments.specs.declared.Transmission.{Transmission}
use Rattle.segments.specs.Materials.{transmission_of_handle}
use Rattle.segments.specs.Segment.{segment_soft_transmission_of}
use Rattle.segments.specs.Areas.{trace_in}
use Rattle.bounces.specs.Image.{image_of}
use Rattle.bounces.specs.Bounces.{Bounces, not_crossed, off_surface, made, bounces_of}
use Rattle.paths.specs.Gains.{arrived_of, candidate_of}
use Rattle.paths.specs.Path.{verdict, bounced_of, path_with, path_of}
use Rattle.paths.specs.declared.Verdict.{Verdict}
use Rattle.paths.specs.declared.Fate.TheVariants.{TooFar}
use Rattle.placing.specs.Corners.{triangles}
use Rattle.placing.specs.Loading.{first_refusal}
use Rattle.packet.specs.Limits.{most_taps}
use Rattle.sequences.specs.Allowed.{visited}
use Rattle.ranking.specs.declared.Candidate.{Candidate}
use Rattle.ranking.specs.Candidate.{ranked}
use Rattle.ranking.proofs.Laws.{ranked_prefix}
use Rattle.claim.specs.Answer.{Outcome, found, Answer, answer_of}
use Rattle.claim.specs.Query.{Query, refused, given, query_of}
use Rattle.search.specs.Outcome.{on_bytes, outcome_of}
use Rattle.scene_bvh.specs.SceneTree.{tree_of}
use Rattle.taps.specs.Tap.{packet_of}
use Rattle.scene_planes.specs.ScenePlanes.{planes_for}
use Rattle.answer.specs.Query.{path_for}
use Rattle.answer.specs.Answer.{answered_of, output_of}
use Rattle.answer.specs.declared.Answered.{Answered}
use Rattle.query.specs.Areas.{Work, lengths_of}
use Rattle.query.specs.Trace.{by_refusal, order_of, query_in, trace_of, call_of, Traced}
use Rattle.query.specs.Lists.{with_list, FirstOf, ShortAndLong, old_most_taps, old_query_in}

-- ---- what does not read it

module _ (st : Settings) (a b : ℕ) where
  bounced_same :
      (soft : Vec3 → Vec3 → Transmission) (materials : List Float) (tri : ℕ → Triangle) (n : ℕ) (source listener : Vec3) (x : Bounces) →
      bounced_of soft (with_list st a) materials tri n source listener x ≡ bounced_of soft (with_list st b) materials tri n source listener x
  unfolding bounced_of arrived_of candidate_of
  bounced_same soft materials tri n source listener not_crossed = refl
  bounced_same soft materials tri n source listener off_surface = refl
  bounced_same soft materials tri n source listener (made points tris weight) = refl

  path_same :
      (planes : List Plane) (tri : ℕ → Triangle) (t : Tree) (materials : List Float) (source listener : Vec3) (seq : List ℕ) →
      path_of (with_list st a) planes tri t materials source listener seq ≡ path_of (with_list st b) planes tri t materials source listener seq
  unfolding path_of path_with
  path_same planes tri t materials source listener seq =
      ap (λ (v : Verdict). cond (le (distance3_of listener (image_of planes source seq)) st.max_reflection_distance) v (verdict TooFar 0))
      (bounced_same (segment_soft_transmission_of (trace_in tri t) (transmission_of_handle materials) st.crossing_limit st.probe_radius) materials tri (length seq) source listener
      (bounces_of tri st.reflection_edge_fade planes source listener seq))

  planes_same : (ts : List Triangle) → planes_for (with_list st a) ts ≡ planes_for (with_list st b) ts
  unfolding planes_for
  planes_same ts = refl

  paths_same :
      (ts : List Triangle) (materials : List Float) (source listener : Vec3) →
      ◌≡◌ {A = List ℕ → Outcome} (path_for (with_list st a) ts materials source listener) (path_for (with_list st b) ts materials source listener)
  paths_same ts materials source listener =
      (λ i seq. outcome_of (path_same (planes_for (with_list st a) ts) (nth_triangle ts) (tree_of ts) materials source listener seq i))
      ∙ (λ i seq. outcome_of (path_of (with_list st b) (planes_same ts i) (nth_triangle ts) (tree_of ts) materials source listener seq))

-- ---- an answer

pub given_is :
    (on : List ℕ) (order : ℕ) (speed rate : Float) (limit room : ℕ) (path : List ℕ → Outcome) (x : Answer) →
    query_of on order speed rate limit room path ≡ given x → answer_of on order speed rate limit path ≡ x
unfolding query_of
given_is on order speed rate limit room path x e = go (ltb room (length (found path 1 (visited on order)))) e
  where
    go :
        (b : Bool) → elim b as (λ _. Query) [ true ↦ refused 7 | false ↦ given (answer_of on order speed rate limit path) ] ≡ given x →
        answer_of on order speed rate limit path ≡ x
    go true e = absurd (let z : ◌≡◌ {A = ℕ} 0 1 = cc in omega arith)
    go false e = cc

pub by_given : (k : ℕ) (q : Query) (x : Answer) → by_refusal k q ≡ given x → q ≡ given x
by_given zero q x e = e
by_given (suc k) q x e = absurd (let z : ◌≡◌ {A = ℕ} 0 1 = cc in omega arith)

-- a cut at the lesser of a and m is one at a where there are m at most
cut_same : {A : Type 0} (a m : ℕ) (l : List A) → length l ≤ m → take (min a m) l ≡ take a l
cut_same a m l h =
    by_order m a (λ g. take_all (min a m) l (omega arith) ∙ sym (take_all a l (omega arith)))
    (λ g. let z : min a m ≡ a = omega arith in ap (λ (k : ℕ). take k l) z)

few_ranked : (speed rate : Float) (limit : ℕ) (cs : List Candidate) → limit ≤ most_taps → length (ranked speed rate limit cs) ≤ most_taps
few_ranked speed rate limit cs h = simp length-take (omega arith)

first_ranked :
    (speed rate : Float) (cs : List Candidate) (a b : ℕ) → a ≤ b →
    ranked speed rate (min a most_taps) cs ≡ take a (ranked speed rate (min b most_taps) cs)
first_ranked speed rate cs a b h =
    ranked_prefix speed rate cs (min a most_taps) (min b most_taps) (omega arith)
    ∙ cut_same a most_taps (ranked speed rate (min b most_taps) cs) (few_ranked speed rate (min b most_taps) cs (omega arith))

first_of :
    (on : List ℕ) (order : ℕ) (speed rate : Float) (path : List ℕ → Outcome) (a b : ℕ) → a ≤ b →
    FirstOf a (answer_of on order speed rate (min a most_taps) path) (answer_of on order speed rate (min b most_taps) path)
first_of on order speed rate path a b h =
    record { images = refl; rays = refl; taps = first_ranked speed rate (found path 1 (visited on order)) a b h }

module _ (st : Settings) (a b : ℕ) (h : a ≤ b) (s : Scene) (source listener : Vec3) (separated : Bool) where
  pub prefix_answers :
      (c c' : ℕ) (lens lens' : List ℕ) (x y : Answer) →
      trace_of (with_list st a) c s lens source listener separated ≡ given x → trace_of (with_list st b) c' s lens' source listener separated ≡ given y →
      FirstOf a x y
  unfolding planes_for
  prefix_answers c c' lens lens' x y e f =
      let on = on_bytes (planes_for st (triangles s)) source in
      let order = order_of st s source listener separated in
      let path = path_for (with_list st a) (triangles s) s.materials source listener in
      let path' = path_for (with_list st b) (triangles s) s.materials source listener in
      let short : answer_of on order (speed_of st.temperature_celsius) st.sample_rate (min a most_taps) path ≡ x =
      given_is on order (speed_of st.temperature_celsius) st.sample_rate (min a most_taps) c path x
      (by_given (first_refusal (with_list st a) c s lens) (query_in (with_list st a) c s source listener separated) x e) in
      let long : answer_of on order (speed_of st.temperature_celsius) st.sample_rate (min b most_taps) path' ≡ y =
      given_is on order (speed_of st.temperature_celsius) st.sample_rate (min b most_taps) c' path' y
      (by_given (first_refusal (with_list st b) c' s lens') (query_in (with_list st b) c' s source listener separated) y f) in
      let same : ◌≡◌ {A = List ℕ → Outcome} path path' = paths_same st a b (triangles s) s.materials source listener in
      subst (λ (z : Answer). FirstOf a z y)
      (ap (λ (p : List ℕ → Outcome). answer_of on order (speed_of st.temperature_celsius) st.sample_rate (min a most_taps) p) (sym same) ∙ short)
      (subst (λ (z : Answer). FirstOf a (answer_of on order (speed_of st.temperature_celsius) st.sample_rate (min a most_taps) path') z) long
      (first_of on order (speed_of st.temperature_celsius) st.sample_rate path' a b h))

-- ---- the list before note 7

-- at most k taps stand in a list of at most k
few_asked : (speed rate : Float) (k m : ℕ) (cs : List Candidate) → length (ranked speed rate (min k m) cs) ≤ k
few_asked speed rate k m cs = simp length-take (omega arith)

-- "A list cut at the old limit has the same first 64 taps" (document 02, note 7)
old_ranked :
    (speed rate : Float) (cs : List Candidate) (k : ℕ) →
    ranked speed rate (min k old_most_taps) cs ≡ take old_most_taps (ranked speed rate (min k most_taps) cs)
old_ranked speed rate cs k =
    let list = ranked speed rate (min k most_taps) cs in
    let turned : min k old_most_taps ≡ min old_most_taps k = omega arith in
    ranked_prefix speed rate cs (min k old_most_taps) (min k most_taps) (omega arith)
    ∙ ap (λ (n : ℕ). take n list) turned
    ∙ cut_same old_most_taps k list (few_asked speed rate k most_taps cs)

-- of the whole query, whatever the settings: images and rays are equal, and the old list is the first 64 of the list
pub old_limit :
    (st : Settings) (c : ℕ) (s : Scene) (source listener : Vec3) (separated : Bool) (x y : Answer) →
    old_query_in st c s source listener separated ≡ given x → query_in st c s source listener separated ≡ given y → FirstOf old_most_taps x y
old_limit st c s source listener separated x y e f =
    let on = on_bytes (planes_for st (triangles s)) source in
    let order = order_of st s source listener separated in
    let speed = speed_of st.temperature_celsius in
    let rate = st.sample_rate in
    let k = st.max_reflections in
    let path = path_for st (triangles s) s.materials source listener in
    let old : answer_of on order speed rate (min k old_most_taps) path ≡ x = given_is on order speed rate (min k old_most_taps) c path x e in
    let new : answer_of on order speed rate (min k most_taps) path ≡ y = given_is on order speed rate (min k most_taps) c path y f in
    let all : FirstOf old_most_taps (answer_of on order speed rate (min k old_most_taps) path) (answer_of on order speed rate (min k most_taps) path) =
    record { images = refl; rays = refl; taps = old_ranked speed rate (found path 1 (visited on order)) k } in
    subst (λ (z : Answer). FirstOf old_most_taps z y) old (subst (λ (z : Answer). FirstOf old_most_taps (answer_of on order speed rate (min k old_most_taps) path) z) new all)

-- ---- two calls

-- what two callers have who are refused alike
refused_alike :
    (a k : ℕ) (out out' : List ℕ) →
    ShortAndLong a (answered_of (refused (suc k))) (answered_of (refused (suc k))) (output_of (refused (suc k)) out) (output_of (refused (suc k)) out')
refused_alike a k out out' =
    record {
      refusal = refl;
      images = refl;
      rays = refl;
      taps = [];
      few = omega arith;
      long_count = refl;
      short_count = let z : 0 ≡ min a 0 = omega arith in z ∙ sym (length-take a []);
      long_packet = λ z. absurd (let n : ⊥ = omega arith in n);
      short_packet = λ z. absurd (let n : ⊥ = omega arith in n);
    }

-- what two callers have who were given x and y
given_both :
    (a : ℕ) (x y : Answer) (out out' : List ℕ) → FirstOf a x y → length y.taps ≤ most_taps →
    ShortAndLong a (answered_of (given x)) (answered_of (given y)) (output_of (given x) out) (output_of (given y) out')
given_both a x y out out' f few =
    let short = packet_of x.images x.rays x.taps in
    let long = packet_of y.images y.rays y.taps in
    record {
      refusal = refl;
      images = f.images;
      rays = f.rays;
      taps = y.taps;
      few = few;
      long_count = refl;
      short_count = ap length f.taps;
      long_packet = λ z. take_at long (drop (length long) out') (length long) refl;
      short_packet = λ z.
          take_at short (drop (length short) out) (length short) refl ∙ (λ i. packet_of (f.images i) (f.rays i) (f.taps i));
    }

-- the same of calls that answer as these queries
carried :
    (a : ℕ) (q q' : Query) (short long : Answered) (out out₁ out' out₁' : List ℕ) →
    short ≡ answered_of q → long ≡ answered_of q' → out₁ ≡ output_of q out → out₁' ≡ output_of q' out' →
    ShortAndLong a (answered_of q) (answered_of q') (output_of q out) (output_of q' out') → ShortAndLong a short long out₁ out₁'
carried a q q' short long out out₁ out' out₁' e e' o o' all = rw (e, e', o, o') all

-- two queries with lists of a and b: the refusal k for both, or 7 for both, or two answers
module _ (on : List ℕ) (order : ℕ) (speed rate : Float) (room : ℕ) (path : List ℕ → Outcome) (a b : ℕ) (h : a ≤ b) (out out' : List ℕ) where
  abbrev Both : Query → Query → Type 0
  Both q q' = ShortAndLong a (answered_of q) (answered_of q') (output_of q out) (output_of q' out')

  both_queries : (k : ℕ) → Both (by_refusal k (query_of on order speed rate (min a most_taps) room path)) (by_refusal k (query_of on order speed rate (min b most_taps) room path))
  unfolding query_of
  both_queries (suc k) = refused_alike a k out out'
  both_queries zero = go (ltb room (length (found path 1 (visited on order))))
    where
      go :
          (over : Bool) →
          Both (elim over as (λ _. Query) [ true ↦ refused 7 | false ↦ given (answer_of on order speed rate (min a most_taps) path) ])
          (elim over as (λ _. Query) [ true ↦ refused 7 | false ↦ given (answer_of on order speed rate (min b most_taps) path) ])
      go true = refused_alike a 6 out out'
      go false =
          given_both a (answer_of on order speed rate (min a most_taps) path) (answer_of on order speed rate (min b most_taps) path) out out'
          (first_of on order speed rate path a b h) (few_ranked speed rate (min b most_taps) (found path 1 (visited on order)) (omega arith))

module _ (st : Settings) (a b : ℕ) (h : a ≤ b) (s : Scene) (source listener : Vec3) (separated : Bool) where
  -- of the definition: whatever the output areas held
  both_answers :
      (c : ℕ) (lens : List ℕ) (out out' : List ℕ) →
      ShortAndLong a (answered_of (trace_of (with_list st a) c s lens source listener separated)) (answered_of (trace_of (with_list st b) c s lens source listener separated))
      (output_of (trace_of (with_list st a) c s lens source listener separated) out) (output_of (trace_of (with_list st b) c s lens source listener separated) out')
  unfolding planes_for first_refusal refusal1 settings_of later_settings_of
  both_answers c lens out out' =
      let on = on_bytes (planes_for st (triangles s)) source in
      let order = order_of st s source listener separated in
      let k = first_refusal st c s lens in
      let long = by_refusal k (query_of on order (speed_of st.temperature_celsius) st.sample_rate (min b most_taps) c (path_for (with_list st b) (triangles s) s.materials source listener)) in
      subst
      (λ (p : List ℕ → Outcome).
      let short = by_refusal k (query_of on order (speed_of st.temperature_celsius) st.sample_rate (min a most_taps) c p) in
      ShortAndLong a (answered_of short) (answered_of long) (output_of short out) (output_of long out'))
      (sym (paths_same st a b (triangles s) s.materials source listener))
      (both_queries on order (speed_of st.temperature_celsius) st.sample_rate c (path_for (with_list st b) (triangles s) s.materials source listener) a b h out out' k)

  -- of two calls with equal C and areas of equal lengths, whatever the areas held
  pub prefix_calls :
      (c : ℕ) (short long : Answered) (out out₁ out' out₁' : List ℕ) (found left found' left' : Work) →
      Traced (with_list st a) c s source listener separated short out out₁ found left →
      Traced (with_list st b) c s source listener separated long out' out₁' found' left' →
      lengths_of found out ≡ lengths_of found' out' → ShortAndLong a short long out₁ out₁'
  prefix_calls c short long out out₁ out' out₁' found left found' left' t t' lengths =
      carried a (call_of (with_list st a) c s source listener separated found out) (call_of (with_list st b) c s source listener separated found' out') short long out out₁ out' out₁'
      t.answer t'.answer t.output t'.output
      (subst
      (λ (l : List ℕ).
      let q = trace_of (with_list st a) c s (lengths_of found out) source listener separated in
      let q' = trace_of (with_list st b) c s l source listener separated in
      ShortAndLong a (answered_of q) (answered_of q') (output_of q out) (output_of q' out')) lengths (both_answers c (lengths_of found out) out out'))

-- a query's answer with no refusal is one that was given
given_told :
    (on : List ℕ) (order : ℕ) (speed rate : Float) (limit room : ℕ) (path : List ℕ → Outcome) (k : ℕ) →
    (answered_of (by_refusal k (query_of on order speed rate limit room path))).refusal ≡ 0 →
    by_refusal k (query_of on order speed rate limit room path) ≡ given (answer_of on order speed rate limit path)
unfolding query_of
given_told on order speed rate limit room path (suc k) e = absurd (omega arith)
given_told on order speed rate limit room path zero e = go (ltb room (length (found path 1 (visited on order)))) e
  where
    go :
        (b : Bool) →
        (answered_of (elim b as (λ _. Query) [ true ↦ refused 7 | false ↦ given (answer_of on order speed rate limit path) ])).refusal ≡ 0 →
        ◌≡◌ {A = Query} (elim b [ true ↦ refused 7 | false ↦ given (answer_of on order speed rate limit path) ]) (given (answer_of on order speed rate limit path))
    go true e = absurd (let z : ◌≡◌ {A = ℕ} 7 0 = e in omega arith)
    go false e = refl

module _ (st : Settings) (a b : ℕ) (h : a ≤ b) (s : Scene) (source listener : Vec3) (separated : Bool) where
  -- the answer of a list of k, where there is one
  abbrev answer : ℕ → Answer
  answer k =
      answer_of (on_bytes (planes_for (with_list st k) (triangles s)) source) (order_of st s source listener separated) (speed_of st.temperature_celsius) st.sample_rate
      (min k most_taps) (path_for (with_list st k) (triangles s) s.materials source listener)

  abbrev candidates : ℕ → List Candidate
  candidates k =
      found (path_for (with_list st k) (triangles s) s.materials source listener) 1
      (visited (on_bytes (planes_for (with_list st k) (triangles s)) source) (order_of st s source listener separated))

  answer_told :
      (k c : ℕ) (lens : List ℕ) (r : Answered) → r ≡ answered_of (trace_of (with_list st k) c s lens source listener separated) → r.refusal ≡ 0 →
      trace_of (with_list st k) c s lens source listener separated ≡ given (answer k)
  answer_told k c lens r e z =
      given_told (on_bytes (planes_for (with_list st k) (triangles s)) source) (order_of st s source listener separated) (speed_of st.temperature_celsius) st.sample_rate
      (min k most_taps) c (path_for (with_list st k) (triangles s) s.materials source listener) (first_refusal (with_list st k) c s lens)
      (sym (ap (λ (x : Answered). x.refusal) e) ∙ z)

  -- of two stations: C and the lengths of the areas may differ, where both calls give a result
  pub prefix_stations :
      (c c' : ℕ) (short long : Answered) (out out₁ out' out₁' : List ℕ) (found left found' left' : Work) →
      Traced (with_list st a) c s source listener separated short out out₁ found left →
      Traced (with_list st b) c' s source listener separated long out' out₁' found' left' →
      short.refusal ≡ 0 → long.refusal ≡ 0 → ShortAndLong a short long out₁ out₁'
  prefix_stations c c' short long out out₁ out' out₁' found left found' left' t t' z z' =
      let lens = lengths_of found out in
      let lens' = lengths_of found' out' in
      let e = answer_told a c lens short t.answer z in
      let e' = answer_told b c' lens' long t'.answer z' in
      let first = prefix_answers st a b h s source listener separated c c' lens lens' (answer a) (answer b) e e' in
      carried a (given (answer a)) (given (answer b)) short long out out₁ out' out₁' (t.answer ∙ ap answered_of e) (t'.answer ∙ ap answered_of e')
      (t.output ∙ ap (λ (q : Query). output_of q out) e) (t'.output ∙ ap (λ (q : Query). output_of q out') e')
      (given_both a (answer a) (answer b) out out' first (few_ranked (speed_of st.temperature_celsius) st.sample_rate (min b most_taps) (candidates b) (omega arith)))
