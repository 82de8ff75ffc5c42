-- The call: what loading answers decides which refusal of 1 to 6 there is, and what is claimed of an answer holds of the definition.
use Prim.Native.Nat.{ℕ, zero, suc, ◌+◌, ◌*◌, ◌≤◌, ◌<◌, ◌^◌, min}
use mathlib.Core.Path.{◌≡◌, refl, sym, ap, subst, ◌∙◌}
use mathlib.Core.Bool.{Bool, true, false, cond, not, ◌&&◌}
use mathlib.Core.List.{List, [], ◌∷◌}
use native.Mathlib.Omega.{arith}
use native.Mathlib.Nat.{add-le-add}
use borrow.Author.Tests.{ne_eqb, ltb-false}
use lib.Dec.{T, ltb}
use lib.ListN.{length}
use lib.Ieee.{Float}
use Rattle.float.specs.Literals.{zero32, one32}
use Rattle.vector.specs.declared.Vec3.{Vec3}
use Rattle.geometry.specs.declared.Triangle.{Triangle}
use Rattle.tree_build.specs.Tree.{Tree}
use Rattle.mirror.specs.Plane.{Plane}
use Rattle.planes_patches.specs.Triangles.{nth_triangle}
use Rattle.scene.specs.declared.Settings.{Settings}
use Rattle.scene.specs.Limits.{most_candidates, least_crossings, most_crossings, between_of, counts_of, rates_of, merges_of, model_numbers_of, probe_settings_of, low_air_of, high_air_of, later_settings_of, settings_of}
use Rattle.scene.specs.Scene.{Scene}
use Rattle.scene.specs.Refusals.{refusal1, refusal2, refusal3, refusal4, refusal5, first}
use Rattle.scene.specs.Speed.{speed_of}
use Rattle.placing.specs.Corners.{triangles, placings, refusal6}
use Rattle.placing.specs.Loading.{first_refusal, LoadSaid, Triangles, loaded_of, left}
use Rattle.bounces.specs.Areas.{max_order}
use Rattle.sequences.specs.Allowed.{most_planes, visited}
use Rattle.cost.specs.Forecast.{most_rays}
use Rattle.paths.specs.Path.{path_of}
use Rattle.paths.specs.declared.Fate.{Fate}
use Rattle.paths.specs.declared.Fate.TheVariants.{TooFar, NotCrossed, OffSurface, TooLong, Faded, Blocked, Faint, Passed}
use Rattle.paths.proofs.Bound.{path_rays}
use Rattle.claim.specs.Answer.{Outcome, rays_of, rays_for, found, Answer, answer_of}
use Rattle.claim.specs.Query.{Query, refused, given, query_of}
use Rattle.claim.proofs.Searching.{query_complete}
use Rattle.search.specs.Outcome.{on_bytes, by_fate, outcome_of, outcomes_of}
use Rattle.search.proofs.Answers.{paths_proper}
use Rattle.scene_bvh.specs.SceneTree.{tree_of}
use Rattle.scene_planes.specs.ScenePlanes.{planes_for}
use Rattle.answer.specs.Query.{path_for}
use Rattle.answer.specs.Answer.{query_for, Answers, answered_of}
use Rattle.answer.specs.declared.Answered.{Answered}
use Rattle.answer.proofs.Silence.{used_most}
use Rattle.front.specs.declared.Front.{Front}
use Rattle.front.specs.Asked.{front_of_loaded, early_of, order_of_search}
use Rattle.query.specs.Areas.{Work, work, zeroed, lengths_of}
use Rattle.query.specs.Trace.{silent_of, used_order, order_of, limit_of, query_in, by_refusal, trace_of, call_of, work_after, Traced}

-- ---- what loading answers

refusal_of_lem : (k : ℕ) (s : Scene) → (front_of_loaded (loaded_of k s)).refusal ≡ k
refusal_of_lem zero s = refl
refusal_of_lem (suc k) s = refl

pub front_refusal : (k : ℕ) (s : Scene) (l : LoadSaid) (f : Front) → l ≡ loaded_of k s → f ≡ front_of_loaded l → f.refusal ≡ k
front_refusal k s l f e g = ap (λ (x : Front). x.refusal) (g ∙ ap front_of_loaded e) ∙ refusal_of_lem k s

-- loaded: how many triangles
pub record Fronted (s : Scene) (l : LoadSaid) (f : Front) : Type 0 where
  pub kept : f.kept ≡ length (triangles s)
  pub loaded : l ≡ Triangles f.kept (placings s) f.triples

pub fronted : (k : ℕ) (s : Scene) (l : LoadSaid) (f : Front) → l ≡ loaded_of k s → f ≡ front_of_loaded l → k ≡ 0 → Fronted s l f
fronted zero s l f e g z =
    let h = g ∙ ap front_of_loaded e in
    let many : f.kept ≡ length (triangles s) = ap (λ (x : Front). x.kept) h in
    let whole = ap (λ (x : Front). x.triples) h in
    record { kept = many; loaded = rw (many, whole) e }
fronted (suc k) s l f e g z = absurd (omega arith)

-- with a refusal there are none
pub none_kept : (k : ℕ) (s : Scene) (l : LoadSaid) (f : Front) → l ≡ loaded_of k s → f ≡ front_of_loaded l → (f.refusal ≡ 0 → ⊥) → f.kept ≡ 0
none_kept zero s l f e g some = absurd (some (front_refusal 0 s l f e g))
none_kept (suc k) s l f e g some = ap (λ (x : Front). x.kept) (g ∙ ap front_of_loaded e)

-- after the refusals 1 to 5 an area is as found
pub left_found : {A : Type 0} (k : ℕ) (z : A) (l filled : List A) → (k ≡ 0 → ⊥) → (k ≡ 6 → ⊥) → left k z l filled ≡ l
left_found k z l filled n0 n6 = rw (ne_eqb k 0 n0, ne_eqb k 6 n6)

-- these are the early ones
pub early_some : (k : ℕ) → early_of k ≡ true → k ≡ 0 → ⊥
early_some k e z = absurd (subst T (sym e ∙ ap (λ (j : ℕ). early_of j) z) tt)

pub early_less : (k : ℕ) → early_of k ≡ true → k ≡ 6 → ⊥
early_less k e z = absurd (subst T (sym e ∙ ap (λ (j : ℕ). early_of j) z) tt)

-- the areas with other columns and handles
abbrev with_scene : Work → List Float → List ℕ → Work
with_scene w columns' handles' =
    work columns' handles' w.tree w.nodes w.leaf_order w.keys w.low_keys w.words w.scratch w.index w.numbers w.adjacency w.queue w.offsets
    w.floats w.plane_triangles w.plane_floats w.plane_words w.plane_edges

-- columns and handles as they were
pub scene_found :
    (k : ℕ) (w : Work) (columns' : List Float) (handles' : List ℕ) → columns' ≡ w.triangles → handles' ≡ w.handles → early_of k ≡ true →
    ◌≡◌ {A = Work} (with_scene w columns' handles') (work_after k w)
scene_found k w columns' handles' e f early =
    ap (λ (cs : List Float). with_scene w cs handles') e ∙ ap (λ (hs : List ℕ). with_scene w w.triangles hs) f ∙ sym (ap (λ (b : Bool). cond b w (zeroed w)) early)

-- and after any other end they are zero
pub work_cleared : (k : ℕ) (w w' : Work) → w' ≡ zeroed w → early_of k ≡ false → w' ≡ work_after k w
work_cleared k w w' e late = e ∙ sym (ap (λ (b : Bool). cond b w (zeroed w)) late)

-- ---- the settings

pub record Within (st : Settings) (c : ℕ) : Type 0 where
  pub planes : st.max_reflection_planes ≤ most_planes
  pub room : c ≤ most_candidates
  pub rates : T (rates_of st.max_reflection_distance st.temperature_celsius st.sample_rate)
  pub model : T (model_numbers_of st.distance_model)
  pub crossings : st.crossing_limit ≤ most_crossings

pub record Both (a b : Bool) : Type 0 where
  pub one : a ≡ true
  pub two : b ≡ true

both : (a b : Bool) → a && b ≡ true → Both a b
both true true e = record { one = refl; two = refl }
both true false e = absurd (subst T (sym e) tt)
both false b e = absurd (subst T (sym e) tt)

negated : (b : Bool) → not b ≡ true → b ≡ false
negated true e = absurd (subst T (sym e) tt)
negated false e = refl

pub within : (st : Settings) (c : ℕ) → settings_of st c ≡ true → Within st c
unfolding settings_of later_settings_of counts_of probe_settings_of
within st c e =
    let m = st.distance_model in
    let rest = rates_of st.max_reflection_distance st.temperature_celsius st.sample_rate in
    let merged = merges_of st.plane_merge_cos st.reflection_edge_fade st.plane_merge_offset st.plane_buried_distance in
    let limit = st.crossing_limit in
    let wide = between_of st.probe_radius zero32 one32 in
    let probed = not (ltb limit least_crossings) && (not (ltb most_crossings limit) && wide) in
    let aired = low_air_of st.air && high_air_of st.air in
    let a = both (not (ltb most_planes st.max_reflection_planes) && not (ltb most_candidates c)) (rest && (merged && (model_numbers_of m && (probed && aired)))) e in
    let counts = both (not (ltb most_planes st.max_reflection_planes)) (not (ltb most_candidates c)) a.one in
    let b = both rest (merged && (model_numbers_of m && (probed && aired))) a.two in
    let d = both merged (model_numbers_of m && (probed && aired)) b.two in
    let f = both (model_numbers_of m) (probed && aired) d.two in
    let l = both probed aired f.two in
    let g = both (not (ltb limit least_crossings)) (not (ltb most_crossings limit) && wide) l.one in
    let h = both (not (ltb most_crossings limit)) wide g.two in
    record {
      planes = ltb-false most_planes st.max_reflection_planes (negated (ltb most_planes st.max_reflection_planes) counts.one);
      room = ltb-false most_candidates c (negated (ltb most_candidates c) counts.two);
      rates = subst T (sym b.one) tt;
      model = subst T (sym f.one) tt;
      crossings = ltb-false most_crossings limit (negated (ltb most_crossings limit) h.one);
    }

-- ---- the answer

-- "The lowest that applies is returned": where one of 1 to 6 does
pub refused_answers :
    (k : ℕ) (q : Query) (r : Answered) (out out' : List ℕ) → (k ≡ 0 → ⊥) → r ≡ answered_of (refused k) → out' ≡ out → Answers (by_refusal k q) r out out'
refused_answers zero q r out out' n0 a o = absurd (n0 refl)
refused_answers (suc k) q r out out' n0 a o = record { answer = a; output = o }

-- and the query's where none does; f is the refusal that loading told, m the triangles
pub loaded_answers :
    (st : Settings) (c : ℕ) (s : Scene) (lens : List ℕ) (source listener : Vec3) (separated : Bool) (f m : ℕ) (r : Answered) (out out' : List ℕ) →
    f ≡ first_refusal st c s lens → (f ≡ 0 → m ≡ length (triangles s)) →
    Answers (by_refusal f (query_for st (triangles s) s.materials source listener (used_order (silent_of separated source listener m) (order_of_search st)) c (limit_of st))) r out out' →
    Answers (trace_of st c s lens source listener separated) r out out'
loaded_answers st c s lens source listener separated f m r out out' is many h =
    subst (λ (k : ℕ). Answers (by_refusal k (query_in st c s source listener separated)) r out out') is (go f many h)
  where
    go :
        (k : ℕ) → (k ≡ 0 → m ≡ length (triangles s)) →
        Answers (by_refusal k (query_for st (triangles s) s.materials source listener (used_order (silent_of separated source listener m) (order_of_search st)) c (limit_of st))) r out out' →
        Answers (by_refusal k (query_in st c s source listener separated)) r out out'
    go zero many h =
        subst
        (λ (j : ℕ). Answers (query_for st (triangles s) s.materials source listener (used_order (silent_of separated source listener j) (order_of_search st)) c (limit_of st)) r out out')
        (many refl) h
    go (suc k) many h = h

-- ---- what is claimed of it

-- an answer is given only where no refusal applies
pub record Given (st : Settings) (c : ℕ) (s : Scene) (lens : List ℕ) (q : Query) (a : Answer) : Type 0 where
  pub none : first_refusal st c s lens ≡ 0
  pub query : q ≡ given a

given_only : (k : ℕ) (q : Query) (a : Answer) → by_refusal k q ≡ given a → (k ≡ 0) × (q ≡ given a)
given_only zero q a e = (refl, e)
given_only (suc k) q a e = absurd (let z : ◌≡◌ {A = ℕ} 0 1 = cc in omega arith)

settings_pass : (b1 b2 b3 b4 b5 b6 : Bool) → first 1 (b1 ∷ b2 ∷ b3 ∷ b4 ∷ b5 ∷ b6 ∷ []) ≡ 0 → b1 ≡ false
settings_pass true b2 b3 b4 b5 b6 e = absurd (let z : ◌≡◌ {A = ℕ} 1 0 = e in omega arith)
settings_pass false b2 b3 b4 b5 b6 e = refl

un_not : (b : Bool) → not b ≡ false → b ≡ true
un_not true e = refl
un_not false e = absurd (subst T e tt)

pub settings_within : (st : Settings) (c : ℕ) (s : Scene) (lens : List ℕ) → first_refusal st c s lens ≡ 0 → Within st c
unfolding first_refusal refusal1
settings_within st c s lens e =
    within st c (un_not (settings_of st c) (settings_pass (refusal1 st c) (refusal2 s) (refusal3 s) (refusal4 s) (refusal5 s c lens) (refusal6 s) e))

fate_rays : (o : Fate) (q : ℕ) → rays_of (by_fate o q) ≡ q
unfolding rays_of
fate_rays TooFar q = refl
fate_rays NotCrossed q = refl
fate_rays OffSurface q = refl
fate_rays TooLong q = refl
fate_rays Faded q = refl
fate_rays Blocked q = refl
fate_rays Faint q = refl
fate_rays (Passed c) q = refl

module _ (st : Settings) (planes : List Plane) (tri : ℕ → Triangle) (t : Tree) (materials : List Float) (source listener : Vec3) where
  outcome_rays : (seq : List ℕ) → rays_of (outcomes_of st planes tri t materials source listener seq) ≤ 18 * (st.crossing_limit + 1) * (length seq + 1)
  unfolding outcome_of
  outcome_rays seq =
      subst (λ (n : ℕ). n ≤ 18 * (st.crossing_limit + 1) * (length seq + 1))
      (sym (fate_rays (path_of st planes tri t materials source listener seq).fate (path_of st planes tri t materials source listener seq).rays))
      (path_rays st planes tri t materials source listener seq)

  all_rays : (seqs : List (List ℕ)) → rays_for (outcomes_of st planes tri t materials source listener) seqs ≤ most_rays st.crossing_limit seqs
  unfolding rays_for most_rays
  all_rays [] = omega arith
  all_rays (q ∷ qs) = let h = outcome_rays q in let i = all_rays qs in add-le-add h i

given_rays : (on : List ℕ) (order : ℕ) (speed rate : Float) (limit room : ℕ) (path : List ℕ → Outcome) (a : Answer) → query_of on order speed rate limit room path ≡ given a → a.rays ≡ rays_for path (visited on order)
unfolding query_of
given_rays on order speed rate limit room path a e = go (ltb room (length (found path 1 (visited on order)))) e
  where
    go :
        (b : Bool) → elim b as (λ _. Query) [ true ↦ refused 7 | false ↦ given (answer_of on order speed rate limit path) ] ≡ given a →
        a.rays ≡ rays_for path (visited on order)
    go true e = absurd (let z : ◌≡◌ {A = ℕ} 0 1 = cc in omega arith)
    go false e = let z : answer_of on order speed rate limit path ≡ a = cc in sym (ap (λ (x : Answer). x.rays) z)

-- a call that answers as the definition and leaves the areas as it says is as it promises
pub traced :
    (st : Settings) (c : ℕ) (s : Scene) (source listener : Vec3) (separated : Bool) (r : Answered) (out out' : List ℕ) (found left : Work) →
    Answers (call_of st c s source listener separated found out) r out out' → left ≡ work_after (first_refusal st c s (lengths_of found out)) found →
    Traced st c s source listener separated r out out' found left
traced st c s source listener separated r out out' found left h w =
    record {
      answer = h.answer;
      output = h.output;
      areas = w;
      complete = λ a e.
          let g = given_only (first_refusal st c s (lengths_of found out)) (query_in st c s source listener separated) a e in
          let p = settings_within st c s (lengths_of found out) g.0 in
          let few = used_most (silent_of separated source listener (length (triangles s))) (min st.max_reflection_order max_order) (omega arith) in
          query_complete (on_bytes (planes_for st (triangles s)) source) (order_of st s source listener separated) (speed_of st.temperature_celsius) st.sample_rate (limit_of st)
          (path_for st (triangles s) s.materials source listener) (small (order_of st s source listener separated) few)
          (paths_proper st (planes_for st (triangles s)) (nth_triangle (triangles s)) (tree_of (triangles s)) s.materials source listener p.rates
          (on_bytes (planes_for st (triangles s)) source) (order_of st s source listener separated)) c a g.1;
      rays = λ a e.
          let g = given_only (first_refusal st c s (lengths_of found out)) (query_in st c s source listener separated) a e in
          let same =
          given_rays (on_bytes (planes_for st (triangles s)) source) (order_of st s source listener separated) (speed_of st.temperature_celsius) st.sample_rate (limit_of st) c
          (path_for st (triangles s) s.materials source listener) a g.1
          in
          subst (λ (n : ℕ). n ≤ most_rays st.crossing_limit (visited (on_bytes (planes_for st (triangles s)) source) (order_of st s source listener separated))) (sym same)
          (all_rays st (planes_for st (triangles s)) (nth_triangle (triangles s)) (tree_of (triangles s)) s.materials source listener
          (visited (on_bytes (planes_for st (triangles s)) source) (order_of st s source listener separated)));
    }
  where
    small : (o : ℕ) → o ≤ max_order → o < 2 ^ 32
    small o h = omega arith
