-- A forecast bounds the call:
--     never_seven    with room for as many candidates as sequences are visited, no call is refused with 7
--     foreseen       the same of the forecast's candidates, and a call answers at most its images and rays
use Prim.Native.Nat.{ℕ, zero, suc, ◌+◌, ◌≤◌, ◌<◌, min}
use mathlib.Core.Path.{◌≡◌, refl, sym, ap, subst, ◌∙◌}
use mathlib.Core.Bool.{Bool, true, false, cond, true≢false}
use mathlib.Core.List.{List, [], ◌∷◌}
use native.Mathlib.Nat.{le_refl, le_trans}
use native.Mathlib.Omega.{arith}
use borrow.Author.Tests.{le-ltb}
use Rattle.std.proofs.Common.{Ok}
use lib.Dec.{ltb}
use lib.Ieee.{Float}
use lib.ListN.{length, take, length-map}
use lib.Seq.{take-nil}
use Rattle.vector.specs.declared.Vec3.{Vec3}
use Rattle.scene.specs.declared.Settings.{Settings}
use Rattle.scene.specs.Scene.{Scene}
use Rattle.scene.specs.Refusals.{refusal1, refusal2, refusal3, refusal4, refusal5, first}
use Rattle.scene.specs.Speed.{speed_of}
use Rattle.placing.specs.Corners.{triangles, refusal6}
use Rattle.placing.specs.Loading.{first_refusal}
use Rattle.mirror.specs.Plane.{Plane}
use Rattle.bounces.specs.Areas.{max_order}
use Rattle.bounces.specs.Image.{lies_on_of}
use Rattle.sequences.specs.Allowed.{most, visited}
use Rattle.sequences.specs.Count.{firsts}
use Rattle.sequences.proofs.Counting.{order_zero}
use Rattle.cost.specs.Cost.{cost_of}
use Rattle.cost.specs.Forecast.{most_rays, Counts}
use Rattle.cost.specs.declared.Cost.{Cost}
use Rattle.cost.proofs.Forecasts.{forecast}
use Rattle.claim.specs.Answer.{Outcome, fails, passes, add_tap, found, Answer, answer_of}
use Rattle.claim.specs.Query.{Query, refused, given, query_of}
use Rattle.search.specs.Outcome.{on_bytes}
use Rattle.scene_planes.specs.ScenePlanes.{planes_for}
use Rattle.answer.specs.Query.{path_for}
use Rattle.answer.specs.Answer.{answered_of}
use Rattle.answer.specs.declared.Answered.{Answered}
use Rattle.query.specs.Areas.{Work, lengths_of}
use Rattle.query.specs.Trace.{silent_of, used_order, by_refusal, order_of, limit_of, query_in, call_of, Traced}
use Rattle.query.proofs.Prefix.{given_is, by_given}
use Rattle.query.specs.Room.{forecast_of, Foreseen}

-- ---- no more candidates than images

one_more :
    (o : Outcome) (n : ℕ) (s : List ℕ) (path : List ℕ → Outcome) (ss : List (List ℕ)) → length (found path (suc n) ss) ≤ length ss →
    length (add_tap o n s (found path (suc n) ss)) ≤ suc (length ss)
one_more (fails r) n s path ss h = omega arith
one_more (passes r f) n s path ss h = omega arith

found_few : (path : List ℕ → Outcome) (n : ℕ) (ss : List (List ℕ)) → length (found path n ss) ≤ length ss
unfolding found
found_few path n [] = omega arith
found_few path n (s ∷ ss) = one_more (path s) n s path ss (found_few path (suc n) ss)

roomy : (path : List ℕ → Outcome) (ss : List (List ℕ)) (room : ℕ) → length ss ≤ room → ltb room (length (found path 1 ss)) ≡ false
roomy path ss room h = le-ltb room (length (found path 1 ss)) (le_trans (found_few path 1 ss) h)

-- ---- the query

given_not : (b : Bool) (a : Answer) → b ≡ false → elim b as (λ _. Query) [ true ↦ refused 7 | false ↦ given a ] ≡ refused 7 → ⊥
given_not true a f e = absurd (true≢false f)
given_not false a f e = absurd (let z : ◌≡◌ {A = ℕ} 0 1 = cc in omega arith)

query_roomy :
    (on : List ℕ) (order : ℕ) (speed rate : Float) (limit room : ℕ) (path : List ℕ → Outcome) → length (visited on order) ≤ room →
    query_of on order speed rate limit room path ≡ refused 7 → ⊥
unfolding query_of
query_roomy on order speed rate limit room path h e =
    given_not (ltb room (length (found path 1 (visited on order)))) (answer_of on order speed rate limit path) (roomy path (visited on order) room h) e

-- ---- the call

first_less : (k : ℕ) (bs : List Bool) → 1 ≤ k → first k bs < k + length bs
first_less k [] h = omega arith
first_less k (true ∷ bs) h = omega arith
first_less k (false ∷ bs) h = let i = first_less (suc k) bs (omega arith) in omega arith

early : (st : Settings) (c : ℕ) (s : Scene) (lens : List ℕ) → first_refusal st c s lens < 7
unfolding first_refusal
early st c s lens = first_less 1 (refusal1 st c ∷ refusal2 s ∷ refusal3 s ∷ refusal4 s ∷ refusal5 s c lens ∷ refusal6 s ∷ []) (omega arith)

seven_only : (k : ℕ) (q : Query) → k < 7 → by_refusal k q ≡ refused 7 → q ≡ refused 7
seven_only zero q l e = e
seven_only (suc k) q l e = absurd (let z : suc k ≡ 7 = cc in let n : ⊥ = omega arith in n)

-- the sequences that a call visits
abbrev seen_of : Settings → Scene → Vec3 → Vec3 → Bool → List (List ℕ)
seen_of st s source listener separated = visited (on_bytes (planes_for st (triangles s)) source) (order_of st s source listener separated)

module _ (st : Settings) (c : ℕ) (s : Scene) (source listener : Vec3) (separated : Bool) (areas : Work) (out : List ℕ) where
  abbrev on_of : List ℕ
  on_of = on_bytes (planes_for st (triangles s)) source

  pub never_seven : length (seen_of st s source listener separated) ≤ c → call_of st c s source listener separated areas out ≡ refused 7 → ⊥
  never_seven h e =
      query_roomy on_of (order_of st s source listener separated) (speed_of st.temperature_celsius) st.sample_rate (limit_of st) c
      (path_for st (triangles s) s.materials source listener) h
      (seven_only (first_refusal st c s (lengths_of areas out)) (query_in st c s source listener separated) (early st c s (lengths_of areas out)) e)

  images_seen : (a : Answer) → call_of st c s source listener separated areas out ≡ given a → a.images ≡ length (seen_of st s source listener separated)
  images_seen a e =
      sym (ap (λ (x : Answer). x.images)
      (given_is on_of (order_of st s source listener separated) (speed_of st.temperature_celsius) st.sample_rate (limit_of st) c
      (path_for st (triangles s) s.materials source listener) a
      (by_given (first_refusal st c s (lengths_of areas out)) (query_in st c s source listener separated) a e)))

-- ---- the forecast

-- where nothing is searched, nothing is visited
silent_none : (on : List ℕ) → visited on 0 ≡ []
silent_none on = ap (λ (ss : List (List ℕ)). take most ss) (order_zero on) ∙ take-nil most

used_less : (f : List (List ℕ) → ℕ) → f [] ≡ 0 → (on : List ℕ) (silent : Bool) (order : ℕ) → f (visited on (used_order silent order)) ≤ f (visited on order)
used_less f z on true order = subst (λ (n : ℕ). n ≤ f (visited on order)) (sym (ap f (silent_none on) ∙ z)) (above (f (visited on order)))
  where
    above : (n : ℕ) → 0 ≤ n
    above n = omega arith
used_less f z on false order = le_refl (f (visited on order))

no_rays : (limit : ℕ) → most_rays limit [] ≡ 0
unfolding most_rays
no_rays limit = refl

on_length : (st : Settings) (s : Scene) (source : Vec3) → length (on_bytes (planes_for st (triangles s)) source) ≡ length (planes_for st (triangles s))
unfolding on_bytes
on_length st s source = length-map (planes_for st (triangles s)) (λ (plane : Plane). cond (lies_on_of plane source) 1 0)

-- what is forecast of the images that a call visits
counts_seen :
    (st : Settings) (s : Scene) (source : Vec3) (triples : ℕ) (cost : Cost) → forecast_of st s source triples ≡ Ok cost →
    Counts st.crossing_limit triples (visited (on_bytes (planes_for st (triangles s)) source) (min st.max_reflection_order max_order)) cost
counts_seen st s source triples cost e =
    let n = length (planes_for st (triangles s)) in
    let f = firsts (on_bytes (planes_for st (triangles s)) source) in
    let o = min st.max_reflection_order max_order in
    let limit = st.crossing_limit in
    (forecast limit n f o triples (cost_of limit n f o triples) refl).counts cost e
    (on_bytes (planes_for st (triangles s)) source) (on_length st s source) refl

-- ---- what is answered

seven_told : (q : Query) → (answered_of q).refusal ≡ 7 → q ≡ refused 7
seven_told (refused k) e = ap refused e
seven_told (given a) e = absurd (let z : ◌≡◌ {A = ℕ} 0 7 = e in omega arith)

images_told : (q : Query) (n : ℕ) → ((a : Answer) → q ≡ given a → a.images ≤ n) → (answered_of q).images ≤ n
images_told (refused k) n h = omega arith
images_told (given a) n h = h a refl

rays_told : (q : Query) (n : ℕ) → ((a : Answer) → q ≡ given a → a.rays ≤ n) → (answered_of q).rays ≤ n
rays_told (refused k) n h = omega arith
rays_told (given a) n h = h a refl

-- "room for that many never meets refusal 7", by what a call promises
pub foreseen :
    (st : Settings) (c : ℕ) (s : Scene) (source listener : Vec3) (separated : Bool) (r : Answered) (out out' : List ℕ) (areas left : Work) (triples : ℕ) (cost : Cost) →
    Traced st c s source listener separated r out out' areas left → forecast_of st s source triples ≡ Ok cost →
    Foreseen c cost r
foreseen st c s source listener separated r out out' areas left triples cost t e =
    let k = counts_seen st s source triples cost e in
    let silent = silent_of separated source listener (length (triangles s)) in
    let on = on_bytes (planes_for st (triangles s)) source in
    let order = min st.max_reflection_order max_order in
    let few : length (seen_of st s source listener separated) ≤ cost.candidates =
    subst (λ (n : ℕ). length (seen_of st s source listener separated) ≤ n) (sym k.candidates) (used_less length refl on silent order)
    in
    let limit = st.crossing_limit in
    let cheap : most_rays limit (seen_of st s source listener separated) ≤ cost.rays =
    subst (λ (n : ℕ). most_rays limit (seen_of st s source listener separated) ≤ n) (sym k.rays) (used_less (most_rays limit) (no_rays limit) on silent order)
    in
    let call = call_of st c s source listener separated areas out in
    subst (Foreseen c cost) (sym t.answer)
    (record {
      room = λ h z. never_seven st c s source listener separated areas out (le_trans few h) (seven_told call z);
      images = images_told call cost.candidates
          (λ a g. subst (λ (n : ℕ). n ≤ cost.candidates) (sym (images_seen st c s source listener separated areas out a g)) few);
      rays = rays_told call cost.rays (λ a g. le_trans (t.rays a g) cheap);
    })
