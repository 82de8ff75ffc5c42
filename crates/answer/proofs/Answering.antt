-- What is made of the search's end is the claim's query.
use mathlib.Core.Path.{◌≡◌, refl, sym, ap, subst, ◌∙◌}
use mathlib.Core.Bool.{Bool, true, false}
use mathlib.Core.List.{List, ◌++◌}
use Prim.Native.Nat.{ℕ, zero, suc}
use native.Mathlib.Omega.{arith}
use lib.Ieee.{Float}
use lib.ListN.{length, drop}
use Rattle.vector.specs.declared.Vec3.{Vec3}
use Rattle.geometry.specs.declared.Triangle.{Triangle}
use Rattle.scene.specs.declared.Settings.{Settings}
use Rattle.scene.specs.Speed.{speed_of}
use Rattle.ranking.specs.declared.Candidate.{Candidate}
use Rattle.ranking.specs.Candidate.{ranked}
use Rattle.claim.specs.Query.{Search, search, Query, refused, given, ended}
use Rattle.search.specs.Outcome.{on_bytes}
use Rattle.search.proofs.Answers.{search_answers}
use Rattle.scene_planes.specs.ScenePlanes.{planes_for}
use Rattle.answer.specs.Query.{path_for, search_for}
use Rattle.taps.specs.Tap.{packet_of}
use Rattle.taps.specs.Areas.{Sends}
use Rattle.answer.specs.declared.Answered.{Answered}
use Rattle.answer.specs.Answer.{query_for, by_refusal, Answers}

-- the end of a search over its room, and within
pub over_answer : (speed rate : Float) (limit m r : ℕ) (cs : List Candidate) (o : Bool) (q : Query) → o ≡ true → ended speed rate limit (search m r cs o) ≡ q → refused 7 ≡ q
unfolding ended
over_answer speed rate limit m r cs o q h e = sym (ap (λ (b : Bool). ended speed rate limit (search m r cs b)) h) ∙ e

pub given_answer :
    (speed rate : Float) (limit m r : ℕ) (cs : List Candidate) (o : Bool) (q : Query) → o ≡ false → ended speed rate limit (search m r cs o) ≡ q →
    given (record { images = m; rays = r; taps = ranked speed rate limit cs }) ≡ q
unfolding ended
given_answer speed rate limit m r cs o q h e = sym (ap (λ (b : Bool). ended speed rate limit (search m r cs b)) h) ∙ e

pub end_is :
    (st : Settings) (ts : List Triangle) (materials : List Float) (source listener : Vec3) (order room limit : ℕ) (w : Search) →
    w ≡ search_for st ts materials source listener order room →
    ended (speed_of st.temperature_celsius) st.sample_rate limit w ≡ query_for st ts materials source listener order room limit
end_is st ts materials source listener order room limit w e =
    search_answers (on_bytes (planes_for st ts) source) order room (path_for st ts materials source listener) (speed_of st.temperature_celsius) st.sample_rate limit w e

-- the packet that was written is the answer's
pub sent_answer :
    (images rays : ℕ) (taps : List Candidate) (count bytes : ℕ) (out out' : List ℕ) → count ≡ length taps → bytes ≡ length (packet_of images rays taps) → out' ≡ packet_of images rays taps ++ drop bytes out →
    Answers (given (record { images = images; rays = rays; taps = taps })) (record { refusal = 0; count = count; images = images; rays = rays; bytes = bytes }) out out'
sent_answer images rays taps count bytes out out' c b o =
    record {
      answer = rw (c, b);
      output = o ∙ ap (λ (k : ℕ). packet_of images rays taps ++ drop k out) b;
    }

-- ---- by the refusal handed in

pub by_some : (k : ℕ) (q : Query) → (k ≡ 0 → ⊥) → refused k ≡ by_refusal k q
by_some zero q n0 = absurd (n0 refl)
by_some (suc k) q n0 = refl

pub by_none : (k : ℕ) (q : Query) → k ≡ 0 → q ≡ by_refusal k q
by_none zero q e = refl
by_none (suc k) q e = absurd (omega arith)

pub by_same : (k : ℕ) (q q' : Query) (r : Answered) (out out' : List ℕ) → (k ≡ 0 → q ≡ q') → Answers (by_refusal k q) r out out' → Answers (by_refusal k q') r out out'
by_same zero q q' r out out' e h = subst (λ (x : Query). Answers x r out out') (e refl) h
by_same (suc k) q q' r out out' e h = h

-- what sending asks, with the list's limit as used
pub sends_limit :
    (n l l' images : ℕ) (fs : List Float) (ws keys index words scratch out : List ℕ) → l' ≡ l → Sends n l images fs ws keys index words scratch out →
    Sends n l' images fs ws keys index words scratch out
sends_limit n l l' images fs ws keys index words scratch out e h = subst (λ (k : ℕ). Sends n k images fs ws keys index words scratch out) (sym e) h
