-- What a query asks of the search's end: the paths that pass are proper, so that the rows can be ranked.
--     paths_proper      a path that passes has an energy and a delay that the claim asks for, where the settings are within their limits
--     rows_rankable     each row of the search's end can be ranked
--     search_answers    what is made of the search's end is the query's answer
use Prim.Native.Nat.{ℕ, ◌<◌, ◌^◌}
use mathlib.Core.Path.{◌≡◌, refl, ap, subst, ◌∙◌}
use mathlib.Core.Bool.{Bool}
use mathlib.Core.Logic.{inl, inr}
use mathlib.Core.List.{List, [], ◌∷◌, map}
use native.Mathlib.Omega.{arith}
use lib.Dec.{T}
use lib.Ieee.{Float, nan}
use lib.ListN.{take}
use Rattle.vector.specs.declared.Vec3.{Vec3}
use Rattle.geometry.specs.declared.Triangle.{Triangle}
use Rattle.tree_build.specs.Tree.{Tree}
use Rattle.order.specs.Runs.{up_to}
use Rattle.order.proofs.Runs.{In, in_up_to}
use Rattle.scene.specs.declared.Settings.{Settings}
use Rattle.scene.specs.Limits.{rates_of}
use Rattle.mirror.specs.Plane.{Plane}
use Rattle.sequences.specs.Allowed.{visited}
use Rattle.sequences.specs.Members.{IsAllowed}
use Rattle.sequences.proofs.Numbers.{is_visited}
use Rattle.ranking.specs.declared.Candidate.{Candidate}
use Rattle.ranking.specs.Lists.{Has}
use Rattle.ranking.specs.Rows.{candidate_at, candidates_in, AllRankable}
use Rattle.ranking.proofs.Members.{has_take}
use Rattle.paths.specs.declared.PathCandidate.{PathCandidate}
use Rattle.paths.specs.declared.Fate.{Fate}
use Rattle.paths.specs.declared.Fate.TheVariants.{TooFar, NotCrossed, OffSurface, TooLong, Faded, Blocked, Faint, Passed}
use Rattle.paths.specs.Path.{path_of}
use Rattle.paths.specs.Numbers.{Numbers}
use Rattle.paths.proofs.Numbers.{path_numbers}
use Rattle.claim.specs.Answer.{Found, Outcome, fails, passes, found, Proper}
use Rattle.claim.specs.Query.{Search, search, searched, query_of, ended}
use Rattle.claim.proofs.Whole.{rankable}
use Rattle.claim.proofs.Searching.{searched_is, search_query}
use Rattle.search.specs.Outcome.{found_of, by_fate, outcome_of, outcomes_of}

-- ---- paths

abbrev is_fail : Outcome → ℕ
is_fail (fails r) = 1
is_fail (passes r f) = 0

pub never : {A : Type 0} (q r : ℕ) (f : Found) → fails q ≡ passes r f → A
never q r f e = absurd (let no : ◌≡◌ {A = ℕ} 1 0 = ap is_fail e in omega arith)

abbrev what_of : Found → Outcome → Found
what_of d (fails r) = d
what_of d (passes r f) = f

proper_of : (c : PathCandidate) → Numbers c → Proper (found_of c)
proper_of c n = record { energy_fits = n.energy_fits; energy_number = n.energy_number; delay_fits = n.delay_fits; delay_number = n.delay_number }

-- where a fate is that of a path that passes, it is `Passed`
by_fate_lem : (o : Fate) (q r : ℕ) (f : Found) → ((c : PathCandidate) → o ≡ Passed c → Numbers c) → by_fate o q ≡ passes r f → Proper f
by_fate_lem TooFar q r f n e = never q r f e
by_fate_lem NotCrossed q r f n e = never q r f e
by_fate_lem OffSurface q r f n e = never q r f e
by_fate_lem TooLong q r f n e = never q r f e
by_fate_lem Faded q r f n e = never q r f e
by_fate_lem Blocked q r f n e = never q r f e
by_fate_lem Faint q r f n e = never q r f e
by_fate_lem (Passed c) q r f n e = subst Proper (ap (what_of f) e) (proper_of c (n c refl))

module _ (s : Settings) (planes : List Plane) (tri : ℕ → Triangle) (t : Tree) (materials : List Float) (source listener : Vec3)
    (within : T (rates_of s.max_reflection_distance s.temperature_celsius s.sample_rate)) where
  pub paths_proper :
      (on : List ℕ) (order : ℕ) (seq : List ℕ) (r : ℕ) (f : Found) → IsAllowed on order seq →
      outcomes_of s planes tri t materials source listener seq ≡ passes r f → Proper f
  unfolding outcome_of path_of
  paths_proper on order seq r f a e =
      by_fate_lem (path_of s planes tri t materials source listener seq).fate (path_of s planes tri t materials source listener seq).rays r f
      (path_numbers s.crossing_limit s.probe_radius s planes tri t materials source listener seq within a.some) e

-- ---- rows

pub map_has : (f : ℕ → Candidate) (i : ℕ) (l : List ℕ) → In i l → Has (f i) (map f l)
unfolding In
map_has f i [] k = absurd k
map_has f i (x ∷ l) (inl e) = inl (ap f e)
map_has f i (x ∷ l) (inr k) = inr (map_has f i l k)

module _ (on : List ℕ) (order : ℕ) (path : List ℕ → Outcome) (small : order < 2 ^ 32)
    (proper : (s : List ℕ) (r : ℕ) (f : Found) → IsAllowed on order s → path s ≡ passes r f → Proper f) where
  pub rows_rankable :
      (room n : ℕ) (fs : List Float) (ws : List ℕ) (m r : ℕ) (o : Bool) → search m r (candidates_in n fs ws) o ≡ searched on order room path → AllRankable n fs ws
  unfolding AllRankable
  rows_rankable room n fs ws m r o e i h =
      let taps : candidates_in n fs ws ≡ take room (found path 1 (visited on order)) = ap (λ (w : Search). w.taps) (e ∙ searched_is on order room path) in
      let here : Has (candidate_at fs ws i) (take room (found path 1 (visited on order))) = subst (Has (candidate_at fs ws i)) taps (map_has (candidate_at fs ws) i (up_to n) (in_up_to n i h)) in
      rankable on order nan nan 0 path small proper (visited on order) (is_visited on order) (candidate_at fs ws i) (has_take (candidate_at fs ws i) room (found path 1 (visited on order)) here)

-- ---- the answer

pub search_answers :
    (on : List ℕ) (order room : ℕ) (path : List ℕ → Outcome) (speed rate : Float) (limit : ℕ) (w : Search) → w ≡ searched on order room path →
    ended speed rate limit w ≡ query_of on order speed rate limit room path
search_answers on order room path speed rate limit w e = ap (ended speed rate limit) e ∙ search_query on order speed rate limit room path
