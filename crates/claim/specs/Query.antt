-- The query as its search goes: the sequences are visited one by one, and at most `room` candidates are held.
use Rattle.std.specs.Prelude.{ℕ, ◌+◌, Bool, true, false, cond, List, [], ◌∷◌, ◌++◌, length, ltb, Float}
use Rattle.sequences.specs.Allowed.{most, allowed, visited}
use Rattle.sequences.specs.Run.{run}
use Rattle.ranking.specs.declared.Candidate.{Candidate}
use Rattle.ranking.specs.Candidate.{ranked}
use Rattle.claim.specs.Answer.{Outcome, fails, passes, tap_of, found, Answer, answer_of}

-- what the search holds: images visited, rays traced, the candidates, and whether one found no room
pub record Search : Type 0 where
  pub images : ℕ
  pub rays : ℕ
  pub taps : List Candidate
  pub over : Bool

abbrev pub search : ℕ → ℕ → List Candidate → Bool → Search
search n r cs o = record { images = n; rays = r; taps = cs; over = o }

-- one visit, by what its path came to
abbrev pub judged : ℕ → Outcome → Search → List ℕ → Search
judged room (fails r) w s = search (w.images + 1) (w.rays + r) w.taps w.over
judged room (passes r f) w s =
    search (w.images + 1) (w.rays + r)
    (cond (ltb (length w.taps) room) (w.taps ++ tap_of (w.images + 1) s f ∷ []) w.taps)
    (cond (ltb (length w.taps) room) w.over true)

-- one visit
unfoldable pub visit_path : ℕ → (List ℕ → Outcome) → Search → List ℕ → Search
visit_path room path w s = judged room (path s) w s

-- the whole search
abbrev pub searched : List ℕ → ℕ → ℕ → (List ℕ → Outcome) → Search
searched on order room path = run (λ (w : Search). w.images) (visit_path room path) most (search 0 0 [] false) (allowed on order)

-- a query gives an answer, or is refused with a number
pub data Query : Type 0 where
  refused : ℕ → Query
  given : Answer → Query

-- refusal 7: more than `room` candidates pass
unfoldable pub query_of : List ℕ → ℕ → Float → Float → ℕ → ℕ → (List ℕ → Outcome) → Query
query_of on order speed rate limit room path =
    elim (ltb room (length (found path 1 (visited on order)))) [ true ↦ refused 7 | false ↦ given (answer_of on order speed rate limit path) ]

-- the same, from what the search holds at its end
unfoldable pub ended : Float → Float → ℕ → Search → Query
ended speed rate limit w =
    elim w.over [ true ↦ refused 7 | false ↦ given (record { images = w.images; rays = w.rays; taps = ranked speed rate limit w.taps }) ]
