-- A query whose planes allow one sequence, or none.
use Prim.Native.Nat.{ℕ, suc, ◌+◌}
use mathlib.Core.Path.{◌≡◌, refl, ap, ◌∙◌}
use mathlib.Core.Bool.{true, false}
use mathlib.Core.List.{List, [], ◌∷◌}
use lib.ListN.{length}
use lib.Dec.{ltb}
use lib.Ieee.{Float}
use Rattle.ranking.specs.Lists.{insert_by, sorted, duplicates_any, kept_after}
use Rattle.ranking.specs.Candidate.{ranked}
use Rattle.sequences.specs.Allowed.{upto, may, below, visited}
use Rattle.claim.specs.Answer.{Found, Outcome, fails, passes, rays_of, tap_of, found, rays_for, Answer}
use Rattle.claim.specs.Query.{Query, refused, given, query_of}

-- the one plane may come first, and nothing may follow it
pub one_seen : visited (0 ∷ []) 3 ≡ (0 ∷ []) ∷ []
unfolding below upto may
one_seen = refl

-- the source lies on the one plane
pub none_seen : visited (1 ∷ []) 3 ≡ []
unfolding below upto may
none_seen = refl

-- the query by the sequences that are visited
abbrev asked : Float → Float → ℕ → ℕ → (List ℕ → Outcome) → List (List ℕ) → Query
asked speed rate limit room path seen =
    elim (ltb room (length (found path 1 seen))) [
      | true ↦ refused 7
      | false ↦ given (record { images = length seen; rays = rays_for path seen; taps = ranked speed rate limit (found path 1 seen) })
    ]

asks :
    (on : List ℕ) (order : ℕ) (speed rate : Float) (limit room : ℕ) (path : List ℕ → Outcome) (seen : List (List ℕ)) →
    visited on order ≡ seen → query_of on order speed rate limit room path ≡ asked speed rate limit room path seen
unfolding query_of
asks on order speed rate limit room path seen h = ap (asked speed rate limit room path) h

-- what one sequence's path comes to decides the query
abbrev alone : Float → Float → ℕ → Outcome → Query
alone speed rate limit o = asked speed rate limit 1 (λ s. o) ((0 ∷ []) ∷ [])

-- the one path passes: its tap is the answer's list
one_asked :
    (speed rate : Float) (path : List ℕ → Outcome) (r : ℕ) (f : Found) → path (0 ∷ []) ≡ passes r f →
    asked speed rate 16 1 path ((0 ∷ []) ∷ []) ≡ given (record { images = 1; rays = r + 0; taps = tap_of 1 (0 ∷ []) f ∷ [] })
unfolding found rays_for rays_of sorted insert_by duplicates_any kept_after
one_asked speed rate path r f e = ap (alone speed rate 16) e

pub one_passes :
    (on : List ℕ) (order : ℕ) (speed rate : Float) (path : List ℕ → Outcome) (r : ℕ) (f : Found) →
    visited on order ≡ (0 ∷ []) ∷ [] → path (0 ∷ []) ≡ passes r f →
    query_of on order speed rate 16 1 path ≡ given (record { images = 1; rays = r + 0; taps = tap_of 1 (0 ∷ []) f ∷ [] })
one_passes on order speed rate path r f h e =
    asks on order speed rate 16 1 path ((0 ∷ []) ∷ []) h ∙ one_asked speed rate path r f e

-- no sequence is allowed
none_asked : (speed rate : Float) (limit : ℕ) (path : List ℕ → Outcome) → asked speed rate (suc limit) 1 path [] ≡ given (record { images = 0; rays = 0; taps = [] })
unfolding found rays_for sorted kept_after
none_asked speed rate limit path = refl

pub nothing_seen :
    (on : List ℕ) (order : ℕ) (speed rate : Float) (limit : ℕ) (path : List ℕ → Outcome) →
    visited on order ≡ [] → query_of on order speed rate (suc limit) 1 path ≡ given (record { images = 0; rays = 0; taps = [] })
nothing_seen on order speed rate limit path h = asks on order speed rate (suc limit) 1 path [] h ∙ none_asked speed rate limit path

-- the one path passes or not: one image, whatever is found
abbrev whatever : Float → Float → ℕ → (List ℕ → Outcome) → Answer
whatever speed rate limit path =
    record { images = 1; rays = rays_for path ((0 ∷ []) ∷ []); taps = ranked speed rate limit (found path 1 ((0 ∷ []) ∷ [])) }

alone_either : (speed rate : Float) (limit : ℕ) (o : Outcome) → alone speed rate limit o ≡ given (whatever speed rate limit (λ s. o))
unfolding found
alone_either speed rate limit (fails r) = refl
alone_either speed rate limit (passes r f) = refl

one_either :
    (speed rate : Float) (limit : ℕ) (path : List ℕ → Outcome) →
    asked speed rate limit 1 path ((0 ∷ []) ∷ []) ≡ given (whatever speed rate limit path)
unfolding found rays_for
one_either speed rate limit path = alone_either speed rate limit (path (0 ∷ []))

pub one_image :
    (on : List ℕ) (order : ℕ) (speed rate : Float) (limit : ℕ) (path : List ℕ → Outcome) →
    visited on order ≡ (0 ∷ []) ∷ [] → (a : Answer) × (query_of on order speed rate limit 1 path ≡ given a) × (a.images ≡ 1)
one_image on order speed rate limit path h =
    (whatever speed rate limit path, asks on order speed rate limit 1 path ((0 ∷ []) ∷ []) h ∙ one_either speed rate limit path, refl)
