-- `search::last_planes` meets its contract: the planes up to the next near one were run over, then that one is (`proofs/Walks.antt`).
use Prim.Native.Nat.{◌+◌, ◌-◌, ◌≤◌}
use mathlib.Core.Path.{◌≡◌}
use lib.ListN.{length, take}
use Rattle.sequences.specs.Allowed.{upto, at}
use Rattle.search.specs.Contract.{search_areas, state, firsts_of, Walked}
use Rattle.search.proofs.last_planes.Given as goal

abbrev pub invariant-loop-p : goal.invariant-loop-p
invariant-loop-p l =
    (l.p ≤ l.planes.count)
    × (length l.seq ≡ length l.initial.seq)
    × (length l.images ≡ length l.initial.images)
    × (length l.candidate_floats ≡ length l.initial.candidate_floats)
    × (length l.candidate_words ≡ length l.initial.candidate_words)
    × Walked (search_areas l.bvh l.materials l.planes) l.q l.depth (upto (at (firsts_of (search_areas l.bvh l.materials l.planes) l.q) (l.q.order - (l.depth + 1)) (take l.depth l.initial.seq)) l.p) (state l.initial.seq l.initial.images l.initial.s) l.initial.candidate_floats l.initial.candidate_words (state l.seq l.images l.s) l.candidate_floats l.candidate_words

abbrev pub decreases-loop-p : goal.decreases-loop-p
decreases-loop-p l = l.planes.count - l.p
