-- `search::expand_images` meets its contract, by the laws of `proofs/Walks.antt`: each turn runs over one plane more, with all that goes on from it.
-- The measure is the order less the depth.
use Prim.Native.Nat.{◌+◌, ◌-◌, ◌≤◌}
use mathlib.Core.Path.{◌≡◌}
use lib.ListN.{length, take}
use Rattle.sequences.specs.Allowed.{upto, at}
use Rattle.search.specs.Contract.{search_areas, state, firsts_of, Walked}
use Rattle.search.proofs.+expand_images.Given as goal

abbrev pub decreases-expand_images : goal.decreases-expand_images
decreases-expand_images l = l.q.order - l.depth

abbrev pub invariant-loop-p : goal.invariant-loop-p
invariant-loop-p l =
    (l.p ≤ l.planes.count)
    × (length l.seq ≡ length l.initial.seq)
    × (length l.images ≡ length l.initial.images)
    × (length l.candidate_floats ≡ length l.initial.candidate_floats)
    × (length l.candidate_words ≡ length l.initial.candidate_words)
    × Walked (search_areas l.bvh l.materials l.planes) l.q l.depth (upto (at (firsts_of (search_areas l.bvh l.materials l.planes) l.q) (l.q.order - (l.depth + 1)) (take l.depth l.initial.seq)) l.p) (state l.initial.seq l.initial.images l.initial.s) l.initial.candidate_floats l.initial.candidate_words (state l.seq l.images l.s) l.candidate_floats l.candidate_words
