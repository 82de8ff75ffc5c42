-- `search::next_near` meets its contract: each turn runs over one plane more, by the laws of `proofs/Walks.antt`.
use Prim.Native.Nat.{ℕ, ◌-◌, ◌≤◌}
use mathlib.Core.List.{List}
use lib.Ieee.{Float}
use Rattle.tree_trace.specs.declared.FlatBvh.{FlatBvh}
use Rattle.search.specs.Contract.{search_areas, Skips}
use Rattle.search.proofs.next_near.Given as goal

abbrev pub invariant-loop-p : goal.invariant-loop-p
invariant-loop-p l =
    (l.p ≤ l.planes.count)
    × (l.from ≤ l.p)
    × ((b : FlatBvh) (materials : List Float) →
    Skips (search_areas b materials l.planes) l.q l.depth l.seq l.images l.from l.initial.s l.p l.s)
