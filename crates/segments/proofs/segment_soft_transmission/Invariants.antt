-- `segments::segment_soft_transmission` meets its contract: after k turns the sum is that of the middle and k probes around it.
use mathlib.Core.Path.{◌≡◌}
use Prim.Native.Nat.{ℕ, ◌+◌, ◌-◌, ◌*◌, ◌≤◌}
use Rattle.geometry.specs.declared.Triangle.{Triangle}
use Rattle.tree_build.specs.Tree.{Tree}
use Rattle.segments.specs.Materials.{transmission_of_handle}
use Rattle.segments.specs.Segment.{probe_count, probes_of}
use Rattle.segments.specs.Areas.{trace_in, TreeReads}
use Rattle.segments.proofs.segment_soft_transmission.Given as goal

abbrev pub invariant-loop-k : goal.invariant-loop-k
invariant-loop-k l =
    (l.k ≤ probe_count)
    × ((tri : ℕ → Triangle) (t : Tree) → TreeReads l.bvh.padded.now l.bvh.nodes.now l.bvh.leaf_order.now l.bvh.leaves.now l.bvh.handles.now tri t →
    l.sum ≡ probes_of (trace_in tri t) (transmission_of_handle l.materials) l.crossing_limit l.probe_radius l.from l.to l.b l.k)
    × (l.sum.rays ≤ 2 * (l.crossing_limit + 1) * (l.k + 1))

abbrev pub decreases-loop-k : goal.decreases-loop-k
decreases-loop-k l = probe_count - l.k
