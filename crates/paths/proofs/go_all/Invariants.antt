-- `paths::go_all` meets its contract: the bounces from k on are gone by.
use mathlib.Core.Path.{◌≡◌}
use Prim.Native.Nat.{ℕ, ◌+◌, ◌-◌, ◌*◌, ◌≤◌}
use lib.Seq.{slice}
use Rattle.geometry.specs.declared.Triangle.{Triangle}
use Rattle.tree_build.specs.Tree.{Tree}
use Rattle.segments.specs.Areas.{TreeReads}
use Rattle.paths.specs.Visibility.{go_all_of}
use Rattle.paths.specs.Areas.{soft_in}
use Rattle.paths.proofs.go_all.Given as goal

abbrev pub invariant-loop-k : goal.invariant-loop-k
invariant-loop-k l =
    (l.k ≤ l.order)
    × ((tri : ℕ → Triangle) (t : Tree) → TreeReads l.bvh.padded.now l.bvh.nodes.now l.bvh.leaf_order.now l.bvh.leaves.now l.bvh.handles.now tri t → l.w ≡ go_all_of (soft_in l.crossing_limit l.probe_radius tri t l.materials) l.initial.w (slice l.k l.order l.points))
    × (l.w.rays ≤ l.initial.w.rays + 18 * (l.crossing_limit + 1) * (l.order - l.k))
