-- `planes_groups::is_within` meets its contract: the loop holds that the triangles so far passed.
use mathlib.Core.Path.{◌≡◌}
use Prim.Native.Nat.{◌≤◌}
use lib.ListN.{length, drop}
use Rattle.planes_groups.specs.Groups.{lies_near}
use Rattle.columns.specs.Columns.{triangle_at_of}
use Rattle.planes_patches.specs.Lists.{all_by}
use Rattle.planes_patches.specs.Triangles.{corners_of}
use Rattle.planes_links.specs.Words.{lows}
use Rattle.planes_groups.proofs.is_within.Given as goal

abbrev pub invariant-loop-tri : goal.invariant-loop-tri
invariant-loop-tri l = (l.tri-index ≤ length l.tris) × (all_by (λ t. all_by (lies_near l.normal l.offset l.most) (corners_of (triangle_at_of l.triangles l.handles l.n t))) (drop l.tri-index (lows l.tris)) ≡ all_by (λ t. all_by (lies_near l.normal l.offset l.most) (corners_of (triangle_at_of l.triangles l.handles l.n t))) (lows l.tris))
