-- `tree_split::suffix_areas` meets its contract: from the back, the areas from i on are those of the boxes from each position on.
use mathlib.Core.Path.{◌≡◌}
use Prim.Native.Nat.{ℕ, ◌<◌, ◌≤◌}
use lib.ListN.{length, drop, get_or}
use lib.Ieee.{nan}
use Rattle.geometry.specs.Aabb.{surface_area_of}
use Rattle.tree_split.specs.Split.{aabb_at_of, suffix_of}
use Rattle.tree_split.proofs.suffix_areas.Given as goal

abbrev pub invariant-loop-i : goal.invariant-loop-i
invariant-loop-i l =
    (l.i ≤ length l.part) × (length l.areas ≡ length l.initial.areas) × (l.acc ≡ suffix_of (aabb_at_of l.extents) (drop l.i l.part))
    × ((k : ℕ) → l.i ≤ k → k < length l.part → get_or l.areas k nan ≡ surface_area_of (suffix_of (aabb_at_of l.extents) (drop k l.part)))
