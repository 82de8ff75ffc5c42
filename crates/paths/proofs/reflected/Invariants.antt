-- `paths::reflected` meets its contract: the triangles from k on are still to be multiplied in.
use mathlib.Core.Path.{◌≡◌}
use mathlib.Core.List.{foldl}
use Prim.Native.Nat.{ℕ, ◌-◌, ◌≤◌}
use lib.ListN.{get_or, take}
use lib.Seq.{slice}
use Rattle.geometry.specs.declared.Triangle.{Triangle}
use Rattle.bands.specs.declared.Band8.{Band8}
use Rattle.bands.specs.Band8.{mul_of}
use Rattle.segments.specs.Materials.{reflection_of_handle}
use Rattle.paths.proofs.reflected.Given as goal

abbrev pub invariant-loop-k : goal.invariant-loop-k
invariant-loop-k l =
    (l.k ≤ l.order)
    × ((tri : ℕ → Triangle) → ((i : ℕ) → (tri i).material_handle ≡ get_or l.handles i 0) →
    foldl (λ (g : Band8) (i : ℕ). mul_of g (reflection_of_handle l.materials (tri i).material_handle)) l.product (slice l.k l.order l.tris)
    ≡ foldl (λ (g : Band8) (i : ℕ). mul_of g (reflection_of_handle l.materials (tri i).material_handle)) l.initial.product (take l.order l.tris))

abbrev pub decreases-loop-k : goal.decreases-loop-k
decreases-loop-k l = l.order - l.k
