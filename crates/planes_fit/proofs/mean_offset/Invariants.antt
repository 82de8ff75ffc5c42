-- `planes_fit::mean_offset` meets its contract: the triangles from here on give what all give.
use mathlib.Core.Path.{◌≡◌}
use mathlib.Core.List.{foldl}
use lib.ListN.{drop}
use Rattle.columns.specs.Columns.{triangle_at_of}
use Rattle.planes_fit.specs.Fit.{heights_of}
use Rattle.planes_fit.proofs.mean_offset.Given as goal

abbrev pub invariant-loop-t : goal.invariant-loop-t
invariant-loop-t l =
    foldl (λ r i. heights_of l.normal r (triangle_at_of l.triangles l.handles l.n i)) l.s (drop l.t-index l.tris) ≡ foldl (λ r i. heights_of l.normal r (triangle_at_of l.triangles l.handles l.n i)) l.initial.s l.tris
