-- `planes_fit::sums_of` meets its contract: the patches from here on give what all give.
use mathlib.Core.Path.{◌≡◌}
use mathlib.Core.List.{foldl}
use lib.ListN.{drop}
use Rattle.planes_patches.specs.Rows.{row_in}
use Rattle.planes_fit.specs.Rows.{summed_of}
use Rattle.planes_fit.proofs.sums_of.Given as goal

abbrev pub invariant-loop-patch : goal.invariant-loop-patch
invariant-loop-patch l =
    foldl (λ r p. summed_of l.normal r (row_in l.rows p)) l.s (drop l.patch-index l.group) ≡ foldl (λ r p. summed_of l.normal r (row_in l.rows p)) l.initial.s l.group
