-- `planes_importance::put_keys` meets its contract: the planes so far have their keys.
use mathlib.Core.Path.{◌≡◌}
use mathlib.Core.List.{map}
use lib.ListN.{length, take}
use Rattle.order.specs.Runs.{up_to}
use Rattle.geometry.specs.declared.Aabb.{Aabb}
use Rattle.columns.specs.Columns.{triangle_at_of}
use Rattle.mirror.specs.Rows.{row_of}
use Rattle.planes_importance.specs.Importance.{centre_of, half_diag_of, row_key_in}
use Rattle.planes_importance.proofs.Folds.{Keyed}
use Rattle.planes_importance.proofs.put_keys.Given as goal

abbrev pub invariant-loop-g : goal.invariant-loop-g
invariant-loop-g l =
    Keyed (length l.initial.index) l.index l.keys l.g
    × ((b : Aabb) → l.centre ≡ centre_of b → l.half_diag ≡ half_diag_of b → take l.g l.keys ≡ map (λ p. row_key_in (triangle_at_of l.triangles l.handles l.n) b (row_of l.group_floats l.group_words p) l.plane_triangles) (up_to l.g))
