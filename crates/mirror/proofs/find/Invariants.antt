-- `mirror::find` meets its contract: the triangles from here on give what all give.
use mathlib.Core.Path.{◌≡◌}
use Prim.Native.Nat.{ℕ}
use lib.ListN.{drop}
use Rattle.geometry.specs.declared.Triangle.{Triangle}
use Rattle.mirror.specs.Locate.{find_of}
use Rattle.mirror.specs.Rows.{AllRead}
use Rattle.mirror.proofs.find.Given as goal

abbrev pub invariant-loop-t : goal.invariant-loop-t
invariant-loop-t l =
    (tri : ℕ → Triangle) → AllRead tri l.triangles l.n l.plane_triangles → find_of tri l.p (drop l.t-index l.plane_triangles) ≡ find_of tri l.p l.plane_triangles
