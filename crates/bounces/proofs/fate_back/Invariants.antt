-- `bounces::fate_back` meets its contract: the fate from here on is that of the whole way.
use mathlib.Core.Path.{◌≡◌}
use mathlib.Core.List.{[]}
use Prim.Native.Nat.{ℕ, ◌≤◌}
use lib.Ieee.{Float}
use Rattle.float.specs.Literals.{one32}
use Rattle.geometry.specs.declared.Triangle.{Triangle}
use Rattle.mirror.specs.Rows.{planes_in}
use Rattle.bounces.specs.Bounces.{back_of, plane_on}
use Rattle.bounces.specs.Areas.{PlanesRead, fate_of, point_in}
use Rattle.bounces.proofs.fate_back.Given as goal

abbrev pub invariant-loop-k : goal.invariant-loop-k
invariant-loop-k l =
    (l.k ≤ l.order)
    × ((tri : ℕ → Triangle) (fade : Float) → PlanesRead tri l.planes.triangles.now l.planes.n l.planes.floats.now l.planes.words.now l.planes.members.now l.planes.count →
    fate_of (back_of tri fade (plane_on (planes_in l.planes.floats.now l.planes.words.now l.planes.members.now l.planes.edges.now l.planes.count) l.seq) (point_in l.images) l.order l.initial.prev one32 [] [])
    ≡ fate_of (back_of tri fade (plane_on (planes_in l.planes.floats.now l.planes.words.now l.planes.members.now l.planes.edges.now l.planes.count) l.seq) (point_in l.images) l.k l.prev one32 [] []))
