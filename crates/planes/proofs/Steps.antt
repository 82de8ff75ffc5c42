-- What one step of `build_planes` gives the next.
use mathlib.Core.Bool.{Bool}
use mathlib.Core.List.{List}
use Prim.Native.Nat.{ℕ, ◌+◌, ◌*◌, ◌≤◌}
use native.Mathlib.Omega.{arith}
use lib.Ieee.{Float}
use Rattle.vector.specs.declared.Vec3.{Vec3}
use Rattle.planes_faces.specs.Key.{Key}
use Rattle.planes_faces.specs.Numbers.{Numbered}
use Rattle.planes_links.specs.Links.{Numbers}
use Rattle.planes_groups.specs.Settings.{Settings}

-- settings of which only the merging counts
abbrev pub merge_settings : Bool → Float → Float → Settings
merge_settings on least most = record { most = 0; merge_on = on; merge_cos = least; merge_offset = most; buried = least }

-- the numbers of all vertices are those of the first m triangles'
pub numbered_fewer : (key : Vec3 → Key) (area : List Float) (n m : ℕ) (id : List ℕ) → m ≤ n → Numbered key area n n id → Numbered key area n m id
numbered_fewer key area n m id h k = record { same = λ c d i j cl dl il jl. k.same c d i j cl dl (omega arith) (omega arith); low = k.low }

pub vertex_numbers : (key : Vec3 → Key) (area : List Float) (n m : ℕ) (id : List ℕ) → m ≤ n → Numbered key area n n id → Numbers id n m (3 * n)
vertex_numbers key area n m id h k =
    record { first = λ i l. k.low i (omega arith); second = λ i l. k.low (n + i) (omega arith); third = λ i l. k.low (2 * n + i) (omega arith) }
