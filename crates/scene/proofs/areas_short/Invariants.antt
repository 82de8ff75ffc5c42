-- `scene::areas_short` meets its contract: a loop over the table, where from area i on one is short just where one of all is.
use mathlib.Core.Path.{◌≡◌}
use Prim.Native.Nat.{◌≤◌}
use lib.ListN.{drop}
use Rattle.scene.specs.Areas.{area_table, short_in, short_of}
use Rattle.scene.proofs.areas_short.Given as goal

abbrev pub invariant-loop-i : goal.invariant-loop-i
invariant-loop-i l = (l.i ≤ 20) × (short_in (drop l.i area_table) l.t l.c (drop l.i l.lens) ≡ short_of l.t l.c l.lens)
