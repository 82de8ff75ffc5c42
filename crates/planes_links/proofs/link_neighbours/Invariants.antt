-- `planes_links::link_neighbours` meets its contract: the loop keeps that what is there, and what the rest will add, is the whole.
use mathlib.Core.Path.{◌≡◌}
use Prim.Native.Nat.{◌+◌, ◌-◌, ◌*◌, ◌≤◌}
use lib.ListN.{length}
use Rattle.planes_links.proofs.Linking.{Adding}
use Rattle.planes_links.proofs.link_neighbours.Given as goal

abbrev pub invariant-loop-i : goal.invariant-loop-i
invariant-loop-i l = (l.k + 2 ≤ l.from + 2 * l.i) × (l.k ≤ l.from + 8 * length l.row) × (length l.words ≡ length l.initial.words) × Adding l.row l.initial.words l.from l.words l.k (l.i - 1)
