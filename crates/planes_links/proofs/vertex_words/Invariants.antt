-- `planes_links::vertex_words` meets its contract: the loop keeps `Told`, three words a triangle.
use mathlib.Core.Path.{◌≡◌}
use Prim.Native.Nat.{◌*◌, ◌≤◌}
use lib.ListN.{length}
use Rattle.planes_links.specs.Links.{has_corner}
use Rattle.planes_links.proofs.Pushing.{Told}
use Rattle.planes_links.proofs.vertex_words.Given as goal

abbrev pub invariant-loop-i : goal.invariant-loop-i
invariant-loop-i l = (l.i ≤ l.m) × (l.k ≤ 3 * l.i) × (length l.words ≡ length l.initial.words) × Told (has_corner l.numbers l.n l.of l.np) l.words l.k l.i
