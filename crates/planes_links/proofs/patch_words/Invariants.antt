-- `planes_links::patch_words` meets its contract: the loop keeps `Told`.
use mathlib.Core.Path.{◌≡◌}
use Prim.Native.Nat.{◌≤◌}
use lib.ListN.{length}
use Rattle.planes_links.proofs.Pushing.{Told, patch_test}
use Rattle.planes_links.proofs.patch_words.Given as goal

abbrev pub invariant-loop-i : goal.invariant-loop-i
invariant-loop-i l = (l.i ≤ l.m) × (l.k ≤ l.i) × (length l.words ≡ length l.initial.words) × Told (patch_test l.of l.np) l.words l.k l.i
