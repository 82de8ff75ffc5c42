-- `scene::whole_triples` meets its contract: a loop over the headers: what is counted and what is left make the sum, until it would pass the limit.
use mathlib.Core.Path.{◌≡◌}
use Prim.Native.Nat.{◌*◌, ◌+◌, ◌≤◌}
use lib.ListN.{drop}
use Rattle.scene.specs.Scene.{headers, triple_sum}
use Rattle.scene.proofs.whole_triples.Given as goal

abbrev pub invariant-loop-i : goal.invariant-loop-i
invariant-loop-i l = (l.t ≤ 4096) × (l.t + triple_sum (headers (drop (3 * l.i) l.meshes)) ≡ triple_sum (headers l.meshes))
