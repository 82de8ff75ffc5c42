-- `search::passed_over` meets its contract: no ray is added.
use mathlib.Core.Path.{◌≡◌, refl}
use Prim.Native.Nat.{ℕ, ◌+◌}
use native.Mathlib.Omega.{arith}
use Rattle.search.proofs.passed_over.Goals as goal

none_more : (n : ℕ) → n + 0 ≡ n
none_more n = omega arith

pub counted-requires : goal.counted-requires
counted-requires c = (c.requires, omega (arith, c.well_formed))

pub returns : goal.returns
returns c = rw (c.counted.ensures, none_more c.args.t.rays) refl
