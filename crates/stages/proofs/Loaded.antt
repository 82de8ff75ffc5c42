-- What the answer of `load_scene` says of the numbers that `biv_load_scene` gives for it.
use mathlib.Core.Path.{◌≡◌, sym, ◌∙◌}
use mathlib.Core.List.{List}
use Prim.Native.Nat.{ℕ, zero, suc}
use native.Mathlib.Omega.{arith}
use borrow.Author.Tests.{ne_eqb}
use lib.Dec.{eqb}
use lib.Ieee.{Float}
use mathlib.Core.Bool.{false}
use lib.ListN.{set}
use Rattle.scene.specs.Scene.{Scene}
use Rattle.placing.specs.Loading.{LoadSaid, Refused, Triangles, loaded_of, Loading}
use Rattle.placing.proofs.Accepts.{counted}
use Rattle.stages.specs.Loads.{Loads}

-- a refusal is said with its number, which is not 0
refused_is : (k j : ℕ) (s : Scene) → Refused j ≡ loaded_of k s → j ≡ k
refused_is zero j s e = let z : ◌≡◌ {A = ℕ} 0 1 = cc in absurd (omega arith)
refused_is (suc k) j s e = cc

not_zero : (k j : ℕ) (s : Scene) → Refused j ≡ loaded_of k s → k ≡ 0 → ⊥
not_zero zero j s e z = let o : ◌≡◌ {A = ℕ} 0 1 = cc in absurd (omega arith)
not_zero (suc k) j s e z = omega arith

module _
    (k : ℕ) (s : Scene) (columns : List Float) (handles found : List ℕ) (r : LoadSaid) (columns' : List Float) (handles' : List ℕ)
    (l : Loading k s columns handles r columns' handles')
  where
    pub loads_refused : (j : ℕ) → r ≡ Refused j → Loads k s columns handles found j columns' handles' found
    loads_refused zero e = absurd (let a = sym e ∙ l.answer in not_zero k 0 s a (sym (refused_is k 0 s a)))
    loads_refused (suc j) e =
        let same : suc j ≡ k = refused_is k (suc j) s (sym e ∙ l.answer) in
        let other : eqb (suc j) 0 ≡ false = ne_eqb (suc j) 0 (λ z. omega arith) in
        record {
          refusal = same;
          filled = l.filled;
          named = l.named;
          counts = rw (← same, other);
        }

    pub loads_kept : (a b t : ℕ) → r ≡ Triangles a b t → Loads k s columns handles found 0 columns' handles' (set (set (set found 0 a) 1 b) 2 t)
    loads_kept a b t e =
        let c = counted k a b t s (sym e ∙ l.answer) in
        record {
          refusal = sym c.none;
          filled = l.filled;
          named = l.named;
          counts = rw (c.none, c.kept, c.placed, c.whole);
        }
