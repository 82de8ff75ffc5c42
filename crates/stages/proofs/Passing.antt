-- What the answer of the pass says of the numbers that `biv_triangles_from_scene` gives for it.
use mathlib.Core.Path.{◌≡◌, sym, ap, ap₂, subst, ◌∙◌}
use mathlib.Core.List.{List}
use Prim.Native.Nat.{ℕ}
use lib.Ieee.{Float}
use lib.ListN.{set}
use Rattle.scene.specs.Scene.{Mesh}
use Rattle.placing.specs.declared.Placed.{Placed}
use Rattle.std.specs.Prelude.{Ok, Err}
use Rattle.refusals.specs.declared.Refusal.{Refusal}
use Rattle.refusals.specs.Numbers.{number_of, number_told}
use Rattle.placing.specs.TwoPasses.{count_told}
use Rattle.placing.specs.Corners.{corners_all}
use Rattle.placing.specs.Passing.{placed_of, PassedOver}
use Rattle.stages.specs.Passes.{Passes}

module _
    (ms : List Mesh) (n : ℕ) (columns : List Float) (handles found : List ℕ) (r : Placed) (columns' : List Float) (handles' : List ℕ)
    (p : PassedOver (corners_all ms) n columns handles r columns' handles')
  where
    is_passed : PassedOver (corners_all ms) n columns handles (placed_of (corners_all ms)) columns' handles'
    is_passed = subst (λ (x : Placed). PassedOver (corners_all ms) n columns handles x columns' handles') p.answer p

    pub passes_far : (e : Refusal) → r.kept ≡ Err e → Passes ms n columns handles found (number_of e) columns' handles' (set (set found 0 0) 1 r.placings)
    passes_far e is =
        let k = sym is ∙ ap (λ (x : Placed). x.kept) p.answer in
        record {
          passed = is_passed;
          refusal = ap number_told k;
          counts = ap₂ (λ (x y : ℕ). set (set found 0 x) 1 y) (ap count_told k) (ap (λ (x : Placed). x.placings) p.answer);
        }

    pub passes_kept : (k : ℕ) → r.kept ≡ Ok k → Passes ms n columns handles found 0 columns' handles' (set (set found 0 k) 1 r.placings)
    passes_kept n is =
        let k = sym is ∙ ap (λ (x : Placed). x.kept) p.answer in
        record {
          passed = is_passed;
          refusal = ap number_told k;
          counts = ap₂ (λ (x y : ℕ). set (set found 0 x) 1 y) (ap count_told k) (ap (λ (x : Placed). x.placings) p.answer);
        }
