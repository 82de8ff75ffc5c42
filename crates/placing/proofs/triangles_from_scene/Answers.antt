-- `placing::triangles_from_scene` meets its contract: where the run ended (`Ends` of proofs/Readback.antt), the areas are cleared or read as the triangles.
use native.Mathlib.Omega.{arith}
use Rattle.placing.proofs.Readback.{passed_far, passed_kept}
use Rattle.placing.proofs.triangles_from_scene.Goals as goal

pub returns-then-st : goal.returns-then-st
returns-then-st c = passed_far _ _ _ _ _ _ _ c.place_all-st.ensures.result_after _ _ c.if-st.true (omega arith) (omega arith) (c.fill.ensures.after (λ y e. e)) (c.fill-then-st.ensures.after (λ y e. e))

pub returns : goal.returns
returns c = let pre = c.requires in
    passed_kept _ _ _ _ _ _ _ c.place_all-st.ensures.result_after c.if-st.false pre.n_in_bounds pre.n_in_bounds_2 c.place_all-st.ensures.kept_le_n
