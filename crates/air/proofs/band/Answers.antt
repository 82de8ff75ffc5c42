-- `air::band` meets its contract: what is cut off leaves nothing.
use Rattle.std.proofs.Common.{ℕ, ◌≤◌, min, pos, sym, ap, ◌∙◌, subst, arith}
use lib.Ieee.{Float, binary32, div, of_int, of_bits}
use Rattle.air.specs.Air.{band_of, steps_of, factor_of_steps}
use Rattle.air.specs.Kept.{most_steps}
use Rattle.air.proofs.Nothing.{cut_steps}
use Rattle.air.proofs.band.Goals as goal

pub factor-k-requires : goal.factor-k-requires
factor-k-requires c = record {
  table_value = c.requires.table_value;
  steps_le_most_steps = subst (λ (s : ℕ). s ≤ most_steps) (sym c.steps.ensures) (let e : min (steps_of c.args.coefficient c.args.millimetres) most_steps ≤ most_steps = omega arith in e);
}

pub returns : goal.returns
unfolding band_of
returns c =
    ap (λ (x : Float). div binary32 x (of_bits binary32 0x4b80_0000)) c.nearest_u32_to_f32.ensures
    ∙ ap (λ (k : ℕ). div binary32 (of_int binary32 (pos k)) (of_bits binary32 0x4b80_0000))
    (c.factor-k.ensures ∙ ap factor_of_steps c.steps.ensures ∙ cut_steps (steps_of c.args.coefficient c.args.millimetres))
