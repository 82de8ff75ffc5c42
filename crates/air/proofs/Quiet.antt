-- Where no coefficient is above 0 the air takes nothing.
use Rattle.std.proofs.Common.{◌≡◌, ℕ, ◌*◌, true, T, eqb, pos, sym, refl, ap, ◌∙◌, subst, zero-mul, eqb→eq}
use lib.Ieee.{binary32, div, of_int, of_bits}
use lib.Ieee.Fits.{and_l, and_r}
use Rattle.float.specs.Literals.{one32}
use Rattle.bands.specs.Band8.{splat_of}
use Rattle.air.specs.Table.{factor_table}
use Rattle.air.specs.declared.Air.{Air}
use Rattle.air.specs.Air.{steps_in, factor_of_steps, band_of, bands_of}
use Rattle.air.specs.Kept.{still_of}

factor_none : factor_of_steps (steps_in 0) ≡ 16777216
unfolding steps_in factor_of_steps factor_table
factor_none = refl

all_left : div binary32 (of_int binary32 (pos 16777216)) (of_bits binary32 0x4b80_0000) ≡ one32
unfolding div of_int of_bits
all_left = refl

still_band : (c n : ℕ) → T (eqb c 0) → band_of c n ≡ one32
unfolding band_of
still_band c n h =
    ap (λ (k : ℕ). div binary32 (of_int binary32 (pos (factor_of_steps (steps_in k)))) (of_bits binary32 0x4b80_0000)) (ap (λ (x : ℕ). x * n) (eqb→eq c 0 h) ∙ zero-mul n)
    ∙ ap (λ (k : ℕ). div binary32 (of_int binary32 (pos k)) (of_bits binary32 0x4b80_0000)) factor_none
    ∙ all_left

pub still_bands : (a : Air) (n : ℕ) → still_of a ≡ true → bands_of a n ≡ splat_of one32
unfolding still_of bands_of splat_of
still_bands a n h =
    let z0 = subst T (sym h) tt in
    let z1 = and_r (eqb a.a0 0) _ z0 in
    let z2 = and_r (eqb a.a1 0) _ z1 in
    let z3 = and_r (eqb a.a2 0) _ z2 in
    let z4 = and_r (eqb a.a3 0) _ z3 in
    let z5 = and_r (eqb a.a4 0) _ z4 in
    let z6 = and_r (eqb a.a5 0) _ z5 in
    let z7 = and_r (eqb a.a6 0) _ z6 in
    rw (
      still_band a.a0 n (and_l (eqb a.a0 0) _ z0),
      still_band a.a1 n (and_l (eqb a.a1 0) _ z1),
      still_band a.a2 n (and_l (eqb a.a2 0) _ z2),
      still_band a.a3 n (and_l (eqb a.a3 0) _ z3),
      still_band a.a4 n (and_l (eqb a.a4 0) _ z4),
      still_band a.a5 n (and_l (eqb a.a5 0) _ z5),
      still_band a.a6 n (and_l (eqb a.a6 0) _ z6),
      still_band a.a7 n z7,
    )
