-- The material table, which document 01 puts in place of `dyn MaterialProvider`: a row of 16 floats a handle, eight absorptions and eight
-- transmissions. So what a surface lets through or reflects depends on its handle alone.
use Rattle.std.specs.Prelude.{ℕ, ◌+◌, ◌*◌, Float, get_or, cond, List}
use Rattle.std.specs.Float.{nan, binary32}
use Rattle.std.specs.Float.Ieee.{sub}
use Rattle.float.specs.Literals.{zero32, one32}
use Rattle.float.specs.Compare.{clamp_of, is_finite}
use Rattle.float.specs.Sqrt.{sqrt_of}
use Rattle.bands.specs.declared.Band8.{Band8}
use Rattle.bands.specs.Band8.{each}

abbrev pub material_floats : ℕ
material_floats = 16

-- eight floats from a place on
unfoldable pub bands_of_floats : List Float → ℕ → Band8
bands_of_floats l at =
    record {
      b0 = get_or l at nan;
      b1 = get_or l (at + 1) nan;
      b2 = get_or l (at + 2) nan;
      b3 = get_or l (at + 3) nan;
      b4 = get_or l (at + 4) nan;
      b5 = get_or l (at + 5) nan;
      b6 = get_or l (at + 6) nan;
      b7 = get_or l (at + 7) nan;
    }

-- `t.0[b].clamp(0.0, 1.0)` of `segment_transmission`; a NaN stays
unfoldable pub clamped_of : Band8 → Band8
clamped_of a = each (λ x. clamp_of x zero32 one32) a

-- what a surface of this handle lets through
unfoldable pub transmission_of_handle : List Float → ℕ → Band8
transmission_of_handle materials handle = clamped_of (bands_of_floats materials (material_floats * handle + 8))

-- `(1.0 - a).sqrt()` of `path_candidate`: an absorption that is not finite takes all
unfoldable pub coefficient_of : Float → Float
coefficient_of a = sqrt_of (sub binary32 one32 (cond (is_finite a) (clamp_of a zero32 one32) one32))

unfoldable pub coefficients_of : Band8 → Band8
coefficients_of a = each coefficient_of a

-- what a surface of this handle reflects
unfoldable pub reflection_of_handle : List Float → ℕ → Band8
reflection_of_handle materials handle = coefficients_of (bands_of_floats materials (material_floats * handle))
