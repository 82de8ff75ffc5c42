-- How far the code of `air` works numbers out. proofs/Nothing proves that beyond it nothing is left.
use Rattle.std.specs.Prelude.{ℕ, ◌^◌, Bool, ◌&&◌, ◌==◌}
use Rattle.air.specs.declared.Air.{Air}

-- a longer path counts as this long: any coefficient but 0 leaves nothing of it
abbrev pub most_millimetres : ℕ
most_millimetres = 268435456000

-- from so many steps on nothing is left
abbrev pub most_steps : ℕ
most_steps = 3200

-- products of coefficient and millimetres up to this fit a u64 with what is added to them
abbrev pub most_product : ℕ
most_product = 2 ^ 63

-- no coefficient above 0
unfoldable pub still_of : Air → Bool
still_of a =
    (a.a0 == 0) && (a.a1 == 0 && (a.a2 == 0 && (a.a3 == 0 && (a.a4 == 0 && (a.a5 == 0 && (a.a6 == 0 && a.a7 == 0))))))
