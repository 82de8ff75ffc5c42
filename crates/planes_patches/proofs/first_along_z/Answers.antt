-- `planes_patches::first_along_z` meets its contract: of three cells, the first with a match (`Around`).
use mathlib.Core.Path.{◌∙◌, ap}
use mathlib.Core.List.{[], ◌∷◌}
use Prim.Native.Nat.{◌+◌, ◌-◌, ℕ}
use Rattle.planes_patches.specs.Grid.{first_among, key}
use Rattle.planes_patches.proofs.Around.{first_of_three, second_of_three, third_of_three}
use Rattle.planes_patches.proofs.first_along_z.Goals as goal

pub first_in_cell-a-requires : goal.first_in_cell-a-requires
first_in_cell-a-requires c = c.requires.grid

pub returns-then-a-np : goal.returns-then-a-np
returns-then-a-np c = let a = c.args in let k = a.k in let x = a.x in let y = a.y in let z = a.z in
    first_of_three a.rows.now a.np k.normal k.offset (key x y (z - 1) ∷ []) (key x y z ∷ []) (key x y (z + 1) ∷ []) c.first_in_cell-a.result
    (c.first_in_cell-a.ensures ∙ ap (λ (b : ℕ). first_among a.rows.now a.np k.normal k.offset (key x y b ∷ [])) c.below-low.ensures) c.if-a-np.true

pub first_in_cell-b-requires : goal.first_in_cell-b-requires
first_in_cell-b-requires c = c.requires.grid

pub returns-then-b-np : goal.returns-then-b-np
returns-then-b-np c = let a = c.args in let k = a.k in let x = a.x in let y = a.y in let z = a.z in
    second_of_three a.rows.now a.np k.normal k.offset (key x y (z - 1) ∷ []) (key x y z ∷ []) (key x y (z + 1) ∷ []) c.first_in_cell-a.result c.first_in_cell-b.result
    (c.first_in_cell-a.ensures ∙ ap (λ (b : ℕ). first_among a.rows.now a.np k.normal k.offset (key x y b ∷ [])) c.below-low.ensures) c.if-a-np.false c.first_in_cell-b.ensures c.if-b-np.true

pub first_in_cell-requires : goal.first_in_cell-requires
first_in_cell-requires c = c.requires.grid

pub returns : goal.returns
returns c = let a = c.args in let k = a.k in let x = a.x in let y = a.y in let z = a.z in
    third_of_three a.rows.now a.np k.normal k.offset (key x y (z - 1) ∷ []) (key x y z ∷ []) (key x y (z + 1) ∷ []) c.first_in_cell-a.result c.first_in_cell-b.result c.first_in_cell.result
    (c.first_in_cell-a.ensures ∙ ap (λ (b : ℕ). first_among a.rows.now a.np k.normal k.offset (key x y b ∷ [])) c.below-low.ensures) c.if-a-np.false c.first_in_cell-b.ensures c.if-b-np.false c.first_in_cell.ensures

pub below-low-requires : goal.below-low-requires
below-low-requires c = tt
