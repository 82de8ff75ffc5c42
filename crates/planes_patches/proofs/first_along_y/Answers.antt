-- `planes_patches::first_along_y` meets its contract: of three rows of cells, the first with a match (`Around`).
use mathlib.Core.Path.{◌∙◌, ap}
use mathlib.Core.List.{List, flat_map, map}
use Prim.Native.Nat.{◌+◌, ◌-◌, ℕ}
use Rattle.planes_faces.specs.Key.{Key}
use Rattle.planes_patches.specs.Patches.{beside_of}
use Rattle.planes_patches.specs.Grid.{first_among, key}
use Rattle.planes_patches.proofs.Around.{first_of_three, second_of_three, third_of_three}
use Rattle.planes_patches.proofs.first_along_y.Goals as goal

pub first_along_z-a-requires : goal.first_along_z-a-requires
first_along_z-a-requires c = record {
  grid = c.requires.grid;
  z_bound = c.requires.y_bound.1;
}

pub returns-then-a-np : goal.returns-then-a-np
unfolding flat_map
returns-then-a-np c = let a = c.args in let k = a.k in let x = a.x in let y = a.y in let z = a.z in
    let row : ℕ → List Key = λ b. map (key x b) (beside_of z) in
    first_of_three a.rows.now a.np k.normal k.offset (row (y - 1)) (row y) (row (y + 1)) c.first_along_z-a.result
    (c.first_along_z-a.ensures ∙ ap (λ (b : ℕ). first_among a.rows.now a.np k.normal k.offset (row b)) c.below.ensures) c.if-a-np.true

pub first_along_z-b-requires : goal.first_along_z-b-requires
first_along_z-b-requires c = record {
  grid = c.requires.grid;
  z_bound = c.requires.y_bound.1;
}

pub returns-then-b-np : goal.returns-then-b-np
unfolding flat_map
returns-then-b-np c = let a = c.args in let k = a.k in let x = a.x in let y = a.y in let z = a.z in
    let row : ℕ → List Key = λ b. map (key x b) (beside_of z) in
    second_of_three a.rows.now a.np k.normal k.offset (row (y - 1)) (row y) (row (y + 1)) c.first_along_z-a.result c.first_along_z-b.result
    (c.first_along_z-a.ensures ∙ ap (λ (b : ℕ). first_among a.rows.now a.np k.normal k.offset (row b)) c.below.ensures) c.if-a-np.false c.first_along_z-b.ensures c.if-b-np.true

pub first_along_z-requires : goal.first_along_z-requires
first_along_z-requires c = record {
  grid = c.requires.grid;
  z_bound = c.requires.y_bound.1;
}

pub returns : goal.returns
unfolding flat_map
returns c = let a = c.args in let k = a.k in let x = a.x in let y = a.y in let z = a.z in
    let row : ℕ → List Key = λ b. map (key x b) (beside_of z) in
    third_of_three a.rows.now a.np k.normal k.offset (row (y - 1)) (row y) (row (y + 1)) c.first_along_z-a.result c.first_along_z-b.result c.first_along_z.result
    (c.first_along_z-a.ensures ∙ ap (λ (b : ℕ). first_among a.rows.now a.np k.normal k.offset (row b)) c.below.ensures) c.if-a-np.false c.first_along_z-b.ensures c.if-b-np.false c.first_along_z.ensures

pub below-requires : goal.below-requires
below-requires c = tt
