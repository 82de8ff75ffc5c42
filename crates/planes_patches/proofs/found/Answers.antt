-- `planes_patches::found` meets its contract: of three layers of cells, the first with a match (`Around`).
use mathlib.Core.Path.{◌∙◌, ap}
use mathlib.Core.List.{List, flat_map, map}
use Prim.Native.Nat.{◌+◌, ◌-◌, ℕ}
use Rattle.planes_faces.specs.Key.{Key}
use Rattle.planes_patches.specs.Patches.{around_of, beside_of}
use Rattle.planes_patches.specs.Grid.{first_among, key}
use Rattle.planes_patches.proofs.Around.{first_of_three, second_of_three, third_of_three}
use Rattle.planes_patches.proofs.found.Goals as goal

pub first_along_y-a-requires : goal.first_along_y-a-requires
first_along_y-a-requires c = record {
  grid = c.requires.grid;
  y_bound = (c.requires.x_bound.1, c.requires.x_bound.2);
}

pub returns-then-a-np : goal.returns-then-a-np
unfolding flat_map around_of
returns-then-a-np c = let a = c.args in let k = a.k in
    let layer : ℕ → List Key = λ x. flat_map (λ y. map (key x y) (beside_of k.z)) (beside_of k.y) in
    first_of_three a.rows.now a.np k.normal k.offset (layer (k.x - 1)) (layer k.x) (layer (k.x + 1)) c.first_along_y-a.result
    (c.first_along_y-a.ensures ∙ ap (λ (b : ℕ). first_among a.rows.now a.np k.normal k.offset (layer b)) c.below.ensures) c.if-a-np.true

pub first_along_y-b-requires : goal.first_along_y-b-requires
first_along_y-b-requires c = record {
  grid = c.requires.grid;
  y_bound = (c.requires.x_bound.1, c.requires.x_bound.2);
}

pub returns-then-b-np : goal.returns-then-b-np
unfolding flat_map around_of
returns-then-b-np c = let a = c.args in let k = a.k in
    let layer : ℕ → List Key = λ x. flat_map (λ y. map (key x y) (beside_of k.z)) (beside_of k.y) in
    second_of_three a.rows.now a.np k.normal k.offset (layer (k.x - 1)) (layer k.x) (layer (k.x + 1)) c.first_along_y-a.result c.first_along_y-b.result
    (c.first_along_y-a.ensures ∙ ap (λ (b : ℕ). first_among a.rows.now a.np k.normal k.offset (layer b)) c.below.ensures) c.if-a-np.false c.first_along_y-b.ensures c.if-b-np.true

pub first_along_y-requires : goal.first_along_y-requires
first_along_y-requires c = record {
  grid = c.requires.grid;
  y_bound = (c.requires.x_bound.1, c.requires.x_bound.2);
}

pub returns : goal.returns
unfolding flat_map around_of
returns c = let a = c.args in let k = a.k in
    let layer : ℕ → List Key = λ x. flat_map (λ y. map (key x y) (beside_of k.z)) (beside_of k.y) in
    third_of_three a.rows.now a.np k.normal k.offset (layer (k.x - 1)) (layer k.x) (layer (k.x + 1)) c.first_along_y-a.result c.first_along_y-b.result c.first_along_y.result
    (c.first_along_y-a.ensures ∙ ap (λ (b : ℕ). first_among a.rows.now a.np k.normal k.offset (layer b)) c.below.ensures) c.if-a-np.false c.first_along_y-b.ensures c.if-b-np.false c.first_along_y.ensures

pub below-requires : goal.below-requires
below-requires c = tt
