-- One turn, and the end, of the folds over a scene's triangles and over a plane's.
use mathlib.Core.Path.{◌≡◌, refl, ap, ◌∙◌}
use mathlib.Core.List.{List, [], ◌∷◌, ◌++◌, map, foldl-append}
use Prim.Native.Nat.{ℕ, ◌+◌, ◌<◌, ◌≤◌}
use native.Mathlib.Omega.{arith}
use native.Mathlib.Numerals.{add-one}
use lib.ListN.{length, set, take, length-set}
use lib.Seq.{take-suc-set}
use lib.Ieee.{Float}
use Rattle.order.specs.Runs.{head_or, up_to}
use Rattle.columns.specs.Columns.{triangle_at_of}
use Rattle.planes_patches.specs.Triangles.{triangles_in}
use Rattle.order.specs.Sort.{Below}
use Rattle.mirror.specs.declared.PlaneRow.{PlaneRow}
use Rattle.mirror.specs.Rows.{row_of, tris_of, PlanesHeld}
use Rattle.planes_importance.specs.Importance.{grown_by_of, scene_box_of}

map_snoc : {A B : Type 0} (f : A → B) (xs : List A) (x : A) → map f (xs ++ (x ∷ [])) ≡ map f xs ++ (f x ∷ [])
map_snoc f [] x = refl
map_snoc f (y ∷ ys) x = ap (λ r. f y ∷ r) (map_snoc f ys x)

pub box_more :
    (area : List Float) (handles : List ℕ) (n i : ℕ) →
    scene_box_of (triangles_in area handles n (i + 1)) ≡ grown_by_of (scene_box_of (triangles_in area handles n i)) (triangle_at_of area handles n i)
unfolding scene_box_of triangles_in up_to
box_more area handles n i =
    rw (add-one i, map_snoc (triangle_at_of area handles n) (up_to i) i) (foldl-append grown_by_of _ (map (triangle_at_of area handles n) (up_to i)) (triangle_at_of area handles n i ∷ []))

pub head_none : (xs : List ℕ) → length xs ≡ 0 → head_or 0 xs ≡ 0
unfolding head_or
head_none [] h = refl
head_none (x ∷ xs) h = absurd (omega arith)

-- ---- the loop over planes

-- g of `count` planes have their key and their number
pub record Keyed (count : ℕ) (index : List ℕ) (keys : List ℕ) (g : ℕ) : Type 0 where
  pub few : g ≤ count
  pub keys_long : length keys ≡ count
  pub index_long : length index ≡ count
  pub numbered : take g index ≡ up_to g

pub keyed_more : (count : ℕ) (index keys : List ℕ) (g k : ℕ) → Keyed count index keys g → g < count → Keyed count (set index g g) (set keys g k) (g + 1)
unfolding up_to
keyed_more count index keys g k h l =
    let inside : g < length index = omega (arith, h.index_long) in
    record {
      few = omega arith;
      keys_long = length-set keys g k ∙ h.keys_long;
      index_long = length-set index g g ∙ h.index_long;
      numbered = rw (add-one g, take-suc-set index g g inside, h.numbered);
    }

pub map_more : (f : ℕ → ℕ) (keys : List ℕ) (g k : ℕ) → g < length keys → take g keys ≡ map f (up_to g) → k ≡ f g → take (g + 1) (set keys g k) ≡ map f (up_to (g + 1))
unfolding up_to
map_more f keys g k h e d = rw (add-one g, take-suc-set keys g k h, e, map_snoc f (up_to g) g, d)

-- the run of plane g
pub run_room :
    (floats : List Float) (words members : List ℕ) (n count g : ℕ) (r : PlaneRow) → PlanesHeld floats words members [] n count → g < count → r ≡ row_of floats words g →
    (r.first + r.count ≤ length members) × Below n (tris_of r members)
run_room floats words members n count g r held l e = rw (e) ((held.runs g l).members_room, (held.runs g l).below)
