-- The keys in the code's columns are those of the planes that the areas read as.
use mathlib.Core.Path.{◌≡◌, sym, ap, ◌∙◌}
use mathlib.Core.List.{List, [], map, foldl}
use Prim.Native.Nat.{ℕ, ◌<◌, ◌≤◌}
use native.Mathlib.Nat.{lt_of_lt_of_le}
use lib.ListN.{length}
use lib.Ieee.{Float}
use Rattle.laws.proofs.Lists.{map_map}
use Rattle.order.specs.Sort.{Below, sort_by, key_of}
use Rattle.order.specs.Runs.{up_to}
use Rattle.order.proofs.Laws.{fold_same}
use Rattle.geometry.specs.declared.Aabb.{Aabb}
use Rattle.columns.specs.Columns.{triangle_at_of}
use Rattle.planes_patches.specs.Triangles.{nth_triangle, triangles_in}
use Rattle.planes_patches.proofs.Lists.{length_up_to, map_under}
use Rattle.planes_patches.proofs.Filling.{triangle_in}
use Rattle.mirror.specs.Rows.{row_of, tris_of, plane_in, planes_in, PlanesHeld}
use Rattle.planes_importance.specs.Importance.{scene_box_of, no_moments, moment_of, area_centre_of, importance_of, key_of_plane, ranking_of, key_in, row_key_in}

-- triangles below m are below n
pub held_more : (floats : List Float) (words members : List ℕ) (m n count : ℕ) → m ≤ n → PlanesHeld floats words members [] m count → PlanesHeld floats words members [] n count
unfolding Below
held_more floats words members m n count h k =
    record {
      floats_room = k.floats_room;
      words_room = k.words_room;
      runs = λ p l. let r = k.runs p l in
          record { members_room = r.members_room; edges_room = r.edges_room; below = λ i j. lt_of_lt_of_le (r.below i j) h };
    }

module _ (area : List Float) (handles : List ℕ) (n m : ℕ) (floats : List Float) (words members : List ℕ) (count : ℕ) (held : PlanesHeld floats words members [] m count) where
  key_is : (b : Aabb) (g : ℕ) → g < count →
      key_of_plane (triangles_in area handles n m) b (plane_in floats words members [] g) ≡ row_key_in (triangle_at_of area handles n) b (row_of floats words g) members
  unfolding key_of_plane importance_of area_centre_of plane_in row_key_in key_in
  key_is b g l =
      let is = tris_of (row_of floats words g) members in
      let same : foldl (λ s i. moment_of s (nth_triangle (triangles_in area handles n m) i)) no_moments is ≡ foldl (λ s i. moment_of s (triangle_at_of area handles n i)) no_moments is =
      fold_same _ _ m no_moments is (held.runs g l).below (λ s i h. ap (moment_of s) (triangle_in area handles n m i h)) in
      rw same

  pub ranking_is : (keys index : List ℕ) →
      keys ≡ map (λ g. row_key_in (triangle_at_of area handles n) (scene_box_of (triangles_in area handles n m)) (row_of floats words g) members) (up_to count) →
      index ≡ up_to count →
      sort_by (key_of keys) index ≡ ranking_of (triangles_in area handles n m) (planes_in floats words members [] count)
  unfolding ranking_of planes_in
  ranking_is keys index k i =
      let ts = triangles_in area handles n m in
      let b = scene_box_of ts in
      let same : map (key_of_plane ts b) (map (plane_in floats words members []) (up_to count)) ≡ keys =
      map_map (key_of_plane ts b) (plane_in floats words members []) (up_to count) ∙ map_under _ _ count (key_is b) ∙ sym k in
      let long : length (map (plane_in floats words members []) (up_to count)) ≡ count = length_up_to (plane_in floats words members []) count in
      rw (same, long, i)
