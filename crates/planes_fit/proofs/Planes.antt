-- The loop over groups, and the planes that the areas hold at the end (`planes_are`).
use mathlib.Core.Path.{◌≡◌, refl, sym, ap, ◌∙◌}
use mathlib.Core.Bool.{Bool, true, false, cond}
use mathlib.Core.List.{List, [], ◌∷◌, map, flat_map}
use Prim.Native.Nat.{ℕ, zero, suc, ◌+◌, ◌-◌, ◌*◌, ◌%◌, ◌<◌, ◌≤◌}
use native.Mathlib.Nat.{not-suc-le-zero}
use native.Mathlib.Omega.{arith}
use lib.Dec.{eqb}
use lib.Ieee.{Float}
use lib.ListN.{length, get_or, take, drop, length-drop}
use lib.Seq.{length-take-le}
use Rattle.laws.proofs.Lists.{map_map}
use Rattle.float.proofs.Numbers.{by_order}
use Rattle.order.proofs.Laws.{below_more}
use Rattle.geometry.specs.declared.Triangle.{Triangle}
use Rattle.order.specs.Sort.{sort_by}
use Rattle.order.specs.Runs.{up_to}
use Rattle.order.proofs.Stable.{by-eq}
use Rattle.columns.specs.Columns.{triangle_at_of}
use Rattle.planes_patches.specs.Triangles.{triangles_in}
use Rattle.planes_patches.specs.Rows.{none_of, tris_in, patches_in}
use Rattle.planes_patches.proofs.Lists.{map_under}
use Rattle.planes_links.specs.Words.{has, itself, most_triangles, lows, part_of, row_in, RowBounds}
use Rattle.planes_groups.specs.Rows.{groups_in}
use Rattle.mirror.specs.declared.PlaneRow.{PlaneRow}
use Rattle.mirror.specs.Rows as mirror
use Rattle.mirror.specs.Rows.{row_of, tris_of, border_of, edges_in, plane_in, planes_in, PlanesHeld, plane_float_count, plane_word_count}
use Rattle.planes_fit.specs.Fit.{plane_of_group}
use Rattle.planes_fit.specs.Rows.{group_in, Grouped, before_of, alone_row_of, fitted_row_of, plane_row_of, plane_row_in, Runs, Small}
use Rattle.planes_fit.proofs.Members.{tris_below, group_tris}
use Rattle.planes_fit.proofs.Naming.{before_is, lows_length}
use Rattle.planes_fit.proofs.Fitting.{plane_of_row}

-- ---- parts of lists

pub part_length : (xs : List ℕ) (a b : ℕ) → b ≤ length xs → length (part_of xs a b) ≡ b - a
part_length xs a b h = let d = length-drop a xs in length-take-le (b - a) (drop a xs) (omega arith)

take_length : (k : ℕ) (xs : List ℕ) → take (length (take k xs)) xs ≡ take k xs
take_length zero xs = refl
take_length (suc k) [] = refl
take_length (suc k) (x ∷ xs) = ap (λ (l : List ℕ). x ∷ l) (take_length k xs)

lows_take : (k : ℕ) (xs : List ℕ) → take k (lows xs) ≡ lows (take k xs)
unfolding lows
lows_take zero xs = refl
lows_take (suc k) [] = refl
lows_take (suc k) (x ∷ xs) = ap (λ (l : List ℕ). x % most_triangles ∷ l) (lows_take k xs)

lows_drop : (k : ℕ) (xs : List ℕ) → drop k (lows xs) ≡ lows (drop k xs)
unfolding lows
lows_drop zero xs = refl
lows_drop (suc k) [] = refl
lows_drop (suc k) (x ∷ xs) = lows_drop k xs

part_lows : (xs : List ℕ) (a b : ℕ) → part_of (lows xs) a b ≡ lows (part_of xs a b)
part_lows xs a b = ap (take (b - a)) (lows_drop a xs) ∙ lows_take (b - a) (drop a xs)

-- ---- the runs of triangles

-- the row of plane g in the words that were unpacked
pub run_is :
    (planes sorted mstarts members : List ℕ) (m ng g : ℕ) → ((p : ℕ) → p < ng → row_in sorted mstarts p ≡ tris_in planes m p) → members ≡ lows sorted → g < ng →
    group_in members mstarts g ≡ tris_in planes m g
unfolding row_in
run_is planes sorted mstarts members m ng g are e h =
    ap (λ (l : List ℕ). part_of l (get_or mstarts g 0) (get_or mstarts (g + 1) 0)) e ∙ part_lows sorted (get_or mstarts g 0) (get_or mstarts (g + 1) 0) ∙ are g h

pub runs_are :
    (planes sorted mstarts members : List ℕ) (m n ng : ℕ) → RowBounds ng sorted mstarts → ((p : ℕ) → p < ng → row_in sorted mstarts p ≡ tris_in planes m p) → members ≡ lows sorted → m ≤ n →
    ng < length mstarts → Runs n ng members mstarts
runs_are planes sorted mstarts members m n ng fenced are e h long =
    let len : length members ≡ length sorted = ap length e ∙ lows_length sorted in
    record {
      fenced = record { rise = fenced.rise; ends = λ r l. let w = fenced.ends r l in omega arith };
      long = long;
      below = λ g l. rw (run_is planes sorted mstarts members m ng g are e l) (below_more m n (tris_in planes m g) h (tris_below planes m g));
    }

-- ---- rows

pick : {A : Type 0} (f : PlaneRow → A) (b : Bool) (r s : PlaneRow) (v : A) → f r ≡ v → f s ≡ v → f (cond b r s) ≡ v
pick f true r s v e d = e
pick f false r s v e d = d

module _ (tri : ℕ → Triangle) (rows : List Float) (group is : List ℕ) (first : ℕ) where
  row_first : (plane_row_of tri rows group is first).first ≡ first
  unfolding plane_row_of alone_row_of fitted_row_of
  row_first = pick (λ (r : PlaneRow). r.first) (eqb (length group) 1) _ _ first refl refl

  row_count : (plane_row_of tri rows group is first).count ≡ length is
  unfolding plane_row_of alone_row_of fitted_row_of
  row_count = pick (λ (r : PlaneRow). r.count) (eqb (length group) 1) _ _ (length is) refl refl

  row_edge : (plane_row_of tri rows group is first).edge ≡ 0
  unfolding plane_row_of alone_row_of fitted_row_of
  row_edge = pick (λ (r : PlaneRow). r.edge) (eqb (length group) 1) _ _ 0 refl refl

  row_edges : (plane_row_of tri rows group is first).edges ≡ 0
  unfolding plane_row_of alone_row_of fitted_row_of
  row_edges = pick (λ (r : PlaneRow). r.edges) (eqb (length group) 1) _ _ 0 refl refl

  pub row_small : (r : PlaneRow) → r ≡ plane_row_of tri rows group is first → first < 4294967296 → length is < 4294967296 → Small r
  row_small r e f l =
      let a = ap (λ (r : PlaneRow). r.first) e ∙ row_first in
      let b = ap (λ (r : PlaneRow). r.count) e ∙ row_count in
      let c = ap (λ (r : PlaneRow). r.edge) e ∙ row_edge in
      let d = ap (λ (r : PlaneRow). r.edges) e ∙ row_edges in
      record { first_small = omega arith; count_small = omega arith; edge_small = omega arith; edges_small = omega arith }

-- the first g rows are stored
pub record Placed (floats₀ : List Float) (words₀ : List ℕ) (row : ℕ → PlaneRow) (ng : ℕ) (floats : List Float) (words : List ℕ) (g : ℕ) : Type 0 where
  pub few : g ≤ ng
  pub len_floats : length floats ≡ length floats₀
  pub len_words : length words ≡ length words₀
  pub done : (h : ℕ) → h < g → row_of floats words h ≡ row h

pub placed_none : (floats : List Float) (words : List ℕ) (row : ℕ → PlaneRow) (ng : ℕ) → Placed floats words row ng floats words 0
placed_none floats words row ng = record { few = omega arith; len_floats = refl; len_words = refl; done = λ h l. absurd (not-suc-le-zero l) }

pub placed_more :
    (floats₀ : List Float) (words₀ : List ℕ) (row : ℕ → PlaneRow) (ng : ℕ) (floats : List Float) (words : List ℕ) (g : ℕ) (floats2 : List Float) (words2 : List ℕ) →
    Placed floats₀ words₀ row ng floats words g → g < ng → length floats2 ≡ length floats → length words2 ≡ length words → row_of floats2 words2 g ≡ row g →
    ((h : ℕ) → (h ≡ g → ⊥) → row_of floats2 words2 h ≡ row_of floats words h) → Placed floats₀ words₀ row ng floats2 words2 (g + 1)
placed_more floats₀ words₀ row ng floats words g floats2 words2 f l lf lw e o =
    record {
      few = omega arith;
      len_floats = lf ∙ f.len_floats;
      len_words = lw ∙ f.len_words;
      done = λ h i.
          by-eq h g (λ s. ap (row_of floats2 words2) s ∙ e ∙ ap row (sym s)) (λ d. o h d ∙ f.done h (by_order g h (λ u. absurd (d (omega arith))) (λ u. u)));
    }

-- ---- all planes

module _
    (area : List Float) (handles : List ℕ) (n m : ℕ) (rows : List Float) (of : List ℕ) (np : ℕ) (queue starts : List ℕ) (ng : ℕ) (groups planes members mstarts : List ℕ)
    (floats : List Float) (words : List ℕ) (grouped : Grouped queue starts np ng) (few : ng ≤ most_triangles)
    (named : (p g : ℕ) → g < ng → eqb (get_or groups p 0) (suc g) ≡ has p (group_in queue starts g))
    (planed : (t : ℕ) → t < m → get_or planes t none_of ≡ before_of (get_or groups (get_or of t none_of) 0)) (runs : Runs n ng members mstarts)
    (run : (g : ℕ) → g < ng → group_in members mstarts g ≡ tris_in planes m g)
    (stored : (g : ℕ) → g < ng → row_of floats words g ≡ plane_row_in (triangle_at_of area handles n) rows queue starts members mstarts g) where
  row_is : (g : ℕ) → g < ng → row_of floats words g ≡ plane_row_of (triangle_at_of area handles n) rows (group_in queue starts g) (group_in members mstarts g) (get_or mstarts g 0)
  unfolding plane_row_in
  row_is g l = stored g l

  first_is : (g : ℕ) → g < ng → (row_of floats words g).first ≡ get_or mstarts g 0
  first_is g l = ap (λ (r : PlaneRow). r.first) (row_is g l) ∙ row_first (triangle_at_of area handles n) rows (group_in queue starts g) (group_in members mstarts g) (get_or mstarts g 0)

  count_is : (g : ℕ) → g < ng → (row_of floats words g).count ≡ length (group_in members mstarts g)
  count_is g l = ap (λ (r : PlaneRow). r.count) (row_is g l) ∙ row_count (triangle_at_of area handles n) rows (group_in queue starts g) (group_in members mstarts g) (get_or mstarts g 0)

  edge_is : (g : ℕ) → g < ng → (row_of floats words g).edge ≡ 0
  edge_is g l = ap (λ (r : PlaneRow). r.edge) (row_is g l) ∙ row_edge (triangle_at_of area handles n) rows (group_in queue starts g) (group_in members mstarts g) (get_or mstarts g 0)

  edges_is : (g : ℕ) → g < ng → (row_of floats words g).edges ≡ 0
  edges_is g l = ap (λ (r : PlaneRow). r.edges) (row_is g l) ∙ row_edges (triangle_at_of area handles n) rows (group_in queue starts g) (group_in members mstarts g) (get_or mstarts g 0)

  members_is : (g : ℕ) → g < ng → tris_of (row_of floats words g) members ≡ group_in members mstarts g
  unfolding tris_of
  members_is g l =
      let to = get_or mstarts (g + 1) 0 - get_or mstarts g 0 in
      ap (λ (k : ℕ). take k (drop (row_of floats words g).first members)) (count_is g l)
      ∙ ap (λ (k : ℕ). take (length (group_in members mstarts g)) (drop k members)) (first_is g l) ∙ take_length to (drop (get_or mstarts g 0) members)

  pub tris_is : (g : ℕ) → g < ng → tris_of (row_of floats words g) members ≡ tris_in planes m g
  tris_is g l = members_is g l ∙ run g l

  border_none : (g : ℕ) → g < ng → border_of (row_of floats words g) [] ≡ []
  unfolding border_of edges_in
  border_none g l = ap (edges_in [] (row_of floats words g).edge) (edges_is g l)

  sorted_is : (g : ℕ) → g < ng → group_in members mstarts g ≡ sort_by itself (flat_map (tris_in of m) (group_in queue starts g))
  sorted_is g l =
      run g l
      ∙ sym (group_tris of planes m (group_in queue starts g) g (grouped.once g l) (λ t h. ap (λ (v : ℕ). eqb v g) (planed t h) ∙ before_is (get_or groups (get_or of t none_of) 0) g (omega arith) ∙ named (get_or of t none_of) g l))

  plane_is : (g : ℕ) → g < ng → plane_in floats words members [] g ≡ plane_of_group (triangles_in area handles n m) (patches_in rows of m np) (group_in queue starts g)
  unfolding plane_in
  plane_is g l =
      let is = group_in members mstarts g in
      let group = group_in queue starts g in
      let rise = grouped.rise g l in
      let ends = grouped.ends (g + 1) (omega arith) in
      let long = part_length queue (get_or starts g 0) (get_or starts (g + 1) 0) ends in
      ap (λ (l : List ℕ). mirror.row_plane (row_of floats words g) l (border_of (row_of floats words g) [])) (members_is g l)
      ∙ ap (mirror.row_plane (row_of floats words g) is) (border_none g l) ∙ ap (λ (r : PlaneRow). mirror.row_plane r is []) (row_is g l)
      ∙ plane_of_row area handles n m rows of np group is (get_or mstarts g 0) (omega arith) (grouped.below g l) (grouped.once g l) (rw (run g l) (tris_below planes m g)) (sorted_is g l)

  pub planes_are : planes_in floats words members [] ng ≡ map (plane_of_group (triangles_in area handles n m) (patches_in rows of m np)) (groups_in queue starts ng)
  unfolding planes_in groups_in
  planes_are =
      map_under (plane_in floats words members []) (λ g. plane_of_group (triangles_in area handles n m) (patches_in rows of m np) (group_in queue starts g)) ng plane_is
      ∙ sym (map_map (plane_of_group (triangles_in area handles n m) (patches_in rows of m np)) (group_in queue starts) (up_to ng))

  pub planes_held_lem : plane_float_count * ng ≤ length floats → plane_word_count * ng ≤ length words → PlanesHeld floats words members [] m ng
  planes_held_lem f w =
      record {
        floats_room = f;
        words_room = w;
        runs = λ g l.
            let ends = runs.fenced.ends (g + 1) (omega arith) in
            let rise = runs.fenced.rise g l in
            let long = part_length members (get_or mstarts g 0) (get_or mstarts (g + 1) 0) ends in
            let a = first_is g l in
            let b = count_is g l in
            let c = edge_is g l in
            let d = edges_is g l in
            record { members_room = omega arith; edges_room = omega arith; below = rw (tris_is g l) (tris_below planes m g) };
      }
