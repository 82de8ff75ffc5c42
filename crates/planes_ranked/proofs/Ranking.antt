-- The loop that stores the ranked planes: each stands in its row, with its border, and later ones leave it as it is.
use mathlib.Core.Path.{◌≡◌, sym, ap, subst, ◌∙◌}
use mathlib.Core.Logic.{inl, inr}
use mathlib.Core.List.{List, [], ◌∷◌, ◌++◌}
use Prim.Native.Nat.{ℕ, zero, suc, ◌+◌, ◌*◌, ◌/◌, ◌<◌, ◌≤◌}
use native.Mathlib.Nat.{eq-or-lt_of_le}
use native.Mathlib.Omega.{arith}
use native.Mathlib.Numerals.{add-one}
use lib.ListN.{length, get_or, take}
use lib.Seq.{take-suc}
use lib.Ieee.{Float}
use Rattle.mirror.specs.declared.PlaneRow.{PlaneRow}
use Rattle.mirror.specs.Plane.{Edge}
use Rattle.mirror.specs.Rows.{plane_float_count, plane_word_count, edge_floats, row_of, tris_of, edges_in, plane_in, border_of, RunsIn, PlanesHeld}
use Rattle.order.specs.Sort.{Below}
use Rattle.planes_fit.specs.Rows.{Small}
use Rattle.planes_borders.specs.Uses.{border_in, Appended}
use Rattle.planes_borders.proofs.Storing.{edges_same}
use Rattle.planes_ranked.specs.Areas.{with_edges, sum_counts, bordered_in}

-- ---- the triangles so far

module _ (gfloats : List Float) (gwords : List ℕ) where
  pub sum_snoc : (xs : List ℕ) (g : ℕ) → sum_counts gfloats gwords (xs ++ (g ∷ [])) ≡ sum_counts gfloats gwords xs + (row_of gfloats gwords g).count
  unfolding sum_counts
  sum_snoc [] g = omega arith
  sum_snoc (x ∷ xs) g = let e = sum_snoc xs g in omega arith

  pub sum_more : (index : List ℕ) (r : ℕ) → r < length index →
      sum_counts gfloats gwords (take (r + 1) index) ≡ sum_counts gfloats gwords (take r index) + (row_of gfloats gwords (get_or index r 0)).count
  sum_more index r h = rw (add-one r, take-suc index r 0 h) (sum_snoc (take r index) (get_or index r 0))

  pub sum_le : (index : List ℕ) (r : ℕ) → sum_counts gfloats gwords (take r index) ≤ sum_counts gfloats gwords index
  unfolding sum_counts
  sum_le [] zero = omega arith
  sum_le [] (suc r) = omega arith
  sum_le (x ∷ xs) zero = omega arith
  sum_le (x ∷ xs) (suc r) = let e = sum_le xs r in omega arith

-- ---- the planes so far

module _ (area : List Float) (n : ℕ) (gfloats : List Float) (gwords members index first uses : List ℕ) where
  abbrev border : ℕ → List Edge
  border g = border_in area n first uses (tris_of (row_of gfloats gwords g) members)

  -- plane j stands in row j, its border before edge `at`
  pub record Placed (floats : List Float) (words : List ℕ) (edges : List Float) (at j : ℕ) : Type 0 where
    pub edge : ℕ
    pub count : ℕ
    pub row : row_of floats words j ≡ with_edges (row_of gfloats gwords (get_or index j 0)) edge count
    pub low : edge + count ≤ at
    pub stored : edges_in edges edge count ≡ border (get_or index j 0)

  pub record Putting (floats₀ : List Float) (words₀ : List ℕ) (edges₀ floats : List Float) (words : List ℕ) (edges : List Float) (at r : ℕ) : Type 0 where
    pub few : r ≤ length index
    pub floats_long : length floats ≡ length floats₀
    pub words_long : length words ≡ length words₀
    pub edges_long : length edges ≡ length edges₀
    pub bound : at ≤ 3 * sum_counts gfloats gwords (take r index)
    pub each : (j : ℕ) → j < r → Placed floats words edges at j

  pub putting_more :
      (floats₀ : List Float) (words₀ : List ℕ) (edges₀ floats : List Float) (words : List ℕ) (edges floats' : List Float) (words' : List ℕ) (edges' : List Float) (at r : ℕ) (plane p : PlaneRow) →
      Putting floats₀ words₀ edges₀ floats words edges at r → r < length index →
      plane ≡ row_of gfloats gwords (get_or index r 0) → p ≡ with_edges plane at p.edges → p.edges ≤ 3 * plane.count →
      Appended edges edges' at (at + p.edges) (border_in area n first uses (tris_of plane members)) →
      row_of floats' words' r ≡ p → ((h : ℕ) → (h ≡ r → ⊥) → row_of floats' words' h ≡ row_of floats words h) →
      length floats' ≡ length floats → length words' ≡ length words → length edges' ≡ length edges →
      Putting floats₀ words₀ edges₀ floats' words' edges' (at + p.edges) (r + 1)
  putting_more floats₀ words₀ edges₀ floats words edges floats' words' edges' at r plane p was l is with-edges few-edges stored here others fl wl el =
      let sum = sum_more gfloats gwords index r l in
      let counts : plane.count ≡ (row_of gfloats gwords (get_or index r 0)).count = ap (λ (q : PlaneRow). q.count) is in
      let bound = was.bound in
      record {
        few = omega arith;
        floats_long = fl ∙ was.floats_long;
        words_long = wl ∙ was.words_long;
        edges_long = el ∙ was.edges_long;
        bound = omega arith;
        each = λ j h.
            elim (eq-or-lt_of_le (le_of j h)) [
              | inl e ↦ subst (λ (i : ℕ). Placed floats' words' edges' (at + p.edges) i) (sym e) now_placed
              | inr b ↦
                  let was_placed = was.each j b in
                  let low = was_placed.low in
                  record {
                    edge = was_placed.edge;
                    count = was_placed.count;
                    row = others j (λ e. absurd (omega arith)) ∙ was_placed.row;
                    low = omega arith;
                    stored = edges_same edges edges' at was_placed.edge was_placed.count stored.before was_placed.low ∙ was_placed.stored;
                  }
            ];
      }
    where
      le_of : (j : ℕ) → j < r + 1 → j ≤ r
      le_of j h = omega arith

      now_placed : Placed floats' words' edges' (at + p.edges) r
      now_placed =
          let count = stored.count in
          let long : p.edges ≡ length (border_in area n first uses (tris_of plane members)) = omega arith in
          record {
            edge = at;
            count = p.edges;
            row = here ∙ with-edges ∙ ap (λ (q : PlaneRow). with_edges q at p.edges) is;
            low = omega arith;
            stored = ap (edges_in edges' at) long ∙ stored.stored ∙ ap (λ (q : PlaneRow). border_in area n first uses (tris_of q members)) is;
          }

  pub placed_is : (floats : List Float) (words : List ℕ) (edges : List Float) (at j : ℕ) → Placed floats words edges at j →
      plane_in floats words members edges j ≡ bordered_in area n gfloats gwords members first uses (get_or index j 0)
  unfolding plane_in bordered_in border_of tris_of
  placed_is floats words edges at j p = rw (p.row, p.stored)

  -- their runs lie within the areas
  pub all_held :
      (floats : List Float) (words : List ℕ) (edges : List Float) (at m count : ℕ) → PlanesHeld gfloats gwords members [] m count → Below count index →
      ((j : ℕ) → j < length index → Placed floats words edges at j) → at ≤ 3 * m → edge_floats * (3 * m) ≤ length edges → plane_float_count * length index ≤ length floats → plane_word_count * length index ≤ length words →
      PlanesHeld floats words members edges m (length index)
  unfolding Below tris_of
  all_held floats words edges at m count held below each few room fr wr =
      record {
        floats_room = fr;
        words_room = wr;
        runs = λ j l.
            let p = each j l in
            let was = held.runs (get_or index j 0) (below j l) in
            let low = p.low in
            rw p.row (run j p.edge p.count was (omega arith));
      }
    where
      run : (j e k : ℕ) → RunsIn (row_of gfloats gwords (get_or index j 0)) m members [] → edge_floats * (e + k) ≤ length edges → RunsIn (with_edges (row_of gfloats gwords (get_or index j 0)) e k) m members edges
      run j e k was r = record { members_room = was.members_room; edges_room = r; below = was.below }

-- ---- what the steps ask

pub third : (k m : ℕ) → k ≡ 3 * m → k / 3 ≡ m
third k m e = omega arith

pub small_is : (plane p : PlaneRow) (at b : ℕ) → p ≡ with_edges plane at p.edges → plane.first < 4294967296 → plane.count < 4294967296 → at + 3 * plane.count ≤ b → b < 4294967296 → p.edges ≤ 3 * plane.count → Small p
small_is plane p at b e l s k t few =
    let f : p.first ≡ plane.first = ap (λ (q : PlaneRow). q.first) e in
    let c : p.count ≡ plane.count = ap (λ (q : PlaneRow). q.count) e in
    let d : p.edge ≡ at = ap (λ (q : PlaneRow). q.edge) e in
    record { first_small = omega arith; count_small = omega arith; edge_small = omega arith; edges_small = omega arith }

-- there is room for the border of plane r
pub border_room :
    (gfloats : List Float) (gwords index : List ℕ) (m at r c : ℕ) → r < length index → at ≤ 3 * sum_counts gfloats gwords (take r index) → sum_counts gfloats gwords index ≤ m →
    c ≡ (row_of gfloats gwords (get_or index r 0)).count → at + 3 * c ≤ 3 * m
border_room gfloats gwords index m at r c l bound total is =
    let more = sum_more gfloats gwords index r l in
    let less = sum_le gfloats gwords index (r + 1) in
    omega arith
