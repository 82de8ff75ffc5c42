-- The loop of `coplanar_patches`: the triangles that `first` keeps are those of the definition (`kept_is`), and what the loop holds
-- (`Filling`).
use mathlib.Core.Path.{◌≡◌, refl, sym, ap, ◌∙◌}
use mathlib.Core.Bool.{Bool, true, false, cond, not}
use mathlib.Core.List.{List, [], ◌∷◌, map, foldl, foldl-append}
use Prim.Native.Nat.{ℕ, suc, ◌<◌, ◌≤◌}
use native.Mathlib.Nat.{not-suc-le-zero}
use native.Mathlib.Omega.{arith}
use lib.Dec.{eqb}
use lib.Ieee.{Float}
use lib.ListN.{length, get_or, replicate, length-replicate, get_or-replicate}
use Rattle.order.proofs.Positions.{get_or_map_up_to}
use Rattle.geometry.specs.declared.Triangle.{Triangle}
use Rattle.columns.specs.Columns.{triangle_at_of}
use Rattle.order.specs.Runs.{up_to}
use Rattle.float.proofs.Numbers.{by_order}
use Rattle.order.proofs.Stable.{by-eq}
use Rattle.order.proofs.Runs.{any_under}
use Rattle.planes_faces.specs.Faces.{Face, no_face, face_of, face_at, same_face, is_first, face_in, faces_in}
use Rattle.planes_faces.proofs.Corners.{face_in_lem}
use Rattle.planes_patches.specs.Lists.{keep_if, filter_by}
use Rattle.planes_patches.specs.Triangles.{no_triangle, nth_triangle, triangles_in}
use Rattle.planes_patches.specs.Patch.{Patch}
use Rattle.planes_patches.specs.Patches.{kept_of, placed_of, patches_of}
use Rattle.planes_patches.specs.Rows.{none_of, patches_in, Numbered}
use Rattle.planes_patches.specs.Grid.{bucket_count, newest, Standing}
use Rattle.planes_patches.proofs.Lists.{filter_more, filter_under, length_up_to}

-- ---- the triangles that are kept

faces_of : (area : List Float) (handles : List ℕ) (n : ℕ) (xs : List ℕ) → map face_of (map (triangle_at_of area handles n) xs) ≡ map (face_in area n) xs
unfolding face_in face_of triangle_at_of
faces_of area handles n [] = refl
faces_of area handles n (x ∷ xs) = ap (λ (l : List Face). face_in area n x ∷ l) (faces_of area handles n xs)

pub triangle_in : (area : List Float) (handles : List ℕ) (n m i : ℕ) → i < m → nth_triangle (triangles_in area handles n m) i ≡ triangle_at_of area handles n i
unfolding nth_triangle triangles_in
triangle_in area handles n m i h = get_or_map_up_to (triangle_at_of area handles n) m i no_triangle h

face_of_lem : (area : List Float) (handles : List ℕ) (n m i : ℕ) → i < m → face_at (map face_of (triangles_in area handles n m)) i ≡ face_in area n i
unfolding face_at triangles_in
face_of_lem area handles n m i h = ap (λ (l : List Face). get_or l i no_face) (faces_of area handles n (up_to m)) ∙ get_or_map_up_to (face_in area n) m i no_face h

-- whether a triangle is kept depends on those before it alone
first_of : (area : List Float) (handles : List ℕ) (n m i : ℕ) → i < m → m ≤ n → is_first (faces_in area n) i ≡ is_first (map face_of (triangles_in area handles n m)) i
unfolding is_first
first_of area handles n m i h l =
    let fs = faces_in area n in
    let gs = map face_of (triangles_in area handles n m) in
    let same : (j : ℕ) → j < m → face_at fs j ≡ face_at gs j = λ j w. face_in_lem area n j (omega arith) ∙ sym (face_of_lem area handles n m j w) in
    ap not (any_under (λ j. same_face (face_at fs j) (face_at fs i)) (λ j. same_face (face_at gs j) (face_at gs i)) i
    (λ j w. ap (λ (f : Face). same_face f (face_at fs i)) (same j (omega arith)) ∙ ap (same_face (face_at gs j)) (same i h)))

-- what `first` keeps
abbrev pub kept_by : List ℕ → ℕ → Bool
kept_by first i = eqb (get_or first i 0) i

pub kept_is : (area : List Float) (handles : List ℕ) (n m : ℕ) (first : List ℕ) → m ≤ n → ((i : ℕ) → i < m → kept_by first i ≡ is_first (faces_in area n) i)
    → filter_by (kept_by first) (up_to m) ≡ kept_of (triangles_in area handles n m)
unfolding kept_of triangles_in
kept_is area handles n m first l e =
    let ts = map (triangle_at_of area handles n) (up_to m) in
    filter_under (kept_by first) (is_first (map face_of ts)) m (λ i h. e i h ∙ first_of area handles n m i h l)
    ∙ ap (λ (k : ℕ). filter_by (is_first (map face_of ts)) (up_to k)) (sym (length_up_to (triangle_at_of area handles n) m))

-- ---- the loop

-- the patches of the first t triangles
abbrev pub patches_to : List Triangle → List ℕ → ℕ → List Patch
patches_to ts first t = foldl (placed_of ts) [] (filter_by (kept_by first) (up_to t))

to_more : (ts : List Triangle) (first : List ℕ) (t : ℕ) → patches_to ts first (suc t) ≡ cond (kept_by first t) (placed_of ts (patches_to ts first t) t) (patches_to ts first t)
to_more ts first t =
    ap (foldl (placed_of ts) []) (filter_more (kept_by first) t) ∙ foldl-append (placed_of ts) [] (filter_by (kept_by first) (up_to t)) (keep_if (kept_by first t) t []) ∙ go (kept_by first t)
  where
    go : (b : Bool) → foldl (placed_of ts) (patches_to ts first t) (keep_if b t []) ≡ cond b (placed_of ts (patches_to ts first t) t) (patches_to ts first t)
    go true = refl
    go false = refl

pub record Filling (ts : List Triangle) (first : List ℕ) (m : ℕ) (rows₀ : List Float) (of₀ cells₀ next₀ : List ℕ) (rows : List Float) (of cells heads next : List ℕ) (t np : ℕ) : Type 0 where
  pub within : t ≤ m
  pub len_rows : length rows ≡ length rows₀
  pub len_of : length of ≡ length of₀
  pub len_cells : length cells ≡ length cells₀
  pub len_next : length next ≡ length next₀
  pub standing : Standing rows of cells heads next t np
  pub so_far : patches_in rows of t np ≡ patches_to ts first t
  pub left_out : (i : ℕ) → i < t → kept_by first i ≡ false → get_or of i none_of ≡ none_of

pub filling_none : (ts : List Triangle) (first : List ℕ) (m : ℕ) (rows : List Float) (of cells heads next : List ℕ) (k : ℕ) → k ≡ bucket_count → heads ≡ replicate k 0
    → Filling ts first m rows of cells next rows of cells heads next 0 0
unfolding newest patches_in up_to filter_by Numbered
filling_none ts first m rows of cells heads next k e z =
    record {
      within = omega arith;
      len_rows = refl;
      len_of = refl;
      len_cells = refl;
      len_next = refl;
      standing = record {
        grid = record {
          room_rows = omega arith;
          room_cells = omega arith;
          room_next = omega arith;
          buckets = ap length z ∙ length-replicate k 0 ∙ e;
          cells_are = λ p l. absurd (not-suc-le-zero l);
          heads_are = λ h l. rw z (get_or-replicate k h 0 0 (omega arith));
          next_are = λ p q l. absurd (not-suc-le-zero l);
          round_are = λ p q l. absurd (not-suc-le-zero l);
        };
        few = omega arith;
        numbered = λ i l. absurd (not-suc-le-zero l);
      };
      so_far = refl;
      left_out = λ i l. absurd (not-suc-le-zero l);
    }

pub filling_more : (ts : List Triangle) (first : List ℕ) (m : ℕ) (rows₀ : List Float) (of₀ cells₀ next₀ : List ℕ) (rows : List Float) (of cells heads next : List ℕ) (t np : ℕ)
    (rows' : List Float) (of' cells' heads' next' : List ℕ) (np' : ℕ)
    → Filling ts first m rows₀ of₀ cells₀ next₀ rows of cells heads next t np → t < m
    → length rows' ≡ length rows → length of' ≡ length of → length cells' ≡ length cells → length next' ≡ length next
    → Standing rows' of' cells' heads' next' (suc t) np'
    → patches_in rows' of' (suc t) np' ≡ cond (kept_by first t) (placed_of ts (patches_in rows of t np) t) (patches_in rows of t np)
    → ((i : ℕ) → (i ≡ t → ⊥) → get_or of' i none_of ≡ get_or of i none_of) → (kept_by first t ≡ false → get_or of' t none_of ≡ none_of)
    → Filling ts first m rows₀ of₀ cells₀ next₀ rows' of' cells' heads' next' (suc t) np'
filling_more ts first m rows₀ of₀ cells₀ next₀ rows of cells heads next t np rows' of' cells' heads' next' np' f h lr lo lc ln s e o z =
    record {
      within = h;
      len_rows = lr ∙ f.len_rows;
      len_of = lo ∙ f.len_of;
      len_cells = lc ∙ f.len_cells;
      len_next = ln ∙ f.len_next;
      standing = s;
      so_far = e ∙ ap (λ (ps : List Patch). cond (kept_by first t) (placed_of ts ps t) ps) f.so_far ∙ sym (to_more ts first t);
      left_out = λ i l k.
          by-eq i t (λ w. ap (λ (j : ℕ). get_or of' j none_of) w ∙ z (ap (kept_by first) (sym w) ∙ k)) (λ d. o i d ∙ f.left_out i (by_order t i (λ g. absurd (d (omega arith))) (λ g. g)) k);
    }

pub filling_all : (area : List Float) (handles : List ℕ) (n : ℕ) (first : List ℕ) (m : ℕ) (rows₀ : List Float) (of₀ cells₀ next₀ : List ℕ) (rows : List Float) (of cells heads next : List ℕ) (t np : ℕ)
    → Filling (triangles_in area handles n m) first m rows₀ of₀ cells₀ next₀ rows of cells heads next t np → m ≤ t → m ≤ n
    → ((i : ℕ) → i < m → kept_by first i ≡ is_first (faces_in area n) i)
    → (patches_in rows of m np ≡ patches_of (triangles_in area handles n m)) × (((np ≤ m) × Numbered of m np) × ((i : ℕ) → i < m → kept_by first i ≡ false → get_or of i none_of ≡ none_of))
unfolding patches_of
filling_all area handles n first m rows₀ of₀ cells₀ next₀ rows of cells heads next t np f h l e =
    let w = f.within in
    let same : t ≡ m = omega arith in
    let ts = triangles_in area handles n m in (
      ap (λ (k : ℕ). patches_in rows of k np) (sym same) ∙ f.so_far ∙ ap (patches_to ts first) same ∙ ap (foldl (placed_of ts) []) (kept_is area handles n m first l e),
      ((let g = f.standing.few in omega arith, rw same at f.standing.numbered), λ i g k. f.left_out i (omega arith) k),
    )
