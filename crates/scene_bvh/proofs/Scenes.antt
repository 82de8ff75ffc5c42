-- What a loaded scene gives: its triangles in the areas, a handle for every number, finite centroids, and the tree over its triangles alone.
use mathlib.Core.Path.{◌≡◌, refl, sym, ap, subst, ◌∙◌}
use mathlib.Core.Bool.{Bool, true, false, ◌&&◌, true≢false}
use mathlib.Core.List.{List, [], ◌∷◌, map}
use Prim.Native.Nat.{ℕ, zero, suc, ◌+◌, ◌*◌, ◌<◌, ◌≤◌}
use native.Mathlib.Omega.{arith}
use borrow.Author.Tests.{eqb-true, not-false}
use lib.Ieee.{Float}
use lib.ListN.{length, get_or, length-map, get_or-eq_default}
use lib.Seq.{ext_get_or}
use Rattle.order.specs.Sort.{Below}
use Rattle.order.specs.Runs.{up_to}
use Rattle.float.proofs.Numbers.{by_order}
use Rattle.order.proofs.Laws.{below_none, below_cons}
use Rattle.order.proofs.Positions.{get_or_map_up_to, up_to_length}
use Rattle.geometry.specs.declared.Triangle.{Triangle}
use Rattle.geometry.specs.Triangle as triangle
use Rattle.columns.specs.Columns.{vec_at_of, triangle_at_of}
use Rattle.scene.specs.declared.Settings.{Settings}
use Rattle.scene.specs.Scene.{Scene, headers, index_sum, meshes_of}
use Rattle.scene.specs.Limits.{most_triples}
use Rattle.scene.specs.Refusals.{refusal1, refusal2, refusal3, refusal4, refusal5, first, triples_in, lengths_are_right, lengths_right_of, meshes_are_whole, transforms_are_right, positions_are_right, indices_are_right, materials_are_right}
use Rattle.placing.specs.Corners.{refusal6, corners, triangles}
use Rattle.placing.specs.Passing.{Reads}
use Rattle.placing.specs.Loading.{first_refusal, LoadSaid, Triangles, loaded_of, Loading}
use Rattle.placing.proofs.Passes.{whole_triples_lem}
use Rattle.placing.proofs.Accepts.{fits, few}
use Rattle.tree_build.specs.Tree.{count_to, build_of, max_depth}
use Rattle.tree_trace.specs.Leaf.{RowAt, LeafRows}
use Rattle.bvh.specs.Bvh.{aabb_of, centroid_in, finite_of, Edged, BvhOf}
use Rattle.bvh.specs.Bvh as flat
use Rattle.bvh.proofs.Agree.{build_agree}
use Rattle.bvh.proofs.Finite.{NearTriangle, finite_centroids}
use Rattle.planes_patches.specs.Triangles.{no_triangle, nth_triangle, box_of, triangles_in}
use Rattle.mirror.specs.Rows.{ReadsAs}
use Rattle.segments.specs.Materials.{material_floats}
use Rattle.scene_bvh.specs.SceneTree.{tree_of, cleared_from, SceneLoaded, TrianglesRead, TreeStands, SceneTree}
use Rattle.scene_bvh.proofs.Handles.{below_kept, above_zero}
use Rattle.scene_bvh.proofs.Kept.{near_triangles, known_handles, triangles_fewer}

-- ---- what no refusal says

-- none of the six applies
pub record NoRefusal (st : Settings) (c : ℕ) (s : Scene) (a : List ℕ) : Type 0 where
  pub settings : refusal1 st c ≡ false
  pub lengths : refusal2 s ≡ false
  pub known : refusal3 s ≡ false
  pub few : refusal4 s ≡ false
  pub room : refusal5 s c a ≡ false
  pub near : refusal6 s ≡ false

record Open (b1 b2 b3 b4 b5 b6 : Bool) : Type 0 where
  pub one : b1 ≡ false
  pub two : b2 ≡ false
  pub three : b3 ≡ false
  pub four : b4 ≡ false
  pub five : b5 ≡ false
  pub six : b6 ≡ false

all_open : (b1 b2 b3 b4 b5 b6 : Bool) → first 1 (b1 ∷ b2 ∷ b3 ∷ b4 ∷ b5 ∷ b6 ∷ []) ≡ 0 → Open b1 b2 b3 b4 b5 b6
all_open true b2 b3 b4 b5 b6 e = absurd (let z : ◌≡◌ {A = ℕ} 1 0 = e in omega arith)
all_open false true b3 b4 b5 b6 e = absurd (let z : ◌≡◌ {A = ℕ} 2 0 = e in omega arith)
all_open false false true b4 b5 b6 e = absurd (let z : ◌≡◌ {A = ℕ} 3 0 = e in omega arith)
all_open false false false true b5 b6 e = absurd (let z : ◌≡◌ {A = ℕ} 4 0 = e in omega arith)
all_open false false false false true b6 e = absurd (let z : ◌≡◌ {A = ℕ} 5 0 = e in omega arith)
all_open false false false false false true e = absurd (let z : ◌≡◌ {A = ℕ} 6 0 = e in omega arith)
all_open false false false false false false e = record { one = refl; two = refl; three = refl; four = refl; five = refl; six = refl }

pub no_refusal : (st : Settings) (c : ℕ) (s : Scene) (a : List ℕ) → first_refusal st c s a ≡ 0 → NoRefusal st c s a
unfolding first_refusal
no_refusal st c s a e =
    let o = all_open (refusal1 st c) (refusal2 s) (refusal3 s) (refusal4 s) (refusal5 s c a) (refusal6 s) e in
    record { settings = o.one; lengths = o.two; known = o.three; few = o.four; room = o.five; near = o.six }

-- an answer with counts says that there is no refusal, and which counts
pub record Told (k : ℕ) (s : Scene) (m n : ℕ) : Type 0 where
  pub none : k ≡ 0
  pub count : m ≡ length (triangles s)
  pub triples : n ≡ triples_in s

pub told : (k : ℕ) (s : Scene) (m p n : ℕ) → Triangles m p n ≡ loaded_of k s → Told k s m n
told zero s m p n e = record { none = refl; count = cc; triples = cc }
told (suc k) s m p n e = let z : ◌≡◌ {A = ℕ} 0 1 = cc in absurd (omega arith)

-- `SceneLoaded`, from what `load_scene` ensures
pub loaded :
    (st : Settings) (c : ℕ) (s : Scene) (a : List ℕ) (columns₀ : List Float) (handles₀ : List ℕ) (r : LoadSaid) (columns : List Float) (handles : List ℕ) (m p n : ℕ) →
    r ≡ Triangles m p n → Loading (first_refusal st c s a) s columns₀ handles₀ r columns handles → SceneLoaded s columns handles n m
loaded st c s a columns₀ handles₀ r columns handles m p n e l =
    record {
      settings = st;
      candidates = c;
      areas = a;
      found_columns = columns₀;
      found_handles = handles₀;
      placings = p;
      loading = subst (λ (q : LoadSaid). Loading (first_refusal st c s a) s columns₀ handles₀ q columns handles) e l;
    }

-- what is left of it: the counts, what no refusal says of the scene, and the reading of the areas as found
pub record Facts (s : Scene) (columns : List Float) (handles : List ℕ) (n m : ℕ) : Type 0 where
  pub count : m ≡ length (triangles s)
  pub triples : n ≡ triples_in s
  pub lengths : refusal2 s ≡ false
  pub known : refusal3 s ≡ false
  pub few : refusal4 s ≡ false
  pub near : refusal6 s ≡ false
  pub reads : (i : ℕ) → i < m → Reads columns handles n i (nth_triangle (triangles s) i)

pub facts : (s : Scene) (columns : List Float) (handles : List ℕ) (n m : ℕ) → SceneLoaded s columns handles n m → Facts s columns handles n m
unfolding nth_triangle
facts s columns handles n m l =
    let t = told (first_refusal l.settings l.candidates s l.areas) s m l.placings n l.loading.answer in
    let o = no_refusal l.settings l.candidates s l.areas t.none in
    record {
      count = t.count;
      triples = t.triples;
      lengths = o.lengths;
      known = o.known;
      few = o.few;
      near = o.near;
      reads = λ i h. rw t.triples (l.loading.reads t.none i no_triangle (rw t.count at h));
    }

-- the counts' limits: what `Roomy` asks of them
pub record Limits (n m : ℕ) : Type 0 where
  pub fewer : m ≤ n
  pub most : n ≤ most_triples

pub limits : (s : Scene) (columns : List Float) (handles : List ℕ) (n m : ℕ) → SceneLoaded s columns handles n m → Limits n m
limits s columns handles n m l =
    let f = facts s columns handles n m l in
    let parts = fits s (triples_in s) f.lengths refl in
    let listed : index_sum (headers s.meshes) ≤ length s.indices = omega (arith, parts.listed) in
    let whole = whole_triples_lem (headers s.meshes) s.transforms s.positions s.indices listed in
    record {
      fewer = omega (arith, f.count, f.triples, whole, triangles_fewer (meshes_of s));
      most = few s n f.few (sym f.triples);
    }

-- ---- the material table

last_true : (a b c d e : Bool) → (a && (b && (c && (d && e)))) ≡ true → e ≡ true
last_true true true true true e h = h
last_true true true true false e h = absurd (true≢false (sym h))
last_true true true false d e h = absurd (true≢false (sym h))
last_true true false c d e h = absurd (true≢false (sym h))
last_true false b c d e h = absurd (true≢false (sym h))

table_length : (s : Scene) → refusal2 s ≡ false → length s.materials ≡ material_floats * s.rows
unfolding refusal2 lengths_right_of materials_are_right
table_length s h =
    let ms = s.meshes in
    let m = length s.materials in
    eqb-true m (16 * s.rows)
    (last_true (meshes_are_whole ms) (transforms_are_right ms (length s.transforms)) (positions_are_right ms (length s.positions)) (indices_are_right ms (length s.indices)) (materials_are_right s.rows m)
    (not-false (lengths_are_right s) h))

-- the handle of a kept triangle has its row
known : (s : Scene) → refusal3 s ≡ false → (i : ℕ) → i < length (triangles s) → (nth_triangle (triangles s) i).material_handle < s.rows
unfolding refusal3 nth_triangle
known s h i l = known_handles s.rows (headers s.meshes) s.transforms s.positions s.indices h i no_triangle l

-- ---- numbers in order

below_suc : (m i n : ℕ) → i + n ≤ m → Below m (count_to i n)
unfolding count_to
below_suc m i zero h = below_none m
below_suc m i (suc n) h = below_cons m i (count_to (suc i) n) (omega arith) (below_suc m (suc i) n (omega arith))

-- a triangle read with other handles
handle_only : (columns : List Float) (h k : List ℕ) (n i : ℕ) → get_or h i 0 ≡ get_or k i 0 → triangle_at_of columns h n i ≡ triangle_at_of columns k n i
unfolding triangle_at_of
handle_only columns h k n i e = rw e

handle_at : (columns : List Float) (h : List ℕ) (n i : ℕ) (t : Triangle) → triangle_at_of columns h n i ≡ t → t.material_handle ≡ get_or h i 0
unfolding triangle_at_of
handle_at columns h n i t e = sym (ap (λ (u : Triangle). u.material_handle) e)

corner_at : (columns : List Float) (h : List ℕ) (n i : ℕ) (t : Triangle) → triangle_at_of columns h n i ≡ t → vec_at_of columns n i ≡ t.a
unfolding triangle_at_of
corner_at columns h n i t e = ap (λ (u : Triangle). u.a) e

missing : (ts : List Triangle) (i : ℕ) → length ts ≤ i → ◌≡◌ {A = ℕ} (nth_triangle ts i).material_handle 0
unfolding nth_triangle
missing ts i h = ap (λ (u : Triangle). u.material_handle) (get_or-eq_default ts no_triangle h)

-- ---- the triangles, with the handles cleared from m on
module _ (s : Scene) (columns : List Float) (found : List ℕ) (n m : ℕ) (f : Facts s columns found n m) (room : m ≤ length found) where
  -- the triangle at i
  pub triangle_is : (i : ℕ) → i < m → triangle_at_of columns (cleared_from m found) n i ≡ nth_triangle (triangles s) i
  triangle_is i h = handle_only columns (cleared_from m found) found n i (below_kept m found room i h) ∙ (f.reads i h).triangle

  pub reads_as : (i : ℕ) → i < m → ReadsAs columns n i (nth_triangle (triangles s) i)
  reads_as i h =
      record {
        corner = corner_at columns found n i (nth_triangle (triangles s) i) (f.reads i h).triangle;
        edges = (f.reads i h).edges;
        dots = (f.reads i h).dots;
      }

  pub edged : Edged columns (cleared_from m found) n m
  unfolding Edged
  edged i h = rw (triangle_is i h) (f.reads i h).edges

  -- all of them
  pub all_read : triangles_in columns (cleared_from m found) n m ≡ triangles s
  unfolding triangles_in nth_triangle
  all_read =
      let at = triangle_at_of columns (cleared_from m found) n in
      let len : length (map at (up_to m)) ≡ m = rw (length-map) (up_to_length m) in
      ext_get_or no_triangle (map at (up_to m)) (triangles s) (len ∙ f.count)
      (λ i h. let l : i < m = rw len at h in get_or_map_up_to at m i no_triangle l ∙ triangle_is i l)

  -- bounded, so that the centroids are finite
  pub near_all : (i : ℕ) → i < m → NearTriangle 10000 (triangle_at_of columns (cleared_from m found) n i)
  unfolding nth_triangle
  near_all i h = subst (NearTriangle 10000) (sym (triangle_is i h)) (near_triangles (corners s) f.near i no_triangle (rw f.count at h))

  pub finite : finite_of (centroid_in columns (cleared_from m found) n) m ≡ true
  finite = finite_centroids columns (cleared_from m found) n m 10000 (omega arith) near_all

  -- the handle of any number
  pub handle_is : (i : ℕ) → (nth_triangle (triangles s) i).material_handle ≡ get_or (cleared_from m found) i 0
  handle_is i =
      by_order m i (λ h. missing (triangles s) i (omega (arith, f.count)) ∙ sym (above_zero m found room i h))
      (λ h. handle_at columns (cleared_from m found) n i (nth_triangle (triangles s) i) (triangle_is i h))

  -- its row of the table
  pub row_of : 0 < m → (i : ℕ) → material_floats * get_or (cleared_from m found) i 0 + material_floats ≤ length s.materials
  row_of some i =
      let len = table_length s f.lengths in
      let below : (j : ℕ) → j < m → (nth_triangle (triangles s) j).material_handle < s.rows = λ j h. known s f.known j (rw f.count at h) in
      by_order m i (λ h. let z = above_zero m found room i h in let k = below 0 some in omega arith)
      (λ h. let z = handle_is i in let k = below i h in omega arith)

  pub triangles_read : 0 < m → TrianglesRead (triangles s) columns (cleared_from m found) n m s.materials
  triangles_read some =
      record {
        count = f.count;
        all = all_read;
        triangle = triangle_is;
        reads = reads_as;
        materials_room = row_of some;
      }

  -- ---- the tree

  pub tree_is : flat.tree_in columns (cleared_from m found) n m ≡ tree_of (triangles s)
  unfolding flat.tree_in tree_of aabb_of centroid_in box_of
  tree_is =
      let ts = triangles s in
      build_agree m (aabb_of columns (cleared_from m found) n) (λ i. box_of (nth_triangle ts i)) (centroid_in columns (cleared_from m found) n) (λ i. triangle.centroid_of (nth_triangle ts i))
      (λ i h. ap box_of (triangle_is i h)) (λ i h. ap triangle.centroid_of (triangle_is i h)) max_depth (count_to 0 m) (below_suc m 0 m (omega arith))
      ∙ ap (λ (k : ℕ). build_of (λ i. box_of (nth_triangle ts i)) (λ i. triangle.centroid_of (nth_triangle ts i)) k) f.count

  rows_are : (perm : List ℕ) (rows : List Float) → Below m perm → LeafRows (triangle_at_of columns (cleared_from m found) n) perm rows → LeafRows (nth_triangle (triangles s)) perm rows
  unfolding LeafRows Below
  rows_are perm rows inside r k h = subst (RowAt rows k) (triangle_is (get_or perm k 0) (inside k h)) (r k h)

  pub stands :
      (boxes : List Float) (nodes perm : List ℕ) (padded rows : List Float) (r : ℕ) → BvhOf columns (cleared_from m found) n m boxes nodes perm padded rows r →
      TreeStands (triangles s) padded nodes perm rows (cleared_from m found) r
  stands boxes nodes perm padded rows r b =
      let w = b.built finite in
      let t = b.traced finite in
      record {
        reads =
            record {
              rows_of = rows_are perm rows w.inside (t.rows_of edged);
              handles_of = handle_is;
              tree_held = rw (← tree_is) t.tree;
            };
        held = t.held;
        some = w.some;
        most = omega (arith, w.most, f.count);
      }

-- the whole, from the loading and what `build_flat_bvh` left
pub scene_tree :
    (s : Scene) (columns : List Float) (found : List ℕ) (n m : ℕ) (boxes : List Float) (nodes perm : List ℕ) (padded rows : List Float) (r : ℕ) →
    0 < m → m ≤ length found → BvhOf columns (cleared_from m found) n m boxes nodes perm padded rows r → SceneLoaded s columns found n m →
    SceneTree s columns (cleared_from m found) n m padded nodes perm rows r
scene_tree s columns found n m boxes nodes perm padded rows r some room b l =
    let f = facts s columns found n m l in
    record {
      triangles_read = triangles_read s columns found n m f room some;
      tree = stands s columns found n m f room boxes nodes perm padded rows r b;
    }
