-- Patches in rows and numbers, when a triangle joins a patch (`turn_joined`), starts one (`turn_new`) or is left out (`turn_none`).
use mathlib.Core.Path.{◌≡◌, refl, sym, ap, ◌∙◌}
use mathlib.Core.Logic.{⊎_elim, ◌⊎◌, inl, inr}
use mathlib.Core.Bool.{Bool}
use mathlib.Core.List.{List, [], ◌∷◌, ◌++◌, append-nil, map, flat_map}
use Prim.Native.Nat.{ℕ, suc, ◌+◌, ◌*◌, ◌<◌, ◌≤◌}
use native.Mathlib.Nat.{le_refl}
use native.Mathlib.Omega.{arith}
use lib.Dec.{eqb}
use lib.Ieee.{Float}
use lib.ListN.{length, get_or, set}
use lib.Seq.{get_or-set_same, get_or-set_other}
use borrow.Author.Tests.{eq-eqb, ne_eqb, lt-ltb, le-ltb}
use Rattle.order.proofs.Positions.{Under, under_up_to, get_or_map_up_to}
use Rattle.vector.specs.declared.Vec3.{Vec3}
use Rattle.geometry.specs.declared.Triangle.{Triangle}
use Rattle.geometry.specs.Triangle.{triangle_area_of}
use Rattle.float.proofs.Numbers.{by_order}
use Rattle.order.specs.Runs.{first_by, up_to}
use Rattle.order.proofs.Stable.{by-eq}
use Rattle.planes_faces.specs.Key.{Key, same_key}
use Rattle.planes_patches.specs.declared.PatchRow.{PatchRow}
use Rattle.planes_patches.specs.declared.PlaneKey.{PlaneKey}
use Rattle.planes_patches.specs.Lists.{keep_if, filter_by}
use Rattle.planes_patches.specs.Triangles.{nth_triangle, box_of}
use Rattle.planes_patches.specs.Normal.{canonical_of, offset_of}
use Rattle.planes_patches.specs.Patch.{Patch, no_patch, patch_at}
use Rattle.planes_patches.specs.Patches.{cell_of, around_of, patches_in_cell, lies_in_plane, found_of, lone_patch, joined_of, placed_of}
use Rattle.planes_patches.specs.Rows.{patch_floats, none_of, row_in, new_row_of, joined_row_of, tris_in, patch_in, patches_in, Numbered}
use Rattle.planes_patches.specs.Grid.{key, plane_key_of, bucket_of, cell_at, linked_of, coplanar_at, cell_in, first_among, Standing}
use Rattle.planes_patches.proofs.Lists.{under_filter, under_flat, filter_more, filter_under, filter_none, length_up_to, map_under, map_set, map_push}
use Rattle.planes_patches.proofs.Buckets.{grid_joined, grid_more}

-- ---- one patch

-- a patch is a row and its triangles
abbrev pub from_row : PatchRow → List ℕ → Patch
from_row r is = record { normal = r.normal; offset = r.offset; area = r.area; box = r.aabb; tris = is; cell = cell_of r.normal }

pub patch_row : (rows : List Float) (of : List ℕ) (m p : ℕ) → patch_in rows of m p ≡ from_row (row_in rows p) (tris_in of m p)
unfolding patch_in row_in
patch_row rows of m p = refl

pub cell_row : (rows rows' : List Float) (p : ℕ) → row_in rows' p ≡ row_in rows p → cell_in rows' p ≡ cell_in rows p
unfolding cell_in row_in
cell_row rows rows' p e = ap (λ (r : PatchRow). cell_of r.normal) e

pub cell_joined : (rows rows' : List Float) (p : ℕ) (t : Triangle) → row_in rows' p ≡ joined_row_of (row_in rows p) t → cell_in rows' p ≡ cell_in rows p
unfolding cell_in row_in joined_row_of
cell_joined rows rows' p t e = ap (λ (r : PatchRow). cell_of r.normal) e

pub cell_new : (rows : List Float) (p : ℕ) (t : Triangle) → row_in rows p ≡ new_row_of t → cell_in rows p ≡ cell_of (canonical_of t.normal)
unfolding cell_in row_in new_row_of
cell_new rows p t e = ap (λ (r : PatchRow). cell_of r.normal) e

-- triangle t gets a number
pub tris_more : (of : List ℕ) (t v p : ℕ) → t < length of → tris_in (set of t v) (suc t) p ≡ tris_in of t p ++ keep_if (eqb v p) t []
unfolding tris_in
tris_more of t v p h =
    filter_more (λ i. eqb (get_or (set of t v) i none_of) p) t
    ∙ rw (get_or-set_same of t v none_of h)
    (ap (λ (l : List ℕ). l ++ keep_if (eqb v p) t [])
    (filter_under (λ i. eqb (get_or (set of t v) i none_of) p) (λ i. eqb (get_or of i none_of) p) t (λ i l. ap (λ (w : ℕ). eqb w p) (get_or-set_other of t i v none_of (λ s. omega arith)))))

pub tris_other : (of : List ℕ) (t v p : ℕ) → t < length of → (v ≡ p → ⊥) → tris_in (set of t v) (suc t) p ≡ tris_in of t p
tris_other of t v p h d = tris_more of t v p h ∙ rw (ne_eqb v p d) (append-nil (tris_in of t p))

pub tris_same : (of : List ℕ) (t p : ℕ) → t < length of → tris_in (set of t p) (suc t) p ≡ tris_in of t p ++ (t ∷ [])
tris_same of t p h = tris_more of t p p h ∙ rw (eq-eqb p p refl)

-- no triangle has the number of a patch that is not made
tris_none : (of : List ℕ) (t np : ℕ) → Numbered of t np → np < none_of → tris_in of t np ≡ []
unfolding tris_in Numbered
tris_none of t np d h =
    filter_none (λ i. eqb (get_or of i none_of) np) t (λ i l. ne_eqb (get_or of i none_of) np (λ e. ⊎_elim (λ w. omega arith) (λ w. omega arith) (d i l)))

numbered_more : (of : List ℕ) (t np np' v : ℕ) → Numbered of t np → t < length of → np ≤ np' → (v < np') ⊎ (v ≡ none_of) → Numbered (set of t v) (suc t) np'
unfolding Numbered
numbered_more of t np np' v d h g w i l =
    by-eq i t (λ e. rw (e, get_or-set_same of t v none_of h) w)
    (λ ne. rw (get_or-set_other of t i v none_of ne) (⊎_elim (λ s. inl (omega arith)) (λ s. inr s) (d i (by_order t i (λ q. absurd (ne (omega arith))) (λ q. q)))))

-- ---- all patches

module _ (rows rows' : List Float) (of : List ℕ) (t np p : ℕ) (h : t < length of) where
  -- a patch whose row and triangles stay
  stays : (q v : ℕ) → row_in rows' q ≡ row_in rows q → (v ≡ q → ⊥) → patch_in rows of t q ≡ patch_in rows' (set of t v) (suc t) q
  stays q v e d =
      patch_row rows of t q ∙ ap (λ (r : PatchRow). from_row r (tris_in of t q)) (sym e) ∙ ap (from_row (row_in rows' q)) (sym (tris_other of t v q h d)) ∙ sym (patch_row rows' (set of t v) (suc t) q)

  pub turn_joined : (tri : Triangle) → p < np → row_in rows' p ≡ joined_row_of (row_in rows p) tri → ((q : ℕ) → (q ≡ p → ⊥) → row_in rows' q ≡ row_in rows q)
      → patches_in rows' (set of t p) (suc t) np ≡ set (patches_in rows of t np) p (joined_of (patch_at (patches_in rows of t np) p) tri t)
  unfolding patches_in patch_at joined_of joined_row_of
  turn_joined tri l e o =
      let f = patch_in rows of t in
      let g = patch_in rows' (set of t p) (suc t) in
      let new : g p ≡ joined_of (f p) tri t =
      patch_row rows' (set of t p) (suc t) p ∙ ap (λ (r : PatchRow). from_row r (tris_in (set of t p) (suc t) p)) e
      ∙ ap (from_row (joined_row_of (row_in rows p) tri)) (tris_same of t p h) ∙ sym (ap (λ (q : Patch). joined_of q tri t) (patch_row rows of t p)) in
      sym (ap (λ (q : Patch). set (map f (up_to np)) p q) (ap (λ (q : Patch). joined_of q tri t) (get_or_map_up_to f np p no_patch l) ∙ sym new)
      ∙ map_set no_patch f g np p l (λ q i d. stays q p (o q d) (λ s. d (sym s))))

  pub turn_new : (tri : Triangle) → p ≡ np → np < none_of → Numbered of t np → row_in rows' p ≡ new_row_of tri → ((q : ℕ) → (q ≡ p → ⊥) → row_in rows' q ≡ row_in rows q)
      → patches_in rows' (set of t p) (suc t) (suc np) ≡ patches_in rows of t np ++ (lone_patch tri t ∷ [])
  unfolding patches_in lone_patch new_row_of
  turn_new tri s l d e o =
      let f = patch_in rows of t in
      let g = patch_in rows' (set of t p) (suc t) in
      let none : tris_in of t p ≡ [] = rw s (tris_none of t np d l) in
      let new : g p ≡ lone_patch tri t =
      patch_row rows' (set of t p) (suc t) p ∙ ap (λ (r : PatchRow). from_row r (tris_in (set of t p) (suc t) p)) e
      ∙ ap (from_row (new_row_of tri)) (tris_same of t p h ∙ ap (λ (l : List ℕ). l ++ (t ∷ [])) none) in
      sym (ap (λ (q : Patch). map f (up_to np) ++ (q ∷ [])) (sym new ∙ ap g s) ∙ map_push f g np (λ q i. stays q p (o q (λ w. omega arith)) (λ w. omega arith)))

pub turn_none : (rows : List Float) (of : List ℕ) (t np : ℕ) → t < length of → np ≤ none_of → patches_in rows (set of t none_of) (suc t) np ≡ patches_in rows of t np
unfolding patches_in
turn_none rows of t np h l = sym (map_under (patch_in rows of t) (patch_in rows (set of t none_of) (suc t)) np (λ q i. stays rows rows of t np 0 h q none_of refl (λ s. omega arith)))

-- ---- what is found

flat_same : {C : Type 0} (f g : C → List ℕ) (cs : List C) → ((c : C) → f c ≡ g c) → flat_map f cs ≡ flat_map g cs
unfolding flat_map
flat_same f g [] e = refl
flat_same f g (c ∷ cs) e = rw (e c, flat_same f g cs e)

first_same : (p q : ℕ → Bool) (n d : ℕ) (xs : List ℕ) → Under n xs → ((i : ℕ) → i < n → p i ≡ q i) → first_by p d xs ≡ first_by q d xs
unfolding Under first_by
first_same p q n d [] u e = refl
first_same p q n d (x ∷ xs) u e = rw (e x u.0, first_same p q n d xs u.1 e)

module _ (rows : List Float) (of : List ℕ) (t np : ℕ) where
  abbrev ps : List Patch
  ps = patches_in rows of t np

  pub patches_length : length ps ≡ np
  unfolding patches_in
  patches_length = length_up_to (patch_in rows of t) np

  pub patch_at_lem : (i : ℕ) → i < np → patch_at ps i ≡ patch_in rows of t i
  unfolding patches_in patch_at
  patch_at_lem i l = get_or_map_up_to (patch_in rows of t) np i no_patch l

  in_cell : (c : Key) → patches_in_cell ps c ≡ filter_by (λ i. same_key (cell_in rows i) c) (up_to np)
  unfolding patches_in_cell cell_in patch_in
  in_cell c =
      ap (λ (n : ℕ). filter_by (λ i. same_key (patch_at ps i).cell c) (up_to n)) patches_length
      ∙ filter_under (λ i. same_key (patch_at ps i).cell c) (λ i. same_key (cell_in rows i) c) np (λ i l. ap (λ (p : Patch). same_key p.cell c) (patch_at_lem i l))

  is_coplanar_lem : (n : Vec3) (d : Float) (i : ℕ) → i < np → lies_in_plane (patch_at ps i) n d ≡ coplanar_at rows n d i
  unfolding coplanar_at lies_in_plane patch_in
  is_coplanar_lem n d i l = ap (λ (p : Patch). lies_in_plane p n d) (patch_at_lem i l)

  found_is : (n : Vec3) (d : Float) → first_among rows np n d (around_of (cell_of n)) ≡ found_of ps n d
  unfolding first_among found_of
  found_is n d =
      let inside : Key → List ℕ = λ c. filter_by (λ i. same_key (cell_in rows i) c) (up_to np) in
      sym (ap (λ (k : ℕ). first_by (λ i. lies_in_plane (patch_at ps i) n d) k (flat_map (patches_in_cell ps) (around_of (cell_of n)))) patches_length
      ∙ ap (first_by (λ i. lies_in_plane (patch_at ps i) n d) np) (flat_same (patches_in_cell ps) inside (around_of (cell_of n)) in_cell)
      ∙ first_same (λ i. lies_in_plane (patch_at ps i) n d) (coplanar_at rows n d) np np (flat_map inside (around_of (cell_of n)))
      (under_flat np inside (around_of (cell_of n)) (λ c. under_filter np (λ i. same_key (cell_in rows i) c) (up_to np) (under_up_to np))) (is_coplanar_lem n d))

  -- by the key of a triangle's plane
  pub found_key : (tri : Triangle) (k : PlaneKey) (r : ℕ) → k ≡ plane_key_of tri → r ≡ first_among rows np k.normal k.offset (around_of (key k.x k.y k.z))
      → r ≡ found_of ps (canonical_of tri.normal) (offset_of tri)
  unfolding plane_key_of
  found_key tri k r e f = f ∙ ap (λ (k : PlaneKey). first_among rows np k.normal k.offset (around_of (key k.x k.y k.z))) e ∙ found_is (canonical_of tri.normal) (offset_of tri)

placed_joined : (ts : List Triangle) (ps : List Patch) (i np r : ℕ) (tri : Triangle) → nth_triangle ts i ≡ tri → length ps ≡ np → r ≡ found_of ps (canonical_of tri.normal) (offset_of tri) → r < np
    → placed_of ts ps i ≡ set ps r (joined_of (patch_at ps r) tri i)
unfolding placed_of
placed_joined ts ps i np r tri e n f l = rw (e, ← f, n, lt-ltb r np l)

placed_new : (ts : List Triangle) (ps : List Patch) (i np r : ℕ) (tri : Triangle) → nth_triangle ts i ≡ tri → length ps ≡ np → r ≡ found_of ps (canonical_of tri.normal) (offset_of tri) → np ≤ r
    → placed_of ts ps i ≡ ps ++ (lone_patch tri i ∷ [])
unfolding placed_of
placed_new ts ps i np r tri e n f l = rw (e, ← f, n, le-ltb r np l)

-- ---- one turn of `place`

module _ (rows : List Float) (of cells heads next : List ℕ) (t np r : ℕ) (tri : Triangle) (k : PlaneKey) (s : Standing rows of cells heads next t np)
    (h : t < length of) (ek : k ≡ plane_key_of tri) (er : r ≡ first_among rows np k.normal k.offset (around_of (key k.x k.y k.z))) (rows' : List Float) where
  module _ (l : r < np) (len : length rows' ≡ length rows) (e : row_in rows' r ≡ joined_row_of (row_in rows r) tri) (o : (q : ℕ) → (q ≡ r → ⊥) → row_in rows' q ≡ row_in rows q) where
    pub joined_standing : Standing rows' (set of t r) cells heads next (suc t) np
    joined_standing =
        record {
          grid = grid_joined rows rows' cells heads next np s.grid len (λ p. by-eq p r (λ w. rw w (cell_joined rows rows' r tri e)) (λ d. cell_row rows rows' p (o p d)));
          few = let f = s.few in omega arith;
          numbered = numbered_more of t np np r s.numbered h (le_refl np) (inl l);
        }

    pub joined_patches : (ts : List Triangle) → nth_triangle ts t ≡ tri → patches_in rows' (set of t r) (suc t) np ≡ placed_of ts (patches_in rows of t np) t
    joined_patches ts w =
        turn_joined rows rows' of t np r h tri l e o
        ∙ sym (placed_joined ts (patches_in rows of t np) t np r tri w (patches_length rows of t np) (found_key rows of t np tri k r ek er) l)

  module _ (cells' : List ℕ) (l : np ≤ r) (few : t < none_of) (rr : patch_floats * np + patch_floats ≤ length rows') (rc : 3 * np + 3 ≤ length cells') (rn : np < length next)
      (e : row_in rows' np ≡ new_row_of tri) (o : (q : ℕ) → (q ≡ np → ⊥) → row_in rows' q ≡ row_in rows q)
      (ec : cell_at cells' np ≡ key k.x k.y k.z) (oc : (q : ℕ) → (q ≡ np → ⊥) → cell_at cells' q ≡ cell_at cells q) where
    key_cell : cell_of (canonical_of tri.normal) ≡ key k.x k.y k.z
    unfolding plane_key_of
    key_cell = sym (ap (λ (k : PlaneKey). key k.x k.y k.z) ek)

    pub new_standing : (heads' next' : List ℕ) → heads' ≡ set heads (bucket_of (key k.x k.y k.z)) (suc np) → next' ≡ linked_of next np (get_or heads (bucket_of (key k.x k.y k.z)) 0)
        → Standing rows' (set of t np) cells' heads' next' (suc t) (suc np)
    new_standing heads' next' eh en =
        record {
          grid = rw (eh, en) (grid_more rows rows' cells cells' heads next np (key k.x k.y k.z) s.grid rr rc rn (λ p d. cell_row rows rows' p (o p d)) (cell_new rows' np tri e ∙ key_cell) oc ec);
          few = let f = s.few in omega arith;
          numbered = numbered_more of t np (suc np) np s.numbered h (omega arith) (inl (le_refl (suc np)));
        }

    pub new_patches : (ts : List Triangle) → nth_triangle ts t ≡ tri → patches_in rows' (set of t np) (suc t) (suc np) ≡ placed_of ts (patches_in rows of t np) t
    new_patches ts w =
        let f = s.few in
        turn_new rows rows' of t np np h tri refl (omega arith) s.numbered e o
        ∙ sym (placed_new ts (patches_in rows of t np) t np r tri w (patches_length rows of t np) (found_key rows of t np tri k r ek er) l)

-- a triangle that is not kept
pub none_standing : (rows : List Float) (of cells heads next : List ℕ) (t np : ℕ) → Standing rows of cells heads next t np → t < length of → Standing rows (set of t none_of) cells heads next (suc t) np
none_standing rows of cells heads next t np s h =
    record { grid = s.grid; few = let f = s.few in omega arith; numbered = numbered_more of t np np none_of s.numbered h (le_refl np) (inr refl) }

-- ---- rows

pub start_row : (t : Triangle) (k : PlaneKey) (r : PatchRow) → k ≡ plane_key_of t → r.normal ≡ k.normal → r.offset ≡ k.offset → r.area ≡ triangle_area_of t → r.aabb ≡ box_of t → r ≡ new_row_of t
unfolding plane_key_of new_row_of
start_row t k r e a b c d =
    let f : record { normal = r.normal; offset = r.offset; area = r.area; aabb = r.aabb } ≡ new_row_of t = rw (a, b, c, d, e) in f

-- patches with equal rows and triangles
pub patch_rows : (rows rows' : List Float) (of of' : List ℕ) (m p q : ℕ) → row_in rows p ≡ row_in rows' q → tris_in of m p ≡ tris_in of' m q → patch_in rows of m p ≡ patch_in rows' of' m q
patch_rows rows rows' of of' m p q e f = patch_row rows of m p ∙ rw (e, f) (sym (patch_row rows' of' m q))
