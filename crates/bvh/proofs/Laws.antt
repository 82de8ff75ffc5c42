-- The laws of the loops of `bvh`, and of the whole:
--     extents_more, keys_more, padded_more, rows_more     one more turn of each loop
--     tree_padded      padded boxes read as the padded tree
--     stands, traced   what the build leaves, and what a trace reads of it (`traced_in`: from the two parts of one area)
use mathlib.Core.Path.{◌≡◌, refl, sym, ap, ◌∙◌, subst}
use mathlib.Core.Logic.{⊎_elim}
use mathlib.Core.Bool.{Bool, true, false, not, ◌&&◌}
use mathlib.Core.List.{List, []}
use Prim.Native.Nat.{ℕ, zero, suc, ◌+◌, ◌-◌, ◌*◌, ◌<◌, ◌≤◌}
use native.Mathlib.Nat.{not-suc-le-zero}
use native.Mathlib.Omega.{arith}
use lib.Dec.{T}
use lib.Ieee.{Float, nan, inf, fin, binary32, fits, is_nan, le}
use lib.Ieee.Fits.{div-fits}
use lib.ListN.{length, get_or, set, take}
use lib.Seq.{sets, length-take-le, get_or-set_same, get_or-set_other, ext_get_or, take_all}
use borrow.Rule.Slice.PartMut.{mid_len}
use Rattle.float.specs.Compare.{is_finite}
use Rattle.float.specs.Key.{key_of_float}
use Rattle.float.proofs.Keys.{float_key_leb}
use Rattle.order.specs.Sort.{Below}
use Rattle.order.specs.Runs.{up_to}
use Rattle.order.proofs.Positions.{up_to_length, up_to_at, up_to_positions}
use Rattle.order.proofs.Stable.{by-eq}
use Rattle.vector.specs.declared.Vec3.{Vec3}
use Rattle.vector.specs.Vector.{axis_of}
use Rattle.geometry.specs.declared.Aabb.{Aabb}
use Rattle.geometry.specs.declared.Edges.{Edges}
use Rattle.geometry.specs.Triangle as triangle
use Rattle.geometry.specs.Slab.{padded_of}
use Rattle.columns.specs.Columns.{triangle_at_of, vec_at_of}
use Rattle.columns.specs.Columns as columns
use Rattle.tree_split.specs.Split.{aabb_at_of, centroid_at_of, KeysInOrder, Keyed}
use Rattle.tree_build.specs.declared.Links.{Links}
use Rattle.tree_build.specs.Tree.{Tree, leaf, node, build_sah_of, count_to}
use Rattle.tree_build.specs.Areas.{box_at_of, links_at_of, read_of, tree_at_of, part, Linked, Sound, Built}
use Rattle.tree_build.proofs.Frame.{read_node, read_leaf}
use Rattle.tree_trace.specs.Leaf.{corner_at_of, edges_at_of, LeafRows}
use Rattle.tree_trace.specs.Trace.{padded_tree_of}
use Rattle.bvh.specs.Bvh.{aabb_of, centroid_in, tree_in, box_row, extent_row, edges_row, all_finite, finite_of, Keys, KeysIn, padded_in, rows_in, TreeStands, Edged, TraceReads, TreeOf}
use Rattle.bvh.proofs.Agree.{build_agree}
use Rattle.bvh.proofs.Rows as rows
use Rattle.bvh.proofs.Parts.{cut_same}

-- ---- one more of a count
less : (k i : ℕ) → k < i + 1 → (k ≡ i → ⊥) → k < i
less k i h ne = omega arith

pub not_both : {A : Type 0} → ◌≡◌ {A = Bool} false true → A
not_both e = let z : ◌≡◌ {A = ℕ} 0 1 = cc in absurd (no z)
  where
    no : ◌≡◌ {A = ℕ} 0 1 → ⊥
    no z = omega arith

-- ---- boxes and centroids

-- the first i rows are those of the triangles
unfoldable pub ExtentsTo : List Float → List ℕ → ℕ → List Float → ℕ → Type 0
ExtentsTo columns handles n e i =
    (k : ℕ) → k < i → (aabb_at_of e k ≡ aabb_of columns handles n k) × (centroid_at_of e k ≡ centroid_in columns handles n k)

pub extents_none : (columns : List Float) (handles : List ℕ) (n : ℕ) (e : List Float) → ExtentsTo columns handles n e 0
unfolding ExtentsTo
extents_none columns handles n e k h = absurd (not-suc-le-zero h)

pub extents_more :
    (columns : List Float) (handles : List ℕ) (n : ℕ) (e e' : List Float) (i : ℕ) (b : Aabb) (c : Vec3) → 9 * i + 9 ≤ length e →
    e' ≡ sets e (9 * i) (extent_row b c) → b ≡ aabb_of columns handles n i → c ≡ centroid_in columns handles n i →
    ExtentsTo columns handles n e i → ExtentsTo columns handles n e' (i + 1)
unfolding ExtentsTo
extents_more columns handles n e e' i b c room s eb ec old k h =
    rw s
    (by-eq k i
    (λ same. rw same (rows.aabb_here e i b c room ∙ eb, rows.centroid_here e i b c room ∙ ec))
    (λ other. let l = less k i h other in (rows.aabb_before e i b c k l ∙ (old k l).0, rows.centroid_before e i b c k l ∙ (old k l).1)))

pub extents_done : (columns : List Float) (handles : List ℕ) (n : ℕ) (e : List Float) (i m : ℕ) → m ≤ i → ExtentsTo columns handles n e i →
    (k : ℕ) → k < m → (aabb_at_of e k ≡ aabb_of columns handles n k) × (centroid_at_of e k ≡ centroid_in columns handles n k)
unfolding ExtentsTo
extents_done columns handles n e i m le all k h = all k (omega arith)

-- ---- keys

finite_is : (x : Float) → is_finite x ≡ true → T (is_finite x)
finite_is x e = subst T (sym e) tt

pub finite_number : (x : Float) → is_finite x ≡ true → T (not (is_nan x))
unfolding is_finite is_nan
finite_number nan e = not_both e
finite_number (inf s) e = tt
finite_number (fin s m e₁) e = tt

axis_fits : (columns : List Float) (handles : List ℕ) (n k i : ℕ) → T (fits binary32 (axis_of (centroid_in columns handles n i) k))
unfolding axis_of centroid_in triangle.centroid_of triangle.third_of
axis_fits columns handles n zero i = div-fits binary32 _ _
axis_fits columns handles n (suc zero) i = div-fits binary32 _ _
axis_fits columns handles n (suc (suc k)) i = div-fits binary32 _ _

-- the first i keys are those of the values, which are finite
unfoldable pub KeysTo : (ℕ → Float) → List ℕ → ℕ → Type 0
KeysTo f keys i = (k : ℕ) → k < i → (get_or keys k 0 ≡ key_of_float (f k)) × (is_finite (f k) ≡ true)

module _ (f : ℕ → Float) where
  pub keys_none : (keys : List ℕ) → KeysTo f keys 0
  unfolding KeysTo
  keys_none keys k h = absurd (not-suc-le-zero h)

  pub keys_more : (keys : List ℕ) (i v : ℕ) (x : Float) → i < length keys → x ≡ f i → is_finite x ≡ true → v ≡ key_of_float x → KeysTo f keys i → KeysTo f (set keys i v) (i + 1)
  unfolding KeysTo
  keys_more keys i v x long e finite g old k h =
      by-eq k i
      (λ same. rw same (get_or-set_same keys i v 0 long ∙ g ∙ ap key_of_float e, sym (ap is_finite e) ∙ finite))
      (λ other. let before = less k i h other in (get_or-set_other keys i k v 0 other ∙ (old k before).0, (old k before).1))

  all_true : (keys : List ℕ) (m : ℕ) → KeysTo f keys m → all_finite f m ≡ true
  unfolding all_finite KeysTo
  all_true keys zero h = refl
  all_true keys (suc m) h = rw (all_true keys m (λ k l. h k (omega arith)), (h m (omega arith)).1)

  pub all_false : (m i : ℕ) → i < m → is_finite (f i) ≡ false → all_finite f m ≡ false
  unfolding all_finite
  all_false zero i h e = absurd (not-suc-le-zero h)
  all_false (suc m) i h e =
      by-eq i m (λ same. rw (rw same at e) (and_false (all_finite f m)))
      (λ other. rw (all_false m i (omega arith) e))
    where
      and_false : (t : Bool) → (t && false) ≡ false
      and_false true = refl
      and_false false = refl

  pub keys_done : ((i : ℕ) → T (fits binary32 (f i))) → (keys : List ℕ) (i m : ℕ) → i ≡ m → KeysTo f keys i → (true ≡ all_finite f m) × (true ≡ true → KeysInOrder m keys f)
  unfolding KeysInOrder KeysTo
  keys_done fit keys i m same all =
      let to : KeysTo f keys m = rw (sym same) all in (
        sym (all_true keys m to),
        λ _ j k hj hk.
            let p = to j hj in
            let q = to k hk in
            rw (p.0, q.0) (float_key_leb (f j) (f k) (fit j) (fit k) (finite_is (f j) p.1) (finite_is (f k) q.1)),
      )

pub axes_fit : (columns : List Float) (handles : List ℕ) (n k i : ℕ) → T (fits binary32 (axis_of (centroid_in columns handles n i) k))
axes_fit = axis_fits

-- the three axes
module _ (mid : ℕ → Vec3) (m : ℕ) where
  pub finite_first : all_finite (λ i. axis_of (mid i) 0) m ≡ false → false ≡ finite_of mid m
  unfolding finite_of
  finite_first e = rw e

  pub finite_second : all_finite (λ i. axis_of (mid i) 0) m ≡ true → all_finite (λ i. axis_of (mid i) 1) m ≡ false → false ≡ finite_of mid m
  unfolding finite_of
  finite_second d e = rw (d, e)

  pub finite_third : (r : Bool) → all_finite (λ i. axis_of (mid i) 0) m ≡ true → all_finite (λ i. axis_of (mid i) 1) m ≡ true → r ≡ all_finite (λ i. axis_of (mid i) 2) m → r ≡ finite_of mid m
  unfolding finite_of
  finite_third r d e f = rw (d, e) f

order_agree : (m : ℕ) (keys : List ℕ) (f g : ℕ → Float) → ((i : ℕ) → i < m → f i ≡ g i) → KeysInOrder m keys f → KeysInOrder m keys g
unfolding KeysInOrder
order_agree m keys f g same o i j hi hj = o i j hi hj ∙ rw (same i hi, same j hj)

keyed : (e : List Float) (mid : ℕ → Vec3) (m : ℕ) (kx ky kz : List ℕ) → ((i : ℕ) → i < m → centroid_at_of e i ≡ mid i) →
    m ≤ length kx → m ≤ length ky → m ≤ length kz → Keys mid m kx ky kz → Keyed e m kx ky kz
keyed e mid m kx ky kz same hx hy hz k =
    record {
      xs = hx;
      ys = hy;
      zs = hz;
      xo = order_agree m kx (λ i. axis_of (mid i) 0) (λ i. axis_of (centroid_at_of e i) 0) (λ i h. ap (λ (v : Vec3). axis_of v 0) (sym (same i h))) k.xo;
      yo = order_agree m ky (λ i. axis_of (mid i) 1) (λ i. axis_of (centroid_at_of e i) 1) (λ i h. ap (λ (v : Vec3). axis_of v 1) (sym (same i h))) k.yo;
      zo = order_agree m kz (λ i. axis_of (mid i) 2) (λ i. axis_of (centroid_at_of e i) 2) (λ i h. ap (λ (v : Vec3). axis_of v 2) (sym (same i h))) k.zo;
    }

-- the three axes' parts of one area: each was filled without touching those before it
pub keys_in :
    (mid : ℕ → Vec3) (m : ℕ) (k₁ k₂ k₃ : List ℕ) →
    KeysInOrder m (part 0 m k₁) (λ i. axis_of (mid i) 0) → KeysInOrder m (part m (2 * m) k₂) (λ i. axis_of (mid i) 1) → KeysInOrder m (part (2 * m) (3 * m) k₃) (λ i. axis_of (mid i) 2) →
    take m k₂ ≡ take m k₁ → take (2 * m) k₃ ≡ take (2 * m) k₂ → KeysIn mid m k₃
unfolding KeysIn
keys_in mid m k₁ k₂ k₃ xo yo zo second third =
    record {
      xo = subst (λ (l : List ℕ). KeysInOrder m l (λ i. axis_of (mid i) 0)) (sym (cut_same 0 m (2 * m) k₃ k₂ (omega arith) third ∙ cut_same 0 m m k₂ k₁ (omega arith) second)) xo;
      yo = subst (λ (l : List ℕ). KeysInOrder m l (λ i. axis_of (mid i) 1)) (sym (cut_same m (2 * m) (2 * m) k₃ k₂ (omega arith) third)) yo;
      zo = zo;
    }

pub keyed_in : (e : List Float) (mid : ℕ → Vec3) (m : ℕ) (keys : List ℕ) → ((i : ℕ) → i < m → centroid_at_of e i ≡ mid i) →
    3 * m ≤ length keys → KeysIn mid m keys → Keyed e m (part 0 m keys) (part m (2 * m) keys) (part (2 * m) (3 * m) keys)
unfolding KeysIn
keyed_in e mid m keys same room k =
    let x = mid_len 0 m keys (omega arith) in
    let y = mid_len m (2 * m) keys (omega arith) in
    let z = mid_len (2 * m) (3 * m) keys (omega arith) in
    keyed e mid m (part 0 m keys) (part m (2 * m) keys) (part (2 * m) (3 * m) keys) same (omega arith) (omega arith) (omega arith) k

-- ---- numbers

count_at : (i n k : ℕ) → k < n → get_or (count_to i n) k 0 ≡ i + k
unfolding count_to
count_at i zero k h = absurd (not-suc-le-zero h)
count_at i (suc n) zero h = omega arith
count_at i (suc n) (suc k) h = count_at (suc i) n k (omega arith) ∙ omega arith

count_length : (i n : ℕ) → length (count_to i n) ≡ n
unfolding count_to
count_length i zero = refl
count_length i (suc n) = ap suc (count_length (suc i) n)

-- the positions from 0 are the leaves as the build begins
pub counted : (p : List ℕ) (n : ℕ) → p ≡ up_to n → (p ≡ count_to 0 n) × Below n p
counted p n e = (
  e ∙ ext_get_or 0 (up_to n) (count_to 0 n) (up_to_length n ∙ sym (count_length 0 n)) (λ k h. let l = up_to_length n in up_to_at n k (omega arith) ∙ sym (count_at 0 n k (omega arith) ∙ zero_plus k)),
  rw e (up_to_positions n),
)
  where
    zero_plus : (k : ℕ) → 0 + k ≡ k
    zero_plus k = omega arith

-- ---- the tree

whole : (n : ℕ) (p : List ℕ) → length p ≡ n → part 0 n p ≡ p
whole n p e = take_all (n - 0) p (omega arith)

pub stands :
    (columns : List Float) (handles : List ℕ) (n m r : ℕ) (e : List Float) (p p' : List ℕ) (b b' : List Float) (l l' : List ℕ) →
    ((k : ℕ) → k < m → (aabb_at_of e k ≡ aabb_of columns handles n k) × (centroid_at_of e k ≡ centroid_in columns handles n k)) →
    length p ≡ m → length p' ≡ m → p ≡ count_to 0 m → Below m p → 12 * m ≤ length b' → 8 * m ≤ length l' →
    Built (build_sah_of (aabb_at_of e) (centroid_at_of e) 32 (part 0 m p)) (32 + 1) m 0 m 0 r p p' b b' l l' →
    TreeStands columns handles n m b' l' p' r
unfolding tree_in
stands columns handles n m r e p p' b b' l l' same size size' c h hb hl w =
    let o = w.room in
    let q = w.more in
    record {
      tree =
          w.tree ∙ ap (build_sah_of (aabb_at_of e) (centroid_at_of e) 32) (whole m p size)
          ∙ build_agree m (aabb_at_of e) (aabb_of columns handles n) (centroid_at_of e) (centroid_in columns handles n) (λ i k. (same i k).0) (λ i k. (same i k).1) 32 p h
          ∙ ap (build_sah_of (aabb_of columns handles n) (centroid_in columns handles n) 32) c;
      some = omega arith;
      most = omega arith;
      boxes_room = omega arith;
      nodes_room = omega arith;
      inside = w.inside;
      size = size';
      sound = w.sound;
    }

-- ---- padded boxes

-- the first i are those of the nodes
unfoldable pub PaddedTo : List Float → List Float → ℕ → Type 0
PaddedTo boxes padded i = (k : ℕ) → k < i → box_at_of padded k ≡ padded_of (box_at_of boxes k)

pub padded_none : (boxes padded : List Float) → PaddedTo boxes padded 0
unfolding PaddedTo
padded_none boxes padded k h = absurd (not-suc-le-zero h)

pub padded_more : (boxes p p' : List Float) (i : ℕ) (b : Aabb) → 6 * i + 6 ≤ length p → p' ≡ sets p (6 * i) (box_row b) → b ≡ padded_of (box_at_of boxes i) → PaddedTo boxes p i → PaddedTo boxes p' (i + 1)
unfolding PaddedTo
padded_more boxes p p' i b room s e old k h =
    rw s
    (by-eq k i (λ same. rw same (rows.box_here p i b room ∙ e)) (λ other. rows.box_before p i b k (less k i h other) ∙ old k (less k i h other)))

pub padded_done : (boxes padded : List Float) (i m : ℕ) → m ≤ i → PaddedTo boxes padded i → (k : ℕ) → k < m → box_at_of padded k ≡ padded_of (box_at_of boxes k)
unfolding PaddedTo
padded_done boxes padded i m le all k h = all k (omega arith)

-- they read as the padded tree
module _ (boxes padded : List Float) (l p : List ℕ) (count m : ℕ) (same : (k : ℕ) → k < count → box_at_of padded k ≡ padded_of (box_at_of boxes k)) (sound : Sound l 0 count 0 m) where
  read_padded : (v : Aabb) (k : Links) → Linked 0 count 0 m k → (on on' : ℕ → Tree) → ((j : ℕ) → j < count → on' j ≡ padded_tree_of (on j)) →
      read_of (padded_of v) k p on' ≡ padded_tree_of (read_of v k p on)
  unfolding padded_tree_of
  read_padded v k ok on on' below =
      ⊎_elim
      (λ w. read_node (padded_of v) k p on' w.0
      ∙ ap (λ (t : Tree). node (padded_of v) t (on' k.right)) (below k.left w.2)
      ∙ ap (λ (t : Tree). node (padded_of v) (padded_tree_of (on k.left)) t) (below k.right w.4)
      ∙ ap padded_tree_of (sym (read_node v k p on w.0)))
      (λ w.
      let ne : k.len ≡ 0 → ⊥ = λ e. let z = w.0 in omega arith in
      read_leaf (padded_of v) k p on' ne ∙ ap padded_tree_of (sym (read_leaf v k p on ne)))
      ok

  pub tree_padded : (fuel i : ℕ) → i < count → tree_at_of padded l p fuel i ≡ padded_tree_of (tree_at_of boxes l p fuel i)
  unfolding tree_at_of padded_tree_of Sound
  tree_padded zero i h = ap (λ (v : Aabb). leaf v []) (same i h)
  tree_padded (suc fuel) i h =
      ap (λ (v : Aabb). read_of v (links_at_of l i) p (tree_at_of padded l p fuel)) (same i h)
      ∙ read_padded (box_at_of boxes i) (links_at_of l i) (sound i (omega arith) h) (tree_at_of boxes l p fuel) (tree_at_of padded l p fuel) (tree_padded fuel)

-- ---- rows

-- the first i are those of the triangles that p orders
unfoldable pub RowsTo : List Float → ℕ → List ℕ → List Float → ℕ → Type 0
RowsTo cs n p r i =
    (k : ℕ) → k < i → (corner_at_of r k ≡ vec_at_of cs n (get_or p k 0)) × (edges_at_of r k ≡ columns.edges_at_of cs n (get_or p k 0))

pub rows_none : (cs : List Float) (n : ℕ) (p : List ℕ) (r : List Float) → RowsTo cs n p r 0
unfolding RowsTo
rows_none cs n p r k h = absurd (not-suc-le-zero h)

pub rows_more :
    (cs : List Float) (n : ℕ) (p : List ℕ) (r r' : List Float) (i : ℕ) (a : Vec3) (e : Edges) → 10 * i + 10 ≤ length r → r' ≡ sets r (10 * i) (edges_row a e) →
    a ≡ vec_at_of cs n (get_or p i 0) → e ≡ columns.edges_at_of cs n (get_or p i 0) → RowsTo cs n p r i → RowsTo cs n p r' (i + 1)
unfolding RowsTo
rows_more cs n p r r' i a e room s ea ee old k h =
    rw s
    (by-eq k i
    (λ same. rw same (rows.corner_here r i a e room ∙ ea, rows.edges_here r i a e room ∙ ee))
    (λ other. let l = less k i h other in (rows.corner_before r i a e k l ∙ (old k l).0, rows.edges_before r i a e k l ∙ (old k l).1)))

pub rows_done : (cs : List Float) (n : ℕ) (p : List ℕ) (r : List Float) (i m : ℕ) → m ≤ i → RowsTo cs n p r i →
    (k : ℕ) → k < m → (corner_at_of r k ≡ vec_at_of cs n (get_or p k 0)) × (edges_at_of r k ≡ columns.edges_at_of cs n (get_or p k 0))
unfolding RowsTo
rows_done cs n p r i m le all k h = all k (omega arith)

-- ---- what a trace reads
traced :
    (cs : List Float) (handles : List ℕ) (n m : ℕ) (boxes : List Float) (nodes p : List ℕ) (padded r : List Float) (count : ℕ) →
    TreeStands cs handles n m boxes nodes p count →
    ((k : ℕ) → k < count → box_at_of padded k ≡ padded_of (box_at_of boxes k)) →
    ((k : ℕ) → k < length p → (corner_at_of r k ≡ vec_at_of cs n (get_or p k 0)) × (edges_at_of r k ≡ columns.edges_at_of cs n (get_or p k 0))) →
    12 * m ≤ length padded → 10 * m ≤ length r →
    TraceReads cs handles n m nodes p padded r count
unfolding LeafRows Edged Below triangle_at_of
traced cs handles n m boxes nodes p padded r count w pads has hb hr =
    let size = w.size in
    let top = w.most in
    record {
      tree = tree_padded boxes padded nodes p count m pads w.sound 33 0 w.some ∙ ap padded_tree_of w.tree;
      held = record {
        boxes_room = omega arith;
        nodes_room = w.nodes_room;
        rows_room = omega arith;
        sound = rw size w.sound;
      };
      rows_of = λ edged k h. record { corner = (has k h).0; edges = (has k h).1 ∙ edged (get_or p k 0) (w.inside k h) };
    }

-- from the two parts of one area, whose perm is as long as was asked
pub traced_in :
    (cs : List Float) (handles : List ℕ) (n m : ℕ) (boxes : List Float) (nodes p : List ℕ) (t : List Float) (count : ℕ) →
    TreeStands cs handles n m boxes nodes p count → 22 * m ≤ length t →
    ((k : ℕ) → k < count → box_at_of (padded_in (length p) t) k ≡ padded_of (box_at_of boxes k)) →
    ((k : ℕ) → k < length p → (corner_at_of (rows_in (length p) t) k ≡ vec_at_of cs n (get_or p k 0)) × (edges_at_of (rows_in (length p) t) k ≡ columns.edges_at_of cs n (get_or p k 0))) →
    TraceReads cs handles n m nodes p (padded_in m t) (rows_in m t) count
traced_in cs handles n m boxes nodes p t count w room pads has =
    let size = w.size in
    let front = length-take-le (12 * m) t (omega arith) in
    let rest = mid_len (12 * m) (22 * m) t room in
    traced cs handles n m boxes nodes p (padded_in m t) (rows_in m t) count w
    (λ k h. ap (λ (j : ℕ). box_at_of (padded_in j t) k) (sym size) ∙ pads k h)
    (λ k h. (ap (λ (j : ℕ). corner_at_of (rows_in j t) k) (sym size) ∙ (has k h).0, ap (λ (j : ℕ). edges_at_of (rows_in j t) k) (sym size) ∙ (has k h).1))
    (omega arith) (omega arith)

-- an answer of 0 says that a centroid is not finite, and any other that the tree stands
module _ (cs : List Float) (handles : List ℕ) (n m : ℕ) (boxes : List Float) (nodes p : List ℕ) (r : ℕ) (w : TreeOf cs handles n m boxes nodes p r) where
  pub nothing_built : r ≡ 0 → finite_of (centroid_in cs handles n) m ≡ true → ⊥
  nothing_built z f = let some = (w.built f).some in omega arith

  pub some_built : (r ≡ 0 → ⊥) → TreeStands cs handles n m boxes nodes p r
  some_built ne = go (finite_of (centroid_in cs handles n) m) refl
    where
      go : (t : Bool) → finite_of (centroid_in cs handles n) m ≡ t → TreeStands cs handles n m boxes nodes p r
      go true f = w.built f
      go false f = absurd (ne (w.none f))
