-- Runs of stores (`sets`), of which those of a node are two, and parts of lists: what is read of them, and what stays.
use mathlib.Core.Path.{◌≡◌, refl, sym, ap, ◌∙◌}
use mathlib.Core.List.{List, [], ◌∷◌, ◌++◌, append_assoc}
use Prim.Native.Nat.{ℕ, suc, ◌+◌, ◌-◌, ◌*◌, ◌<◌, ◌≤◌}
use native.Mathlib.Omega.{arith}
use lib.Ieee.{Float, nan}
use lib.ListN.{length, take, drop, get_or, set, length-drop, get_or-append}
use lib.Seq.{sets, sets-eq, length-take-le, get_or-append-add, get_or-set_other, get_or-take, get_or-drop, ext_get_or, take-take}
use Rattle.geometry.specs.declared.Aabb.{Aabb}
use Rattle.tree_build.specs.declared.Links.{Links}
use Rattle.tree_build.specs.Areas.{box_at_of, links_at_of, part, Same, Wrote}

-- ---- the same from lo up to hi
module _ {A : Type 0} (d : A) where
  pub same_refl : (lo hi : ℕ) (a : List A) → Same d lo hi a a
  unfolding Same
  same_refl lo hi a k l h = refl

  pub same_trans : (lo hi : ℕ) (a b c : List A) → Same d lo hi a b → Same d lo hi b c → Same d lo hi a c
  unfolding Same
  same_trans lo hi a b c p q k l h = p k l h ∙ q k l h

  pub same_within : (lo hi lo' hi' : ℕ) (a b : List A) → lo ≤ lo' → hi' ≤ hi → Same d lo hi a b → Same d lo' hi' a b
  unfolding Same
  same_within lo hi lo' hi' a b x y s k l h = s k (omega arith) (omega arith)

  pub same_sym : (lo hi : ℕ) (a b : List A) → Same d lo hi a b → Same d lo hi b a
  unfolding Same
  same_sym lo hi a b s k l h = sym (s k l h)

  -- ---- a run of stores
  pub sets_at : (vs l : List A) (i k : ℕ) → i + length vs ≤ length l → k < length vs → get_or (sets l i vs) (i + k) d ≡ get_or vs k d
  sets_at vs l i k h hk =
      let rest = drop (i + length vs) l in
      let e : length (take i l) ≡ i = length-take-le i l (omega arith) in
      ap (λ (m : List A). get_or m (i + k) d) (sets-eq vs l i h ∙ append_assoc (take i l) vs rest)
      ∙ ap (λ (j : ℕ). get_or (take i l ++ (vs ++ rest)) (j + k) d) (sym e)
      ∙ get_or-append-add (take i l) (vs ++ rest) k d
      ∙ get_or-append vs rest d k hk

  pub sets_low : (vs l : List A) (i j : ℕ) → j < i → get_or (sets l i vs) j d ≡ get_or l j d
  sets_low [] l i j h = refl
  sets_low (a ∷ vs) l i j h = sets_low vs (set l i a) (suc i) j (omega arith) ∙ get_or-set_other l i j a d (λ e. omega arith)

  pub sets_high : (vs l : List A) (i j : ℕ) → i + length vs ≤ j → get_or (sets l i vs) j d ≡ get_or l j d
  sets_high [] l i j h = refl
  sets_high (a ∷ vs) l i j h = sets_high vs (set l i a) (suc i) j (omega arith) ∙ get_or-set_other l i j a d (λ e. omega arith)

-- ---- one node
abbrev floats : Aabb → List Float
floats v = v.min.x ∷ v.min.y ∷ v.min.z ∷ v.max.x ∷ v.max.y ∷ v.max.z ∷ []

abbrev numbers : Links → List ℕ
numbers k = k.left ∷ k.right ∷ k.start ∷ k.len ∷ []

row_here : (b : List Float) (i : ℕ) (v : Aabb) → 6 * i + 6 ≤ length b → box_at_of (sets b (6 * i) (floats v)) i ≡ v
unfolding box_at_of
row_here b i v h =
    let s = sets b (6 * i) (floats v) in
    let at : (k : ℕ) → k < 6 → get_or s (6 * i + k) nan ≡ get_or (floats v) k nan = λ k hk. sets_at nan (floats v) b (6 * i) k h hk in
    let e0 : get_or s (6 * i) nan ≡ v.min.x = ap (λ (j : ℕ). get_or s j nan) {x = 6 * i} {y = 6 * i + 0} (omega arith) ∙ at 0 (omega arith) in
    let e1 : get_or s (6 * i + 1) nan ≡ v.min.y = at 1 (omega arith) in
    let e2 : get_or s (6 * i + 2) nan ≡ v.min.z = at 2 (omega arith) in
    let e3 : get_or s (6 * i + 3) nan ≡ v.max.x = at 3 (omega arith) in
    let e4 : get_or s (6 * i + 4) nan ≡ v.max.y = at 4 (omega arith) in
    let e5 : get_or s (6 * i + 5) nan ≡ v.max.z = at 5 (omega arith) in
    rw (e0, e1, e2, e3, e4, e5)

link_here : (l : List ℕ) (i : ℕ) (k : Links) → 4 * i + 4 ≤ length l → links_at_of (sets l (4 * i) (numbers k)) i ≡ k
unfolding links_at_of
link_here l i k h =
    let s = sets l (4 * i) (numbers k) in
    let at : (j : ℕ) → j < 4 → get_or s (4 * i + j) 0 ≡ get_or (numbers k) j 0 = λ j hj. sets_at 0 (numbers k) l (4 * i) j h hj in
    let e0 : get_or s (4 * i) 0 ≡ k.left = ap (λ (j : ℕ). get_or s j 0) {x = 4 * i} {y = 4 * i + 0} (omega arith) ∙ at 0 (omega arith) in
    let e1 : get_or s (4 * i + 1) 0 ≡ k.right = at 1 (omega arith) in
    let e2 : get_or s (4 * i + 2) 0 ≡ k.start = at 2 (omega arith) in
    let e3 : get_or s (4 * i + 3) 0 ≡ k.len = at 3 (omega arith) in
    rw (e0, e1, e2, e3)

-- the stores as the code has them
abbrev pub row_stores : List Float → ℕ → Aabb → List Float
row_stores b i v =
    set (set (set (set (set (set b (6 * i) v.min.x) (6 * i + 1) v.min.y) (6 * i + 2) v.min.z) (6 * i + 3) v.max.x) (6 * i + 4) v.max.y) (6 * i + 5) v.max.z

abbrev pub link_stores : List ℕ → ℕ → Links → List ℕ
link_stores l i k = set (set (set (set l (4 * i) k.left) (4 * i + 1) k.right) (4 * i + 2) k.start) (4 * i + 3) k.len

row_stores_lem : (b : List Float) (i : ℕ) (v : Aabb) → row_stores b i v ≡ sets b (6 * i) (floats v)
row_stores_lem b i v =
    let e1 : 6 * i + 1 ≡ suc (6 * i) = omega arith in
    let e2 : 6 * i + 2 ≡ suc (suc (6 * i)) = omega arith in
    let e3 : 6 * i + 3 ≡ suc (suc (suc (6 * i))) = omega arith in
    let e4 : 6 * i + 4 ≡ suc (suc (suc (suc (6 * i)))) = omega arith in
    let e5 : 6 * i + 5 ≡ suc (suc (suc (suc (suc (6 * i))))) = omega arith in
    rw (e1, e2, e3, e4, e5)

link_stores_lem : (l : List ℕ) (i : ℕ) (k : Links) → link_stores l i k ≡ sets l (4 * i) (numbers k)
link_stores_lem l i k =
    let e1 : 4 * i + 1 ≡ suc (4 * i) = omega arith in
    let e2 : 4 * i + 2 ≡ suc (suc (4 * i)) = omega arith in
    let e3 : 4 * i + 3 ≡ suc (suc (suc (4 * i))) = omega arith in
    rw (e1, e2, e3)

pub wrote : (b : List Float) (l : List ℕ) (i : ℕ) (v : Aabb) (k : Links) → 6 * i + 6 ≤ length b → 4 * i + 4 ≤ length l → Wrote i v k b (row_stores b i v) l (link_stores l i k)
unfolding Same
wrote b l i v k hb hl =
    rw (row_stores_lem b i v, link_stores_lem l i k)
    (record {
      row = row_here b i v hb;
      links = link_here l i k hl;
      row_low = λ j x h. sym (sets_low nan (floats v) b (6 * i) j h);
      row_high = λ j x h. sym (sets_high nan (floats v) b (6 * i) j x);
      link_low = λ j x h. sym (sets_low 0 (numbers k) l (4 * i) j h);
      link_high = λ j x h. sym (sets_high 0 (numbers k) l (4 * i) j x);
    })

-- ---- parts
pub part_length : (lo hi : ℕ) (p : List ℕ) → lo ≤ hi → hi ≤ length p → length (part lo hi p) ≡ hi - lo
part_length lo hi p lh h = length-take-le (hi - lo) (drop lo p) (simp length-drop (omega arith))

pub part_at : (c s : ℕ) (p : List ℕ) (i : ℕ) → i < c → get_or (take c (drop s p)) i 0 ≡ get_or p (s + i) 0
part_at c s p i h = get_or-take c (drop s p) i 0 h ∙ get_or-drop s p i 0

pub part_same :
    (plo phi c s : ℕ) (p p' : List ℕ) → Same 0 plo phi p p' → plo ≤ s → s + c ≤ phi → phi ≤ length p → length p' ≡ length p →
    take c (drop s p) ≡ take c (drop s p')
unfolding Same
part_same plo phi c s p p' same x y z e =
    let n1 : length (take c (drop s p)) ≡ c = length-take-le c (drop s p) (simp length-drop (omega arith)) in
    let n2 : length (take c (drop s p')) ≡ c = length-take-le c (drop s p') (simp length-drop (omega arith)) in
    ext_get_or 0 (take c (drop s p)) (take c (drop s p')) (n1 ∙ sym n2)
    (λ i h. part_at c s p i (omega arith) ∙ same (s + i) (omega arith) (omega arith) ∙ sym (part_at c s p' i (omega arith)))

pub part_left : (lo mid hi : ℕ) (p : List ℕ) → lo ≤ mid → mid ≤ hi → take (mid - lo) (part lo hi p) ≡ part lo mid p
part_left lo mid hi p a b = take-take (mid - lo) (hi - lo) (drop lo p) (omega arith)

pub part_right : (lo mid hi : ℕ) (p : List ℕ) → lo ≤ mid → mid ≤ hi → hi ≤ length p → drop (mid - lo) (part lo hi p) ≡ part mid hi p
part_right lo mid hi p a b h =
    let n0 = part_length lo hi p (omega arith) h in
    let n1 : length (drop (mid - lo) (part lo hi p)) ≡ hi - mid = simp length-drop (omega arith) in
    let n2 = part_length mid hi p b h in
    ext_get_or 0 (drop (mid - lo) (part lo hi p)) (part mid hi p) (n1 ∙ sym n2)
    (λ i q. get_or-drop (mid - lo) (part lo hi p) i 0 ∙ part_at (hi - lo) lo p (mid - lo + i) (omega arith)
    ∙ ap (λ (j : ℕ). get_or p j 0) {x = lo + (mid - lo + i)} {y = mid + i} (omega arith) ∙ sym (part_at (hi - mid) mid p i (omega arith)))
