-- How what stands in the areas grows, by the frame law of `Frame.antt`:
--     back_split      a part that was lent to be split came back in its place
--     built_leaf      a leaf was written
--     built_node      a node over two trees that stand one after the other
--     built_step      one step of the recursion
use mathlib.Core.Path.{◌≡◌, refl, sym, ap, ◌∙◌, subst}
use mathlib.Core.Logic.{inl, inr}
use mathlib.Core.List.{List}
use Prim.Native.Nat.{ℕ, zero, suc, ◌+◌, ◌-◌, ◌*◌, ◌<◌, ◌≤◌}
use native.Mathlib.Omega.{arith}
use lib.Ieee.{Float, nan}
use lib.ListN.{length, take, drop, get_or, get_or-append}
use lib.Seq.{length-take-le, get_or-take, get_or-drop, take_at, drop_at}
use borrow.Author.Tests.{eq-eqb, ne_eqb, le-leb, lt-leb}
use borrow.Rule.Slice.PartMut.{put_mid, drop_put}
use Rattle.vector.specs.declared.Vec3.{Vec3}
use Rattle.geometry.specs.declared.Aabb.{Aabb}
use Rattle.order.specs.Sort.{Below}
use Rattle.order.proofs.Laws.{below_append, below_take, below_drop}
use Rattle.float.proofs.Numbers.{by_order}
use Rattle.order.proofs.Stable.{by-eq}
use Rattle.geometry.specs.Aabb.{union_of}
use Rattle.tree_split.specs.Split.{divided, split_of, bounds_of}
use Rattle.tree_build.specs.declared.Links.{Links}
use Rattle.tree_build.specs.Tree.{Tree, node, box_of, leaf_of, inner_of, branch_of, build_sah_of}
use Rattle.tree_build.specs.Areas.{box_at_of, links_of, links_at_of, part, read_of, tree_at_of, Same, Sound, Wrote, Listed, Sorts, Room, Built, Parted, Chosen}
use Rattle.tree_build.proofs.Stores.{same_refl, same_trans, same_within, part_length, part_same, part_left, part_right}
use Rattle.tree_build.proofs.Frame.{row_same, tree_box, tree_same, read_node, read_leaf, linked_wider, sound_same}

-- ---- a part that was lent and came back
module _ (lo hi : ℕ) (p ys : List ℕ) (order : lo ≤ hi) (within : hi ≤ length p) (kept : length ys ≡ length (part lo hi p)) where
  size : length ys ≡ hi - lo
  size = kept ∙ part_length lo hi p order within

  front : length (take lo p) ≡ lo
  front = length-take-le lo p (omega arith)

  pub back_part : part lo hi (put_mid lo (hi - lo) p ys) ≡ ys
  back_part = ap (take (hi - lo)) (drop_at (take lo p) _ lo front) ∙ take_at ys _ (hi - lo) size

  pub back_low : Same 0 0 lo p (put_mid lo (hi - lo) p ys)
  unfolding Same
  back_low k x h = let f = front in sym (get_or-append (take lo p) _ 0 k (omega arith) ∙ get_or-take lo p k 0 h)

  pub back_high : Same 0 hi (length p) p (put_mid lo (hi - lo) p ys)
  unfolding Same
  back_high k x h =
      let back = put_mid lo (hi - lo) p ys in
      let e : hi + (k - hi) ≡ k = omega arith in
      rw e at (sym (get_or-drop hi p (k - hi) 0) ∙ ap (λ (l : List ℕ). get_or l (k - hi) 0) (sym (drop_put lo hi p ys order within size)) ∙ get_or-drop hi back (k - hi) 0)

  pub back_below : (n : ℕ) → Below n p → Below n ys → Below n (put_mid lo (hi - lo) p ys)
  back_below n h g = below_append n (take lo p) _ (below_take n lo p h) (below_append n ys _ g (below_drop n (hi - lo) (drop lo p) (below_drop n lo p h)))

  pub back_split :
      (b : ℕ → Aabb) (mid : ℕ → Vec3) (n r : ℕ) → Below n p → divided ys r ≡ split_of b mid (part lo hi p) → Below n ys → r < length (part lo hi p) →
      Parted b mid n lo hi r p (put_mid lo (hi - lo) p ys)
  back_split b mid n r h e g less =
      let l = part_length lo hi p order within in
      record {
        done = ap (λ (l : List ℕ). divided l r) back_part ∙ e;
        inside = back_below n h g;
        low = back_low;
        high = back_high;
        within = omega arith;
      }

-- ---- what is built
module _ (b : ℕ → Aabb) (mid : ℕ → Vec3) where
  pub build_zero : (levels : ℕ) (xs : List ℕ) → levels ≡ 0 → leaf_of b xs ≡ build_sah_of b mid levels xs
  unfolding build_sah_of
  build_zero levels xs e = rw e

  pub build_few : (levels : ℕ) (xs : List ℕ) → (levels ≡ 0 → ⊥) → length xs ≤ 4 → leaf_of b xs ≡ build_sah_of b mid levels xs
  unfolding build_sah_of
  build_few zero xs ne h = absurd (ne refl)
  build_few (suc d) xs ne h = rw (le-leb (length xs) 4 h)

  build_open : (levels : ℕ) (xs : List ℕ) → (levels ≡ 0 → ⊥) → 4 < length xs → branch_of b (build_sah_of b mid (levels - 1)) (split_of b mid xs) ≡ build_sah_of b mid levels xs
  unfolding build_sah_of
  build_open zero xs ne h = absurd (ne refl)
  build_open (suc d) xs ne h = let e : suc d - 1 ≡ d = omega arith in rw (e, lt-leb (length xs) 4 h)

  pub build_none : (levels : ℕ) (xs ys : List ℕ) (at : ℕ) → (levels ≡ 0 → ⊥) → 4 < length xs → divided ys at ≡ split_of b mid xs → at ≡ 0 → leaf_of b ys ≡ build_sah_of b mid levels xs
  build_none levels xs ys at ne h e z =
      let w : leaf_of b ys ≡ branch_of b (build_sah_of b mid (levels - 1)) (divided ys at) = rw (eq-eqb at 0 z) in
      w ∙ ap (branch_of b (build_sah_of b mid (levels - 1))) e ∙ build_open levels xs ne h

  pub build_both :
      (levels : ℕ) (xs ys : List ℕ) (at : ℕ) → (levels ≡ 0 → ⊥) → 4 < length xs → divided ys at ≡ split_of b mid xs → (at ≡ 0 → ⊥) →
      inner_of (build_sah_of b mid (levels - 1) (take at ys)) (build_sah_of b mid (levels - 1) (drop at ys)) ≡ build_sah_of b mid levels xs
  build_both levels xs ys at ne h e nz =
      let on = build_sah_of b mid (levels - 1) in
      let w : inner_of (on (take at ys)) (on (drop at ys)) ≡ branch_of b on (divided ys at) = rw (ne_eqb at 0 nz) in
      w ∙ ap (branch_of b on) e ∙ build_open levels xs ne h

-- ---- a leaf, or a split
module _ (b : ℕ → Aabb) (mid : ℕ → Vec3) (levels n lo hi : ℕ) (p : List ℕ) where
  -- a leaf of the part as it stands
  chosen_leaf : leaf_of b (part lo hi p) ≡ build_sah_of b mid levels (part lo hi p) → lo < hi → Below n p → Chosen b mid levels n lo hi 0 p p
  chosen_leaf e some h =
      record {
        leaf_built = λ _. e;
        deep = λ ne. absurd (ne refl);
        many = λ ne. absurd (ne refl);
        done = λ ne. absurd (ne refl);
        inside = h;
        low = same_refl 0 0 lo p;
        high = same_refl 0 hi (length p) p;
        within = omega arith;
      }

  pub chosen_zero : levels ≡ 0 → lo < hi → Below n p → Chosen b mid levels n lo hi 0 p p
  chosen_zero e some h = chosen_leaf (build_zero b mid levels (part lo hi p) e) some h

  pub chosen_few : (levels ≡ 0 → ⊥) → hi - lo ≤ 4 → hi ≤ length p → lo < hi → Below n p → Chosen b mid levels n lo hi 0 p p
  chosen_few ne few within some h =
      let l = part_length lo hi p (omega arith) within in
      chosen_leaf (build_few b mid levels (part lo hi p) ne (omega arith)) some h

  pub chosen_split : (levels ≡ 0 → ⊥) → 4 < hi - lo → hi ≤ length p → (r : ℕ) (p' : List ℕ) → Parted b mid n lo hi r p p' → Chosen b mid levels n lo hi r p p'
  chosen_split ne four within r p' w =
      let l = part_length lo hi p (omega arith) within in
      record {
        leaf_built = λ z. build_none b mid levels (part lo hi p) (part lo hi p') r ne (omega arith) w.done z;
        deep = λ _. ne;
        many = λ _. four;
        done = λ _. w.done;
        inside = w.inside;
        low = w.low;
        high = w.high;
        within = w.within;
      }

  pub chosen_parted : (r : ℕ) (p' : List ℕ) → (r ≡ 0 → ⊥) → Chosen b mid levels n lo hi r p p' → Parted b mid n lo hi r p p'
  chosen_parted r p' ne w = record { done = w.done ne; inside = w.inside; low = w.low; high = w.high; within = w.within }

-- ---- records

pub built_as : {t t' : Tree} {fuel n lo hi next r : ℕ} {p p' : List ℕ} {b b' : List Float} {l l' : List ℕ} → t ≡ t' → Built t fuel n lo hi next r p p' b b' l l' → Built t' fuel n lo hi next r p p' b b' l l'
built_as {fuel = fuel} {n = n} {lo = lo} {hi = hi} {next = next} {r = r} {p = p} {p' = p'} {b = b} {b' = b'} {l = l} {l' = l'} e w = subst (λ (t : Tree). Built t fuel n lo hi next r p p' b b' l l') e w

-- the order was changed before, between lo and hi only
pub built_after :
    {t : Tree} {fuel n lo hi next r : ℕ} (p₀ : List ℕ) {p p' : List ℕ} {b b' : List Float} {l l' : List ℕ} → length p ≡ length p₀ → Same 0 0 lo p₀ p → Same 0 hi (length p₀) p₀ p →
    Built t fuel n lo hi next r p p' b b' l l' → Built t fuel n lo hi next r p₀ p' b b' l l'
built_after {lo = lo} {hi = hi} p₀ {p = p} {p' = p'} e low high w =
    record {
      tree = w.tree;
      more = w.more;
      room = w.room;
      sound = w.sound;
      inside = w.inside;
      rows = w.rows;
      links = w.links;
      low = same_trans 0 0 lo p₀ p p' low w.low;
      high = same_trans 0 hi (length p₀) p₀ p p' high (rw e at w.high);
    }

-- a smaller part, and areas that are as long
pub listed_part :
    {extents : List Float} {n lo hi : ℕ} {p : List ℕ} (lo' hi' : ℕ) (p' : List ℕ) →
    Listed extents n lo hi p → lo' < hi' → hi' ≤ hi → Below n p' → length p' ≡ length p → Listed extents n lo' hi' p'
listed_part lo' hi' p' w x y g e =
    record {
      wide = w.wide;
      few = w.few;
      some = x;
      within = let q = w.within in omega arith;
      size = e ∙ w.size;
      inside = g;
    }

pub sorts_part :
    {kx ky kz : List ℕ} {extents : List Float} {n : ℕ} {s t : List ℕ} {a : List Float} (s' t' : List ℕ) (a' : List Float) →
    Sorts kx ky kz extents n s t a → length s' ≡ length s → length t' ≡ length t → length a' ≡ length a → Sorts kx ky kz extents n s' t' a'
sorts_part s' t' a' w es et ea =
    record {
      keyed = w.keyed;
      words_room = let q = w.words_room in omega arith;
      scratch_room = let q = w.scratch_room in omega arith;
      areas_room = let q = w.areas_room in omega arith;
    }

pub room_part :
    {lo hi : ℕ} {b : List Float} {l : List ℕ} {next : ℕ} (lo' hi' next' : ℕ) (b' : List Float) (l' : List ℕ) →
    Room lo hi b l next → next' + 2 * (hi' - lo') ≤ next + 2 * (hi - lo) → length b' ≡ length b → length l' ≡ length l → Room lo' hi' b' l' next'
room_part lo' hi' next' b' l' w x eb el =
    record {
      boxes_room = let q = w.boxes_room in omega arith;
      nodes_room = let q = w.nodes_room in omega arith;
      small = let q = w.small in omega arith;
    }

-- ---- a leaf
pub built_leaf :
    (v : ℕ → Aabb) (n lo hi next fuel : ℕ) (p : List ℕ) {b b' : List Float} {l l' : List ℕ} → lo < hi → Below n p →
    Wrote next (bounds_of v (part lo hi p)) (links_of 0 0 lo (hi - lo)) b b' l l' →
    Built (leaf_of v (part lo hi p)) (fuel + 1) n lo hi next (next + 1) p p b b' l l'
unfolding tree_at_of Sound
built_leaf v n lo hi next fuel p {b = b} {b' = b'} {l = l} {l' = l'} some inside w =
    let ne : hi - lo ≡ 0 → ⊥ = λ e. omega arith in
    let on = tree_at_of b' l' p fuel in
    let f : fuel + 1 ≡ suc fuel = omega arith in
    record {
      tree = rw f
          (ap (λ (x : Aabb). read_of x (links_at_of l' next) p on) w.row
          ∙ ap (λ (k : Links). read_of (bounds_of v (part lo hi p)) k p on) w.links
          ∙ read_leaf (bounds_of v (part lo hi p)) (links_of 0 0 lo (hi - lo)) p on ne);
      more = omega arith;
      room = omega arith;
      sound = λ j x y.
          let e : j ≡ next = omega arith in
          rw (e, w.links) (inr (omega arith, omega arith, omega arith));
      inside = inside;
      rows = w.row_low;
      links = w.link_low;
      low = same_refl 0 0 lo p;
      high = same_refl 0 hi (length p) p;
    }

-- ---- a node over two trees
module _
    (n lo mid hi next r1 r2 fuel : ℕ) (p1 p2 p3 : List ℕ) (b0 b1 b2 b3 : List Float) (l0 l1 l2 l3 : List ℕ) (tl tr : Tree)
    (left : Built tl fuel n lo mid (next + 1) r1 p1 p2 b0 b1 l0 l1)
    (right : Built tr fuel n mid hi r1 r2 p2 p3 b1 b2 l1 l2)
    (w : Wrote next (union_of (box_at_of b2 (next + 1)) (box_at_of b2 r1)) (links_of (next + 1) r1 0 0) b2 b3 l2 l3)
    (lm : lo < mid) (mh : mid < hi) (within : hi ≤ length p1) (s2 : length p2 ≡ length p1) (s3 : length p3 ≡ length p2)
    (rows : 6 * r2 ≤ length b2) (room : 4 * r2 ≤ length l2) where
  m1 : next + 1 < r1
  m1 = left.more

  m2 : r1 < r2
  m2 = right.more

  -- what the right tree and the node left of the left tree's part
  left_rows : Same nan (6 * (next + 1)) (6 * r1) b1 b3
  left_rows =
      let a = m1 in let c = m2 in
      same_trans nan (6 * (next + 1)) (6 * r1) b1 b2 b3
      (same_within nan 0 (6 * r1) (6 * (next + 1)) (6 * r1) b1 b2 (omega arith) (omega arith) right.rows)
      (same_within nan (6 * next + 6) (length b2) (6 * (next + 1)) (6 * r1) b2 b3 (omega arith) (omega arith) w.row_high)

  left_links : Same 0 (4 * (next + 1)) (4 * r1) l1 l3
  left_links =
      let a = m1 in let c = m2 in
      same_trans 0 (4 * (next + 1)) (4 * r1) l1 l2 l3
      (same_within 0 0 (4 * r1) (4 * (next + 1)) (4 * r1) l1 l2 (omega arith) (omega arith) right.links)
      (same_within 0 (4 * next + 4) (length l2) (4 * (next + 1)) (4 * r1) l2 l3 (omega arith) (omega arith) w.link_high)

  right_rows : Same nan (6 * r1) (6 * r2) b2 b3
  right_rows = let a = m1 in same_within nan (6 * next + 6) (length b2) (6 * r1) (6 * r2) b2 b3 (omega arith) rows w.row_high

  right_links : Same 0 (4 * r1) (4 * r2) l2 l3
  right_links = let a = m1 in same_within 0 (4 * next + 4) (length l2) (4 * r1) (4 * r2) l2 l3 (omega arith) room w.link_high

  left_tree : tree_at_of b3 l3 p3 fuel (next + 1) ≡ tl
  left_tree =
      let a = m1 in
      sym (tree_same (next + 1) r1 lo mid p2 p3 (same_within 0 0 mid lo mid p2 p3 (omega arith) (omega arith) right.low) (omega arith) s3
      b1 b3 l1 l3 left_rows left_links left.sound fuel (next + 1) (omega arith) a)
      ∙ left.tree

  right_tree : tree_at_of b3 l3 p3 fuel r1 ≡ tr
  right_tree =
      sym (tree_same r1 r2 mid hi p3 p3 (same_refl 0 mid hi p3) (omega arith) refl b2 b3 l2 l3 right_rows right_links right.sound fuel r1 (omega arith) m2)
      ∙ right.tree

  left_box : box_at_of b2 (next + 1) ≡ box_of tl
  left_box =
      let a = m1 in
      sym (row_same 0 (6 * r1) b1 b2 (next + 1) right.rows (omega arith) (omega arith))
      ∙ sym (tree_box b1 l1 p2 fuel (next + 1)) ∙ ap box_of left.tree

  right_box : box_at_of b2 r1 ≡ box_of tr
  right_box = sym (tree_box b2 l2 p3 fuel r1) ∙ ap box_of right.tree

  whole_tree : tree_at_of b3 l3 p3 (fuel + 1) next ≡ inner_of tl tr
  unfolding tree_at_of
  whole_tree =
      let f : fuel + 1 ≡ suc fuel = omega arith in
      let on = tree_at_of b3 l3 p3 fuel in
      let v = union_of (box_at_of b2 (next + 1)) (box_at_of b2 r1) in
      rw f
      (ap (λ (x : Aabb). read_of x (links_at_of l3 next) p3 on) w.row
      ∙ ap (λ (k : Links). read_of v k p3 on) w.links
      ∙ read_node v (links_of (next + 1) r1 0 0) p3 on refl
      ∙ ap (λ (t : Tree). node v t (on r1)) left_tree
      ∙ ap (λ (t : Tree). node v tl t) right_tree
      ∙ ap (λ (x : Aabb). node (union_of x (box_at_of b2 r1)) tl tr) left_box
      ∙ ap (λ (x : Aabb). node (union_of (box_of tl) x) tl tr) right_box)

  whole_sound : Sound l3 next r2 lo hi
  unfolding Sound
  whole_sound j x y =
      let a = m1 in let c = m2 in
      by-eq j next
      (λ e. rw (e, w.links) (inl (refl, omega arith, omega arith, omega arith, omega arith)))
      (λ ne. by_order r1 j
      (λ h. linked_wider r1 r2 mid hi next r2 lo hi (links_at_of l3 j) (omega arith) (omega arith) (omega arith) (omega arith) (sound_same l2 l3 r1 r2 mid hi right_links right.sound j h y))
      (λ h. linked_wider (next + 1) r1 lo mid next r2 lo hi (links_at_of l3 j) (omega arith) (omega arith) (omega arith) (omega arith)
      (sound_same l1 l3 (next + 1) r1 lo mid left_links left.sound j (omega arith) h)))

  pub built_node : Built (inner_of tl tr) (fuel + 1) n lo hi next r2 p1 p3 b0 b3 l0 l3
  built_node =
      let a = m1 in let c = m2 in let d = left.room in let e = right.room in
      record {
        tree = whole_tree;
        more = omega arith;
        room = omega arith;
        sound = whole_sound;
        inside = right.inside;
        rows =
            same_trans nan 0 (6 * next) b0 b1 b3 (same_within nan 0 (6 * (next + 1)) 0 (6 * next) b0 b1 (omega arith) (omega arith) left.rows)
            (same_trans nan 0 (6 * next) b1 b2 b3 (same_within nan 0 (6 * r1) 0 (6 * next) b1 b2 (omega arith) (omega arith) right.rows) w.row_low);
        links =
            same_trans 0 0 (4 * next) l0 l1 l3 (same_within 0 0 (4 * (next + 1)) 0 (4 * next) l0 l1 (omega arith) (omega arith) left.links)
            (same_trans 0 0 (4 * next) l1 l2 l3 (same_within 0 0 (4 * r1) 0 (4 * next) l1 l2 (omega arith) (omega arith) right.links) w.link_low);
        low = same_trans 0 0 lo p1 p2 p3 left.low (same_within 0 0 mid 0 lo p2 p3 (omega arith) (omega arith) right.low);
        high =
            same_trans 0 hi (length p1) p1 p2 p3 (same_within 0 mid (length p1) hi (length p1) p1 p2 (omega arith) (omega arith) left.high)
            (rw s2 at right.high);
      }

-- ---- one step of the recursion
pub built_step :
    (v : ℕ → Aabb) (mids : ℕ → Vec3) (levels n lo hi at next r1 r2 : ℕ) (p0 p1 p2 p3 : List ℕ) (b0 b1 b2 b3 : List Float) (l0 l1 l2 l3 : List ℕ) →
    (levels ≡ 0 → ⊥) → 4 < hi - lo → (at ≡ 0 → ⊥) → hi ≤ length p0 →
    length p1 ≡ length p0 → length p2 ≡ length p1 → length p3 ≡ length p2 → 6 * r2 ≤ length b2 → 4 * r2 ≤ length l2 →
    Parted v mids n lo hi at p0 p1 →
    Built (build_sah_of v mids (levels - 1) (part lo (lo + at) p1)) (levels - 1 + 1) n lo (lo + at) (next + 1) r1 p1 p2 b0 b1 l0 l1 →
    Built (build_sah_of v mids (levels - 1) (part (lo + at) hi p2)) (levels - 1 + 1) n (lo + at) hi r1 r2 p2 p3 b1 b2 l1 l2 →
    Wrote next (union_of (box_at_of b2 (next + 1)) (box_at_of b2 r1)) (links_of (next + 1) r1 0 0) b2 b3 l2 l3 →
    Built (build_sah_of v mids levels (part lo hi p0)) (levels + 1) n lo hi next r2 p0 p3 b0 b3 l0 l3
built_step v mids levels n lo hi at next r1 r2 p0 p1 p2 p3 b0 b1 b2 b3 l0 l1 l2 l3 ne four nz within s1 s2 s3 rows room cutting left right w =
    let less = cutting.within in
    let mid = lo + at in
    let on = build_sah_of v mids (levels - 1) in
    let fuel : levels - 1 + 1 + 1 ≡ levels + 1 = omega arith in
    let made = built_node n lo mid hi next r1 r2 (levels - 1 + 1) p1 p2 p3 b0 b1 b2 b3 l0 l1 l2 l3 (on (part lo mid p1)) (on (part mid hi p2)) left right w
    (omega arith) (omega arith) (omega arith) s2 s3 rows room in
    let after = built_after p0 s1 cutting.low cutting.high made in
    let at_is : mid - lo ≡ at = omega arith in
    let one : part lo mid p1 ≡ take at (part lo hi p1) = sym (part_left lo mid hi p1 (omega arith) (omega arith)) ∙ ap (λ (j : ℕ). take j (part lo hi p1)) at_is in
    let two : part mid hi p2 ≡ drop at (part lo hi p1) =
    sym (part_same mid (length p1) (hi - mid) mid p1 p2 left.high (omega arith) (omega arith) (omega arith) s2)
    ∙ sym (part_right lo mid hi p1 (omega arith) (omega arith) (omega arith)) ∙ ap (λ (j : ℕ). drop j (part lo hi p1)) at_is in
    let long = part_length lo hi p0 (omega arith) within in
    let tree : inner_of (on (part lo mid p1)) (on (part mid hi p2)) ≡ build_sah_of v mids levels (part lo hi p0) =
    ap (λ (x : List ℕ). inner_of (on x) (on (part mid hi p2))) one ∙ ap (λ (x : List ℕ). inner_of (on (take at (part lo hi p1))) (on x)) two
    ∙ build_both v mids levels (part lo hi p0) (part lo hi p1) at ne (omega arith) cutting.done nz in
    rw fuel at (built_as tree after)
