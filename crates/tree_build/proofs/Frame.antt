-- A tree that is read from areas depends only on its own part of them (`tree_same`, by induction on its depth, with `Sound` for where its links go).
use mathlib.Core.Path.{◌≡◌, refl, sym, ap, ◌∙◌}
use mathlib.Core.Logic.{inl, inr, ⊎_elim}
use mathlib.Core.Bool.{Bool, true, false, cond}
use mathlib.Core.List.{List, []}
use Prim.Native.Nat.{ℕ, zero, suc, ◌+◌, ◌*◌, ◌<◌, ◌≤◌}
use native.Mathlib.Omega.{arith}
use lib.Ieee.{Float, nan}
use lib.Dec.{eqb}
use lib.ListN.{length, take, drop}
use borrow.Author.Tests.{eq-eqb, ne_eqb}
use Rattle.geometry.specs.declared.Aabb.{Aabb}
use Rattle.tree_build.specs.declared.Links.{Links}
use Rattle.tree_build.specs.Tree.{Tree, leaf, node, box_of}
use Rattle.tree_build.specs.Areas.{box_at_of, links_at_of, read_of, tree_at_of, Same, Linked, Sound}
use Rattle.tree_build.proofs.Stores.{part_same}

pub row_same : (lo hi : ℕ) (b b' : List Float) (i : ℕ) → Same nan lo hi b b' → lo ≤ 6 * i → 6 * i + 6 ≤ hi → box_at_of b i ≡ box_at_of b' i
unfolding box_at_of Same
row_same lo hi b b' i s x y =
    rw (
      s (6 * i) x (omega arith),
      s (6 * i + 1) (omega arith) (omega arith),
      s (6 * i + 2) (omega arith) (omega arith),
      s (6 * i + 3) (omega arith) (omega arith),
      s (6 * i + 4) (omega arith) (omega arith),
      s (6 * i + 5) (omega arith) (omega arith),
    )

pub link_same : (lo hi : ℕ) (l l' : List ℕ) (i : ℕ) → Same 0 lo hi l l' → lo ≤ 4 * i → 4 * i + 4 ≤ hi → links_at_of l i ≡ links_at_of l' i
unfolding links_at_of Same
link_same lo hi l l' i s x y =
    rw (s (4 * i) x (omega arith), s (4 * i + 1) (omega arith) (omega arith), s (4 * i + 2) (omega arith) (omega arith), s (4 * i + 3) (omega arith) (omega arith))

-- the box of what is read is the node's
read_box : (v : Aabb) (k : Links) (p : List ℕ) (on : ℕ → Tree) → box_of (read_of v k p on) ≡ v
read_box v k p on = go (eqb k.len 0)
  where
    go : (t : Bool) → box_of (cond t (node v (on k.left) (on k.right)) (leaf v (take k.len (drop k.start p)))) ≡ v
    go true = refl
    go false = refl

pub tree_box : (b : List Float) (l p : List ℕ) (fuel i : ℕ) → box_of (tree_at_of b l p fuel i) ≡ box_at_of b i
unfolding tree_at_of
tree_box b l p zero i = refl
tree_box b l p (suc fuel) i = read_box (box_at_of b i) (links_at_of l i) p (tree_at_of b l p fuel)

-- the two forms of a node
pub read_node : (v : Aabb) (k : Links) (p : List ℕ) (on : ℕ → Tree) → k.len ≡ 0 → read_of v k p on ≡ node v (on k.left) (on k.right)
read_node v k p on e = rw (eq-eqb k.len 0 e)

pub read_leaf : (v : Aabb) (k : Links) (p : List ℕ) (on : ℕ → Tree) → (k.len ≡ 0 → ⊥) → read_of v k p on ≡ leaf v (take k.len (drop k.start p))
read_leaf v k p on e = rw (ne_eqb k.len 0 e)

module _ (lo hi plo phi : ℕ) (p p' : List ℕ) (same : Same 0 plo phi p p') (within : phi ≤ length p) (long : length p' ≡ length p) where
  read_same :
      (v : Aabb) (k : Links) → Linked lo hi plo phi k → (on on' : ℕ → Tree) → ((j : ℕ) → lo ≤ j → j < hi → on j ≡ on' j) →
      read_of v k p on ≡ read_of v k p' on'
  read_same v k ok on on' below =
      ⊎_elim
      (λ w. read_node v k p on w.0
      ∙ ap (λ (t : Tree). node v t (on k.right)) (below k.left w.1 w.2)
      ∙ ap (λ (t : Tree). node v (on' k.left) t) (below k.right w.3 w.4)
      ∙ sym (read_node v k p' on' w.0))
      (λ w.
      let ne : k.len ≡ 0 → ⊥ = λ e. let z = w.0 in omega arith in
      read_leaf v k p on ne
      ∙ ap (leaf v) (part_same plo phi k.len k.start p p' same w.1 w.2 within long)
      ∙ sym (read_leaf v k p' on' ne))
      ok

  -- THE FRAME LAW
  pub tree_same :
      (b b' : List Float) (l l' : List ℕ) → Same nan (6 * lo) (6 * hi) b b' → Same 0 (4 * lo) (4 * hi) l l' → Sound l lo hi plo phi →
      (fuel i : ℕ) → lo ≤ i → i < hi → tree_at_of b l p fuel i ≡ tree_at_of b' l' p' fuel i
  unfolding tree_at_of Sound
  tree_same b b' l l' sb sl sound zero i x y = ap (λ (v : Aabb). leaf v []) (row_same (6 * lo) (6 * hi) b b' i sb (omega arith) (omega arith))
  tree_same b b' l l' sb sl sound (suc fuel) i x y =
      ap (λ (v : Aabb). read_of v (links_at_of l i) p (tree_at_of b l p fuel)) (row_same (6 * lo) (6 * hi) b b' i sb (omega arith) (omega arith))
      ∙ read_same (box_at_of b' i) (links_at_of l i) (sound i x y) (tree_at_of b l p fuel) (tree_at_of b' l' p' fuel) (tree_same b b' l l' sb sl sound fuel)
      ∙ ap (λ (k : Links). read_of (box_at_of b' i) k p' (tree_at_of b' l' p' fuel)) (link_same (4 * lo) (4 * hi) l l' i sl (omega arith) (omega arith))

-- ---- links

pub linked_wider :
    (lo hi plo phi lo' hi' plo' phi' : ℕ) (k : Links) → lo' ≤ lo → hi ≤ hi' → plo' ≤ plo → phi ≤ phi' →
    Linked lo hi plo phi k → Linked lo' hi' plo' phi' k
linked_wider lo hi plo phi lo' hi' plo' phi' k a b c d ok =
    ⊎_elim
    (λ w. let w1 = w.1 in let w2 = w.2 in let w3 = w.3 in let w4 = w.4 in inl (w.0, omega arith, omega arith, omega arith, omega arith))
    (λ w. let w1 = w.1 in let w2 = w.2 in inr (w.0, omega arith, omega arith))
    ok

pub sound_same : (l l' : List ℕ) (lo hi plo phi : ℕ) → Same 0 (4 * lo) (4 * hi) l l' → Sound l lo hi plo phi → Sound l' lo hi plo phi
unfolding Sound
sound_same l l' lo hi plo phi s ok j x y = rw (← link_same (4 * lo) (4 * hi) l l' j s (omega arith) (omega arith)) (ok j x y)
