-- The areas as `scene_bvh` lends them on, and as they come back.
use mathlib.Core.Path.{◌≡◌, sym, ap, subst, ◌∙◌}
use mathlib.Core.List.{List, ◌++◌}
use Prim.Native.Nat.{ℕ, ◌*◌, ◌≤◌}
use native.Mathlib.Omega.{arith}
use lib.Ieee.{Float}
use lib.ListN.{length, take, drop}
use lib.Seq.{length-take-le, take-append_seam}
use Rattle.scene.specs.Scene.{Scene}
use Rattle.bvh.specs.Bvh.{padded_in, rows_in, BvhLent, BvhOf}
use Rattle.scene_bvh.specs.SceneTree.{cleared_from, Roomy, SceneLoaded, SceneTree}
use Rattle.scene_bvh.proofs.Handles.{cleared_length}
use Rattle.scene_bvh.proofs.Scenes.{scene_tree}

module _
    (columns : List Float) (handles : List ℕ) (n m : ℕ) (extents : List Float) (keys perm words scratch : List ℕ) (areas boxes : List Float) (nodes : List ℕ) (tree : List Float)
    (k : Roomy columns handles n m extents keys perm words scratch areas boxes nodes tree)
  where
    part : length (take m perm) ≡ m
    part = length-take-le m perm k.perm_room

    -- what `build_flat_bvh` asks, of columns of at most n triples
    pub lent : (q : ℕ) → m ≤ q → q ≤ n → BvhLent columns handles q extents keys (take m perm) words scratch areas boxes nodes
    lent q least most =
        record {
          wide = omega (arith, k.wide, most);
          named = omega (arith, k.named, most);
          some = rw part k.some;
          fewer = rw part least;
          few = rw part k.few;
          extents_room = rw part k.extents_room;
          keys_room = rw part k.keys_room;
          words_room = rw part k.words_room;
          scratch_room = rw part k.scratch_room;
          areas_room = rw part k.areas_room;
          boxes_room = rw part k.boxes_room;
          nodes_room = rw part k.nodes_room;
        }

    pub room : 22 * length (take m perm) ≤ length tree
    room = rw part k.tree_room

    -- what comes back, where the handles are those found, cleared
    pub returned :
        (boxes' : List Float) (nodes' order : List ℕ) (tree' : List Float) (r : ℕ) → length order ≡ length (take m perm) →
        BvhOf columns handles n (length (take m perm)) boxes' nodes' order (padded_in (length (take m perm)) tree') (rows_in (length (take m perm)) tree') r →
        (s : Scene) (found : List ℕ) → SceneLoaded s columns found n m → handles ≡ cleared_from m found →
        SceneTree s columns handles n m (padded_in m tree') nodes' (take m (order ++ drop m perm)) (rows_in m tree') r
    returned boxes' nodes' order tree' r size b s found l cleared =
        let front : take m (order ++ drop m perm) ≡ order = ap (λ (j : ℕ). take j (order ++ drop m perm)) (sym (size ∙ part)) ∙ take-append_seam order (drop m perm) in
        let long : length handles ≡ length found = ap length cleared ∙ cleared_length m found in
        let c : BvhOf columns (cleared_from m found) n m boxes' nodes' order (padded_in m tree') (rows_in m tree') r =
        subst (λ (j : ℕ). BvhOf columns (cleared_from m found) n j boxes' nodes' order (padded_in j tree') (rows_in j tree') r) part
        (subst (λ (h : List ℕ). BvhOf columns h n (length (take m perm)) boxes' nodes' order (padded_in (length (take m perm)) tree') (rows_in (length (take m perm)) tree') r) cleared b) in
        subst (λ (h : List ℕ). SceneTree s columns h n m (padded_in m tree') nodes' (take m (order ++ drop m perm)) (rows_in m tree') r) (sym cleared)
        (rw (front) (scene_tree s columns found n m boxes' nodes' order (padded_in m tree') (rows_in m tree') r k.some (omega (arith, k.fewer, k.named, long)) c l))
