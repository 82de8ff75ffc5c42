-- What a trace leaves: the closest of before or a nearer one, and no nearer than the ray begins, so that a box that was entered before is
-- entered still where its entry is no farther (`test_since`). A ray that ends before it begins crosses nothing (`trace_lost`).
use mathlib.Core.Path.{◌≡◌, refl, sym, ap, subst, ◌∙◌}
use mathlib.Core.Bool.{Bool, true, false, not, cond, ◌&&◌}
use mathlib.Core.List.{List, [], ◌∷◌, foldl}
use Prim.Native.Nat.{ℕ}
use lib.Dec.{T}
use lib.Ieee.{Float, binary32, add, mul, div, lt, le}
use Rattle.float.specs.Literals.{one32}
use Rattle.vector.specs.declared.Vec3.{Vec3}
use Rattle.vector.specs.declared.Ray.{Ray}
use Rattle.geometry.specs.declared.Triangle.{Triangle}
use Rattle.geometry.specs.declared.Edges.{Edges}
use Rattle.std.specs.Prelude.{Option, None, Some, is_some}
use Rattle.vector.specs.Vector.{dot3_of, sub3_of, cross3_of}
use Rattle.geometry.specs.Intersect.{Crossing, edges_of_corners, parallel_of, outside_of, within_of, solve_of, crossing_of, intersect_max_of}
use Rattle.geometry.specs.declared.Aabb.{Aabb}
use Rattle.geometry.specs.Slab.{slab_of}
use Rattle.tree_build.specs.Tree.{Tree, leaf, node, box_of}
use Rattle.tree_trace.specs.declared.Closest.{Closest}
use Rattle.tree_trace.specs.Leaf.{takes_of, keep_of, visit_of, visit_all_of}
use Rattle.tree_trace.specs.Trace.{Test, near_first, trace_tree}
use Rattle.float.proofs.Beyond.{float_turn}
use Rattle.tree_trace.proofs.Floats.{le_left, le_right, le_not_lt, lt_le_trans}
use Rattle.tree_trace.proofs.Again.{Nearer, again}

-- ---- a crossing lies on the ray, up to `far`
abbrev On : Ray → Float → Crossing → Type 0
On ray far None = T true
On ray far (Some (t, u, v)) = T (le ray.min_distance t) × T (le t far)

module _ (ray : Ray) (far : Float) where
  or_miss : (b : Bool) (x : Crossing) → On ray far x → On ray far (cond b None x)
  or_miss true x h = tt
  or_miss false x h = h

  within_on : (t u v : Float) → On ray far (within_of t u v ray.min_distance far)
  unfolding within_of
  within_on t u v = go (le ray.min_distance t) (le t far) (λ h. h) (λ h. h)
    where
      go : (b c : Bool) → (T b → T (le ray.min_distance t)) → (T c → T (le t far)) → On ray far (cond (b && c) (Some (t, u, v)) None)
      go true true f g = (f tt, g tt)
      go true false f g = tt
      go false c f g = tt

  solve_on : (e : Edges) (h s : Vec3) (inv : Float) → On ray far (solve_of e h s inv ray far)
  unfolding solve_of
  solve_on e h s inv =
      let u = mul binary32 (dot3_of s h) inv in
      let q = cross3_of s e.edge1 in
      let v = mul binary32 (dot3_of ray.direction q) inv in
      let t = mul binary32 (dot3_of e.edge2 q) inv in
      let x = within_of t u v ray.min_distance far in
      let out = outside_of v (add binary32 u v) in
      or_miss (outside_of u u) (cond out None x) (or_miss out x (within_on t u v))

  crossing_on : (a : Vec3) (e : Edges) → On ray far (crossing_of a e ray far)
  unfolding crossing_of
  crossing_on a e =
      let h = cross3_of ray.direction e.edge2 in
      let det = dot3_of e.edge1 h in
      let inv = div binary32 one32 det in
      let s = sub3_of ray.origin a in
      or_miss (parallel_of det e.least_det) (solve_of e h s inv ray far) (solve_on e h s inv)

  triangle_on : (t : Triangle) → On ray far (intersect_max_of t ray far)
  unfolding intersect_max_of
  triangle_on t = crossing_on t.a (edges_of_corners t.a t.b t.c)

-- ---- since `best`
pub record Since (ray : Ray) (best x : Closest) : Type 0 where
  pub nearer : Nearer x.distance best.distance
  pub ahead : T (not (lt x.distance ray.min_distance))

module _ (ray : Ray) where
  abbrev Ahead : Closest → Type 0
  Ahead x = T (not (lt x.distance ray.min_distance))

  still : (best : Closest) → Ahead best → Since ray best best
  still best a = record { nearer = record { below = λ z h. h; number = λ h. h; number_back = λ h. h }; ahead = a }

  then : (x y z : Closest) → Since ray x y → Since ray y z → Since ray x z
  then x y z f g =
      record {
        nearer = record {
          below = λ w h. f.nearer.below w (g.nearer.below w h);
          number = λ h. f.nearer.number (g.nearer.number h);
          number_back = λ h. g.nearer.number_back (f.nearer.number_back h);
        };
        ahead = g.ahead;
      }

  keep_since : (x : Crossing) (i : ℕ) (best : Closest) → Ahead best → On ray best.distance x → Since ray best (keep_of x i best)
  keep_since None i best a h = still best a
  keep_since (Some (t, u, v)) i best a h = go (takes_of t i best)
    where
      go : (b : Bool) → Since ray best (cond b (record { distance = t; index = i; found = 1 }) best)
      go true =
          record {
            nearer = record { below = λ z l. lt_le_trans z t best.distance l h.1; number = λ p. le_right t best.distance h.1; number_back = λ p. le_left t best.distance h.1 };
            ahead = le_not_lt ray.min_distance t h.0;
          }
      go false = still best a

  turns_since : (a b : Option Float) (f g : Closest → Closest) → ((x : Closest) → Ahead x → Since ray x (f x)) → ((x : Closest) → Ahead x → Since ray x (g x)) → (best : Closest) → Ahead best →
      Since ray best (foldl (λ (x : Closest) (h : Closest → Closest). h x) best (near_first a b f g))
  turns_since None None f g p q best h = still best h
  turns_since None (Some y) f g p q best h = q best h
  turns_since (Some x) None f g p q best h = p best h
  turns_since (Some x) (Some y) f g p q best h = go (le x y)
    where
      go : (t : Bool) → Since ray best (foldl (λ (x : Closest) (h : Closest → Closest). h x) best (cond t (f ∷ g ∷ []) (g ∷ f ∷ [])))
      go true = then best (f best) (g (f best)) (p best h) (q (f best) (p best h).ahead)
      go false = then best (g best) (f (g best)) (q best h) (p (g best) (q best h).ahead)

  or_still : (b : Bool) (best x : Closest) → Ahead best → Since ray best x → Since ray best (cond b x best)
  or_still true best x a h = h
  or_still false best x a h = still best a

module _ (test : Test) (tri : ℕ → Triangle) (ray : Ray) where
  all_since : (xs : List ℕ) (best : Closest) → Ahead ray best → Since ray best (visit_all_of tri ray xs best)
  unfolding visit_all_of visit_of
  all_since [] best a = still ray best a
  all_since (i ∷ is) best a =
      let x = keep_of (intersect_max_of (tri i) ray best.distance) i best in
      let h = keep_since ray (intersect_max_of (tri i) ray best.distance) i best a (triangle_on ray best.distance (tri i)) in
      then ray best x (visit_all_of tri ray is x) h (all_since is x h.ahead)

  pub trace_since : (t : Tree) (best : Closest) → T (not (lt best.distance ray.min_distance)) → Since ray best (trace_tree test tri ray t best)
  unfolding trace_tree
  trace_since (leaf b xs) best a = or_still ray (is_some (test b ray best.distance)) best _ a (all_since xs best a)
  trace_since (node b l r) best a =
      or_still ray (is_some (test b ray best.distance)) best _ a
      (turns_since ray (test (box_of l) ray best.distance) (test (box_of r) ray best.distance) (trace_tree test tri ray l) (trace_tree test tri ray r)
      (trace_since l) (trace_since r) best a)

-- ---- the second child's box, after the first child
module _ (tri : ℕ → Triangle) (ray : Ray) (t : Tree) (best one : Closest) (e : one ≡ trace_tree slab_of tri ray t best) (a : lt best.distance ray.min_distance ≡ false) where
  since : Since ray best one
  since = rw e (trace_since slab_of tri ray t best (subst (λ (b : Bool). T (not b)) (sym a) tt))

  pub ahead_since : lt one.distance ray.min_distance ≡ false
  ahead_since = go (lt one.distance ray.min_distance) since.ahead
    where
      go : (b : Bool) → T (not b) → b ≡ false
      go true h = absurd h
      go false h = refl

  pub test_since : (b : Aabb) (n : Float) → slab_of b ray best.distance ≡ Some n → is_some (slab_of b ray one.distance) ≡ not (lt one.distance n)
  test_since b n h = again b ray best.distance one.distance n since.nearer since.ahead h

-- ---- a ray that ends before it begins
module _ (test : Test) (tri : ℕ → Triangle) (ray : Ray) (best : Closest) (h : T (lt best.distance ray.min_distance)) where
  keep_lost : (x : Crossing) (i : ℕ) → On ray best.distance x → keep_of x i best ≡ best
  keep_lost None i k = refl
  keep_lost (Some (t, u, v)) i k = absurd (float_turn best.distance ray.min_distance t h k.0 k.1)

  all_lost : (xs : List ℕ) → visit_all_of tri ray xs best ≡ best
  unfolding visit_all_of visit_of
  all_lost [] = refl
  all_lost (i ∷ is) =
      ap (λ (x : Closest). visit_all_of tri ray is x) (keep_lost (intersect_max_of (tri i) ray best.distance) i (triangle_on ray best.distance (tri i)))
      ∙ all_lost is

  turns_lost : (a b : Option Float) (f g : Closest → Closest) → f best ≡ best → g best ≡ best →
      foldl (λ (x : Closest) (h : Closest → Closest). h x) best (near_first a b f g) ≡ best
  turns_lost None None f g p q = refl
  turns_lost None (Some y) f g p q = q
  turns_lost (Some x) None f g p q = p
  turns_lost (Some x) (Some y) f g p q = go (le x y)
    where
      go : (t : Bool) → foldl (λ (x : Closest) (h : Closest → Closest). h x) best (cond t (f ∷ g ∷ []) (g ∷ f ∷ [])) ≡ best
      go true = ap g p ∙ q
      go false = ap f q ∙ p

  or_best : (b : Bool) (x : Closest) → x ≡ best → cond b x best ≡ best
  or_best true x e = e
  or_best false x e = refl

  pub trace_lost : (t : Tree) → trace_tree test tri ray t best ≡ best
  unfolding trace_tree
  trace_lost (leaf b xs) = or_best (is_some (test b ray best.distance)) _ (all_lost xs)
  trace_lost (node b l r) =
      or_best (is_some (test b ray best.distance)) _
      (turns_lost (test (box_of l) ray best.distance) (test (box_of r) ray best.distance) (trace_tree test tri ray l) (trace_tree test tri ray r)
      (trace_lost l) (trace_lost r))
