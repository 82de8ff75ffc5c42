-- What `count_edges` and `put_border` give together: the sides counted once are the border of the definition (`border_is`), and they stand
-- in the area (`border_stored`).
use mathlib.Core.Path.{◌≡◌, refl, sym, ap, ◌∙◌}
use mathlib.Core.Bool.{Bool, true, false}
use mathlib.Core.List.{List, [], ◌∷◌, ◌++◌, map, flat_map}
use Prim.Native.Nat.{ℕ, zero, suc, ◌+◌, ◌*◌, ◌-◌, ◌/◌, ◌<◌}
use native.Mathlib.Nat.{add-zero}
use native.Mathlib.Omega.{arith}
use lib.Dec.{eqb}
use lib.Ieee.{Float}
use lib.ListN.{length, get_or}
use borrow.Author.Tests.{eqb-true}
use Rattle.order.proofs.Positions.{under_up_to, under_below}
use Rattle.columns.specs.Columns.{triangle_at_of}
use Rattle.order.specs.Sort.{Below}
use Rattle.order.specs.Runs.{up_to}
use Rattle.planes_faces.specs.Key.{key_by}
use Rattle.planes_faces.specs.Numbers.{Numbered, corner_in}
use Rattle.planes_patches.specs.Lists.{keep_if, filter_by, count_by}
use Rattle.planes_patches.specs.Rows.{none_of, tris_in}
use Rattle.planes_patches.specs.Triangles.{nth_triangle, triangles_in}
use Rattle.planes_patches.proofs.Lists.{filter_more, under_filter}
use Rattle.planes_patches.proofs.Filling.{triangle_in}
use Rattle.mirror.specs.Plane.{Edge}
use Rattle.mirror.specs.Rows.{edges_in}
use Rattle.planes_borders.specs.Border.{KeyedEdge, keyed_of, sides_of, is_same_edge, used_once, border_of, edge_key, edge_steps_per_metre}
use Rattle.planes_borders.specs.Uses.{is_once_in, side_in, sides_in, OnceCounted, edge_at, border_sides, border_in, Appended}
use Rattle.planes_borders.proofs.Once.{flat_append}

-- ---- lists

filter_append : {A : Type 0} (p : A → Bool) (xs ys : List A) → filter_by p (xs ++ ys) ≡ filter_by p xs ++ filter_by p ys
unfolding filter_by
filter_append p [] ys = refl
filter_append {A = A} p (x ∷ xs) ys = go (p x) (filter_by p (xs ++ ys)) (filter_by p xs) (filter_by p ys) (filter_append p xs ys)
  where
    go : (b : Bool) (l m n : List A) → l ≡ m ++ n → keep_if b x l ≡ keep_if b x m ++ n
    go true l m n r = ap (λ (l : List A). x ∷ l) r
    go false l m n r = r

map_append : {A B : Type 0} (f : A → B) (xs ys : List A) → map f (xs ++ ys) ≡ map f xs ++ map f ys
map_append f [] ys = refl
map_append {B = B} f (x ∷ xs) ys = ap (λ (l : List B). f x ∷ l) (map_append f xs ys)

map_keep : {A B : Type 0} (f : A → B) (b : Bool) (x : A) (xs : List A) → map f (keep_if b x xs) ≡ keep_if b (f x) (map f xs)
map_keep f true x xs = refl
map_keep f false x xs = refl

flat_filter : {A B : Type 0} (g : A → B) (p : A → Bool) (f : ℕ → List A) (is : List ℕ) → map g (filter_by p (flat_map f is)) ≡ flat_map (λ i. map g (filter_by p (f i))) is
unfolding flat_map filter_by
flat_filter g p f [] = refl
flat_filter {B = B} g p f (i ∷ is) =
    ap (map g) (filter_append p (f i) (flat_map f is)) ∙ map_append g (filter_by p (f i)) (filter_by p (flat_map f is))
    ∙ ap (λ (l : List B). map g (filter_by p (f i)) ++ l) (flat_filter g p f is)

-- two functions that agree on the numbers below m that pass
flat_under : {B : Type 0} (f h : ℕ → List B) (p : ℕ → Bool) (m : ℕ) → ((t : ℕ) → t < m → p t ≡ true → f t ≡ h t) → flat_map f (filter_by p (up_to m)) ≡ flat_map h (filter_by p (up_to m))
unfolding up_to filter_by flat_map
flat_under f h p zero e = refl
flat_under {B = B} f h p (suc m) e =
    let less : flat_map f (filter_by p (up_to m)) ≡ flat_map h (filter_by p (up_to m)) = flat_under f h p m (λ t l. e t (omega arith)) in
    let last : flat_map f (keep_if (p m) m []) ≡ flat_map h (keep_if (p m) m []) = one (p m) (e m (omega arith)) in
    ap (flat_map f) (filter_more p m) ∙ flat_append f (filter_by p (up_to m)) (keep_if (p m) m [])
    ∙ ap (λ (l : List B). l ++ flat_map f (keep_if (p m) m [])) less ∙ ap (λ (l : List B). flat_map h (filter_by p (up_to m)) ++ l) last
    ∙ sym (ap (flat_map h) (filter_more p m) ∙ flat_append h (filter_by p (up_to m)) (keep_if (p m) m []))
  where
    one : (b : Bool) → (b ≡ true → f m ≡ h m) → flat_map f (keep_if b m []) ≡ flat_map h (keep_if b m [])
    one true e = ap (λ (l : List B). l ++ []) (e refl)
    one false e = refl

-- ---- sides

sides_at : (area : List Float) (handles : List ℕ) (n m t : ℕ) → t < m → sides_of (nth_triangle (triangles_in area handles n m) t) ≡ sides_in area n t
unfolding sides_of sides_in side_in corner_in triangle_at_of
sides_at area handles n m t h = ap sides_of (triangle_in area handles n m t h)

edges_are : (area : List Float) (n t : ℕ) (a b c : Bool)
    → keep_if a (side_in area n t 0).edge (keep_if b (side_in area n t 1).edge (keep_if c (side_in area n t 2).edge []))
    ≡ keep_if a (edge_at area n t (t + 3 * n)) (keep_if b (edge_at area n (t + 3 * n) (t + 6 * n)) (keep_if c (edge_at area n (t + 6 * n) t) []))
unfolding side_in keyed_of corner_in edge_at
edges_are area n t a b c = refl

border_at : (area : List Float) (n : ℕ) (first uses : List ℕ) (p : KeyedEdge → Bool) (t : ℕ) → ((j : ℕ) → j < 3 → is_once_in first uses (3 * t + j) ≡ p (side_in area n t j))
    → map (λ (e : KeyedEdge). e.edge) (filter_by p (sides_in area n t)) ≡ border_sides area n first uses t
unfolding border_sides sides_in filter_by
border_at area n first uses p t e =
    let edge : KeyedEdge → Edge = λ e. e.edge in
    let a = side_in area n t 0 in let b = side_in area n t 1 in let c = side_in area n t 2 in
    let e0 : is_once_in first uses (3 * t) ≡ p a = ap (is_once_in first uses) (sym (add-zero (3 * t))) ∙ e 0 (omega arith) in
    let e1 : is_once_in first uses (3 * t + 1) ≡ p b = e 1 (omega arith) in
    let e2 : is_once_in first uses (3 * t + 2) ≡ p c = e 2 (omega arith) in
    rw (e0, e1, e2)
    (map_keep edge (p a) a (keep_if (p b) b (keep_if (p c) c [])) ∙ ap (λ (l : List Edge). keep_if (p a) (edge a) l)
    (map_keep edge (p b) b (keep_if (p c) c []) ∙ ap (λ (l : List Edge). keep_if (p b) (edge b) l) (map_keep edge (p c) c []))
    ∙ edges_are area n t (p a) (p b) (p c))

pub border_is : (area : List Float) (handles : List ℕ) (n m : ℕ) (of first uses : List ℕ) (g : ℕ) → OnceCounted area n of m first uses
    → border_in area n first uses (tris_in of m g) ≡ border_of (triangles_in area handles n m) (tris_in of m g)
unfolding OnceCounted border_in border_of used_once tris_in
border_is area handles n m of first uses g once =
    let on : ℕ → Bool = λ t. eqb (get_or of t none_of) g in
    let ts = triangles_in area handles n m in
    let edge : KeyedEdge → Edge = λ e. e.edge in
    let es = flat_map (sides_in area n) (filter_by on (up_to m)) in
    let p : KeyedEdge → Bool = λ e. eqb (count_by (is_same_edge e) es) 1 in
    let sides : flat_map (λ i. sides_of (nth_triangle ts i)) (filter_by on (up_to m)) ≡ es =
    flat_under (λ i. sides_of (nth_triangle ts i)) (sides_in area n) on m (λ t h u. sides_at area handles n m t h) in
    let kept : flat_map (λ i. map edge (filter_by p (sides_in area n i))) (filter_by on (up_to m)) ≡ flat_map (border_sides area n first uses) (filter_by on (up_to m)) =
    flat_under (λ i. map edge (filter_by p (sides_in area n i))) (border_sides area n first uses) on m
    (λ t h u. border_at area n first uses p t (λ j l. once g t j h l (eqb-true (get_or of t none_of) g u))) in
    sym (ap (λ (l : List KeyedEdge). map edge (filter_by (λ e. eqb (count_by (is_same_edge e) l) 1) l)) sides ∙ flat_filter edge p (sides_in area n) (filter_by on (up_to m)) ∙ kept)

-- the caller's numbers are those of `corner_numbers`
pub edge_numbered : (area : List Float) (n m : ℕ) (id : List ℕ) → Numbered (key_by edge_steps_per_metre) area n m id → Numbered edge_key area n m id
unfolding edge_key
edge_numbered area n m id h = h

-- ---- for the caller

pub border_stored : (area : List Float) (handles : List ℕ) (n m : ℕ) (of first uses : List ℕ) (g : ℕ) (old new : List Float) (k r : ℕ) → OnceCounted area n of m first uses
    → Appended old new k r (border_in area n first uses (tris_in of m g)) → edges_in new k (r - k) ≡ border_of (triangles_in area handles n m) (tris_in of m g)
border_stored area handles n m of first uses g old new k r once a =
    let es = border_in area n first uses (tris_in of m g) in
    let c = a.count in
    let e : r - k ≡ length es = omega arith in
    ap (edges_in new k) e ∙ a.stored ∙ border_is area handles n m of first uses g once

-- what `put_border` asks of a plane's triangles
pub tris_below : (of first : List ℕ) (m g : ℕ) → length first ≡ 3 * m → Below (length first / 3) (tris_in of m g)
unfolding tris_in
tris_below of first m g len =
    let e : length first / 3 ≡ m = omega arith in
    rw e (under_below m (filter_by (λ i. eqb (get_or of i none_of) g) (up_to m)) (under_filter m (λ i. eqb (get_or of i none_of) g) (up_to m) (under_up_to m)))
