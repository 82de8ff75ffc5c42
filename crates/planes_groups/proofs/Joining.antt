-- Adjacency by the numbers of corners is adjacency by vertices: `joined_adjacent`.
use mathlib.Core.Path.{◌≡◌, refl, sym, ap, ◌∙◌}
use mathlib.Core.Bool.{Bool, true, false, ◌||◌, ◌&&◌}
use mathlib.Core.List.{List, [], ◌∷◌, ◌++◌, map, flat_map}
use Prim.Native.Nat.{ℕ, zero, suc, ◌+◌, ◌*◌, ◌<◌, ◌≤◌}
use native.Mathlib.Nat.{not-suc-le-zero}
use native.Mathlib.Omega.{arith}
use lib.Dec.{eqb, ltb}
use lib.Ieee.{Float}
use lib.ListN.{length, get_or, length-map}
use borrow.Author.Tests.{eq-eqb, eqb-true, ltb-true}
use Rattle.laws.proofs.Lists.{get_or_inside}
use Rattle.laws.proofs.Bools.{and_second}
use Rattle.float.proofs.Numbers.{by_order}
use Rattle.order.specs.Runs.{any_by, up_to}
use Rattle.order.proofs.Stable.{by-eq}
use Rattle.order.proofs.Runs.{any_under}
use Rattle.order.proofs.Positions.{up_to_length, up_to_at}
use Rattle.geometry.specs.declared.Triangle.{Triangle}
use Rattle.columns.specs.Columns.{triangle_at_of}
use Rattle.planes_faces.specs.Key.{Key, same_key, vertex_key}
use Rattle.planes_patches.specs.Lists.{keep_if, filter_by}
use Rattle.planes_patches.specs.Triangles.{nth_triangle, corners_of, triangles_in}
use Rattle.planes_patches.specs.Rows.{none_of, tris_in, patch_in, patches_in}
use Rattle.planes_patches.proofs.Filling.{triangle_in}
use Rattle.planes_links.specs.Words.{has}
use Rattle.planes_links.specs.Links.{is_of, has_corner, is_linked, run_of, is_joined, Numbers}
use Rattle.planes_links.proofs.Rising.{clash, has_filter}
use Rattle.planes_links.proofs.Filters.{any_more, eqb_turn, filter_below}
use Rattle.planes_links.proofs.Pushing.{is_of_lem, linked_none, run_cut}
use Rattle.planes_groups.specs.Groups.{vertices_of, run_at, runs_of, is_adjacent}
use Rattle.planes_faces.specs.Numbers.{corner_in, place_in, number_in, Numbered}
use Rattle.planes_groups.proofs.Reading.{map_twice, patches_length}

-- ---- some element passes

module _ {A : Type 0} (t : A → Bool) where
  any_append : (xs ys : List A) → any_by t (xs ++ ys) ≡ any_by t xs || any_by t ys
  unfolding any_by
  any_append [] ys = refl
  any_append (x ∷ xs) ys = rw (any_append xs ys) (assoc (t x) (any_by t xs) (any_by t ys))
    where
      assoc : (a b c : Bool) → a || (b || c) ≡ (a || b) || c
      assoc true b c = refl
      assoc false b c = refl

  any_flat : {B : Type 0} (f : B → List A) (xs : List B) → any_by t (flat_map f xs) ≡ any_by (λ x. any_by t (f x)) xs
  unfolding any_by flat_map
  any_flat f [] = refl
  any_flat f (x ∷ xs) = any_append (f x) (flat_map f xs) ∙ ap (λ (b : Bool). any_by t (f x) || b) (any_flat f xs)

  any_map : {B : Type 0} (f : B → A) (xs : List B) → any_by t (map f xs) ≡ any_by (λ x. t (f x)) xs
  unfolding any_by
  any_map f [] = refl
  any_map f (x ∷ xs) = ap (λ (b : Bool). t (f x) || b) (any_map f xs)

any_filter : (t g : ℕ → Bool) (xs : List ℕ) → any_by g (filter_by t xs) ≡ any_by (λ x. t x && g x) xs
unfolding any_by filter_by
any_filter t g [] = refl
any_filter t g (x ∷ xs) = go (t x) (any_filter t g xs)
  where
    go : (b : Bool) → any_by g (filter_by t xs) ≡ any_by (λ y. t y && g y) xs → any_by g (keep_if b x (filter_by t xs)) ≡ (b && g x) || any_by (λ y. t y && g y) xs
    go true r = ap (λ (b : Bool). g x || b) r
    go false r = r

-- ---- with a witness

any_intro : (f : ℕ → Bool) (n x : ℕ) → x < n → f x ≡ true → any_by f (up_to n) ≡ true
unfolding up_to
any_intro f zero x h e = absurd (not-suc-le-zero h)
any_intro f (suc n) x h e =
    let rest : x < n → any_by f (up_to n) ≡ true = λ g. any_intro f n x g e in
    step f n ∙ by-eq x n (λ s. rw (ap f (sym s) ∙ e) (or_true (any_by f (up_to n)))) (λ d. rw (rest (by_order (suc x) n (λ y. y) (λ y. absurd (d (omega arith))))))
  where
    or_true : (b : Bool) → b || true ≡ true
    or_true true = refl
    or_true false = refl

    step : (f : ℕ → Bool) (n : ℕ) → any_by f (up_to (suc n)) ≡ any_by f (up_to n) || f n
    step f n = ap (λ (k : ℕ). any_by f (up_to k)) (let e : suc n ≡ n + 1 = omega arith in e) ∙ any_more f n

any_case : {C : Type 0} (f : ℕ → Bool) (n : ℕ) → any_by f (up_to n) ≡ true → ((x : ℕ) → x < n → f x ≡ true → C) → C
unfolding up_to any_by
any_case f zero e k = absurd (clash e refl)
any_case {C = C} f (suc n) e k =
    let rest : any_by f (up_to n) ≡ true → C = λ h. any_case f n h (λ x l y. k x (omega arith) y) in
    go (f n) refl rest (sym (step f n) ∙ e)
  where
    step : (f : ℕ → Bool) (n : ℕ) → any_by f (up_to (suc n)) ≡ any_by f (up_to n) || f n
    step f n = ap (λ (k : ℕ). any_by f (up_to k)) (let e : suc n ≡ n + 1 = omega arith in e) ∙ any_more f n

    go : (b : Bool) → f n ≡ b → (any_by f (up_to n) ≡ true → C) → any_by f (up_to n) || f n ≡ true → C
    go true s rest h = k n (omega arith) s
    go false s rest h = rest (no_right (any_by f (up_to n)) (f n) s h)
      where
        no_right : (a b : Bool) → b ≡ false → a || b ≡ true → a ≡ true
        no_right true b z h = refl
        no_right false b z h = absurd (clash h z)

-- a chain of three
or_case : {C : Type 0} (a b c : Bool) → a || (b || c) ≡ true → (a ≡ true → C) → (b ≡ true → C) → (c ≡ true → C) → C
or_case true b c h f g k = f refl
or_case false true c h f g k = g refl
or_case false false c h f g k = k h

and_left : (a b : Bool) → a && b ≡ true → a ≡ true
and_left true b h = refl
and_left false b h = h

same_bool : (a b : Bool) → (a ≡ true → b ≡ true) → (b ≡ true → a ≡ true) → a ≡ b
same_bool true b f g = sym (f refl)
same_bool false true f g = g refl
same_bool false false f g = refl

or_first : (a b c : Bool) → a ≡ true → a || (b || c) ≡ true
or_first a b c e = rw e

or_second : (a b c : Bool) → b ≡ true → a || (b || c) ≡ true
or_second true b c e = refl
or_second false b c e = rw e

or_third : (a b c : Bool) → c ≡ true → a || (b || c) ≡ true
or_third true b c e = refl
or_third false true c e = refl
or_third false false c e = e

-- ---- the scene

module _ (area : List Float) (handles : List ℕ) (n m : ℕ) (rows : List Float) (of : List ℕ) (np : ℕ) (id : List ℕ) (vertices : ℕ)
    (numbered : Numbered vertex_key area n m id) (numbers : Numbers id n m vertices) (long : m ≤ length of) (few : np ≤ 4096) where
  unfoldable key : ℕ → ℕ → Key
  key c i = vertex_key (corner_in area n c i)

  -- a corner of triangle i passes
  abbrev some : (Key → Bool) → ℕ → Bool
  some t i = t (key 0 i) || (t (key 1 i) || t (key 2 i))

  abbrev verts : ℕ → List Key
  verts x = vertices_of (triangles_in area handles n m) (patch_in rows of m x)

  corners : (t : Key → Bool) (i : ℕ) → i < m → any_by t (map vertex_key (corners_of (nth_triangle (triangles_in area handles n m) i))) ≡ some t i
  unfolding any_by corners_of triangle_at_of corner_in key
  corners t i h = ap (λ (x : Triangle). any_by t (map vertex_key (corners_of x))) (triangle_in area handles n m i h) ∙ three (t (key 0 i)) (t (key 1 i)) (t (key 2 i))
    where
      three : (a b c : Bool) → a || (b || (c || false)) ≡ a || (b || c)
      three true b c = refl
      three false true c = refl
      three false false true = refl
      three false false false = refl

  verts_any : (t : Key → Bool) (x : ℕ) → any_by t (verts x) ≡ any_by (λ i. eqb (get_or of i 0) x && some t i) (up_to m)
  unfolding vertices_of patch_in tris_in
  verts_any t x =
      any_flat t (λ i. map vertex_key (corners_of (nth_triangle (triangles_in area handles n m) i))) (filter_by (λ i. eqb (get_or of i none_of) x) (up_to m))
      ∙ any_filter (λ i. eqb (get_or of i none_of) x) (λ i. any_by t (map vertex_key (corners_of (nth_triangle (triangles_in area handles n m) i)))) (up_to m)
      ∙ any_under (λ i. eqb (get_or of i none_of) x && any_by t (map vertex_key (corners_of (nth_triangle (triangles_in area handles n m) i)))) (λ i. eqb (get_or of i 0) x && some t i) m
      (λ i h. ap (λ (b : Bool). eqb (get_or of i none_of) x && b) (corners t i h) ∙ ap (λ (v : ℕ). eqb v x && some t i) (get_or_inside of i none_of 0 (omega arith)))

  abbrev all_verts : List (List Key)
  all_verts = map (vertices_of (triangles_in area handles n m)) (patches_in rows of m np)

  verts_at : (x : ℕ) → x < np → get_or all_verts x [] ≡ verts x
  unfolding patches_in
  verts_at x h = map_twice (vertices_of (triangles_in area handles n m)) (patch_in rows of m) (up_to np) x [] (rw (up_to_length np) h) ∙ ap verts (up_to_at np x h)

  verts_length : length all_verts ≡ np
  verts_length = length-map (patches_in rows of m np) (vertices_of (triangles_in area handles n m)) ∙ patches_length rows of m np

  -- the same vertex, the same number
  same_turn : (c d i j : ℕ) → c < 3 → d < 3 → i < m → j < m → same_key (key c i) (key d j) ≡ eqb (number_in id n d j) (number_in id n c i)
  unfolding key
  same_turn c d i j hc hd hi hj = sym (numbered.same c d i j hc hd hi hj) ∙ eqb_turn (number_in id n c i) (number_in id n d j)

  corner_same : (c i x j : ℕ) → c < 3 → i < m → x < np → j < m → eqb (get_or of j 0) x && some (same_key (key c i)) j ≡ has_corner id n of np (number_in id n c i) x j
  unfolding has_corner place_in
  corner_same c i x j hc hi h l =
      let v = number_in id n c i in
      let s0 = same_turn c 0 i j hc (omega arith) hi l in
      let s1 = same_turn c 1 i j hc (omega arith) hi l in
      let s2 = same_turn c 2 i j hc (omega arith) hi l in
      ap (λ (b : Bool). eqb (get_or of j 0) x && (b || (same_key (key c i) (key 1 j) || same_key (key c i) (key 2 j)))) s0
      ∙ ap (λ (b : Bool). eqb (get_or of j 0) x && (eqb (get_or id j 0) v || (b || same_key (key c i) (key 2 j)))) s1
      ∙ ap (λ (b : Bool). eqb (get_or of j 0) x && (eqb (get_or id j 0) v || (eqb (get_or id (n + j) 0) v || b))) s2
      ∙ ap (λ (b : Bool). b && (eqb (get_or id j 0) v || (eqb (get_or id (n + j) 0) v || eqb (get_or id (2 * n + j) 0) v))) (sym (is_of_lem of np x j h))

  -- the run of a corner's vertex is that of its number
  run_same : (c i : ℕ) → c < 3 → i < m → run_at all_verts (key c i) ≡ run_of id n of m np (number_in id n c i)
  unfolding run_at
  run_same c i hc hi =
      let v = number_in id n c i in
      ap (λ (k : ℕ). filter_by (λ x. any_by (same_key (key c i)) (get_or all_verts x [])) (up_to k)) verts_length
      ∙ filter_below (λ x. any_by (same_key (key c i)) (get_or all_verts x [])) (λ x. any_by (has_corner id n of np v x) (up_to m)) np
      (λ x h. ap (any_by (same_key (key c i))) (verts_at x h) ∙ verts_any (same_key (key c i)) x ∙ any_under (λ j. eqb (get_or of j 0) x && some (same_key (key c i)) j) (has_corner id n of np v x) m (λ j l. corner_same c i x j hc hi h l))
      ∙ sym (run_cut id n of m np v few)

  module _ (p q : ℕ) where
    -- whether a vertex links p and q, by its key and by its number
    abbrev by_key : Key → Bool
    by_key k = is_linked (run_at all_verts k) p q

    abbrev by_number : ℕ → Bool
    by_number v = is_linked (run_of id n of m np v) p q

    link_same : (c i : ℕ) → c < 3 → i < m → by_key (key c i) ≡ by_number (number_in id n c i)
    link_same c i hc hi = ap (λ (l : List ℕ). is_linked l p q) (run_same c i hc hi)

    abbrev adjacent : Bool
    adjacent = is_adjacent (runs_of (triangles_in area handles n m) (patches_in rows of m np)) p q

    adjacent_any : adjacent ≡ any_by (λ x. any_by by_key (verts x)) (up_to np)
    unfolding is_adjacent runs_of patches_in
    adjacent_any =
        any_map (λ run. is_linked run p q) (run_at all_verts) (flat_map (λ v. v) all_verts)
        ∙ any_flat by_key (λ v. v) all_verts
        ∙ any_map (λ v. any_by by_key v) (vertices_of (triangles_in area handles n m)) (patches_in rows of m np)
        ∙ any_map (λ x. any_by by_key (vertices_of (triangles_in area handles n m) x)) (patch_in rows of m) (up_to np)

    -- a corner that links them is one of a patch's
    from_corner : (i : ℕ) → i < m → get_or of i 0 < np → some by_key i ≡ true → adjacent ≡ true
    from_corner i hi hp e =
        let x = get_or of i 0 in
        let inside : eqb x x && some by_key i ≡ true = rw (eq-eqb x x refl, e) in
        adjacent_any ∙ any_intro (λ y. any_by by_key (verts y)) np x hp (verts_any by_key x ∙ any_intro (λ j. eqb (get_or of j 0) x && some by_key j) m i hi inside)

    in_run : (v : ℕ) → by_number v ≡ true → any_by (has_corner id n of np v q) (up_to m) ≡ true
    unfolding run_of
    in_run v e = go (has q (run_of id n of m np v)) refl
      where
        go : (b : Bool) → has q (run_of id n of m np v) ≡ b → any_by (has_corner id n of np v q) (up_to m) ≡ true
        go true h = and_left (any_by (has_corner id n of np v q) (up_to m)) (has q (up_to 4096)) (sym (has_filter (λ x. any_by (has_corner id n of np v x) (up_to m)) q (up_to 4096)) ∙ h)
        go false h = absurd (clash e (linked_none (run_of id n of m np v) p q h))

    forward : (v i : ℕ) → by_number v ≡ true → i < m → has_corner id n of np v q i ≡ true → adjacent ≡ true
    unfolding has_corner is_of place_in
    forward v i e hi h =
        let here = and_left (is_of of np q i) (eqb (get_or id i 0) v || (eqb (get_or id (n + i) 0) v || eqb (get_or id (2 * n + i) 0) v)) h in
        let corner = and_second (is_of of np q i) (eqb (get_or id i 0) v || (eqb (get_or id (n + i) 0) v || eqb (get_or id (2 * n + i) 0) v)) h in
        let hp = ltb-true (get_or of i 0) np (and_left (ltb (get_or of i 0) np) (eqb (get_or of i 0) q) here) in
        let linked : (c : ℕ) → c < 3 → number_in id n c i ≡ v → by_key (key c i) ≡ true = λ c hc s. link_same c i hc hi ∙ ap by_number s ∙ e in
        from_corner i hi hp
        (or_case (eqb (get_or id i 0) v) (eqb (get_or id (n + i) 0) v) (eqb (get_or id (2 * n + i) 0) v) corner
        (λ s. or_first (by_key (key 0 i)) (by_key (key 1 i)) (by_key (key 2 i)) (linked 0 (omega arith) (eqb-true (get_or id i 0) v s)))
        (λ s. or_second (by_key (key 0 i)) (by_key (key 1 i)) (by_key (key 2 i)) (linked 1 (omega arith) (eqb-true (get_or id (n + i) 0) v s)))
        (λ s. or_third (by_key (key 0 i)) (by_key (key 1 i)) (by_key (key 2 i)) (linked 2 (omega arith) (eqb-true (get_or id (2 * n + i) 0) v s))))

    backward : (i : ℕ) → i < m → some by_key i ≡ true → any_by by_number (up_to vertices) ≡ true
    unfolding place_in
    backward i hi e =
        or_case (by_key (key 0 i)) (by_key (key 1 i)) (by_key (key 2 i)) e
        (λ s. any_intro by_number vertices (get_or id i 0) (numbers.first i hi) (sym (link_same 0 i (omega arith) hi) ∙ s))
        (λ s. any_intro by_number vertices (get_or id (n + i) 0) (numbers.second i hi) (sym (link_same 1 i (omega arith) hi) ∙ s))
        (λ s. any_intro by_number vertices (get_or id (2 * n + i) 0) (numbers.third i hi) (sym (link_same 2 i (omega arith) hi) ∙ s))

    pub joined_adjacent : is_joined id n vertices of m np p q ≡ adjacent
    unfolding is_joined
    joined_adjacent =
        same_bool (any_by by_number (up_to vertices)) adjacent
        (λ e. any_case by_number vertices e (λ v hv ev. any_case (has_corner id n of np v q) m (in_run v ev) (λ i hi h. forward v i ev hi h)))
        (λ e.
        any_case (λ x. any_by by_key (verts x)) np (sym adjacent_any ∙ e)
        (λ x hx ex. any_case (λ i. eqb (get_or of i 0) x && some by_key i) m (sym (verts_any by_key x) ∙ ex) (λ i hi h. backward i hi (and_second (eqb (get_or of i 0) x) (some by_key i) h))))
