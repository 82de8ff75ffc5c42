-- What stands in areas, as the definition reads it: patches and triangles by number, and rows as tables.
use mathlib.Core.Path.{◌≡◌, refl, sym, ap, ◌∙◌}
use mathlib.Core.Bool.{Bool, true, false, ◌&&◌}
use mathlib.Core.List.{List, [], ◌∷◌, ◌++◌, map}
use Prim.Native.Nat.{ℕ, zero, suc, ◌+◌, ◌*◌, ◌<◌, ◌≤◌}
use native.Mathlib.Nat.{le_of_suc-le-suc, not-suc-le-zero}
use native.Mathlib.Omega.{arith}
use lib.Dec.{eqb}
use lib.Ieee.{Float, nan}
use lib.ListN.{length, get_or, take, drop, replicate, length-map, length-replicate, get_or-replicate}
use lib.Seq.{take_at}
use borrow.Author.Tests.{eq-eqb}
use Rattle.order.specs.Sort.{sort_by, key_of, Below}
use Rattle.order.specs.Runs.{head_or, up_to}
use Rattle.order.proofs.Laws.{below_none, below_sort, length_sort, below_more}
use Rattle.order.proofs.Lexi.{sort_cong}
use Rattle.order.proofs.Positions.{up_to_length, up_to_at, under_below, Under, under_up_to, get_or_map_up_to}
use Rattle.geometry.specs.declared.Triangle.{Triangle}
use Rattle.columns.specs.Columns.{triangle_at_of}
use Rattle.planes_patches.specs.Lists.{keep_if, filter_by, all_by}
use Rattle.planes_patches.specs.Triangles.{nth_triangle, corners_of, triangles_in}
use Rattle.planes_patches.specs.Patch.{Patch, no_patch, patch_at}
use Rattle.mirror.specs.Rows.{vec_of_floats}
use Rattle.planes_patches.specs.Rows.{patch_floats, none_of, tris_in, patch_in, patches_in}
use Rattle.planes_patches.proofs.Filling.{triangle_in}
use Rattle.planes_links.specs.Words.{row_in, RowBounds}
use Rattle.planes_links.proofs.Filters.{filter_below}
use Rattle.planes_groups.specs.Settings.{Settings}
use Rattle.planes_groups.specs.Groups.{key_for_falling, seeds_of, is_tilted_from, lies_near, in_cone, lies_within, takes}
use Rattle.planes_groups.specs.Rows.{Table, seed_key_in, takes_in, is_free_at, free_of, Queue, RowsOf}

-- ---- 0 .. n - 1

pub map_twice : {A B : Type 0} (f : A → B) (g : ℕ → A) (xs : List ℕ) (i : ℕ) (d : B) → i < length xs → get_or (map f (map g xs)) i d ≡ f (g (get_or xs i 0))
map_twice f g [] i d h = absurd (not-suc-le-zero h)
map_twice f g (x ∷ xs) zero d h = refl
map_twice f g (x ∷ xs) (suc i) d h = map_twice f g xs i d (le_of_suc-le-suc h)

pub under_filter : (t : ℕ → Bool) (n : ℕ) (xs : List ℕ) → Under n xs → Under n (filter_by t xs)
unfolding Under filter_by
under_filter t n [] u = tt
under_filter t n (x ∷ xs) u = go (t x) (under_filter t n xs u.1)
  where
    go : (c : Bool) → Under n (filter_by t xs) → Under n (keep_if c x (filter_by t xs))
    go true r = (u.0, r)
    go false r = r

pub below_filter : (t : ℕ → Bool) (n : ℕ) → Below n (filter_by t (up_to n))
below_filter t n = under_below n (filter_by t (up_to n)) (under_filter t n (up_to n) (under_up_to n))

pub positions : (n b : ℕ) (xs : List ℕ) → xs ≡ up_to n → n ≤ b → Below b xs
positions n b xs e h = rw e (below_more n b (up_to n) h (under_below n (up_to n) (under_up_to n)))

pub sorted_positions : (f : ℕ → ℕ) (n : ℕ) (xs : List ℕ) → xs ≡ sort_by f (up_to n) → Below n xs
sorted_positions f n xs e = rw e (below_sort f n (up_to n) (under_below n (up_to n) (under_up_to n)))

-- ---- tables

pub table_is : (rows n bound : ℕ) (sorted starts : List ℕ) (f : ℕ → ℕ → Bool) → RowBounds rows sorted starts → rows < length starts
    → ((r : ℕ) → r < rows → row_in sorted starts r ≡ filter_by (f r) (up_to n)) → n ≤ bound → Table rows bound sorted starts
table_is rows n bound sorted starts f bounds long is h =
    record { bounds = bounds; long = long; below = λ r l. rw (is r l) (below_more n bound (filter_by (f r) (up_to n)) h (below_filter (f r) n)) }

pub table_tris : (np m bound : ℕ) (of sorted starts : List ℕ) → RowBounds np sorted starts → np < length starts
    → ((p : ℕ) → p < np → row_in sorted starts p ≡ tris_in of m p) → m ≤ bound → Table np bound sorted starts
unfolding tris_in
table_tris np m bound of sorted starts bounds long is h = table_is np m bound sorted starts (λ p i. eqb (get_or of i none_of) p) bounds long is h

-- ---- all free

filter_all : (f : ℕ → Bool) (n : ℕ) (xs : List ℕ) → Under n xs → ((x : ℕ) → x < n → f x ≡ true) → filter_by f xs ≡ xs
unfolding filter_by Under
filter_all f n [] u e = refl
filter_all f n (x ∷ xs) u e = rw (e x u.0) (ap (λ (l : List ℕ). x ∷ l) (filter_all f n xs u.1 e))

pub free_all : (np len : ℕ) → np ≤ len → free_of np (replicate len 0) ≡ up_to np
unfolding free_of
free_all np len h = filter_all (is_free_at (replicate len 0)) np (up_to np) (under_up_to np) (λ x l. eq-eqb (get_or (replicate len 0) x 0) 0 (get_or-replicate len x 0 0 (omega arith)))

pub queue_none : (np len : ℕ) (queue : List ℕ) → np ≤ len → np ≤ length queue → Queue np (replicate len 0) queue 0
queue_none np len queue h r =
    let l = length-replicate {A = ℕ} len 0 in
    let f = ap length (free_all np len h) in
    let u = up_to_length np in
    record { column = omega arith; room = r; total = omega arith; below = below_none np }

-- ---- patches and triangles

pub patch_at_lem : (rows : List Float) (of : List ℕ) (m np a : ℕ) → a < np → patch_at (patches_in rows of m np) a ≡ patch_in rows of m a
unfolding patch_at patches_in
patch_at_lem rows of m np a h = get_or_map_up_to (patch_in rows of m) np a no_patch h

pub patches_length : (rows : List Float) (of : List ℕ) (m np : ℕ) → length (patches_in rows of m np) ≡ np
unfolding patches_in
patches_length rows of m np = length-map (up_to np) (patch_in rows of m) ∙ up_to_length np

all_under : (f g : ℕ → Bool) (n : ℕ) (xs : List ℕ) → Under n xs → ((x : ℕ) → x < n → f x ≡ g x) → all_by f xs ≡ all_by g xs
unfolding all_by Under
all_under f g n [] u e = refl
all_under f g n (x ∷ xs) u e = rw (e x u.0, all_under f g n xs u.1 e)

under_tris : (of : List ℕ) (m p : ℕ) → Under m (tris_in of m p)
unfolding tris_in
under_tris of m p = under_filter (λ i. eqb (get_or of i none_of) p) m (up_to m) (under_up_to m)

-- ---- whether a seed takes a patch

pub takes_is : (s : Settings) (area : List Float) (handles : List ℕ) (n m : ℕ) (rows : List Float) (of : List ℕ) (np : ℕ) (sorted starts : List ℕ) (least most : Float)
    → s.merge_cos ≡ least → s.merge_offset ≡ most → ((p : ℕ) → p < np → row_in sorted starts p ≡ tris_in of m p) → (a b : ℕ) → a < np → b < np
    → takes_in area handles n rows sorted starts least most a b ≡ takes s (triangles_in area handles n m) (patch_at (patches_in rows of m np) a) (patch_at (patches_in rows of m np) b)
unfolding takes takes_in in_cone lies_within patch_in
takes_is s area handles n m rows of np sorted starts least most ec em is a b ha hb =
    let normal = vec_of_floats rows (patch_floats * a) in
    let offset = get_or rows (patch_floats * a + 3) nan in
    rw (patch_at_lem rows of m np a ha, patch_at_lem rows of m np b hb, ec, em, is b hb)
    (ap (λ (t : Bool). is_tilted_from least normal (vec_of_floats rows (patch_floats * b)) && t)
    (all_under (λ i. all_by (lies_near normal offset most) (corners_of (triangle_at_of area handles n i))) (λ i. all_by (lies_near normal offset most) (corners_of (nth_triangle (triangles_in area handles n m) i))) m (tris_in of m b) (under_tris of m b)
    (λ i h. ap (λ (t : Triangle). all_by (lies_near normal offset most) (corners_of t)) (sym (triangle_in area handles n m i h)))))

-- ---- seeds

pub seeds_sorted : (keys order ys : List ℕ) (f : ℕ → ℕ) (np : ℕ) → take np order ≡ up_to np → ((p : ℕ) → p < np → get_or keys p 0 ≡ f p) → ys ≡ sort_by (key_of keys) (take np order)
    → take np (ys ++ drop np order) ≡ sort_by f (up_to np)
seeds_sorted keys order ys f np e k is =
    let l : length ys ≡ np = ap length is ∙ length_sort (key_of keys) (take np order) ∙ ap length e ∙ up_to_length np in
    take_at ys (drop np order) np l ∙ is ∙ ap (sort_by (key_of keys)) e
    ∙ sort_cong (key_of keys) f (up_to np) (λ i h. let u : i < np = rw (up_to_length np) at h in let v = up_to_at np i u in rw v (k i u))

pub seeds_are : (rows : List Float) (of : List ℕ) (m np : ℕ) (sorted starts : List ℕ) → ((p : ℕ) → p < np → row_in sorted starts p ≡ tris_in of m p)
    → sort_by (seed_key_in rows sorted starts) (up_to np) ≡ seeds_of (patches_in rows of m np)
unfolding seeds_of patch_in patches_in
seeds_are rows of m np sorted starts is =
    let ps = patches_in rows of m np in
    let len = patches_length rows of m np in
    let f : Patch → ℕ = λ p. key_for_falling p.area (head_or 0 p.tris) in
    sort_cong (seed_key_in rows sorted starts) (key_of (map f ps)) (up_to np)
    (λ i h.
    let u : i < np = rw (up_to_length np) at h in
    let v = up_to_at np i u in
    rw v (ap (λ (l : List ℕ). key_for_falling (get_or rows (patch_floats * i + 4) nan) (head_or 0 l)) (is i u) ∙ sym (key_at f (patch_in rows of m) np i u)))
    ∙ ap (λ (k : ℕ). sort_by (key_of (map f ps)) (up_to k)) (sym len)
  where
    key_at : (f : Patch → ℕ) (g : ℕ → Patch) (n i : ℕ) → i < n → get_or (map f (map g (up_to n))) i 0 ≡ f (g i)
    key_at f g n i h = map_twice f g (up_to n) i 0 (rw (up_to_length n) h) ∙ ap (λ (k : ℕ). f (g k)) (up_to_at n i h)

-- the adjacency that the code found is the one asked for
pub rows_adjacent : (np : ℕ) (sorted starts : List ℕ) (joined adj : ℕ → ℕ → Bool) → ((p : ℕ) → p < np → row_in sorted starts p ≡ filter_by (joined p) (up_to np))
    → ((p q : ℕ) → p < np → q < np → joined p q ≡ adj p q) → RowsOf np sorted starts adj
rows_adjacent np sorted starts joined adj is e p h = is p h ∙ filter_below (joined p) (adj p) np (λ q l. e p q h l)
