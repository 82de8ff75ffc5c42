-- What `first_indexes` rests on: a sort by the lower and then by the upper of two columns is the sort by both (`sort_both`), and each turn
-- of the walk over its runs is a turn of `run_starts`. By the laws of `order`.
use mathlib.Core.Path.{◌≡◌, refl, sym, ap, ◌∙◌}
use mathlib.Core.Bool.{Bool, true, false, cond}
use mathlib.Core.List.{List}
use Prim.Native.Nat.{ℕ, suc, ◌+◌, ◌<◌, ◌≤◌}
use native.Mathlib.Nat.{le_of_suc-le-suc}
use native.Mathlib.Numerals.{add-one}
use native.Mathlib.Omega.{arith}
use lib.Dec.{eqb}
use lib.ListN.{length, get_or, drop, set, drop_of_length-le, get_or-eq_default}
use lib.Seq.{drop-cons}
use borrow.Author.Tests.{eq-eqb, ne_eqb}
use Rattle.order.specs.Sort.{sort_by, key_of, Below}
use Rattle.float.proofs.Numbers.{by_order}
use Rattle.order.proofs.Laws.{below_sort}
use Rattle.order.proofs.Lexi.{lexi_sort}
use Rattle.order.specs.Runs.{up_to, head_or, start_of_run, run_starts, first_at}
use Rattle.order.proofs.Positions.{up_to_length, up_to_positions}
use Rattle.planes_faces.specs.Numbers.{key_at}
use Rattle.order.proofs.Runs.{runs_first}

module _ (hi lo : List ℕ) (start x : ℕ) where
  pub start_same : get_or hi x 0 ≡ get_or hi start 0 → get_or lo x 0 ≡ get_or lo start 0 → start ≡ start_of_run (key_at hi lo) start x
  start_same p q = sym (rw (eq-eqb (key_at hi lo x) (key_at hi lo start) (rw (p, q))))

  pub start_hi : Below 4294967296 lo → x < length lo → start < length lo → (get_or hi x 0 ≡ get_or hi start 0 → ⊥) → x ≡ start_of_run (key_at hi lo) start x
  unfolding Below
  start_hi b s t d =
      let u = b x s in let w = b start t in
      sym (rw (ne_eqb (key_at hi lo x) (key_at hi lo start) (λ e. d (omega arith))))

  pub start_lo : Below 4294967296 lo → x < length lo → start < length lo → (get_or lo x 0 ≡ get_or lo start 0 → ⊥) → x ≡ start_of_run (key_at hi lo) start x
  unfolding Below
  start_lo b s t d =
      let u = b x s in let w = b start t in
      sym (rw (ne_eqb (key_at hi lo x) (key_at hi lo start) (λ e. d (omega arith))))

-- either of the two
pub start_in : (k : ℕ → ℕ) (start x n : ℕ) → start < n → x < n → start_of_run k start x < n
start_in k start x n p q = go (eqb (k x) (k start))
  where
    go : (b : Bool) → cond b start x < n
    go true = p
    go false = q

pub runs_step : (k : ℕ → ℕ) (start p : ℕ) (s out : List ℕ) → p < length s
    → run_starts k start (drop p s) out ≡ run_starts k (start_of_run k start (get_or s p 0)) (drop (p + 1) s) (set out (get_or s p 0) (start_of_run k start (get_or s p 0)))
unfolding run_starts
runs_step k start p s out h = rw (add-one, drop-cons s p 0)

pub runs_done : (k : ℕ → ℕ) (start p : ℕ) (s out : List ℕ) → length s ≤ p → run_starts k start (drop p s) out ≡ out
unfolding run_starts
runs_done k start p s out h = rw (drop_of_length-le s h)

-- a sort by lo and then by hi is the sort by both
pub sort_both : (hi lo : List ℕ) (xs : List ℕ) → Below 4294967296 lo → sort_by (key_of hi) (sort_by (key_of lo) xs) ≡ sort_by (key_at hi lo) xs
unfolding Below
sort_both hi lo xs b = sym (lexi_sort (key_of hi) (key_of lo) (key_at hi lo) 4294967296 small (λ x. refl) xs)
  where
    small : (x : ℕ) → get_or lo x 0 < 4294967296
    small x = by_order (suc x) (length lo) (λ h. b x h) (λ h. rw (get_or-eq_default lo 0 (le_of_suc-le-suc h)) (omega arith))

-- what a call asks of the positions that `count_up` made, and of their sorts
pub counted_length : (n : ℕ) (xs : List ℕ) → xs ≡ up_to n → length xs ≡ n
counted_length n xs e = ap length e ∙ up_to_length n

pub counted_below : (n m : ℕ) (xs : List ℕ) → xs ≡ up_to n → n ≡ m → Below m xs
counted_below n m xs e s = rw (e, ← s) (up_to_positions n)

pub sorted_below : (k : ℕ → ℕ) (n : ℕ) (xs ys : List ℕ) → ys ≡ sort_by k xs → Below n xs → Below n ys
sorted_below k n xs ys e b = rw e (below_sort k n xs b)

pub indexes_are : (hi lo xs s1 s2 first out : List ℕ) → xs ≡ up_to (length hi) → s1 ≡ sort_by (key_of lo) xs → s2 ≡ sort_by (key_of hi) s1
    → out ≡ run_starts (key_at hi lo) (head_or 0 s2) s2 first → Below 4294967296 lo → length hi ≤ length first
    → (i : ℕ) → i < length hi → get_or out i 0 ≡ first_at (key_at hi lo) i
indexes_are hi lo xs s1 s2 first out ex e1 e2 em b h i l =
    let whole : s2 ≡ sort_by (key_at hi lo) (up_to (length hi)) = e2 ∙ ap (sort_by (key_of hi)) (e1 ∙ ap (sort_by (key_of lo)) ex) ∙ sort_both hi lo (up_to (length hi)) b in
    ap (λ (o : List ℕ). get_or o i 0) (em ∙ ap (λ (s : List ℕ). run_starts (key_at hi lo) (head_or 0 s) s first) whole)
    ∙ runs_first (key_at hi lo) (length hi) i first l h
