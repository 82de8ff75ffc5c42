-- What the columns read after the triangles were stored, and where a pass ends.
use mathlib.Core.Path.{◌≡◌, refl, sym, subst, ◌∙◌}
use mathlib.Core.Bool.{Bool, true, false, true≢false}
use mathlib.Core.List.{List, [], ◌∷◌}
use Prim.Native.Nat.{ℕ, zero, suc, ◌+◌, ◌*◌, ◌<◌, ◌≤◌}
use native.Mathlib.Omega.{arith}
use lib.Ieee.{Float, nan}
use lib.ListN.{length, get_or, set, length-set, replicate}
use lib.Seq.{get_or-set_same, get_or-set_other}
use Rattle.float.specs.Literals.{zero32}
use Rattle.geometry.specs.declared.Triangle.{Triangle}
use Rattle.geometry.specs.Triangle.{is_degenerate_of, triangle_of_corners}
use Rattle.columns.specs.Columns.{column_count, row_of, put_triangle_of}
use Rattle.columns.proofs.Storing.{put_other}
use Rattle.columns.proofs.Readback.{triangle_same, edges_same, dots_same, triangle_other, edges_other, dots_other, length_stored}
use Rattle.placing.specs.declared.State.{State}
use Rattle.placing.specs.Corners.{Corners, far_in, any_far, triangles_of, up_to_far}
use Rattle.placing.specs.Passing.{pass, World, world, state, step_of, run, put_all, put_handles, Reads, PassedOver}
use Rattle.placing.proofs.Passes.{run_far}

-- ---- reading

-- the row itself reads as the triangle
stored_reads :
    (n i : ℕ) (t : Triangle) (l : List Float) (hs : List ℕ) → column_count * n ≤ length l → n ≤ length hs → i < n →
    Reads (put_triangle_of l n i t) (set hs i t.material_handle) n i t
stored_reads n i t l hs wide long h =
    record {
      triangle = triangle_same l n i t wide h (set hs i t.material_handle) (get_or-set_same hs i t.material_handle 0 (omega arith));
      edges = edges_same l n i t wide h;
      dots = dots_same l n i t wide h;
    }

-- a row before the one stored reads as it did
before_reads :
    (n i j : ℕ) (t u : Triangle) (l : List Float) (hs : List ℕ) → column_count * n ≤ length l → j < i → i < n →
    Reads l hs n j u → Reads (put_triangle_of l n i t) (set hs i t.material_handle) n j u
before_reads n i j t u l hs wide h k was =
    let apart : j ≡ i → ⊥ = λ e. omega (arith, h, e) in
    let js : j < n = omega (arith, h, k) in
    let handle = get_or-set_other hs i j t.material_handle 0 apart in
    record {
      triangle = triangle_other l n i t wide k hs (set hs i t.material_handle) j js apart handle ∙ was.triangle;
      edges = edges_other l n i t wide k j js apart ∙ was.edges;
      dots = dots_other l n i t wide k j js apart ∙ was.dots;
    }

-- rows before the first stored read as they did
put_all_before :
    (n : ℕ) (ts : List Triangle) (l : List Float) (hs : List ℕ) (i j : ℕ) (u : Triangle) → column_count * n ≤ length l → j < i → i + length ts ≤ n →
    Reads l hs n j u → Reads (put_all l n i ts) (put_handles hs i ts) n j u
unfolding put_all put_handles
put_all_before n [] l hs i j u wide h k was = was
put_all_before n (t ∷ ts) l hs i j u wide h k was =
    let same : length (put_triangle_of l n i t) ≡ length l = length_stored l n i t wide (omega arith) in
    put_all_before n ts (put_triangle_of l n i t) (set hs i t.material_handle) (i + 1) j u (omega arith) (omega arith) (omega arith)
    (before_reads n i j t u l hs wide h (omega arith) was)

-- each row stored reads as its triangle
pub read_all :
    (n : ℕ) (ts : List Triangle) (l : List Float) (hs : List ℕ) (i : ℕ) → column_count * n ≤ length l → n ≤ length hs → i + length ts ≤ n →
    (j : ℕ) (d : Triangle) → j < length ts → Reads (put_all l n i ts) (put_handles hs i ts) n (i + j) (get_or ts j d)
unfolding put_all put_handles
read_all n [] l hs i wide long k j d h = absurd (omega arith)
read_all n (t ∷ ts) l hs i wide long k zero d h =
    let e : i + zero ≡ i = omega arith in
    let same : length (put_triangle_of l n i t) ≡ length l = length_stored l n i t wide (omega arith) in
    rw e
    (put_all_before n ts (put_triangle_of l n i t) (set hs i t.material_handle) (i + 1) i t (omega arith) (omega arith) (omega arith)
    (stored_reads n i t l hs wide long (omega arith)))
read_all n (t ∷ ts) l hs i wide long k (suc j) d h =
    let e : i + suc j ≡ i + 1 + j = omega arith in
    let same : length (put_triangle_of l n i t) ≡ length l = length_stored l n i t wide (omega arith) in
    let kept : length (set hs i t.material_handle) ≡ length hs = length-set hs i t.material_handle in
    rw e (read_all n ts (put_triangle_of l n i t) (set hs i t.material_handle) (i + 1) (omega arith) (omega arith) (omega arith) j d (omega arith))

-- ---- the rest is as found

-- a place in no column's row i
put_triangle_rest :
    (l : List Float) (n i : ℕ) (t : Triangle) (k : ℕ) → ((m : ℕ) → m < column_count → k ≡ i + m * n → ⊥) → get_or (put_triangle_of l n i t) k nan ≡ get_or l k nan
unfolding put_triangle_of row_of
put_triangle_rest l n i t k off = put_other l n i (row_of t) k off

-- a place in no row from i on that was stored
put_all_rest :
    (n : ℕ) (ts : List Triangle) (l : List Float) (i k : ℕ) →
    ((m r : ℕ) → m < column_count → i ≤ r → r < i + length ts → k ≡ r + m * n → ⊥) → get_or (put_all l n i ts) k nan ≡ get_or l k nan
unfolding put_all
put_all_rest n [] l i k off = refl
put_all_rest n (t ∷ ts) l i k off =
    put_all_rest n ts (put_triangle_of l n i t) (i + 1) k (λ m r a b c e. off m r a (omega arith) (omega arith) e)
    ∙ put_triangle_rest l n i t k (λ m a e. off m i a (omega arith) (omega arith) e)

put_handles_rest : (ts : List Triangle) (hs : List ℕ) (i k : ℕ) → i + length ts ≤ k → get_or (put_handles hs i ts) k 0 ≡ get_or hs k 0
unfolding put_handles
put_handles_rest [] hs i k h = refl
put_handles_rest (t ∷ ts) hs i k h =
    put_handles_rest ts (set hs i t.material_handle) (i + 1) k (omega arith) ∙ get_or-set_other hs i k t.material_handle 0 (omega arith)

-- ---- where a pass ends

pub record Ends (n : ℕ) (w : World) (qs : List Corners) (w' : World) : Type 0 where
  pub far : w'.state.far ≡ any_far qs
  pub placed : w'.state.placings ≡ w.state.placings + 3 * up_to_far qs
  pub count : any_far qs ≡ false → w'.state.kept ≡ w.state.kept + length (triangles_of qs)
  pub filled : any_far qs ≡ false → w'.columns ≡ put_all w.columns n w.state.kept (triangles_of qs)
  pub named : any_far qs ≡ false → w'.handles ≡ put_handles w.handles w.state.kept (triangles_of qs)

ends_at :
    (n : ℕ) (w : World) (q : Corners) (qs : List Corners) (b d : Bool) →
    w.state.far ≡ false → far_in q ≡ b → is_degenerate_of q.a q.b q.c ≡ d →
    ((w' : World) → w'.state.far ≡ false → Ends n w' qs (run n w' qs)) →
    Ends n w (q ∷ qs) (run n w (q ∷ qs))
unfolding run step_of any_far up_to_far triangles_of triangle_of_corners put_all put_handles
ends_at n w q qs true d e f g after =
    let one = world w.columns w.handles (state w.state.kept (w.state.placings + 3) true) in
    let ran : run n (step_of n w q) qs ≡ one = rw (e, f) (run_far n (world w.columns w.handles (state w.state.kept (w.state.placings + 3) true)) qs refl) in
    record {
      far = rw (ran, f);
      placed = rw (ran, f) (omega arith);
      count = λ h. absurd (true≢false (rw f at h));
      filled = λ h. absurd (true≢false (rw f at h));
      named = λ h. absurd (true≢false (rw f at h));
    }
ends_at n w q qs false true e f g after =
    let one = world w.columns w.handles (state w.state.kept (w.state.placings + 3) false) in
    let ran : run n (step_of n w q) qs ≡ run n one qs = rw (e, f, g) in
    let end = after one refl in
    record {
      far = rw (ran, f) end.far;
      placed = rw (ran, f) (omega (arith, end.placed));
      count = λ h. rw (ran, g) (end.count (rw f at h));
      filled = λ h. rw (ran, g) (end.filled (rw f at h));
      named = λ h. rw (ran, g) (end.named (rw f at h));
    }
ends_at n w q qs false false e f g after =
    let t = triangle_of_corners q.a q.b q.c q.handle in
    let one =
    world (put_triangle_of w.columns n w.state.kept t) (set w.handles w.state.kept q.handle) (state (w.state.kept + 1) (w.state.placings + 3) false) in
    let ran : run n (step_of n w q) qs ≡ run n one qs = rw (e, f, g) in
    let end = after one refl in
    record {
      far = rw (ran, f) end.far;
      placed = rw (ran, f) (omega (arith, end.placed));
      count = λ h. rw (ran, g) (omega (arith, end.count (rw f at h)));
      filled = λ h. rw (ran, g) (end.filled (rw f at h));
      named = λ h. rw (ran, g) (end.named (rw f at h));
    }

pub run_ends : (n : ℕ) (qs : List Corners) (w : World) → w.state.far ≡ false → Ends n w qs (run n w qs)
unfolding run any_far up_to_far triangles_of put_all put_handles
run_ends n [] w e =
    record {
      far = e;
      placed = omega arith;
      count = λ h. omega arith;
      filled = λ h. refl;
      named = λ h. refl;
    }
run_ends n (q ∷ qs) w e = ends_at n w q qs (far_in q) (is_degenerate_of q.a q.b q.c) e refl refl (run_ends n qs)

from_zero : (i : ℕ) → i ≡ 0 + i
from_zero i = omega arith

module _
    (qs : List Corners) (n : ℕ) (columns : List Float) (handles : List ℕ) (columns₁ : List Float) (handles₁ : List ℕ) (st : State)
    (ran : world columns₁ handles₁ st ≡ run n (world columns handles (state 0 0 false)) qs)
  where
    ended : Ends n (world columns handles (state 0 0 false)) qs (world columns₁ handles₁ st)
    ended = rw ran (run_ends n qs (world columns handles (state 0 0 false)) refl)

    -- a far corner was met, and the areas were cleared
    pub passed_far :
        (columns₂ : List Float) (handles₂ : List ℕ) →
        st.far ≡ true →
        length columns₁ ≡ length columns →
        length handles₁ ≡ length handles →
        columns₂ ≡ replicate (length columns₁) zero32 → handles₂ ≡ replicate (length handles₁) 0 → PassedOver qs n columns handles (pass true st.placings st.kept) columns₂ handles₂
    passed_far columns₂ handles₂ far wide long cleared blank =
        let yes : any_far qs ≡ true = sym ended.far ∙ far in
        let placings : st.placings ≡ 3 * up_to_far qs = omega (arith, ended.placed) in
        record {
          answer = rw (yes, placings);
          filled = rw (yes, ← wide) cleared;
          named = rw (yes, ← long) blank;
          reads = λ no. absurd (true≢false (sym yes ∙ no));
          rest = λ no. absurd (true≢false (sym yes ∙ no));
          others = λ no. absurd (true≢false (sym yes ∙ no));
        }

    -- none was met
    pub passed_kept :
        st.far ≡ false →
        column_count * n ≤ length columns → n ≤ length handles → st.kept ≤ n → PassedOver qs n columns handles (pass false st.placings st.kept) columns₁ handles₁
    passed_kept near wide long some =
        let no : any_far qs ≡ false = sym ended.far ∙ near in
        let count : st.kept ≡ length (triangles_of qs) = omega (arith, ended.count no) in
        let placings : st.placings ≡ 3 * up_to_far qs = omega (arith, ended.placed) in
        let cs = put_all columns n 0 (triangles_of qs) in
        let hs = put_handles handles 0 (triangles_of qs) in
        record {
          answer = rw (no, placings, count);
          filled = rw no (ended.filled no);
          named = rw no (ended.named no);
          reads = λ _ i d h.
              let at_i : Reads cs hs n (0 + i) (get_or (triangles_of qs) i d) = read_all n (triangles_of qs) columns handles 0 wide long (omega arith) i d h in
              rw (ended.filled no, ended.named no) (subst (λ (k : ℕ). Reads cs hs n k (get_or (triangles_of qs) i d)) (sym (from_zero i)) at_i);
          rest = λ _ k h. rw (ended.filled no) (put_all_rest n (triangles_of qs) columns 0 k (λ m r a b c e. h m r a (omega arith) e));
          others = λ _ k h. rw (ended.named no) (put_handles_rest (triangles_of qs) handles 0 k (omega arith));
        }
