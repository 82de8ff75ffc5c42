-- Storing a float in each column: a triangle's row by parts, and what is read afterwards. Another row keeps what it had
-- (`put_other`), and the row itself reads as the floats stored (`put_same`); so a triangle is read back as it was stored.
use mathlib.Core.Path.{◌≡◌, refl, sym, ap, ◌∙◌}
use mathlib.Core.List.{List, [], ◌∷◌}
use Prim.Native.Nat.{ℕ, zero, suc, ◌+◌, ◌*◌, ◌<◌}
use native.Mathlib.Nat.{suc-mul, zero-mul}
use native.Mathlib.Omega.{arith}
use lib.Ieee.{Float, nan}
use lib.ListN.{length, get_or, set, length-set}
use lib.Seq.{set_comm, get_or-set_same, get_or-set_other}
use Rattle.vector.specs.declared.Vec3.{Vec3}
use Rattle.vector.specs.Vector.{sub3_of}
use Rattle.geometry.specs.declared.Triangle.{Triangle}
use Rattle.geometry.specs.declared.Edges.{Edges}
use Rattle.geometry.specs.declared.Dots.{Dots}
use Rattle.geometry.specs.Intersect.{edges_of_corners}
use Rattle.geometry.specs.Contains.{dots_of_edges}
use Rattle.columns.specs.Columns.{vec_row_of, dots_row_of, row_of, put_columns, put_triangle_of}

-- ---- a row by its parts

-- the places as the code counts them
pub vec_stored : (area : List Float) (n p : ℕ) (v : Vec3) → set (set (set area p v.x) (p + n) v.y) (p + 2 * n) v.z ≡ put_columns area n p (vec_row_of v)
unfolding put_columns
vec_stored area n p v = let e : p + 2 * n ≡ p + n + n = omega arith in ap (λ (q : ℕ). set (set (set area p v.x) (p + n) v.y) q v.z) e

pub dots_stored :
    (area : List Float) (n p : ℕ) (d : Dots) →
    set (set (set (set area p d.d00) (p + n) d.d01) (p + 2 * n) d.d11) (p + 3 * n) d.denom ≡ put_columns area n p (dots_row_of d)
unfolding put_columns
dots_stored area n p d =
    let e : p + 2 * n ≡ p + n + n = omega arith in
    let g : p + 3 * n ≡ p + n + n + n = omega arith in
    ap (λ (q : ℕ). set (set (set (set area p d.d00) (p + n) d.d01) q d.d11) (p + 3 * n) d.denom) e
    ∙ ap (λ (q : ℕ). set (set (set (set area p d.d00) (p + n) d.d01) (p + n + n) d.d11) q d.denom) g

-- three columns, then the others
three :
    (area : List Float) (n p q : ℕ) (x y z : Float) (vs : List Float) → q ≡ p + n + n + n →
    put_columns area n p (x ∷ y ∷ z ∷ vs) ≡ put_columns (put_columns area n p (x ∷ y ∷ z ∷ [])) n q vs
unfolding put_columns
three area n p q x y z vs e = ap (λ (k : ℕ). put_columns (set (set (set area p x) (p + n) y) (p + n + n) z) n k vs) (sym e)

-- a column may be stored after those behind it
put_late :
    (area : List Float) (n p q : ℕ) (v : Float) (vs : List Float) → q < p →
    put_columns (set area q v) n p vs ≡ set (put_columns area n p vs) q v
unfolding put_columns
put_late area n p q v [] h = refl
put_late area n p q v (w ∷ vs) h =
    ap (λ (l : List Float). put_columns l n (p + n) vs) (set_comm area q p v w (λ e. omega (arith, h, e))) ∙ put_late (set area p w) n (p + n) q v vs (omega (arith, h))

late :
    (area : List Float) (n p q : ℕ) (v : Float) (vs : List Float) → 0 < n → q ≡ p + n →
    put_columns area n p (v ∷ vs) ≡ set (put_columns area n q vs) p v
unfolding put_columns
late area n p q v vs pos e = put_late area n (p + n) p v vs (omega (arith, pos)) ∙ ap (λ (k : ℕ). set (put_columns area n k vs) p v) (sym e)

-- a triangle's row: six vectors, the products, and last the column before the products
pub parts_stored :
    (t : Triangle) (n i : ℕ) (area l₁ l₂ l₃ l₄ l₅ l₆ l₇ : List Float) (s : Edges) (least : Float) → 0 < n →
    l₁ ≡ put_columns area n i (vec_row_of t.a) → l₂ ≡ put_columns l₁ n (i + 3 * n) (vec_row_of t.b) →
    l₃ ≡ put_columns l₂ n (i + 6 * n) (vec_row_of t.c) → l₄ ≡ put_columns l₃ n (i + 9 * n) (vec_row_of t.normal) →
    l₅ ≡ put_columns l₄ n (i + 12 * n) (vec_row_of s.edge1) → l₆ ≡ put_columns l₅ n (i + 15 * n) (vec_row_of s.edge2) →
    l₇ ≡ put_columns l₆ n (i + 19 * n) (dots_row_of (dots_of_edges s)) →
    s.edge1 ≡ sub3_of t.b t.a → s.edge2 ≡ sub3_of t.c t.a → least ≡ (edges_of_corners t.a t.b t.c).least_det →
    set l₇ (i + 18 * n) least ≡ put_triangle_of area n i t
unfolding put_triangle_of row_of edges_of_corners dots_of_edges
parts_stored t n i area l₁ l₂ l₃ l₄ l₅ l₆ l₇ s least pos e₁ e₂ e₃ e₄ e₅ e₆ e₇ g h k =
    rw (e₇, e₆, e₅, e₄, e₃, e₂, e₁, g, h, k)
    (sym
    (three area n i (i + 3 * n) _ _ _ _ (omega arith)
    ∙ three _ n (i + 3 * n) (i + 6 * n) _ _ _ _ (omega arith)
    ∙ three _ n (i + 6 * n) (i + 9 * n) _ _ _ _ (omega arith)
    ∙ three _ n (i + 9 * n) (i + 12 * n) _ _ _ _ (omega arith)
    ∙ three _ n (i + 12 * n) (i + 15 * n) _ _ _ _ (omega arith)
    ∙ three _ n (i + 15 * n) (i + 18 * n) _ _ _ _ (omega arith)
    ∙ late _ n (i + 18 * n) (i + 19 * n) _ _ pos (omega arith)))

-- ---- what is read afterwards

pub length_put : (area : List Float) (n p : ℕ) (vs : List Float) → length (put_columns area n p vs) ≡ length area
unfolding put_columns
length_put area n p [] = refl
length_put area n p (v ∷ vs) = length_put (set area p v) n (p + n) vs ∙ length-set area p v

-- a place in none of the columns' rows stored keeps its float
pub put_other :
    (area : List Float) (n p : ℕ) (vs : List Float) (q : ℕ) → ((k : ℕ) → k < length vs → q ≡ p + k * n → ⊥) →
    get_or (put_columns area n p vs) q nan ≡ get_or area q nan
unfolding put_columns
put_other area n p [] q h = refl
put_other area n p (v ∷ vs) q h =
    let later : (k : ℕ) → k < length vs → q ≡ p + n + k * n → ⊥ = λ k few e. h (suc k) (omega (arith, few)) (e ∙ rw (suc-mul k n) (omega arith)) in
    let z = zero-mul n in
    put_other (set area p v) n (p + n) vs q later ∙ get_or-set_other area p q v nan (λ e. h 0 (omega arith) (omega (arith, z, e)))

-- the float of column k
pub put_same :
    (area : List Float) (n p : ℕ) (vs : List Float) (k : ℕ) → 0 < n → k < length vs → p + k * n < length area →
    get_or (put_columns area n p vs) (p + k * n) nan ≡ get_or vs k nan
unfolding put_columns
put_same area n p [] k pos few room = absurd (omega arith)
put_same area n p (v ∷ vs) zero pos few room =
    let z = zero-mul n in
    let here : p + 0 * n ≡ p = omega arith in
    let apart : (k : ℕ) → k < length vs → p + 0 * n ≡ p + n + k * n → ⊥ = λ k _ e. omega (arith, pos, e, z) in
    put_other (set area p v) n (p + n) vs (p + 0 * n) apart
    ∙ ap (λ (q : ℕ). get_or (set area p v) q nan) here
    ∙ get_or-set_same area p v nan (omega (arith, room, z))
put_same area n p (v ∷ vs) (suc k) pos few room =
    let e : p + suc k * n ≡ p + n + k * n = rw (suc-mul k n) (omega arith) in
    let in_range : p + n + k * n < length (set area p v) = simp length-set (omega (arith, room, e)) in
    ap (λ (q : ℕ). get_or (put_columns (set area p v) n (p + n) vs) q nan) e
    ∙ put_same (set area p v) n (p + n) vs k pos (omega (arith, few)) in_range
