-- The room of an area from that of another step. `omega` reads all that a function has done so far, which takes a second in a long one, so the
-- functions' proofs cite these in its place.
use Prim.Native.Nat.{ℕ, ◌*◌, ◌<◌, ◌≤◌}
use mathlib.Core.Path.{◌≡◌, sym, subst}
use native.Mathlib.Omega.{arith}
use lib.Ieee.{Float}
use mathlib.Core.List.{List}
use Rattle.planes_patches.specs.Rows.{patch_floats}
use Rattle.planes_ranked.specs.Areas.{TrianglesLent}
use Rattle.planes.specs.Areas.{seats}
use Rattle.mirror.specs.Rows.{plane_float_count, plane_word_count}

-- an area is as long after a call as before it
pub still : {k a b : ℕ} → a ≡ b → k ≤ b → k ≤ a
still {k} e h = subst (λ (x : ℕ). k ≤ x) (sym e) h

pub still_below : {k a b : ℕ} → a ≡ b → k < b → k < a
still_below {k} e h = subst (λ (x : ℕ). k < x) (sym e) h

pub under : {k l : ℕ} → k < l → k ≤ l
under h = omega arith

pub three_of : (n : ℕ) {l : ℕ} → 24 * n ≤ l → 3 * n ≤ l
three_of n h = omega arith

pub third_of : {n l : ℕ} → 3 * n ≤ l → n ≤ l
third_of h = omega arith

pub fifth_of : {n l : ℕ} → plane_word_count * n ≤ l → n ≤ l
fifth_of h = omega arith

pub twelfth_of : {n l : ℕ} → plane_float_count * n ≤ l → n ≤ l
twelfth_of h = omega arith

pub rows_of : (n : ℕ) {l : ℕ} → plane_float_count * n ≤ l → patch_floats * n ≤ l
rows_of n h = omega arith

pub fewer_rows : {np m n l : ℕ} → np ≤ m → m ≤ n → plane_float_count * n ≤ l → patch_floats * np ≤ l
fewer_rows a b h = omega arith

-- a local list has an element for each triple, and one more
pub seated : {area : List Float} {handles : List ℕ} {n m l : ℕ} → TrianglesLent area handles n m → l ≡ seats → n ≤ l
seated t e = let h = t.few in omega arith

pub seated_below : {area : List Float} {handles : List ℕ} {n m l : ℕ} → TrianglesLent area handles n m → l ≡ seats → n < l
seated_below t e = let h = t.few in omega arith
