-- The centroids of triangles whose corners are bounded are finite, so that the tree is built.
use mathlib.Core.Path.{◌≡◌, refl}
use mathlib.Core.Bool.{true, false}
use mathlib.Core.List.{List}
use Prim.Native.Nat.{ℕ, zero, suc, ◌+◌, ◌^◌, ◌≤◌, ◌<◌}
use native.Mathlib.Omega.{arith}
use lib.IntN.{pos}
use lib.Ieee.{Float, fin, binary32, add, of_bits}
use Rattle.float.specs.Compare.{is_finite}
use Rattle.bounds.specs.Bounds.{Within}
use Rattle.bounds.proofs.Operations.{within_finite, add_within, div_within}
use Rattle.vector.specs.declared.Vec3.{Vec3}
use Rattle.vector.specs.Vector.{axis_of}
use Rattle.geometry.specs.declared.Triangle.{Triangle}
use Rattle.geometry.specs.Triangle.{three, third_of}
use Rattle.geometry.specs.Triangle as triangle
use Rattle.columns.specs.Columns.{triangle_at_of}
use Rattle.bvh.specs.Bvh.{all_finite, finite_of, centroid_in}

-- the parts of a point are of a size up to `most`
pub record Near (most : ℕ) (v : Vec3) : Type 0 where
  pub x : Within most v.x
  pub y : Within most v.y
  pub z : Within most v.z

pub record NearTriangle (most : ℕ) (t : Triangle) : Type 0 where
  pub a : Near most t.a
  pub b : Near most t.b
  pub c : Near most t.c

three_is : three ≡ fin false 3 (pos 0)
unfolding of_bits
three_is = refl

third_finite : (b : ℕ) (p q r : Float) → b + b + b ≤ 2 ^ 24 → Within b p → Within b q → Within b r → is_finite (third_of p q r) ≡ true
unfolding third_of
third_finite b p q r small hp hq hr =
    let two : Within (b + b) (add binary32 p q) = add_within b b p q (omega arith) hp hq in
    let all : Within (b + b + b) (add binary32 (add binary32 p q) r) = add_within (b + b) b (add binary32 p q) r small two hr in
    rw (three_is) (within_finite (b + b + b) _ (div_within (b + b + b) 3 (add binary32 (add binary32 p q) r) small (omega arith) refl all))

all_finite_lem : (f : ℕ → Float) (m : ℕ) → ((i : ℕ) → i < m → is_finite (f i) ≡ true) → all_finite f m ≡ true
unfolding all_finite
all_finite_lem f zero h = refl
all_finite_lem f (suc m) h = rw (all_finite_lem f m (λ i l. h i (omega arith)), h m (omega arith))

pub finite_centroids :
    (columns : List Float) (handles : List ℕ) (n m b : ℕ) → b + b + b ≤ 2 ^ 24 →
    ((i : ℕ) → i < m → NearTriangle b (triangle_at_of columns handles n i)) →
    finite_of (centroid_in columns handles n) m ≡ true
unfolding finite_of centroid_in triangle.centroid_of axis_of
finite_centroids columns handles n m b small near =
    let t = triangle_at_of columns handles n in
    rw (
      all_finite_lem _ m (λ i l. let k = near i l in third_finite b (t i).a.x (t i).b.x (t i).c.x small k.a.x k.b.x k.c.x),
      all_finite_lem _ m (λ i l. let k = near i l in third_finite b (t i).a.y (t i).b.y (t i).c.y small k.a.y k.b.y k.c.y),
      all_finite_lem _ m (λ i l. let k = near i l in third_finite b (t i).a.z (t i).b.z (t i).c.z small k.a.z k.b.z k.c.z),
    )
