-- The faces of scenes in columns are those of their triangles: what the later steps of the planes, which work on triangles, cite.
use mathlib.Core.Path.{◌≡◌, refl, ap}
use mathlib.Core.List.{List, [], ◌∷◌, map}
use Prim.Native.Nat.{ℕ}
use lib.Ieee.{Float}
use Rattle.columns.specs.Columns.{triangle_at_of}
use Rattle.order.specs.Runs.{up_to}
use Rattle.planes_faces.specs.Faces.{Face, face_of, face_in, faces_in}

faces_map : (area : List Float) (handles : List ℕ) (n : ℕ) (xs : List ℕ) → map (face_in area n) xs ≡ map face_of (map (triangle_at_of area handles n) xs)
unfolding face_in face_of triangle_at_of
faces_map area handles n [] = refl
faces_map area handles n (x ∷ xs) = ap (λ (l : List Face). face_in area n x ∷ l) (faces_map area handles n xs)

pub faces_triangles : (area : List Float) (handles : List ℕ) (n : ℕ) → faces_in area n ≡ map face_of (map (triangle_at_of area handles n) (up_to n))
unfolding faces_in
faces_triangles area handles n = faces_map area handles n (up_to n)
