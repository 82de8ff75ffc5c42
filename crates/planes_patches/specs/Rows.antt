-- Patches in areas: a row of floats each (normal, offset, area, box), and for each triangle the number of its patch. The cell is that of the normal.
use Rattle.std.specs.Prelude.{ℕ, ◌+◌, ◌*◌, ◌<◌, ◌≤◌, ◌≡◌, ◌⊎◌, List, map, eqb, get_or, Float}
use Rattle.std.specs.Float.{nan, binary32}
use Rattle.std.specs.Float.Ieee.{add}
use Rattle.geometry.specs.declared.Triangle.{Triangle}
use Rattle.geometry.specs.Aabb.{union_of}
use Rattle.geometry.specs.Triangle.{triangle_area_of}
use Rattle.order.specs.Runs.{up_to}
use Rattle.mirror.specs.Rows.{vec_of_floats}
use Rattle.planes_patches.specs.Normal.{canonical_of, offset_of}
use Rattle.planes_patches.specs.Triangles.{box_of}
use Rattle.planes_patches.specs.Lists.{filter_by}
use Rattle.planes_patches.specs.Patch.{Patch}
use Rattle.planes_patches.specs.Patches.{cell_of}
use Rattle.planes_patches.specs.declared.PatchRow.{PatchRow}

-- how many floats a patch has
abbrev pub patch_floats : ℕ
patch_floats = 11

-- the patch number of a triangle without a patch
abbrev pub none_of : ℕ
none_of = 4294967295

-- two areas differ at most in the `count` places from `at` on
unfoldable pub Beside : ℕ → ℕ → List Float → List Float → Type 0
Beside at count old new = (q : ℕ) → (q < at) ⊎ (at + count ≤ q) → get_or new q nan ≡ get_or old q nan

-- the row of patch p
unfoldable pub row_in : List Float → ℕ → PatchRow
row_in rows p =
    record {
      normal = vec_of_floats rows (patch_floats * p);
      offset = get_or rows (patch_floats * p + 3) nan;
      area = get_or rows (patch_floats * p + 4) nan;
      aabb = record { min = vec_of_floats rows (patch_floats * p + 5); max = vec_of_floats rows (patch_floats * p + 8) };
    }

-- the row of a patch of one triangle
unfoldable pub new_row_of : Triangle → PatchRow
new_row_of t = record { normal = canonical_of t.normal; offset = offset_of t; area = triangle_area_of t; aabb = box_of t }

-- the row of a patch with a triangle more
unfoldable pub joined_row_of : PatchRow → Triangle → PatchRow
joined_row_of r t = record { normal = r.normal; offset = r.offset; area = add binary32 r.area (triangle_area_of t); aabb = union_of r.aabb (box_of t) }

-- of m triangles, those with the number p, rising
unfoldable pub tris_in : List ℕ → ℕ → ℕ → List ℕ
tris_in of m p = filter_by (λ i. eqb (get_or of i none_of) p) (up_to m)

-- patch p of m triangles
unfoldable pub patch_in : List Float → List ℕ → ℕ → ℕ → Patch
patch_in rows of m p =
    record {
      normal = vec_of_floats rows (patch_floats * p);
      offset = get_or rows (patch_floats * p + 3) nan;
      area = get_or rows (patch_floats * p + 4) nan;
      box = record { min = vec_of_floats rows (patch_floats * p + 5); max = vec_of_floats rows (patch_floats * p + 8) };
      tris = tris_in of m p;
      cell = cell_of (vec_of_floats rows (patch_floats * p));
    }

-- the first np patches
unfoldable pub patches_in : List Float → List ℕ → ℕ → ℕ → List Patch
patches_in rows of m np = map (patch_in rows of m) (up_to np)

-- each of m triangles has the number of one of np patches, or none
unfoldable pub Numbered : List ℕ → ℕ → ℕ → Type 0
Numbered of m np = (i : ℕ) → i < m → (get_or of i none_of < np) ⊎ (get_or of i none_of ≡ none_of)
