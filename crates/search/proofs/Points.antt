-- Laws on points in an area: one that was put, the others, and the images of a sequence that gets a plane more.
use Prim.Native.Nat.{ℕ, zero, suc, ◌+◌, ◌*◌, ◌≤◌, ◌<◌}
use mathlib.Core.Path.{◌≡◌, refl, sym, ap, ◌∙◌}
use mathlib.Core.List.{List, [], ◌∷◌, ◌++◌}
use native.Mathlib.Omega.{arith}
use native.Mathlib.Numerals.{add-one}
use lib.Ieee.{Float, nan}
use lib.ListN.{length, get_or, take, set, length-set}
use lib.Seq.{get_or-set_same, get_or-set_other, take-set-le, take-suc-set}
use Rattle.float.proofs.Numbers.{by_order}
use Rattle.vector.specs.declared.Vec3.{Vec3}
use Rattle.mirror.specs.Plane.{Plane, no_point, nth_plane}
use Rattle.mirror.specs.Mirror.{mirror_of}
use Rattle.mirror.specs.Rows.{vec_of_floats}
use Rattle.bounces.specs.Image.{image_of}
use Rattle.bounces.specs.Areas.{max_order, point_floats, point_in}
use Rattle.bounces.proofs.Laws.{image_next}
use Rattle.search.specs.Contract.{point_put}

module _ (l : List Float) (at : ℕ) (v : Vec3) where
  length_two : length (set (set l at v.x) (at + 1) v.y) ≡ length l
  length_two = length-set (set l at v.x) (at + 1) v.y ∙ length-set l at v.x

  pub length_put : length (point_put l at v) ≡ length l
  length_put = length-set (set (set l at v.x) (at + 1) v.y) (at + 2) v.z ∙ length_two

  -- an element before the point
  put_before : (b : ℕ) → b < at → get_or (point_put l at v) b nan ≡ get_or l b nan
  put_before b h =
      get_or-set_other (set (set l at v.x) (at + 1) v.y) (at + 2) b v.z nan (λ z. omega arith)
      ∙ get_or-set_other (set l at v.x) (at + 1) b v.y nan (λ z. omega arith)
      ∙ get_or-set_other l at b v.x nan (λ z. omega arith)

  pub put_other : (b : ℕ) → b + 3 ≤ at → vec_of_floats (point_put l at v) b ≡ vec_of_floats l b
  unfolding vec_of_floats
  put_other b h = rw (put_before b (omega arith), put_before (b + 1) (omega arith), put_before (b + 2) (omega arith))

  pub put_same : at + 3 ≤ length l → vec_of_floats (point_put l at v) at ≡ v
  unfolding vec_of_floats
  put_same h =
      let x : get_or (point_put l at v) at nan ≡ v.x =
      get_or-set_other (set (set l at v.x) (at + 1) v.y) (at + 2) at v.z nan (λ z. omega arith)
      ∙ get_or-set_other (set l at v.x) (at + 1) at v.y nan (λ z. omega arith)
      ∙ get_or-set_same l at v.x nan (omega arith) in
      let y : get_or (point_put l at v) (at + 1) nan ≡ v.y =
      get_or-set_other (set (set l at v.x) (at + 1) v.y) (at + 2) (at + 1) v.z nan (λ z. omega arith)
      ∙ get_or-set_same (set l at v.x) (at + 1) v.y nan (omega (arith, length-set l at v.x)) in
      let z : get_or (point_put l at v) (at + 2) nan ≡ v.z =
      get_or-set_same (set (set l at v.x) (at + 1) v.y) (at + 2) v.z nan (omega (arith, length_two)) in
      rw (x, y, z)

-- the images of a sequence that gets plane p at d
pub points_put :
    (planes : List Plane) (source : Vec3) (seq : List ℕ) (images : List Float) (d p : ℕ) → d < length seq → point_floats * (d + 2) ≤ length images →
    ((j : ℕ) → j ≤ d → point_in images j ≡ image_of planes source (take j seq)) →
    (j : ℕ) → j ≤ d + 1 →
    point_in (point_put images (point_floats * (d + 1)) (mirror_of (nth_plane planes p) (point_in images d))) j ≡ image_of planes source (take j (set seq d p))
points_put planes source seq images d p low high are j h =
    by_order j d
    (λ before.
    put_other images (point_floats * (d + 1)) (mirror_of (nth_plane planes p) (point_in images d)) (point_floats * j) (omega arith)
    ∙ are j before
    ∙ ap (image_of planes source) (sym (take-set-le j seq d p before)))
    (λ after.
    let at : j ≡ d + 1 = omega arith in
    let taken : take (d + 1) (set seq d p) ≡ take d seq ++ (p ∷ []) = rw add-one (take-suc-set seq d p low) in
    ap (point_in (point_put images (point_floats * (d + 1)) (mirror_of (nth_plane planes p) (point_in images d)))) at
    ∙ put_same images (point_floats * (d + 1)) (mirror_of (nth_plane planes p) (point_in images d)) (omega arith)
    ∙ ap (mirror_of (nth_plane planes p)) (are d (omega arith))
    ∙ sym (image_next planes source (take d seq) p)
    ∙ ap (image_of planes source) (sym taken)
    ∙ ap (λ (i : ℕ). image_of planes source (take i (set seq d p))) (sym at))

-- ---- as arrays

abbrev eight : List ℕ → List ℕ
eight l = get_or l 0 0 ∷ get_or l 1 0 ∷ get_or l 2 0 ∷ get_or l 3 0 ∷ get_or l 4 0 ∷ get_or l 5 0 ∷ get_or l 6 0 ∷ get_or l 7 0 ∷ []

pub eight_all : (l : List ℕ) → length l ≡ max_order → eight l ≡ l
eight_all (a ∷ b ∷ c ∷ d ∷ e ∷ f ∷ g ∷ h ∷ []) z = refl
eight_all [] z = absurd (let no : ⊥ = omega arith in no)
eight_all (a ∷ []) z = absurd (let no : ⊥ = omega arith in no)
eight_all (a ∷ b ∷ []) z = absurd (let no : ⊥ = omega arith in no)
eight_all (a ∷ b ∷ c ∷ []) z = absurd (let no : ⊥ = omega arith in no)
eight_all (a ∷ b ∷ c ∷ d ∷ []) z = absurd (let no : ⊥ = omega arith in no)
eight_all (a ∷ b ∷ c ∷ d ∷ e ∷ []) z = absurd (let no : ⊥ = omega arith in no)
eight_all (a ∷ b ∷ c ∷ d ∷ e ∷ f ∷ []) z = absurd (let no : ⊥ = omega arith in no)
eight_all (a ∷ b ∷ c ∷ d ∷ e ∷ f ∷ g ∷ []) z = absurd (let no : ⊥ = omega arith in no)
eight_all (a ∷ b ∷ c ∷ d ∷ e ∷ f ∷ g ∷ h ∷ i ∷ l) z = absurd (let no : ⊥ = omega arith in no)

pub nine_at :
    (l : List Float) (a b c d e f g h i : Vec3) → a ≡ vec_of_floats l 0 → b ≡ vec_of_floats l 3 → c ≡ vec_of_floats l 6 → d ≡ vec_of_floats l 9 → e ≡ vec_of_floats l 12 → f ≡ vec_of_floats l 15 →
    g ≡ vec_of_floats l 18 → h ≡ vec_of_floats l 21 → i ≡ vec_of_floats l 24 → (j : ℕ) → j ≤ max_order →
    get_or (a ∷ b ∷ c ∷ d ∷ e ∷ f ∷ g ∷ h ∷ i ∷ []) j no_point ≡ point_in l j
nine_at l a b c d e f g h i a₁ b₁ c₁ d₁ e₁ f₁ g₁ h₁ i₁ zero z = a₁
nine_at l a b c d e f g h i a₁ b₁ c₁ d₁ e₁ f₁ g₁ h₁ i₁ (suc zero) z = b₁
nine_at l a b c d e f g h i a₁ b₁ c₁ d₁ e₁ f₁ g₁ h₁ i₁ (suc (suc zero)) z = c₁
nine_at l a b c d e f g h i a₁ b₁ c₁ d₁ e₁ f₁ g₁ h₁ i₁ (suc (suc (suc zero))) z = d₁
nine_at l a b c d e f g h i a₁ b₁ c₁ d₁ e₁ f₁ g₁ h₁ i₁ (suc (suc (suc (suc zero)))) z = e₁
nine_at l a b c d e f g h i a₁ b₁ c₁ d₁ e₁ f₁ g₁ h₁ i₁ (suc (suc (suc (suc (suc zero))))) z = f₁
nine_at l a b c d e f g h i a₁ b₁ c₁ d₁ e₁ f₁ g₁ h₁ i₁ (suc (suc (suc (suc (suc (suc zero)))))) z = g₁
nine_at l a b c d e f g h i a₁ b₁ c₁ d₁ e₁ f₁ g₁ h₁ i₁ (suc (suc (suc (suc (suc (suc (suc zero))))))) z = h₁
nine_at l a b c d e f g h i a₁ b₁ c₁ d₁ e₁ f₁ g₁ h₁ i₁ (suc (suc (suc (suc (suc (suc (suc (suc zero)))))))) z = i₁
nine_at l a b c d e f g h i a₁ b₁ c₁ d₁ e₁ f₁ g₁ h₁ i₁ (suc (suc (suc (suc (suc (suc (suc (suc (suc j))))))))) z = absurd (let no : ⊥ = omega arith in no)
