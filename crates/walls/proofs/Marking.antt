-- The byte of each plane: whether the source lies on it.
use Prim.Native.Nat.{ℕ, zero, suc, ◌+◌, ◌<◌, ◌≤◌}
use mathlib.Core.Path.{◌≡◌, refl, ap, ◌∙◌}
use mathlib.Core.Bool.{Bool, cond}
use mathlib.Core.List.{List, [], ◌∷◌}
use native.Mathlib.Omega.{arith}
use lib.Ieee.{Float}
use lib.ListN.{length, get_or, set}
use lib.Seq.{get_or-set_same, get_or-set_other, ext_get_or}
use Rattle.float.proofs.Numbers.{by_order}
use Rattle.vector.specs.declared.Vec3.{Vec3}
use Rattle.mirror.specs.Plane.{Plane, nth_plane}
use Rattle.mirror.specs.Rows.{planes_in}
use Rattle.bounces.specs.Image.{lies_on_of}
use Rattle.search.specs.Outcome.{on_bytes}
use Rattle.search.proofs.Laws.{planes_length, on_length}

on_at : (planes : List Plane) (source : Vec3) (p : ℕ) → p < length planes → cond (lies_on_of (nth_plane planes p) source) 1 0 ≡ get_or (on_bytes planes source) p 0
unfolding on_bytes nth_plane
on_at [] source p h = absurd (let no : ⊥ = omega arith in no)
on_at (x ∷ planes) source zero h = refl
on_at (x ∷ planes) source (suc p) h = on_at planes source p (omega arith)

-- the byte, by the answer of `bounces::lies_on`
module _ (floats : List Float) (words members : List ℕ) (edges : List Float) (count : ℕ) (source : Vec3) where
  pub marks_length : length (on_bytes (planes_in floats words members edges count) source) ≡ count
  marks_length = on_length (planes_in floats words members edges count) source ∙ planes_length floats words members edges count

  pub byte_of :
      (p : ℕ) (b : Bool) (r : ℕ) → p < count → b ≡ lies_on_of (nth_plane (planes_in floats words members edges count) p) source → r ≡ cond b 1 0 →
      r ≡ get_or (on_bytes (planes_in floats words members edges count) source) p 0
  byte_of p b r h e f =
      let l = planes_length floats words members edges count in
      f ∙ ap (λ (x : Bool). cond x 1 0) e ∙ on_at (planes_in floats words members edges count) source p (omega (arith, l))

-- ---- one after the other

-- one more byte stands
pub mark_more :
    (on target : List ℕ) (p x : ℕ) → p < length on → ((i : ℕ) → i < p → get_or on i 0 ≡ get_or target i 0) → x ≡ get_or target p 0 → (i : ℕ) → i < p + 1 →
    get_or (set on p x) i 0 ≡ get_or target i 0
mark_more on target p x room before is i h =
    by_order p i (λ g. let e : i ≡ p = omega arith in rw e (get_or-set_same on p x 0 room ∙ is)) (λ g. get_or-set_other on p i x 0 (λ e. omega (arith, e)) ∙ before i g)

-- all of them
pub mark_all : (on target : List ℕ) (p : ℕ) → length on ≡ length target → length on ≤ p → ((i : ℕ) → i < p → get_or on i 0 ≡ get_or target i 0) → on ≡ target
mark_all on target p e h before = ext_get_or 0 on target e (λ i l. before i (omega arith))
