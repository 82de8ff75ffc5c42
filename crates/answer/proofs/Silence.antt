-- Where nothing is searched, and where something is.
use Prim.Native.Nat.{ℕ, zero, suc, ◌≤◌, ◌<◌}
use mathlib.Core.Path.{◌≡◌, refl, sym, ap, subst, ◌∙◌}
use mathlib.Core.Bool.{Bool, true, false, not, ◌||◌}
use mathlib.Core.List.{List}
use native.Mathlib.Omega.{arith}
use lib.Dec.{T, eqb}
use lib.Ieee.{Float}
use Rattle.vector.specs.declared.Vec3.{Vec3}
use Rattle.geometry.specs.declared.Triangle.{Triangle}
use Rattle.scene.specs.declared.Settings.{Settings}
use Rattle.bounces.specs.Areas.{max_order}
use Rattle.ranking.specs.Rows.{candidates_in}
use Rattle.claim.specs.Query.{Search, search}
use Rattle.search.specs.Outcome.{on_bytes}
use Rattle.search.proofs.Ends.{searched_none}
use Rattle.front.specs.Asked.{is_finite_point, silent_of, used_order}
use Rattle.scene_planes.specs.ScenePlanes.{planes_for}
use Rattle.answer.specs.Query.{path_for, search_for}

-- nothing is found at order 0
pub silent_finds :
    (st : Settings) (ts : List Triangle) (materials : List Float) (source listener : Vec3) (silent : Bool) (order room : ℕ) (fs : List Float) (ws : List ℕ) → silent ≡ true →
    search 0 0 (candidates_in 0 fs ws) false ≡ search_for st ts materials source listener (used_order silent order) room
silent_finds st ts materials source listener silent order room fs ws e =
    searched_none (on_bytes (planes_for st ts) source) (used_order silent order) room (path_for st ts materials source listener) fs ws (ap (λ (b : Bool). used_order b order) e)

-- the search at the order asked
pub heard_finds :
    (st : Settings) (ts : List Triangle) (materials materials' : List Float) (source listener : Vec3) (silent : Bool) (order order' room : ℕ) (w : Search) →
    silent ≡ false → order ≡ order' → materials' ≡ materials → w ≡ search_for st ts materials source listener order room →
    w ≡ search_for st ts materials' source listener (used_order silent order') room
heard_finds st ts materials materials' source listener silent order order' room w e o same h =
    h
    ∙ ap (λ (ms : List Float). search_for st ts ms source listener order room) (sym same)
    ∙ ap (λ (d : ℕ). search_for st ts materials' source listener d room) (o ∙ sym (ap (λ (b : Bool). used_order b order') e))

pub used_most : (b : Bool) (o : ℕ) → o ≤ max_order → used_order b o ≤ max_order
used_most true o h = omega arith
used_most false o h = h

-- where something is searched there are triangles
none_false : (a b c : Bool) (m : ℕ) → a || (b || (c || eqb m 0)) ≡ false → 0 < m
none_false true b c m e = absurd (subst T e tt)
none_false false true c m e = absurd (subst T e tt)
none_false false false true m e = absurd (subst T e tt)
none_false false false false zero e = absurd (subst T e tt)
none_false false false false (suc m) e = omega arith

pub silent_some : (separated : Bool) (source listener : Vec3) (m : ℕ) → silent_of separated source listener m ≡ false → 0 < m
unfolding silent_of
silent_some separated source listener m e = none_false separated (not (is_finite_point source)) (not (is_finite_point listener)) m e

-- with a refusal k there are none
pub unrefused : (k m : ℕ) → ((k ≡ 0 → ⊥) → m ≡ 0) → 0 < m → k ≡ 0
unrefused zero m h some = refl
unrefused (suc k) m h some = absurd (let z : m ≡ 0 = h (λ e. omega (arith, e)) in omega (arith, z, some))

pub within_area : (k m n : ℕ) → (k ≡ 0 → m ≤ n) → ((k ≡ 0 → ⊥) → m ≡ 0) → m ≤ n
within_area zero m n a h = a refl
within_area (suc k) m n a h = let z : m ≡ 0 = h (λ e. omega (arith, e)) in omega (arith, z)
