-- A call's promise under equal names, and that a number is not at most j and above k where j is at most k.
use mathlib.Core.Path.{◌≡◌, refl}
use mathlib.Core.Bool.{Bool}
use mathlib.Core.List.{List, [], ◌∷◌, ◌++◌}
use Prim.Native.Nat.{ℕ, ◌≤◌, ◌<◌}
use native.Mathlib.Omega.{arith}
use lib.ListN.{length, drop}
use Rattle.vector.specs.declared.Vec3.{Vec3}
use Rattle.scene.specs.declared.Settings.{Settings}
use Rattle.scene.specs.Scene.{Scene}
use Rattle.answer.specs.declared.Answered.{Answered}
use Rattle.query.specs.Areas.{Work}
use Rattle.query.specs.Trace.{Traced}
use Rattle.search.specs.Outcome.{on_bytes}
use Rattle.walls.specs.Walls.{PlanesOf}
use Rattle.walls.proofs.Marking.{marks_length}
use Rattle.exports.specs.Planes.{planes_left, PlanesMarked}

pub apart : (n j k : ℕ) → n ≤ j → k < n → j ≤ k → ⊥
apart n j k a b h = omega arith

pub called :
    (st st' : Settings) (c : ℕ) (s : Scene) (source source' listener listener' : Vec3) (separated : Bool) (r r' : Answered) (out out' : List ℕ) (found left : Work) →
    st ≡ st' → source ≡ source' → listener ≡ listener' → r' ≡ r →
    Traced st c s source listener separated r out out' found left →
    Traced st' c s source' listener' separated r' out out' found left
called st st' c s source source' listener listener' separated r r' out out' found left a b d e t = rw (e, ← a, ← b, ← d) t

pub marked :
    (st st' : Settings) (c : ℕ) (s : Scene) (source source' : Vec3) (number count : ℕ) (on on' : List ℕ) (found left : Work) →
    st ≡ st' → source ≡ source' → PlanesOf st c s found left number count → on' ≡ on_bytes (planes_left left count) source ++ drop count on →
    PlanesMarked st' c s source' number count on on' found left
marked st st' c s source source' number count on on' found left a b p m = rw (← a, ← b) (record { planes = p; marked = m })

-- of no planes no byte is marked
unmarked : (w : Work) (source : Vec3) (on : List ℕ) → on ≡ on_bytes (planes_left w 0) source ++ drop 0 on
unmarked w source on = before (on_bytes (planes_left w 0) source) (marks_length w.plane_floats w.plane_words w.plane_triangles w.plane_edges 0 source)
  where
    before : (l : List ℕ) → length l ≡ 0 → on ≡ l ++ on
    before [] e = refl
    before (x ∷ l) e = absurd (let no : ⊥ = omega arith in no)

-- so it is after a refusal
pub none_marked :
    (st st' : Settings) (c : ℕ) (s : Scene) (source source' : Vec3) (number number' : ℕ) (on : List ℕ) (found left : Work) →
    st ≡ st' → source ≡ source' → number' ≡ number → PlanesOf st c s found left number 0 → PlanesMarked st' c s source' number' 0 on on found left
none_marked st st' c s source source' number number' on found left a b n p = rw (← a, ← b, n) (record { planes = p; marked = unmarked left source on })
