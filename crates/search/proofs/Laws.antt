-- Laws on the definitions: planes that may come first, candidates in rows, one visit.
use Prim.Native.Nat.{ℕ, zero, suc, ◌+◌, ◌*◌, ◌≤◌, ◌<◌}
use mathlib.Core.Path.{◌≡◌, refl, sym, ap, ◌∙◌}
use mathlib.Core.Bool.{Bool, true, false, not, cond}
use mathlib.Core.Logic.{inl, inr}
use mathlib.Core.List.{List, [], ◌∷◌, ◌++◌}
use native.Mathlib.Nat.{mul-le-mul}
use native.Mathlib.Omega.{arith}
use lib.ListN.{length, get_or, take, length-map}
use lib.Dec.{eqb, ltb}
use lib.Ieee.{Float, lt, le}
use borrow.Author.Tests.{lt-ltb, le-ltb}
use Rattle.order.proofs.Positions.{up_to_length}
use Rattle.vector.specs.declared.Vec3.{Vec3}
use Rattle.vector.specs.Vector.{length3_of, distance3_of}
use Rattle.order.specs.Runs.{up_to}
use Rattle.scene.specs.Limits.{most_crossings}
use Rattle.mirror.specs.Plane.{Plane, nth_plane}
use Rattle.mirror.specs.Rows.{plane_in, planes_in}
use Rattle.bounces.specs.Image.{lies_on_of}
use Rattle.bounces.specs.Areas.{max_order}
use Rattle.sequences.specs.Allowed.{may}
use Rattle.sequences.proofs.Laws.{may_first}
use Rattle.ranking.specs.declared.Candidate.{Candidate}
use Rattle.ranking.specs.Rows.{candidate_at, candidates_in, Put}
use Rattle.ranking.proofs.Rowing.{held_more}
use Rattle.claim.specs.Answer.{Found, Outcome, fails, passes, tap_of}
use Rattle.claim.specs.Query.{Search, search, judged}
use Rattle.paths.specs.declared.PathCandidate.{PathCandidate}
use Rattle.paths.specs.declared.Fate.{Fate}
use Rattle.paths.specs.declared.Fate.TheVariants.{TooFar, NotCrossed, OffSurface, TooLong, Faded, Blocked, Faint, Passed}
use Rattle.paths.specs.contracts.Fate as fate
use denote.Enum.Declared.{tag_of}
use types.Run.{OneOf}
use Rattle.search.specs.Outcome.{on_bytes, found_of, by_fate}
use Rattle.search.specs.Contract.{square_of, Beyond, most_path_rays}

-- ---- rays

-- a path within its bound takes no more than any path may
pub path_most : (limit len n : ℕ) → n ≤ 18 * (limit + 1) * (len + 1) → limit ≤ most_crossings → len ≤ max_order → n ≤ most_path_rays
path_most limit len n h few short =
    let one : 18 * (limit + 1) ≤ 18 * (most_crossings + 1) = omega arith in
    let two : len + 1 ≤ max_order + 1 = omega arith in
    let a : 18 * (limit + 1) * (len + 1) ≤ most_path_rays = mul-le-mul one two in
    omega arith

-- ---- planes

pub planes_length : (floats : List Float) (words members : List ℕ) (edges : List Float) (count : ℕ) → length (planes_in floats words members edges count) ≡ count
unfolding planes_in
planes_length floats words members edges count = length-map (up_to count) (plane_in floats words members edges) ∙ up_to_length count

pub on_length : (planes : List Plane) (source : Vec3) → length (on_bytes planes source) ≡ length planes
unfolding on_bytes
on_length planes source = length-map planes (λ (plane : Plane). cond (lies_on_of plane source) 1 0)

on_at : (planes : List Plane) (source : Vec3) (p : ℕ) → p < length planes → get_or (on_bytes planes source) p 0 ≡ cond (lies_on_of (nth_plane planes p) source) 1 0
unfolding on_bytes nth_plane
on_at [] source p h = absurd (let no : ⊥ = omega arith in no)
on_at (x ∷ planes) source zero h = refl
on_at (x ∷ planes) source (suc p) h = on_at planes source p (omega arith)

byte_not : (b : Bool) → eqb (cond b 1 0) 0 ≡ not b
byte_not true = refl
byte_not false = refl

-- a plane that the source does not lie on may come first
pub may_begin :
    (planes : List Plane) (source : Vec3) (seq : List ℕ) (d p : ℕ) (b : Bool) → p < length planes → d ≡ 0 → b ≡ lies_on_of (nth_plane planes p) source →
    not b ≡ may (on_bytes planes source) (take d seq) p
may_begin planes source seq d p b h z e =
    ap not e ∙ sym (may_first (on_bytes planes source) seq d p z ∙ ap (λ (n : ℕ). eqb n 0) (on_at planes source p h) ∙ byte_not (lies_on_of (nth_plane planes p) source))

-- ---- candidates

candidates_length : (n : ℕ) (fs : List Float) (ws : List ℕ) → length (candidates_in n fs ws) ≡ n
candidates_length n fs ws = length-map (up_to n) (candidate_at fs ws) ∙ up_to_length n

module _ (room m n r : ℕ) (fs fs' : List Float) (ws ws' : List ℕ) (o : Bool) (c : Candidate) where
  abbrev kept : Bool → Search
  kept b = search n r (cond b (candidates_in m fs ws ++ c ∷ []) (candidates_in m fs ws)) (cond b o true)

  pub keep_some : m < room → Put m c fs fs' ws ws' → search n r (candidates_in (m + 1) fs' ws') o ≡ kept (ltb m room)
  keep_some h p =
      ap (λ (l : List Candidate). search n r l o) (held_more m c fs fs' ws ws' (candidates_in m fs ws) p refl)
      ∙ ap kept (sym (lt-ltb m room h))

  pub keep_none : room ≤ m → search n r (candidates_in m fs ws) true ≡ kept (ltb m room)
  keep_none h = ap kept (sym (le-ltb m room h))

-- ---- a visit

module _ (room m n r q : ℕ) (fs : List Float) (ws : List ℕ) (o : Bool) (s : List ℕ) where
  abbrev before : Search
  before = search n r (candidates_in m fs ws) o

  pub judged_fails : (out : Outcome) → out ≡ fails q → search (n + 1) (r + q) (candidates_in m fs ws) o ≡ judged room out before s
  judged_fails out e = ap (λ (u : Outcome). judged room u before s) (sym e)

  pub judged_passes :
      (out : Outcome) (f : Found) → out ≡ passes q f →
      search (n + 1) (r + q) (cond (ltb m room) (candidates_in m fs ws ++ tap_of (n + 1) s f ∷ []) (candidates_in m fs ws)) (cond (ltb m room) o true)
      ≡ judged room out before s
  judged_passes out f e =
      ap (λ (k : ℕ). search (n + 1) (r + q) (cond (ltb k room) (candidates_in m fs ws ++ tap_of (n + 1) s f ∷ []) (candidates_in m fs ws)) (cond (ltb k room) o true))
      (sym (candidates_length m fs ws))
      ∙ ap (λ (u : Outcome). judged room u before s) (sym e)

-- where no ray was traced
pub judged_lost :
    (room m n r : ℕ) (fs : List Float) (ws : List ℕ) (o : Bool) (s : List ℕ) (out : Outcome) → out ≡ fails 0 →
    search (n + 1) r (candidates_in m fs ws) o ≡ judged room out (search n r (candidates_in m fs ws) o) s
judged_lost room m n r fs ws o s out e =
    let z : r ≡ r + 0 = omega arith in
    ap (λ (k : ℕ). search (n + 1) k (candidates_in m fs ws) o) z ∙ judged_fails room m n r 0 fs ws o s out e

-- a distance whose square is beyond the bound is too far
pub square_far : (far b : Float) (v w : Vec3) → Beyond far b → lt b (square_of v w) ≡ true → le (distance3_of v w) far ≡ false
unfolding distance3_of length3_of
square_far far b v w bound h = bound (square_of v w) h

-- ---- fates

abbrev tag : Fate → ℕ
tag f = tag_of fate.the_type f

-- a fate whose tag is not that of `Passed`
none : (k : ℕ) → OneOf (0 ∷ 1 ∷ 2 ∷ 3 ∷ 4 ∷ 5 ∷ 6 ∷ []) k → k ≡ 7 → ⊥
none k (inl e) z = omega arith
none k (inr (inl e)) z = omega arith
none k (inr (inr (inl e))) z = omega arith
none k (inr (inr (inr (inl e)))) z = omega arith
none k (inr (inr (inr (inr (inl e))))) z = omega arith
none k (inr (inr (inr (inr (inr (inl e)))))) z = omega arith
none k (inr (inr (inr (inr (inr (inr e)))))) z = omega arith

pub not_passed : (f : Fate) (r : ℕ) → OneOf (0 ∷ 1 ∷ 2 ∷ 3 ∷ 4 ∷ 5 ∷ 6 ∷ []) (tag f) → by_fate f r ≡ fails r
not_passed TooFar r h = refl
not_passed NotCrossed r h = refl
not_passed OffSurface r h = refl
not_passed TooLong r h = refl
not_passed Faded r h = refl
not_passed Blocked r h = refl
not_passed Faint r h = refl
not_passed (Passed c) r h = absurd (none 7 h refl)

pub passed : (f : Fate) (r : ℕ) (c : PathCandidate) → f ≡ Passed c → by_fate f r ≡ passes r (found_of c)
passed f r c e = ap (λ (g : Fate). by_fate g r) e
