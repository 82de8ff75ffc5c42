-- Laws on a course of planes: none, one plane more, all of them; and the number of a path. And the crossing limit that C hands over.
use mathlib.Core.Path.{◌≡◌, refl, sym, ap, subst, ◌∙◌}
use mathlib.Core.Bool.{Bool, true, false, cond}
use mathlib.Core.List.{List, [], ◌∷◌, ◌++◌}
use Prim.Native.Nat.{ℕ, zero, suc, ◌+◌, ◌*◌, ◌<◌, ◌≤◌}
use native.Mathlib.Numerals.{add-one}
use native.Mathlib.Omega.{arith}
use lib.Ieee.{Float}
use lib.Dec.{eqb}
use lib.ListN.{length, get_or, set, take, length-set, length-take}
use lib.Seq.{sets, take-suc, take-suc-set, take_all, get_or-take}
use Rattle.float.proofs.Numbers.{by_order}
use borrow.Author.Tests.{ne_eqb}
use Rattle.vector.specs.declared.Vec3.{Vec3}
use Rattle.scene.specs.declared.Settings.{Settings}
use Rattle.scene.specs.Limits.{most_crossings}
use Rattle.arguments.specs.Settings.{given_settings}
use Rattle.mirror.specs.Plane.{no_point, nth_plane}
use Rattle.mirror.specs.Mirror.{mirror_of}
use Rattle.mirror.specs.Rows.{planes_in}
use Rattle.bounces.specs.Image.{image_of}
use Rattle.std.specs.Prelude.{Ok, Err}
use Rattle.bounces.specs.declared.Broken.{Broken}
use Rattle.bounces.specs.declared.Lost.{Lost}
use Rattle.bounces.specs.declared.Lost.TheVariants as lost
use Rattle.bounces.specs.declared.Trail.{Trail}
use Rattle.bounces.specs.Bounces.{Bounces}
use Rattle.bounces.specs.Areas.{max_order, ended_by, trail_of, point_floats, point_in}
use Rattle.search.specs.Contract.{point_put}
use Rattle.search.proofs.Points.{put_same, put_other}
use Rattle.bounces.proofs.Laws.{images_put}
use Rattle.paths.specs.declared.Fate.{Fate}
use Rattle.paths.specs.declared.Fate.TheVariants.{TooFar, NotCrossed, OffSurface, TooLong, Faded, Blocked, Faint, Passed}
use Rattle.paths.specs.Path.{number_of_fate}
use Rattle.paths.specs.declared.Verdict.{Verdict}
use Rattle.stages.specs.declared.Course.{Course}
use Rattle.stages.specs.declared.FlatPath.{FlatPath}
use Rattle.stages.specs.Paths.{Coursed, nothing_of, flat_path_of, path_floats, Walked, lost_number, points_of, Bounced}

abbrev pub course : List ℕ → List Vec3 → Course
course seq images = record { seq = seq; images = images }

-- the source stands first
first_image :
    (seq : List ℕ) (images : List Vec3) (source : Vec3) (floats : List Float) (words : List ℕ) (count : ℕ) (members : List ℕ) (edges : List Float) (j : ℕ) → j ≤ 0 →
    get_or (source ∷ images) j no_point ≡ image_of (planes_in floats words members edges count) source (take j seq)
unfolding image_of
first_image seq images source floats words count members edges zero h = refl
first_image seq images source floats words count members edges (suc j) h = let no : ⊥ = omega arith in absurd no

pub coursed_none :
    (floats : List Float) (words : List ℕ) (count : ℕ) (s : Vec3) (seq : List ℕ) →
    Coursed floats words count s seq 0 (course (0 ∷ 0 ∷ 0 ∷ 0 ∷ 0 ∷ 0 ∷ 0 ∷ 0 ∷ []) (s ∷ s ∷ s ∷ s ∷ s ∷ s ∷ s ∷ s ∷ s ∷ []))
coursed_none floats words count s seq =
    record {
      seq_room = refl;
      images_room = refl;
      planes = refl;
      mirrored = first_image (0 ∷ 0 ∷ 0 ∷ 0 ∷ 0 ∷ 0 ∷ 0 ∷ 0 ∷ []) (s ∷ s ∷ s ∷ s ∷ s ∷ s ∷ s ∷ s ∷ []) s floats words count;
    }

pub coursed_more :
    (floats : List Float) (words : List ℕ) (count : ℕ) (source : Vec3) (seq : List ℕ) (k : ℕ) (c : Course) (p : ℕ) (v : Vec3) →
    k < max_order → k < length seq → p ≡ get_or seq k 0 →
    ((members : List ℕ) (edges : List Float) → v ≡ mirror_of (nth_plane (planes_in floats words members edges count) p) (get_or c.images k no_point)) →
    Coursed floats words count source seq k c → Coursed floats words count source seq (k + 1) (course (set c.seq k p) (set c.images (k + 1) v))
coursed_more floats words count source seq k c p v low in-seq e next is =
    let here : k < length c.seq = omega (arith, is.seq_room) in
    let put : take (k + 1) (set c.seq k p) ≡ take k c.seq ++ (p ∷ []) = rw add-one (take-suc-set c.seq k p here) in
    let from : take (k + 1) seq ≡ take k seq ++ (get_or seq k 0 ∷ []) = rw add-one (take-suc seq k 0 in-seq) in
    record {
      seq_room = length-set c.seq k p ∙ is.seq_room;
      images_room = length-set c.images (k + 1) v ∙ is.images_room;
      planes = rw (put, from, is.planes, e);
      mirrored = λ members edges.
          images_put (planes_in floats words members edges count) source c.seq c.images k p v here (omega (arith, is.images_room)) (next members edges) (is.mirrored members edges);
    }

-- all of them
pub whole : (seq l : List ℕ) → take (length seq) l ≡ take (length seq) seq → take (length seq) l ≡ seq
whole seq l e = e ∙ take_all (length seq) seq (omega arith)

-- the planes of a course are planes
pub planes_below : (seq l : List ℕ) (count : ℕ) → take (length seq) l ≡ seq → ((j : ℕ) → j < length seq → get_or seq j 0 < count) →
    (j : ℕ) → j < length seq → get_or l j 0 < count
planes_below [] l count e h j low = let no : ⊥ = omega arith in absurd no
planes_below (p ∷ seq) [] count e h j low = let n : length {A = ℕ} [] ≡ length (p ∷ seq) = ap length e in let no : ⊥ = omega arith in absurd no
planes_below (p ∷ seq) (q ∷ l) count e h zero low = let a : q ≡ p = cc in rw a (h 0 low)
planes_below (p ∷ seq) (q ∷ l) count e h (suc j) low =
    let a : take (length seq) l ≡ seq = cc in planes_below seq l count a (λ i below. h (suc i) (omega arith)) j (omega arith)

-- the number of a fate
pub number_of : (f : Fate) → (flat_path_of f).number ≡ number_of_fate f
unfolding flat_path_of number_of_fate nothing_of
number_of TooFar = refl
number_of NotCrossed = refl
number_of OffSurface = refl
number_of TooLong = refl
number_of Faded = refl
number_of Blocked = refl
number_of Faint = refl
number_of (Passed c) = refl

-- what is left for a verdict with a candidate, and for one without
pub walked_passed :
    (v : Verdict) (p : FlatPath) (found : List Float) (rays : List ℕ) → p ≡ flat_path_of v.fate → p.number ≡ 0 →
    Walked v found rays 0 (sets found 0 (path_floats p)) (set rays 0 v.rays)
walked_passed v p found rays e z =
    let n : number_of_fate v.fate ≡ 0 = sym (number_of v.fate) ∙ rw e at z in
    record { fate_is = sym n; floats = rw (n, ← e); traced = refl }

pub walked_not :
    (v : Verdict) (p : FlatPath) (found : List Float) (rays : List ℕ) → p ≡ flat_path_of v.fate → (p.number ≡ 0 → ⊥) →
    Walked v found rays p.number found (set rays 0 v.rays)
walked_not v p found rays e z =
    let n : number_of_fate v.fate ≡ p.number = sym (number_of v.fate) ∙ rw (← e) in
    record { fate_is = sym n; floats = rw (n, ne_eqb p.number 0 z); traced = refl }

-- ---- the points of bounces

-- what a trail says, by its points
pub bounced_made :
    (t : Trail) (n : ℕ) (b : Bounces) (points : List Float) → n ≤ max_order → trail_of (Ok t) n ≡ b →
    ((j : ℕ) → j < max_order → point_in points j ≡ get_or t.points j no_point) → Bounced b 0 points
unfolding trail_of
bounced_made t n b points few is are =
    subst (λ (u : Bounces). Bounced u 0 points) is
    (record {
      fate_is = refl;
      points_are = λ j h. let k : j < n = omega (arith, length-take n t.points) in are j (omega (arith, k)) ∙ sym (get_or-take n t.points j no_point k);
    })

-- what one that fails says: it has no points
ended_bounced : (e : Lost) (b : Bounces) (points : List Float) → ended_by e ≡ b → Bounced b (lost_number e) points
ended_bounced lost.NotCrossed b points is =
    subst (λ (u : Bounces). Bounced u 2 points) is (record { fate_is = refl; points_are = λ j h. absurd (let no : ⊥ = omega arith in no) })
ended_bounced lost.OffSurface b points is =
    subst (λ (u : Bounces). Bounced u 3 points) is (record { fate_is = refl; points_are = λ j h. absurd (let no : ⊥ = omega arith in no) })

pub bounced_lost : (e : Broken) (n : ℕ) (b : Bounces) (points : List Float) → trail_of (Err e) n ≡ b → Bounced b (lost_number e.by) points
unfolding trail_of
bounced_lost e n b points is = ended_bounced e.by b points is

-- one point more
pub points_more :
    (l : List Float) (all : List Vec3) (k : ℕ) → point_floats * max_order ≤ length l → k < max_order →
    ((j : ℕ) → j < k → point_in l j ≡ get_or all j no_point) →
    (j : ℕ) → j < k + 1 → point_in (point_put l (point_floats * k) (get_or all k no_point)) j ≡ get_or all j no_point
points_more l all k room low are j h =
    by_order k j
    (λ e.
    let z : j ≡ k = omega arith in
    ap (point_in (point_put l (point_floats * k) (get_or all k no_point))) z
    ∙ put_same l (point_floats * k) (get_or all k no_point) (omega arith)
    ∙ ap (λ (i : ℕ). get_or all i no_point) (sym z))
    (λ b. put_other l (point_floats * k) (get_or all k no_point) (point_floats * j) (omega arith) ∙ are j b)

-- the crossing limit is the sixth count
pub crossings_within_lem : (counts : List ℕ) (floats : List Float) (s : Settings) → s ≡ given_settings counts floats → get_or counts 5 0 ≤ most_crossings → s.crossing_limit ≤ most_crossings
unfolding given_settings
crossings_within_lem counts floats s e h = subst (λ (t : Settings). t.crossing_limit ≤ most_crossings) (sym e) h
