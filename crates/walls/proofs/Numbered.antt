-- The walls that `sequence_of` answers for a tap's number are those of the tap's path. A tap's image has that number among the images visited
-- (`Complete`), and the numbering is undone (`numbering_undone`). What is left is that a call which answers is within the limits of `sequence_of`.
use Prim.Native.Nat.{ℕ, zero, suc, ◌-◌, ◌<◌, ◌≤◌}
use mathlib.Core.Path.{◌≡◌, refl, sym, ap, subst, ◌∙◌}
use mathlib.Core.Bool.{Bool, true, false, cond, ◌&&◌}
use mathlib.Core.Logic.{inl, inr}
use mathlib.Core.List.{List, [], ◌∷◌}
use native.Mathlib.Nat.{le_trans}
use native.Mathlib.Omega.{arith}
use lib.Ieee.{Float}
use lib.Dec.{leb}
use lib.ListN.{length, get_or, take, length-map, length-take}
use Rattle.vector.specs.declared.Vec3.{Vec3}
use Rattle.vector.specs.declared.Ray.{Ray}
use Rattle.geometry.specs.declared.Triangle.{Triangle}
use Rattle.planes_patches.specs.Triangles.{nth_triangle}
use Rattle.planes_buried.specs.Probe.{probe_of}
use Rattle.scene.specs.declared.Settings.{Settings}
use Rattle.scene.specs.Speed.{speed_of}
use Rattle.scene_bvh.specs.SceneTree.{tree_of}
use Rattle.placing.specs.Corners.{triangles}
use Rattle.placing.specs.Loading.{first_refusal}
use Rattle.mirror.specs.Plane.{Plane, nth_plane}
use Rattle.planes_groups.specs.Settings as groups
use Rattle.planes_importance.specs.Importance.{ranking_of, ranked_of}
use Rattle.planes_borders.specs.Border.{bordered_of}
use Rattle.planes.specs.Build.{plane_settings, planes_of_triangles, group_planes_of, open_patches_of}
use Rattle.bounces.specs.Image.{lies_on_of}
use Rattle.sequences.specs.Allowed.{most_order, most_planes}
use Rattle.sequences.specs.Members.{In, Image, IsVisited, IsAllowed}
use Rattle.ranking.specs.declared.Candidate.{Candidate}
use Rattle.ranking.specs.Lists.{Has}
use Rattle.claim.specs.Answer.{Outcome, Answer}
use Rattle.claim.specs.Complete.{Complete}
use Rattle.claim.specs.Query.{Query, given}
use Rattle.search.specs.Outcome.{on_bytes}
use Rattle.front.specs.Asked.{silent_of, used_order, order_of_search, limit_of}
use Rattle.answer.specs.Answer.{by_refusal}
use Rattle.scene_planes.specs.ScenePlanes.{planes_for}
use Rattle.answer.specs.Query.{path_for}
use Rattle.query.specs.Areas.{lengths_of}
use Rattle.query.specs.Trace.{query_in}
use Rattle.query.proofs.Call.{settings_within}
use Rattle.numbering.specs.Walls.{flags}
use Rattle.numbering.specs.Undone.{Room}
use Rattle.numbering.proofs.Answering.{numbering_undone}
use Rattle.walls.specs.Numbered.{NumberedWalls, CallNumbered}

-- ---- of an answer that is complete

in_at : (l : List (List ℕ)) (i : ℕ) → i < length l → In (get_or l i []) l
in_at [] i h = absurd (let no : ⊥ = omega arith in no)
in_at (x ∷ l) zero h = inl refl
in_at (x ∷ l) (suc i) h = inr (in_at l i (omega arith))

-- the sequence of an image is allowed
image_allowed : (on : List ℕ) (order : ℕ) (seen : List (List ℕ)) (n : ℕ) (s : List ℕ) → IsVisited on order seen → Image seen n s → IsAllowed on order s
image_allowed on order seen n s v i =
    let l = i.low in
    let h = i.high in
    subst (IsAllowed on order) i.is (v.only (get_or seen (n - 1) []) (in_at seen (n - 1) (omega arith)))

-- where there is an image, order and planes are at least 1
room_of :
    (on : List ℕ) (order : ℕ) (s : List ℕ) → IsAllowed on order s → order ≤ most_order → length on ≤ most_planes → flags on ≡ true → Room on order
room_of on order s i high few bytes =
    let a = i.some in
    let b = i.few in
    let p = i.planes 0 (omega arith) in
    record { low = omega arith; high = high; some = omega arith; few = few; bytes = bytes }

pub tap_numbered :
    (on : List ℕ) (order : ℕ) (speed rate : Float) (limit : ℕ) (path : List ℕ → Outcome) (a : Answer) → order ≤ most_order → length on ≤ most_planes → flags on ≡ true →
    Complete on order speed rate limit path a → (t : Candidate) → Has t a.taps → NumberedWalls on order path t
tap_numbered on order speed rate limit path a high few bytes complete t h =
    let p = ((complete.exactly t).0 h).passed in
    let room = room_of on order p.sequence (image_allowed on order complete.seen t.number p.sequence complete.visits p.image) high few bytes in
    record {
      walls = p.sequence;
      answer = (numbering_undone on order room complete.seen complete.visits).undoes t.number p.sequence p.image;
      rays = p.rays;
      what = p.what;
      passing = p.passing;
      tap = p.tap;
    }

-- ---- of a call

-- "one byte a plane (1 where the source lies on it, else 0)"
on_flags : (ps : List Plane) (source : Vec3) → flags (on_bytes ps source) ≡ true
unfolding flags on_bytes
on_flags [] source = refl
on_flags (p ∷ ps) source = ap (λ (b : Bool). b && flags (on_bytes ps source)) (bit (lies_on_of p source)) ∙ on_flags ps source
  where
    bit : (b : Bool) → leb (cond b 1 0) 1 ≡ true
    bit true = refl
    bit false = refl

planes_few : (s : groups.Settings) (probe : Ray → Bool) (ts : List Triangle) → length (planes_of_triangles s probe ts) ≤ s.most
unfolding planes_of_triangles ranked_of
planes_few s probe ts =
    let ps = group_planes_of s ts (open_patches_of s probe ts) in
    let a = length-map (ranked_of ts s.most ps) (bordered_of ts) in
    let b = length-map (take s.most (ranking_of ts ps)) (nth_plane ps) in
    let d = length-take s.most (ranking_of ts ps) in
    omega arith

on_few : (st : Settings) (ts : List Triangle) (source : Vec3) → st.max_reflection_planes ≤ most_planes → length (on_bytes (planes_for st ts) source) ≤ most_planes
unfolding on_bytes planes_for
on_few st ts source h =
    subst (λ (n : ℕ). n ≤ most_planes) (sym (length-map (planes_for st ts) (λ (plane : Plane). cond (lies_on_of plane source) 1 0)))
    (le_trans (planes_few (plane_settings st) (probe_of (nth_triangle ts) (tree_of ts)) ts) h)

-- an answer is given only where no refusal applies
none_refused : (k : ℕ) (q : Query) (a : Answer) → by_refusal k q ≡ given a → k ≡ 0
none_refused zero q a e = refl
none_refused (suc k) q a e = absurd (let z : ◌≡◌ {A = ℕ} 0 1 = cc in omega arith)

pub call_numbered : CallNumbered
call_numbered st c s source listener separated r out out' found left traced a is t h = by (silent_of separated source listener (length (triangles s))) (traced.complete a is)
  where
    on : List ℕ
    on = on_bytes (planes_for st (triangles s)) source

    path : List ℕ → Outcome
    path = path_for st (triangles s) s.materials source listener

    high : order_of_search st ≤ most_order
    high = omega arith

    few : length (on_bytes (planes_for st (triangles s)) source) ≤ most_planes
    few =
        on_few st (triangles s) source
        (settings_within st c s (lengths_of found out)
        (none_refused (first_refusal st c s (lengths_of found out)) (query_in st c s source listener separated) a is)).planes

    -- nothing is visited where nothing is searched
    none : (k : Complete on 0 (speed_of st.temperature_celsius) st.sample_rate (limit_of st) path a) → ⊥
    none k =
        let p = ((k.exactly t).0 h).passed in
        let i = image_allowed on 0 k.seen t.number p.sequence k.visits p.image in
        let x = i.some in
        let y = i.few in
        omega arith

    by :
        (b : Bool) → Complete on (used_order b (order_of_search st)) (speed_of st.temperature_celsius) st.sample_rate (limit_of st) path a →
        NumberedWalls (on_bytes (planes_for st (triangles s)) source) (order_of_search st) (path_for st (triangles s) s.materials source listener) t
    by true k = absurd (none k)
    by false k =
        tap_numbered (on_bytes (planes_for st (triangles s)) source) (order_of_search st) (speed_of st.temperature_celsius) st.sample_rate (limit_of st)
        (path_for st (triangles s) s.materials source listener) a high few (on_flags (planes_for st (triangles s)) source) k t h
