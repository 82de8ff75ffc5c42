-- What the search's functions ask and promise.
use Rattle.std.specs.Prelude.{ℕ, ◌+◌, ◌-◌, ◌*◌, ◌≤◌, ◌<◌, ◌≡◌, Bool, true, false, not, cond, List, [], ◌∷◌, ◌++◌, length, get_or, take, set, ltb, eqb, Float, Ok}
use Rattle.std.specs.Float.Ieee.{lt, le}
use Rattle.geometry.specs.declared.Triangle.{Triangle}
use Rattle.tree_build.specs.Tree.{Tree}
use Rattle.float.specs.Sqrt.{sqrt_of}
use Rattle.vector.specs.declared.Vec3.{Vec3}
use Rattle.vector.specs.Vector.{sub3_of, dot3_of}
use Rattle.scene.specs.Limits.{most_crossings}
use Rattle.mirror.specs.Plane.{Plane}
use Rattle.mirror.specs.Rows.{planes_in}
use Rattle.float.specs.Literals.{one32}
use Rattle.bounces.specs.Areas.{PlanesRead, max_order, fate_of, point_floats, point_in}
use Rattle.bounces.specs.Bounces.{back_of, plane_on}
use Rattle.bounces.specs.Image.{image_of}
use Rattle.sequences.specs.Allowed.{most, most_planes, may, upto, at}
use Rattle.sequences.specs.Run.{run}
use Rattle.ranking.specs.Rows.{CandidateRows, candidates_in}
use Rattle.paths.specs.declared.PathCandidate.{PathCandidate}
use Rattle.paths.specs.Areas.{SceneLent, ReadAs}
use Rattle.claim.specs.Answer.{Outcome, tap_of}
use Rattle.claim.specs.Query.{Search, search, visit_path}
use Rattle.search.specs.declared.Task.{Task}
use Rattle.search.specs.declared.Tally.{Tally}
use Rattle.search.specs.Outcome.{on_bytes, found_of, outcomes_of}
use Rattle.tree_trace.specs.declared.FlatBvh.{FlatBvh}
use Rattle.bounces.specs.declared.PlaneTable.{PlaneTable}

-- the areas of a scene
pub record SearchAreas : Type 0 where
  pub padded : List Float
  pub nodes : List ℕ
  pub perm : List ℕ
  pub rows : List Float
  pub handles : List ℕ
  pub nodes_count : ℕ
  pub materials : List Float
  pub columns : List Float
  pub n : ℕ
  pub floats : List Float
  pub words : List ℕ
  pub members : List ℕ
  pub edges : List Float
  pub count : ℕ

-- the tree, the rows of materials and the planes, as they are lent
abbrev pub search_areas : FlatBvh → List Float → PlaneTable → SearchAreas
search_areas b materials p =
    record {
      padded = b.padded.now;
      nodes = b.nodes.now;
      perm = b.leaf_order.now;
      rows = b.leaves.now;
      handles = b.handles.now;
      nodes_count = b.count;
      materials = materials;
      columns = p.triangles.now;
      n = p.n;
      floats = p.floats.now;
      words = p.words.now;
      members = p.members.now;
      edges = p.edges.now;
      count = p.count;
    }

-- the sequence that the search is at with the image of each beginning, and what it has counted and found
pub record State : Type 0 where
  pub seq : List ℕ
  pub images : List Float
  pub nodes : ℕ
  pub rays : ℕ
  pub found : ℕ
  pub over : Bool

abbrev pub state : List ℕ → List Float → Tally → State
state seq images t = record { seq = seq; images = images; nodes = t.nodes; rays = t.rays; found = t.found; over = not (eqb t.over 0) }

-- an area with the point v at `at`
abbrev pub point_put : List Float → ℕ → Vec3 → List Float
point_put l at v = set (set (set l at v.x) (at + 1) v.y) (at + 2) v.z

-- the square of a distance, as it is before `distance3_of` takes its root
abbrev pub square_of : Vec3 → Vec3 → Float
square_of a b = dot3_of (sub3_of a b) (sub3_of a b)

-- what is above b has a root that is not at most `far`
abbrev pub Beyond : Float → Float → Type 0
Beyond far b = (x : Float) → lt b x ≡ true → le (sqrt_of x) far ≡ false

-- the bounces of the first `len` planes are not all made, for all that the areas read as
abbrev pub Lost : List Float → ℕ → List Float → List ℕ → List ℕ → List Float → ℕ → List ℕ → List Float → ℕ → Vec3 → Type 0
Lost columns n floats words members edges count seq images len listener =
    (tri : ℕ → Triangle) (fade : Float) → PlanesRead tri columns n floats words members count →
    fate_of (back_of tri fade (plane_on (planes_in floats words members edges count) seq) (point_in images) len listener one32 [] []) ≡ Ok tt → ⊥

-- no path takes more rays, by any limit and order that are allowed: what keeps the count of rays from wrapping
abbrev pub most_path_rays : ℕ
most_path_rays = 18 * (most_crossings + 1) * (max_order + 1)

module _ (S : SearchAreas) (q : Task) where
  -- the planes, what is asked of the areas, and what they read as
  abbrev pub planes_of : List Plane
  planes_of = planes_in S.floats S.words S.members S.edges S.count

  abbrev pub LentAs : Type 0
  LentAs = SceneLent S.padded S.nodes S.perm S.rows S.handles S.nodes_count S.materials S.columns S.n S.floats S.words S.members S.edges S.count

  abbrev pub Reads : (ℕ → Triangle) → Tree → Type 0
  Reads tri t = ReadAs S.padded S.nodes S.perm S.rows S.handles S.columns S.n S.floats S.words S.members S.count tri t

  -- what the claim is given, and its run from what the search holds
  abbrev pub firsts_of : List ℕ
  firsts_of = on_bytes planes_of q.source

  abbrev pub path_in : (ℕ → Triangle) → Tree → List ℕ → Outcome
  path_in tri t = outcomes_of q.settings planes_of tri t S.materials q.source q.listener

  abbrev pub run_in : (ℕ → Triangle) → Tree → Search → List (List ℕ) → Search
  run_in tri t w qs = run (λ (v : Search). v.images) (visit_path q.room (path_in tri t)) q.limit w qs

  -- the first `depth` planes of the state are planes, their images stand beside them, and counts are within their limits
  pub record Sound (depth : ℕ) (s : State) : Type 0 where
    pub seq_room : length s.seq ≡ max_order
    pub images_room : length s.images ≡ point_floats * (max_order + 1)
    pub planes : (j : ℕ) → j < depth → get_or s.seq j 0 < S.count
    pub are : (j : ℕ) → j ≤ depth → point_in s.images j ≡ image_of planes_of q.source (take j s.seq)
    pub few : s.found ≤ q.room
    pub cost : s.rays ≤ most_path_rays * s.nodes

  -- what the search asks at a place
  pub record SearchReady (depth : ℕ) (s : State) (fs : List Float) (ws : List ℕ) : Type 0 where
    pub deep : depth < q.order
    pub within : q.order ≤ max_order
    pub small : S.count ≤ most_planes
    pub bound : q.limit ≤ most
    pub crossings : q.settings.crossing_limit ≤ most_crossings
    pub far : Beyond q.settings.max_reflection_distance q.beyond
    pub lent : LentAs
    pub room : CandidateRows q.room fs ws
    pub sound : Sound depth s

  -- what a visit of the first `len` planes of the state asks
  pub record Visitable (len : ℕ) (s : State) (fs : List Float) (ws : List ℕ) : Type 0 where
    pub some : 0 < len
    pub within : len ≤ max_order
    pub under : s.nodes < most
    pub crossings : q.settings.crossing_limit ≤ most_crossings
    pub far : Beyond q.settings.max_reflection_distance q.beyond
    pub lent : LentAs
    pub room : CandidateRows q.room fs ws
    pub sound : Sound len s

-- what the search holds
abbrev pub held_in : State → List Float → List ℕ → Search
held_in s fs ws = search s.nodes s.rays (candidates_in s.found fs ws) s.over

-- the sequences `qs` were run over, for all that the areas read as, and the first `depth` planes of the state stand as they did
pub record Walked (S : SearchAreas) (q : Task) (depth : ℕ) (qs : List (List ℕ)) (s : State) (fs : List Float) (ws : List ℕ) (r : State) (fs' : List Float) (ws' : List ℕ) : Type 0 where
  pub ran : (tri : ℕ → Triangle) (t : Tree) → Reads S q tri t → held_in r fs' ws' ≡ run_in S q tri t (held_in s fs ws) qs
  pub stays : take depth r.seq ≡ take depth s.seq
  pub sound : Sound S q depth r

-- one image more: the rays of its path, and after it the candidates held and the flag
abbrev pub counted_of : Tally → ℕ → ℕ → ℕ → Tally
counted_of t rays found over = record { nodes = t.nodes + 1; rays = t.rays + rays; found = found; over = over }

-- a tally with so many images
abbrev pub with_nodes : Tally → ℕ → Tally
with_nodes t n = record { nodes = n; rays = t.rays; found = t.found; over = t.over }

-- at the last place, whatever was run over before: the planes from p up to p' come to no more than that the tally t is t'
pub record Skips (S : SearchAreas) (q : Task) (depth : ℕ) (seq : List ℕ) (images : List Float) (p : ℕ) (t : Tally) (p' : ℕ) (t' : Tally) : Type 0 where
  pub walked :
      (s₀ : State) (fs₀ : List Float) (ws₀ : List ℕ) (fs : List Float) (ws : List ℕ) → SearchReady S q depth (state seq images t) fs ws →
      depth + 1 ≡ q.order →
      Walked S q depth (upto (at (firsts_of S q) (q.order - (depth + 1)) (take depth s₀.seq)) p) s₀ fs₀ ws₀ (state seq images t) fs ws →
      Walked S q depth (upto (at (firsts_of S q) (q.order - (depth + 1)) (take depth s₀.seq)) p') s₀ fs₀ ws₀ (state seq images t') fs ws

-- the same, up to a plane that may stand there and has not been run over, or all planes
pub record Skipped (S : SearchAreas) (q : Task) (depth : ℕ) (seq : List ℕ) (images : List Float) (p : ℕ) (t : Tally) (p' : ℕ) (t' : Tally) : Type 0 where
  pub from : p ≤ p'
  pub within : p' ≤ S.count
  pub next : p' < S.count → (t'.nodes < q.limit) × (may (firsts_of S q) (take depth seq) p' ≡ true)
  pub skips : Skips S q depth seq images p t p' t'

-- what a tally says with its rows
abbrev pub tallied : Tally → List Float → List ℕ → Search
tallied t fs ws = search t.nodes t.rays (candidates_in t.found fs ws) (not (eqb t.over 0))

-- the image of the path c of `len` planes, which passes after that many rays, is counted, and the path is a candidate with its number, where there is room
pub record Kept (room len rays : ℕ) (c : PathCandidate) (s : Tally) (fs : List Float) (ws : List ℕ) (r : Tally) (fs' : List Float) (ws' : List ℕ) : Type 0 where
  pub counted : r.nodes ≡ s.nodes + 1
  pub traced : r.rays ≡ s.rays + rays
  pub few : r.found ≤ room
  pub held :
      (seq : List ℕ) → length seq ≡ len →
      tallied r fs' ws'
      ≡ search (s.nodes + 1) (s.rays + rays)
      (cond (ltb s.found room) (candidates_in s.found fs ws ++ tap_of (s.nodes + 1) seq (found_of c) ∷ []) (candidates_in s.found fs ws))
      (cond (ltb s.found room) (not (eqb s.over 0)) true)

-- the first `len` planes of the sequence were visited
pub record Visited (S : SearchAreas) (q : Task) (len : ℕ) (seq : List ℕ) (s : Tally) (fs : List Float) (ws : List ℕ) (r : Tally) (fs' : List Float) (ws' : List ℕ) : Type 0 where
  pub counted : r.nodes ≡ s.nodes + 1
  pub cost : r.rays ≤ s.rays + most_path_rays
  pub few : r.found ≤ q.room
  pub seen : (tri : ℕ → Triangle) (t : Tree) → Reads S q tri t → tallied r fs' ws' ≡ visit_path q.room (path_in S q tri t) (tallied s fs ws) (take len seq)

-- the same over the planes that are lent
abbrev pub LostOf : PlaneTable → List ℕ → List Float → ℕ → Vec3 → Type 0
LostOf p = Lost p.triangles.now p.n p.floats.now p.words.now p.members.now p.edges.now p.count
