-- The pass over the corners: what it carries, a step, and what the whole answers.
use Rattle.std.specs.Prelude.{ℕ, ◌+◌, ◌*◌, ◌≤◌, ◌<◌, Float, length, set, get_or, replicate, ◌≡◌, Bool, true, false, cond, List, [], ◌∷◌, Ok, Err}
use Rattle.std.specs.Float.{nan}
use Rattle.geometry.specs.declared.Triangle.{Triangle}
use Rattle.geometry.specs.Triangle.{is_degenerate_of, triangle_of_corners}
use Rattle.scene.specs.Scene.{headers, vertex_sum, index_sum, triple_sum}
use Rattle.vector.specs.declared.Vec3.{Vec3}
use Rattle.placing.specs.declared.State.{State}
use Rattle.placing.specs.declared.Placing.{Placing}
use Rattle.placing.specs.declared.Placed.{Placed}
use Rattle.refusals.specs.declared.Refusal.TheVariants.{Far}
use Rattle.placing.specs.Corners.{Corners, far_in, any_far, triangles_of, up_to_far}
use Rattle.float.specs.Literals.{zero32}
use Rattle.geometry.specs.Intersect.{edges_of_corners}
use Rattle.geometry.specs.Contains.{dots_of_edges}
use Rattle.columns.specs.Columns.{column_count, put_triangle_of, triangle_at_of, edges_at_of, dots_at_of}
use Rattle.scene.specs.Limits.{most_triples}

pub record World : Type 0 where
  pub columns : List Float
  pub handles : List ℕ
  pub state : State

abbrev pub world : List Float → List ℕ → State → World
world cs hs st = record { columns = cs; handles = hs; state = st }

abbrev pub state : ℕ → ℕ → Bool → State
state k p f = record { kept = k; placings = p; far = f }

-- a corner placed, and the placings made up to and with it
abbrev pub placing : Vec3 → ℕ → Placing
placing p k = record { point = p; made = k }

-- triangles, and their handles, stored from place i on
unfoldable pub put_all : List Float → ℕ → ℕ → List Triangle → List Float
put_all area n i [] = area
put_all area n i (t ∷ ts) = put_all (put_triangle_of area n i t) n (i + 1) ts

unfoldable pub put_handles : List ℕ → ℕ → List Triangle → List ℕ
put_handles hs i [] = hs
put_handles hs i (t ∷ ts) = put_handles (set hs i t.material_handle) (i + 1) ts

-- one triple placed: nothing after a far corner; a degenerate triangle is not kept
unfoldable pub step_of : ℕ → World → Corners → World
step_of n w q =
    cond w.state.far w
    (cond (far_in q) (world w.columns w.handles (state w.state.kept (w.state.placings + 3) true))
    (cond (is_degenerate_of q.a q.b q.c) (world w.columns w.handles (state w.state.kept (w.state.placings + 3) false))
    (world (put_triangle_of w.columns n w.state.kept (triangle_of_corners q.a q.b q.c q.handle)) (set w.handles w.state.kept q.handle)
    (state (w.state.kept + 1) (w.state.placings + 3) false))))

unfoldable pub run : ℕ → World → List Corners → World
run n w [] = w
run n w (q ∷ qs) = run n (step_of n w q) qs

-- room for k triples more
pub record Room (n k : ℕ) (w : World) : Type 0 where
  pub limit : n ≤ most_triples
  pub some : w.state.kept + k ≤ n
  pub few : w.state.placings + 3 * k ≤ 3 * n
  pub wide : column_count * n ≤ length w.columns
  pub long : n ≤ length w.handles

-- at most k triples placed, and the world that is to come of it
pub record Did (k : ℕ) (w w' goal : World) : Type 0 where
  pub made : w' ≡ goal
  pub kept : w'.state.kept ≤ w.state.kept + k
  pub placed : w'.state.placings ≤ w.state.placings + 3 * k

-- the lent parts have the lengths that the counts say, and n is the count of whole triples
pub record Fits (ms : List ℕ) (transforms positions indices n : ℕ) : Type 0 where
  pub words : length ms ≡ 3 * length (headers ms)
  pub placed : transforms ≡ 16 * length (headers ms)
  pub points : positions ≡ 3 * vertex_sum (headers ms)
  pub listed : indices ≡ index_sum (headers ms)
  pub whole : n ≡ triple_sum (headers ms)

-- the placings, with refusal 6 or the count of triangles
abbrev pub pass : Bool → ℕ → ℕ → Placed
pass far placings kept = record { placings = placings; kept = cond far (Err Far) (Ok kept) }

-- what the pass answers
abbrev pub placed_of : List Corners → Placed
placed_of qs = pass (any_far qs) (3 * up_to_far qs) (length (triangles_of qs))

-- what is read at i: the triangle t, its edges and their products
pub record Reads (columns : List Float) (handles : List ℕ) (n i : ℕ) (t : Triangle) : Type 0 where
  pub triangle : triangle_at_of columns handles n i ≡ t
  pub edges : edges_at_of columns n i ≡ edges_of_corners t.a t.b t.c
  pub dots : dots_at_of columns n i ≡ dots_of_edges (edges_of_corners t.a t.b t.c)

-- For the corners qs of a scene: the answer, and the areas, which are zero after refusal 6, and otherwise hold the triangles by columns, the rest as found.
pub record PassedOver (qs : List Corners) (n : ℕ) (columns : List Float) (handles : List ℕ) (r : Placed) (columns' : List Float) (handles' : List ℕ) : Type 0 where
  pub answer : r ≡ placed_of qs
  pub filled : columns' ≡ cond (any_far qs) (replicate (length columns) zero32) (put_all columns n 0 (triangles_of qs))
  pub named : handles' ≡ cond (any_far qs) (replicate (length handles) 0) (put_handles handles 0 (triangles_of qs))
  -- triangle i is read as the i-th that `triangles_from_scene` keeps, and beside it what the tests of a ray and a point work out of it
  pub reads :
      any_far qs ≡ false → (i : ℕ) (d : Triangle) → i < length (triangles_of qs) → Reads columns' handles' n i (get_or (triangles_of qs) i d)
  -- nothing else changed: a float in no row below the count of any column, a handle from the count on
  pub rest :
      any_far qs ≡ false →
      (k : ℕ) → ((m r : ℕ) → m < column_count → r < length (triangles_of qs) → k ≡ r + m * n → ⊥) → get_or columns' k nan ≡ get_or columns k nan
  pub others : any_far qs ≡ false → (k : ℕ) → length (triangles_of qs) ≤ k → get_or handles' k 0 ≡ get_or handles k 0
