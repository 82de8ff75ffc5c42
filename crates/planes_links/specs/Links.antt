-- Adjacency of patches: which patches the vertices link.
use Rattle.std.specs.Prelude.{ℕ, ◌+◌, ◌*◌, ◌<◌, Bool, false, cond, not, ◌&&◌, ◌||◌, List, [], ◌∷◌, ltb, leb, eqb, length, get_or}
use Rattle.order.specs.Runs.{any_by, up_to}
use Rattle.planes_patches.specs.Lists.{filter_by}
use Rattle.planes_links.specs.Words.{has, most_triangles}

-- ---- one vertex

-- a vertex's patches are linked all to all up to so many
abbrev pub most_linked : ℕ
most_linked = 8

-- `windows(2)`: p and q follow one another
unfoldable pub follow : List ℕ → ℕ → ℕ → Bool
follow [] p q = false
follow (x ∷ []) p q = false
follow (x ∷ y ∷ r) p q = (eqb x p && eqb y q) || follow (y ∷ r) p q

-- whether a run links p and q: all to all up to eight patches, neighbours beyond
unfoldable pub is_linked : List ℕ → ℕ → ℕ → Bool
is_linked run p q =
    cond (leb (length run) most_linked) (not (eqb p q) && any_by (eqb p) run && any_by (eqb q) run) (follow run p q || follow run q p)

-- ---- all vertices, by their numbers

-- triangle i is one of patch q, which is below np
unfoldable pub is_of : List ℕ → ℕ → ℕ → ℕ → Bool
is_of of np q i = ltb (get_or of i 0) np && eqb (get_or of i 0) q

-- the corners of m triangles have numbers below a bound: id[i], id[n + i] and id[2 n + i]
pub record Numbers (id : List ℕ) (n m bound : ℕ) : Type 0 where
  pub first : (i : ℕ) → i < m → get_or id i 0 < bound
  pub second : (i : ℕ) → i < m → get_or id (n + i) 0 < bound
  pub third : (i : ℕ) → i < m → get_or id (2 * n + i) 0 < bound

-- triangle i is one of patch q and has the corner v
unfoldable pub has_corner : List ℕ → ℕ → List ℕ → ℕ → ℕ → ℕ → ℕ → Bool
has_corner id n of np v q i = is_of of np q i && (eqb (get_or id i 0) v || (eqb (get_or id (n + i) 0) v || eqb (get_or id (2 * n + i) 0) v))

-- a run of `verts`: the patches at vertex v, each once, rising
unfoldable pub run_of : List ℕ → ℕ → List ℕ → ℕ → ℕ → ℕ → List ℕ
run_of id n of m np v = filter_by (λ q. any_by (has_corner id n of np v q) (up_to m)) (up_to most_triangles)

-- `adj`: some vertex links p and q
unfoldable pub is_joined : List ℕ → ℕ → ℕ → List ℕ → ℕ → ℕ → ℕ → ℕ → Bool
is_joined id n vertices of m np p q = any_by (λ v. is_linked (run_of id n of m np v) p q) (up_to vertices)

-- ---- what the loops over a run link

-- a and b, where a is p and b another one of the run
unfoldable pub links_from : ℕ → List ℕ → ℕ → ℕ → Bool
links_from p run a b = eqb a p && (not (eqb a b) && has b run)

-- two of the run
unfoldable pub links_all : List ℕ → ℕ → ℕ → Bool
links_all run a b = not (eqb a b) && has a run && has b run

-- neighbours in the run, in either order
unfoldable pub links_next : List ℕ → ℕ → ℕ → Bool
links_next run a b = follow run a b || follow run b a
