-- The search from nothing: its start is sound, and its end is the claim's `searched`.
use Prim.Native.Nat.{ℕ, ◌+◌, ◌-◌, ◌*◌}
use mathlib.Core.Path.{◌≡◌, sym, ap, ◌∙◌}
use mathlib.Core.Bool.{false}
use mathlib.Core.List.{List, []}
use native.Mathlib.Omega.{arith}
use native.Mathlib.Nat.{sub-zero}
use lib.Ieee.{Float}
use lib.ListN.{length, take}
use Rattle.geometry.specs.declared.Triangle.{Triangle}
use Rattle.tree_build.specs.Tree.{Tree}
use Rattle.bounces.specs.Areas.{max_order, point_floats, point_in}
use Rattle.bounces.proofs.Laws.{image_none}
use Rattle.sequences.specs.Allowed.{most, below}
use Rattle.sequences.specs.Run.{run}
use Rattle.ranking.specs.declared.Candidate.{Candidate}
use Rattle.ranking.specs.Rows.{candidates_in}
use Rattle.ranking.proofs.Rowing.{held_none}
use Rattle.claim.specs.Answer.{Outcome}
use Rattle.claim.specs.Query.{Search, search, visit_path, searched}
use Rattle.search.specs.declared.Task.{Task}
use Rattle.search.specs.Contract.{SearchAreas, State, planes_of, Reads, firsts_of, path_in, run_in, Sound, held_in, Walked}

-- with no planes nothing is searched
pub searched_none :
    (on : List ℕ) (order room : ℕ) (path : List ℕ → Outcome) (fs : List Float) (ws : List ℕ) → order ≡ 0 →
    search 0 0 (candidates_in 0 fs ws) false ≡ searched on order room path
unfolding below
searched_none on order room path fs ws e =
    ap (λ (cs : List Candidate). search 0 0 cs false) (held_none fs ws)
    ∙ ap (λ (o : ℕ). run (λ (w : Search). w.images) (visit_path room path) most (search 0 0 [] false) (below on o [])) (sym e)

-- a state that has nothing yet
pub record Fresh (q : Task) (s : State) : Type 0 where
  pub seq_room : length s.seq ≡ max_order
  pub images_room : length s.images ≡ point_floats * (max_order + 1)
  pub image : point_in s.images 0 ≡ q.source
  pub no_nodes : s.nodes ≡ 0
  pub no_rays : s.rays ≡ 0
  pub no_found : s.found ≡ 0
  pub not_over : s.over ≡ false

module _ (S : SearchAreas) (q : Task) (s : State) (new : Fresh q s) where
  pub sound_fresh : Sound S q 0 s
  sound_fresh = record {
    seq_room = new.seq_room;
    images_room = new.images_room;
    planes = λ j h. absurd (let no : ⊥ = omega arith in no);
    are = λ j h. let z : j ≡ 0 = omega arith in rw z (new.image ∙ sym (image_none (planes_of S q) q.source));
    few = let z = new.no_found in omega arith;
    cost = let z = new.no_rays in omega arith;
  }

  held_fresh : (fs : List Float) (ws : List ℕ) → held_in s fs ws ≡ search 0 0 [] false
  held_fresh fs ws =
      (λ i. search (new.no_nodes i) (new.no_rays i) (candidates_in (new.no_found i) fs ws) (new.not_over i))
      ∙ ap (λ (cs : List Candidate). search 0 0 cs false) (held_none fs ws)

  pub searched_all :
      (fs fs' : List Float) (ws ws' : List ℕ) (r : State) → q.limit ≡ most →
      Walked S q 0 (below (firsts_of S q) (q.order - 0) (take 0 s.seq)) s fs ws r fs' ws' → (tri : ℕ → Triangle) (t : Tree) → Reads S q tri t →
      held_in r fs' ws' ≡ searched (firsts_of S q) q.order q.room (path_in S q tri t)
  searched_all fs fs' ws ws' r e w tri t h =
      w.ran tri t h
      ∙ ap (λ (v : Search). run_in S q tri t v (below (firsts_of S q) (q.order - 0) [])) (held_fresh fs ws)
      ∙ ap (λ (o : ℕ). run_in S q tri t (search 0 0 [] false) (below (firsts_of S q) o [])) (sub-zero q.order)
      ∙ ap (λ (l : ℕ). run (λ (v : Search). v.images) (visit_path q.room (path_in S q tri t)) l (search 0 0 [] false) (below (firsts_of S q) q.order [])) e
