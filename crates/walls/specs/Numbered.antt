-- Document 02, Note 2, for the taps of an answer: "Fitters read image 186 in a packet and must find the panels."
use Rattle.std.specs.Prelude.{ℕ, ◌≡◌, Bool, List, length}
use Rattle.vector.specs.declared.Vec3.{Vec3}
use Rattle.scene.specs.declared.Settings.{Settings}
use Rattle.scene.specs.Scene.{Scene}
use Rattle.placing.specs.Corners.{triangles}
use Rattle.ranking.specs.declared.Candidate.{Candidate}
use Rattle.ranking.specs.Lists.{Has}
use Rattle.claim.specs.Answer.{Found, Outcome, passes, tap_of, Answer}
use Rattle.claim.specs.Query.{given}
use Rattle.search.specs.Outcome.{on_bytes}
use Rattle.front.specs.Asked.{order_of_search}
use Rattle.scene_planes.specs.ScenePlanes.{planes_for}
use Rattle.answer.specs.Query.{path_for}
use Rattle.answer.specs.declared.Answered.{Answered}
use Rattle.query.specs.Areas.{Work}
use Rattle.query.specs.Trace.{call_of, Traced}
use Rattle.numbering.specs.Walls.{found, sequence_answer}

-- `sequence_of` takes t's number; the path by way of the walls that it answers passes, and what that path gives is t
pub record NumberedWalls (on : List ℕ) (order : ℕ) (path : List ℕ → Outcome) (t : Candidate) : Type 0 where
  pub walls : List ℕ
  pub answer : sequence_answer (length on) order on t.number ≡ found walls
  pub rays : ℕ
  pub what : Found
  pub passing : path walls ≡ passes rays what
  pub tap : t ≡ tap_of t.number walls what

-- THE LAW (`call_numbered` of proofs/Numbered): for each tap that a call answers, asked with the planes and the order of the call and a byte for each
-- plane, 1 where the source lies on it
abbrev pub CallNumbered : Type 0
CallNumbered =
    (st : Settings) (c : ℕ) (s : Scene) (source listener : Vec3) (separated : Bool) (r : Answered) (out out' : List ℕ) (found left : Work) →
    Traced st c s source listener separated r out out' found left →
    (a : Answer) → call_of st c s source listener separated found out ≡ given a → (t : Candidate) → Has t a.taps →
    NumberedWalls (on_bytes (planes_for st (triangles s)) source) (order_of_search st) (path_for st (triangles s) s.materials source listener) t
