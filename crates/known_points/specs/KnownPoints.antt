-- DOCUMENT 01'S STARRED KNOWN POINTS, as one table. `known_points` of `proofs/Points.antt` is the proof.
use Rattle.std.specs.Prelude.{ℕ, ◌≡◌, false, List, [], ◌∷◌, ◌++◌, drop}
use Rattle.scene.specs.Speed.{speed_of}
use Rattle.scene.specs.Areas.{short_of}
use Rattle.placing.specs.Corners.{triangles}
use Rattle.planes_patches.specs.Triangles.{nth_triangle}
use Rattle.bounces.specs.Image.{image_of}
use Rattle.bounces.specs.Bounces.{made, bounces_of}
use Rattle.claim.specs.Answer.{Answer}
use Rattle.claim.specs.Query.{Query, given}
use Rattle.scene_planes.specs.ScenePlanes.{planes_for}
use Rattle.answer.specs.declared.Answered.{Answered}
use Rattle.query.specs.Areas.{Work, zeroed, lengths_of}
use Rattle.query.specs.Trace.{trace_of, Traced}
use Rattle.sequences.proofs.Points.{Table}
use Rattle.vector.specs.declared.Vec3.{Vec3}
use Rattle.known_points.specs.CaseA.{settings, room, floor, least_lengths, source, listener, separated, near_source, far_source, speed, image, bounce, answer, packet, whole}

-- the whole call of case A, with the source at some place and areas of some lengths
abbrev pub called : Vec3 → List ℕ → Query
called place lens = trace_of settings room floor lens place listener separated

-- areas are long enough for the two triples of the floor and a room of one candidate
abbrev pub Enough : List ℕ → Type 0
Enough lens = short_of 2 room lens ≡ false

-- no refusal, 1 tap, 1 image, 36 rays; the 64 bytes of the packet, and what stood past them in the output area; the work areas zero
pub record Received (r : Answered) (out out' : List ℕ) (found left : Work) : Type 0 where
  pub answered : r ≡ record { refusal = 0; count = 1; images = 1; rays = 36; bytes = 64 }
  pub output : out' ≡ packet ++ drop 64 out
  pub areas : left ≡ zeroed found

pub record KnownPoints : Type 0 where
  -- A: "order 1, number 1, images 1, rays 36", and the delay at 20 degrees
  pub case_a : (lens : List ℕ) → Enough lens → called source lens ≡ given answer
  -- A: "speed the f32 nearest 343.2"
  pub case_a_speed : speed_of settings.temperature_celsius ≡ speed
  -- A: "image (0,−2,0)", the source mirrored in the floor's one plane
  pub case_a_image : image_of (planes_for settings (triangles floor)) source (0 ∷ []) ≡ image
  -- A: "bounce (1.5,0,0)", on triangle 0 and too far inside its border to fade
  pub case_a_bounce :
      bounces_of (nth_triangle (triangles floor)) settings.reflection_edge_fade (planes_for settings (triangles floor)) source listener (0 ∷ [])
      ≡ made (bounce ∷ []) (0 ∷ []) (whole 1)
  -- A, for a caller of `trace_early_reflections`, whose contract is `Traced`
  pub case_a_caller :
      (r : Answered) (out out' : List ℕ) (found left : Work) → Enough (lengths_of found out) →
      Traced settings room floor source listener separated r out out' found left → Received r out out' found left
  -- the least lengths that docs/ gives for the areas are enough
  pub case_a_areas : Enough least_lengths
  -- "In A with source y = 0.00005, images is 0"
  pub near_plane : (lens : List ℕ) → Enough lens → called near_source lens ≡ given (record { images = 0; rays = 0; taps = [] })
  -- "with y = 0.0001, it is 1"
  pub off_plane : (lens : List ℕ) → Enough lens → (a : Answer) × (called far_source lens ≡ given a) × (a.images ≡ 1)
  -- "planes, first allowed, order: images", row by row; "0 1 is number 2, 1 is 32, 5 4 5 is 186"
  pub counts_and_numbers : Table
