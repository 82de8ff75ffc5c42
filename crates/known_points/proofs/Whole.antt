-- Case A, the stages together: the whole call.
use Prim.Native.Nat.{ℕ}
use mathlib.Core.Path.{◌≡◌, refl, ap, ◌∙◌}
use mathlib.Core.Bool.{false}
use mathlib.Core.List.{List, [], ◌∷◌}
use lib.ListN.{length}
use lib.Ieee.{add, sub, mul, neg, lt, eq, of_bits, round}
use Rattle.scene.specs.Speed.{speed_of}
use Rattle.float.specs.Compare.{abs_of, is_finite}
use Rattle.vector.specs.declared.Vec3.{Vec3}
use Rattle.vector.specs.Vector.{dot3_of}
use Rattle.geometry.specs.declared.Triangle.{Triangle}
use Rattle.tree_build.specs.Tree.{Tree}
use Rattle.planes_patches.specs.Triangles.{nth_triangle}
use Rattle.planes_buried.specs.Probe.{probe_of}
use Rattle.mirror.specs.Plane.{Plane}
use Rattle.mirror.specs.Mirror.{signed_distance_of}
use Rattle.placing.specs.Corners.{triangles}
use Rattle.planes.specs.Build.{plane_settings, planes_of_triangles}
use Rattle.scene_bvh.specs.SceneTree.{tree_of}
use Rattle.bounces.specs.Image.{lies_on_of, image_of}
use Rattle.bounces.specs.Bounces.{made, bounces_of}
use Rattle.paths.specs.Path.{path_of}
use Rattle.sequences.specs.Allowed.{visited}
use Rattle.claim.specs.Answer.{Answer, passes}
use Rattle.claim.specs.Query.{given}
use Rattle.search.specs.Outcome.{on_bytes, outcome_of}
use Rattle.scene_planes.specs.ScenePlanes.{planes_for}
use Rattle.answer.specs.Query.{path_for}
use Rattle.front.specs.Asked.{is_finite_point, silent_of, used_order}
use Rattle.answer.specs.Answer.{query_for, by_refusal}
use Rattle.query.specs.Trace.{query_in}
use Rattle.known_points.specs.CaseA.{settings, room, floor, materials, source, listener, separated, near_source, far_source, image, bounce, answer, whole}
use Rattle.known_points.specs.KnownPoints.{called, Enough}
use Rattle.known_points.proofs.Scene.{two, triangles_are, not_refused}
use Rattle.known_points.proofs.Tree.{tree_is}
use Rattle.known_points.proofs.Planes.{plane, planes_are}
use Rattle.known_points.proofs.Path.{found, tap_is, path_is, image_is, bounces_are}
use Rattle.known_points.proofs.Search.{one_seen, none_seen, one_passes, nothing_seen, one_image}

planes_for_lem : planes_for settings two ≡ plane ∷ []
unfolding planes_for
planes_for_lem = ap (λ (t : Tree). planes_of_triangles (plane_settings settings) (probe_of (nth_triangle two) t) two) tree_is ∙ planes_are

-- ---- which planes may come first

first_allowed : on_bytes (plane ∷ []) source ≡ 0 ∷ []
unfolding on_bytes lies_on_of signed_distance_of dot3_of abs_of add sub mul neg lt eq of_bits round
first_allowed = refl

near_on : on_bytes (plane ∷ []) near_source ≡ 1 ∷ []
unfolding on_bytes lies_on_of signed_distance_of dot3_of abs_of add sub mul neg lt eq of_bits round
near_on = refl

far_allowed : on_bytes (plane ∷ []) far_source ≡ 0 ∷ []
unfolding on_bytes lies_on_of signed_distance_of dot3_of abs_of add sub mul neg lt eq of_bits round
far_allowed = refl

-- the sequences that are visited
seen_from : (place : Vec3) (on : List ℕ) (seen : List (List ℕ)) → on_bytes (plane ∷ []) place ≡ on → visited on 3 ≡ seen → visited (on_bytes (planes_for settings two) place) 3 ≡ seen
seen_from place on seen h k = ap (λ (ps : List Plane). visited (on_bytes ps place) 3) planes_for_lem ∙ ap (λ (l : List ℕ). visited l 3) h ∙ k

-- ---- the path of the one sequence

path_for_lem : path_for settings two materials source listener (0 ∷ []) ≡ passes 36 found
unfolding outcome_of
path_for_lem =
    ap (λ (ps : List Plane). outcome_of (path_of settings ps (nth_triangle two) (tree_of two) materials source listener (0 ∷ []))) planes_for_lem
    ∙ ap (λ (t : Tree). outcome_of (path_of settings (plane ∷ []) (nth_triangle two) t materials source listener (0 ∷ []))) tree_is
    ∙ ap outcome_of path_is

-- ---- the query over the two triangles

query_a : query_for settings two materials source listener 3 room 16 ≡ given answer
query_a =
    one_passes (on_bytes (planes_for settings two) source) 3 (speed_of settings.temperature_celsius) settings.sample_rate (path_for settings two materials source listener) 36 found
    (seen_from source (0 ∷ []) ((0 ∷ []) ∷ []) first_allowed one_seen) path_for_lem
    ∙ ap (λ t. given (record { images = 1; rays = 36; taps = t ∷ [] })) tap_is

query_near : query_for settings two materials near_source listener 3 room 16 ≡ given (record { images = 0; rays = 0; taps = [] })
query_near =
    nothing_seen (on_bytes (planes_for settings two) near_source) 3 (speed_of settings.temperature_celsius) settings.sample_rate 15 (path_for settings two materials near_source listener)
    (seen_from near_source (1 ∷ []) [] near_on none_seen)

query_far : (a : Answer) × (query_for settings two materials far_source listener 3 room 16 ≡ given a) × (a.images ≡ 1)
query_far =
    one_image (on_bytes (planes_for settings two) far_source) 3 (speed_of settings.temperature_celsius) settings.sample_rate 16 (path_for settings two materials far_source listener)
    (seen_from far_source (0 ∷ []) ((0 ∷ []) ∷ []) far_allowed one_seen)

-- ---- the call

-- the search is not silent
heard : silent_of separated source listener 2 ≡ false
unfolding silent_of is_finite_point is_finite of_bits round
heard = refl

near_heard : silent_of separated near_source listener 2 ≡ false
unfolding silent_of is_finite_point is_finite of_bits round
near_heard = refl

far_heard : silent_of separated far_source listener 2 ≡ false
unfolding silent_of is_finite_point is_finite of_bits round
far_heard = refl

-- the query of the floor is that over its two triangles
query_of_lem : (place : Vec3) → silent_of separated place listener 2 ≡ false → query_in settings room floor place listener separated ≡ query_for settings two materials place listener 3 room 16
query_of_lem place h =
    ap (λ (ts : List Triangle). query_for settings ts materials place listener (used_order (silent_of separated place listener (length ts)) 3) room 16) triangles_are
    ∙ ap (λ b. query_for settings two materials place listener (used_order b 3) room 16) h

called_is : (place : Vec3) (lens : List ℕ) → Enough lens → silent_of separated place listener 2 ≡ false → called place lens ≡ query_for settings two materials place listener 3 room 16
called_is place lens enough h = ap (λ k. by_refusal k (query_in settings room floor place listener separated)) (not_refused lens enough) ∙ query_of_lem place h

pub case_a : (lens : List ℕ) → Enough lens → called source lens ≡ given answer
case_a lens enough = called_is source lens enough heard ∙ query_a

pub near_plane : (lens : List ℕ) → Enough lens → called near_source lens ≡ given (record { images = 0; rays = 0; taps = [] })
near_plane lens enough = called_is near_source lens enough near_heard ∙ query_near

pub off_plane : (lens : List ℕ) → Enough lens → (a : Answer) × (called far_source lens ≡ given a) × (a.images ≡ 1)
off_plane lens enough = (query_far.0, called_is far_source lens enough far_heard ∙ query_far.1, query_far.2)

-- ---- the image and the bounce, of the scene

scene_planes : planes_for settings (triangles floor) ≡ plane ∷ []
scene_planes = ap (planes_for settings) triangles_are ∙ planes_for_lem

pub case_a_image : image_of (planes_for settings (triangles floor)) source (0 ∷ []) ≡ image
case_a_image = ap (λ (ps : List Plane). image_of ps source (0 ∷ [])) scene_planes ∙ image_is

pub case_a_bounce :
    bounces_of (nth_triangle (triangles floor)) settings.reflection_edge_fade (planes_for settings (triangles floor)) source listener (0 ∷ [])
    ≡ made (bounce ∷ []) (0 ∷ []) (whole 1)
unfolding of_bits round
case_a_bounce =
    ap (λ (ts : List Triangle). bounces_of (nth_triangle ts) settings.reflection_edge_fade (planes_for settings (triangles floor)) source listener (0 ∷ [])) triangles_are
    ∙ ap (λ (ps : List Plane). bounces_of (nth_triangle two) settings.reflection_edge_fade ps source listener (0 ∷ [])) scene_planes
    ∙ bounces_are
