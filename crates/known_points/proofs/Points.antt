-- The starred known points together.
use Prim.Native.Nat.{ℕ}
use mathlib.Core.Path.{◌≡◌, refl, ap, ◌∙◌}
use mathlib.Core.List.{List, [], ◌∷◌, ◌++◌}
use lib.ListN.{length, drop}
use lib.Ieee.{of_bits, to_bits, round}
use Rattle.bands.specs.Band8.{splat_of}
use Rattle.packet.specs.Bytes.{gain_bytes, taps_bytes}
use Rattle.packet.specs.Tap.{bits_of_gains}
use Rattle.taps.specs.Tap.{sent_tap, packet_of}
use Rattle.claim.specs.Query.{Query}
use Rattle.answer.specs.Answer.{answered_of, output_of}
use Rattle.answer.specs.declared.Answered.{Answered}
use Rattle.query.specs.Areas.{Work, lengths_of}
use Rattle.query.specs.Trace.{work_after, Traced}
use Rattle.sequences.proofs.Points.{table}
use Rattle.known_points.specs.CaseA.{settings, room, floor, source, listener, separated, tap, packet}
use Rattle.known_points.specs.KnownPoints.{KnownPoints, Received, called, Enough}
use Rattle.known_points.proofs.Scene.{not_refused, least_enough}
use Rattle.known_points.proofs.Path.{speed_is}
use Rattle.known_points.proofs.Whole.{case_a, near_plane, off_plane, case_a_image, case_a_bounce}

packet_is : packet_of 1 36 (tap ∷ []) ≡ packet
unfolding sent_tap bits_of_gains gain_bytes taps_bytes splat_of to_bits of_bits round
packet_is = refl

answered : (lens : List ℕ) → Enough lens → answered_of (called source lens) ≡ record { refusal = 0; count = 1; images = 1; rays = 36; bytes = 64 }
answered lens enough =
    ap answered_of (case_a lens enough) ∙ ap (λ (bytes : List ℕ). record { refusal = 0; count = 1; images = 1; rays = 36; bytes = length bytes }) packet_is

put_out : (lens : List ℕ) → Enough lens → (out : List ℕ) → output_of (called source lens) out ≡ packet ++ drop 64 out
put_out lens enough out =
    ap (λ (q : Query). output_of q out) (case_a lens enough) ∙ ap (λ (bytes : List ℕ). bytes ++ drop (length bytes) out) packet_is

received :
    (r : Answered) (out out' : List ℕ) (found left : Work) → Enough (lengths_of found out) →
    Traced settings room floor source listener separated r out out' found left → Received r out out' found left
received r out out' found left enough t =
    record {
      answered = t.answer ∙ answered (lengths_of found out) enough;
      output = t.output ∙ put_out (lengths_of found out) enough out;
      areas = t.areas ∙ ap (λ (k : ℕ). work_after k found) (not_refused (lengths_of found out) enough);
    }

pub known_points : KnownPoints
known_points =
    record {
      case_a = case_a;
      case_a_speed = speed_is;
      case_a_image = case_a_image;
      case_a_bounce = case_a_bounce;
      case_a_caller = received;
      case_a_areas = least_enough;
      near_plane = near_plane;
      off_plane = off_plane;
      counts_and_numbers = table;
    }
