-- The call's steps together: the positions that the ranking gives are those of sound rows, what is stored of them reads as the ranked list, and the
-- writer's answer is then the list's packet (`ended`).
use Prim.Native.Nat.{ℕ, suc, ◌*◌, ◌≤◌, ◌<◌}
use mathlib.Core.Path.{◌≡◌, refl, sym, ap, subst, ◌∙◌}
use mathlib.Core.List.{List, [], ◌∷◌, ◌++◌, map}
use native.Mathlib.Omega.{arith}
use lib.ListN.{length, get_or, take, drop, length-append}
use lib.Seq.{sets, take_at, get_or-take}
use lib.Ieee.{Float}
use Rattle.order.specs.Runs.{up_to}
use Rattle.order.proofs.Runs.{in_up_to}
use Rattle.std.specs.Prelude.{Result, Ok}
use Rattle.refusals.specs.declared.Refusal.{Refusal}
use Rattle.packet.specs.Limits.{most_taps, tap_words, area_words, out_bytes}
use Rattle.packet.specs.Tap.{Tap, taps_of, all_words}
use Rattle.packet.specs.Writer.{write_answer, write_out}
use Rattle.ranking.specs.declared.Candidate.{Candidate}
use Rattle.ranking.specs.Candidate.{ranked}
use Rattle.ranking.specs.Rows.{candidate_at, candidates_in, AllRankable, Ranked}
use Rattle.search.proofs.Answers.{map_has}
use Rattle.taps.specs.Tap.{sent_tap, packet_of}
use Rattle.taps.specs.Sendable.{Sendable}
use Rattle.taps.specs.Areas.{taps_at, Pointing}
use Rattle.taps.proofs.Storing.{stored_back}
use Rattle.taps.proofs.Sending.{rankable_of, sent_length, sent_bytes, sent_out}

map_length : (f : ℕ → Candidate) (l : List ℕ) → length (map f l) ≡ length l
map_length f [] = refl
map_length f (x ∷ l) = ap suc (map_length f l)

map_twice : (f : ℕ → Candidate) (l : List ℕ) → map (λ i. sent_tap (f i)) l ≡ map sent_tap (map f l)
map_twice f [] = refl
map_twice f (x ∷ l) = ap (λ (ts : List Tap). sent_tap (f x) ∷ ts) (map_twice f l)

-- rows that can be sent can be ranked
pub sendable_rankable : (images n : ℕ) (fs : List Float) (ws : List ℕ) → Sendable images (candidates_in n fs ws) → AllRankable n fs ws
unfolding AllRankable
sendable_rankable images n fs ws s i h =
    let here = map_has (candidate_at fs ws) i (up_to n) (in_up_to n i h) in
    rankable_of images (candidate_at fs ws i) s.few (s.sound (candidate_at fs ws i) here) (s.placed (candidate_at fs ws i) here)

module _ (speed rate : Float) (limit n images : ℕ) (fs : List Float) (ws kept kept' : List ℕ) (r : ℕ) (few : limit ≤ most_taps) (s : Sendable images (candidates_in n fs ws))
    (k : Ranked speed rate limit n fs ws kept kept' r) where
  abbrev sent : List Candidate
  sent = ranked speed rate limit (candidates_in n fs ws)

  counted : r ≡ length sent
  counted = k.count ∙ sym (map_length (candidate_at fs ws) k.positions) ∙ ap length k.taps

  r_few : r ≤ most_taps
  r_few = let c = counted in let l = sent_length speed rate limit images (candidates_in n fs ws) few s in omega arith

  pub fewer : (taps : List ℕ) → area_words ≤ length taps → r * tap_words ≤ length taps
  fewer taps h = let f = r_few in omega arith

  positions_are : take r kept' ≡ k.positions
  positions_are = ap (take r) k.written ∙ take_at k.positions (drop r kept) r (sym k.count)

  position : (i : ℕ) → i < r → get_or kept' i 0 ≡ get_or k.positions i 0
  position i h = sym (get_or-take r kept' i 0 h) ∙ ap (λ (l : List ℕ). get_or l i 0) positions_are

  pub pointing : Pointing n r fs ws kept'
  pointing =
      let w = ap length k.written ∙ length-append k.positions (drop r kept) in
      let c = k.count in
      record {
        room = omega arith;
        inside = (λ i h. subst (λ (p : ℕ). p < n) (sym (position i h)) (k.inside i h));
        sound = (λ i h. s.sound (candidate_at fs ws i) (map_has (candidate_at fs ws) i (up_to n) (in_up_to n i h)));
      }

  taps_are : taps_at fs ws r kept' ≡ map sent_tap sent
  taps_are = ap (map (λ i. sent_tap (candidate_at fs ws i))) positions_are ∙ map_twice (candidate_at fs ws) k.positions ∙ ap (map sent_tap) k.taps

  module _ (taps taps' : List ℕ) (area : area_words ≤ length taps) (same : length taps' ≡ length taps) (stored : taps' ≡ sets taps 0 (all_words (taps_at fs ws r kept'))) where
    read : taps_of r taps' ≡ map sent_tap sent
    read = ap (taps_of r) (stored ∙ ap (λ (ts : List Tap). sets taps 0 (all_words ts)) taps_are) ∙ stored_back sent r taps counted (fewer taps area)

    module _ (rays : ℕ) (w : Result ℕ Refusal) (out out' : List ℕ) (room : out_bytes ≤ length out) (answer : w ≡ write_answer r images rays taps' out)
        (holds : out' ≡ write_out r images rays taps' out) where
      pub written : w ≡ Ok (length (packet_of images rays sent))
      written = answer ∙ sent_bytes speed rate limit images (candidates_in n fs ws) few s rays r taps' out counted read (omega arith) room

      ended_out : (b : ℕ) → b ≡ length (packet_of images rays sent) → out' ≡ packet_of images rays sent ++ drop b out
      ended_out b e =
          holds ∙ sent_out speed rate limit images (candidates_in n fs ws) few s rays r taps' out counted read (omega arith) room
          ∙ ap (λ (m : ℕ). packet_of images rays sent ++ drop m out) (sym e)

      pub ended : (b : ℕ) → w ≡ Ok b → (r ≡ length sent) × ((b ≡ length (packet_of images rays sent)) × (out' ≡ packet_of images rays sent ++ drop b out))
      ended b e = let n : b ≡ length (packet_of images rays sent) = cc written in (counted, (n, ended_out b n))

-- the lengths of local arrays
pub exactly : {l k : ℕ} → l ≡ k → k ≤ l
exactly e = omega arith

pub within : {l k m : ℕ} → l ≡ k → m ≤ k → m ≤ l
within e h = omega arith
