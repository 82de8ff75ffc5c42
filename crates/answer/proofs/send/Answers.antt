-- `answer::send` meets its contract: the refusal handed in, refusal 7, or the ranked candidates as a packet.
use mathlib.Core.Path.{refl, ap, ◌∙◌}
use Prim.Native.Nat.{ℕ}
use lib.Ieee.{Float}
use Rattle.scene.specs.Speed.{speed_of}
use Rattle.ranking.specs.Rows.{candidates_in}
use Rattle.ranking.specs.Candidate.{ranked}
use Rattle.claim.specs.Query.{Query, ended}
use Rattle.claim.specs.Query as claim
use Rattle.front.specs.Asked.{limit_of}
use Rattle.answer.specs.Answer.{answered_of, output_of}
use Rattle.answer.proofs.Answering.{over_answer, given_answer, sent_answer, by_some, by_none, sends_limit}
use Rattle.answer.proofs.send.Goals as goal

pub returns-then-refusal-ne0 : goal.returns-then-refusal-ne0
returns-then-refusal-ne0 c = let a = c.args in let f = a.found in let st = a.settings in
    let w = claim.search f.images f.rays (candidates_in f.found a.candidate_floats.now a.candidate_words.now) f.over in
    let e = by_some a.refusal (ended (speed_of st.temperature_celsius) st.sample_rate (limit_of st) w) c.if-refusal-ne0.true in
    record { answer = c.refused.ensures ∙ ap answered_of e; output = ap (λ (q : Query). output_of q a.out.now) e }

pub returns-then-found : goal.returns-then-found
returns-then-found c = let a = c.args in let f = a.found in let st = a.settings in
    let cs = candidates_in f.found a.candidate_floats.now a.candidate_words.now in
    let q = ended (speed_of st.temperature_celsius) st.sample_rate (limit_of st) (claim.search f.images f.rays cs f.over) in
    let e = over_answer (speed_of st.temperature_celsius) st.sample_rate (limit_of st) f.images f.rays cs f.over q c.if-found.true refl ∙ by_none a.refusal q c.if-refusal-ne0.false in
    record { answer = c.refused-then-found.ensures ∙ ap answered_of e; output = ap (λ (q : Query). output_of q a.out.now) e }

pub write_taps-p-requires : goal.write_taps-p-requires
write_taps-p-requires c =
    let a = c.args in let f = a.found in
    sends_limit f.found (limit_of a.settings) c.list_limit-limit.result f.images a.candidate_floats.now a.candidate_words.now a.keys.now a.queue.now a.words.now a.scratch.now a.out.now c.list_limit-limit.ensures (c.requires
    c.if-refusal-ne0.false)

pub returns : goal.returns
returns c =
    let a = c.args in let f = a.found in let st = a.settings in let limit = c.list_limit-limit.result in let cs = candidates_in f.found a.candidate_floats.now a.candidate_words.now in
    let w = claim.search f.images f.rays cs f.over in
    let q = ended (speed_of st.temperature_celsius) st.sample_rate (limit_of st) w in
    let e =
    given_answer c.speed_of_sound-speed.result st.sample_rate limit f.images f.rays cs f.over (ended c.speed_of_sound-speed.result st.sample_rate limit w) c.if-found.false refl
    ∙ ap (λ (z : Float). ended z st.sample_rate limit w) c.speed_of_sound-speed.ensures
    ∙ ap (λ (l : ℕ). ended (speed_of st.temperature_celsius) st.sample_rate l w) c.list_limit-limit.ensures
    ∙ by_none a.refusal q c.if-refusal-ne0.false
    in
    let s = sent_answer f.images f.rays (ranked c.speed_of_sound-speed.result st.sample_rate limit cs) c.write_taps-p.result.count c.write_taps-p.result.bytes a.out.now c.write_taps-p.new.out c.write_taps-p.ensures.count c.write_taps-p.ensures.bytes c.write_taps-p.ensures.packet in
    record { answer = s.answer ∙ ap answered_of e; output = s.output ∙ ap (λ (q : Query). output_of q a.out.now) e }

pub refused-requires : goal.refused-requires
refused-requires c = tt

pub refused-requires-then-found : goal.refused-requires-then-found
refused-requires-then-found c = tt

pub list_limit-limit-requires : goal.list_limit-limit-requires
list_limit-limit-requires c = tt

pub speed_of_sound-speed-requires : goal.speed_of_sound-speed-requires
speed_of_sound-speed-requires c = tt
