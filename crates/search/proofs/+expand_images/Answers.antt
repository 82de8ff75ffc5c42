-- `search::expand_images` meets its contract, by the laws of `proofs/Walks.antt`: each turn runs over one plane more, with all that goes on from it.
-- The measure is the order less the depth.
use Prim.Native.Nat.{ℕ, ◌+◌, ◌-◌}
use mathlib.Core.Path.{◌≡◌, refl, sym, ◌∙◌}
use native.Mathlib.Omega.{arith}
use lib.ListN.{length}
use Rattle.std.proofs.Common.{List}
use lib.Ieee.{Float}
use Rattle.sequences.specs.Allowed.{upto}
use Rattle.search.specs.declared.Task.{Task}
use Rattle.search.specs.declared.Tally.{Tally}
use Rattle.search.specs.Contract.{SearchAreas, search_areas, state, Sound, SearchReady, Visitable, Visited}
use Rattle.search.proofs.Walks as law
use Rattle.search.proofs.+expand_images.Goals.{then-too_far, else-too_far}
use Rattle.search.proofs.+expand_images.Goals as goal

-- too far or not, the image was visited, and the candidates' areas keep their lengths
abbrev Seen : SearchAreas → Task → ℕ → List ℕ → Tally → List Float → List ℕ → Tally → List Float → List ℕ → Type 0
Seen S q len seq s fs ws r fs' ws' = Visited S q len seq s fs ws r fs' ws' × (length fs' ≡ length fs) × (length ws' ≡ length ws)

pub loop-p-init : goal.loop-p-init
unfolding upto
loop-p-init t c =
    let a = c.args in (
      omega arith,
      refl,
      refl,
      refl,
      refl,
      law.walked_none (search_areas a.bvh.now a.materials.now a.planes.now) a.q a.depth (state a.seq.now a.images.now a.t)
          a.candidate_floats.now a.candidate_words.now c.requires.sound,
    )

pub loop-p-preserved-then-q-s : goal.loop-p-preserved-then-q-s
loop-p-preserved-then-q-s t c =
    let a = c.args in
    let pre = c.requires in
    let S : SearchAreas = (search_areas a.bvh.now a.materials.now a.planes.now) in (
      omega (arith, c.loop-p-test.true),
      c.loop-p.invariant.1,
      c.loop-p.invariant.2,
      c.loop-p.invariant.3,
      c.loop-p.invariant.4,
      law.walked_more S a.q a.depth (a.q.order - (a.depth + 1)) c.loop-p.p c.loop-p.invariant.5
          (law.walked_full S a.q a.depth _ (state c.loop-p.seq c.loop-p.images c.loop-p.s) c.loop-p.candidate_floats c.loop-p.candidate_words c.if-q-s.true c.loop-p.invariant.5.sound),
    )

pub may-requires : goal.may-requires
may-requires t c =
    let a = c.args in
    let pre = c.requires in
    let S : SearchAreas = (search_areas a.bvh.now a.materials.now a.planes.now) in
    let h = pre.lent.planes.held in record {
      depth_in_bounds = (omega (arith, pre.deep, pre.within, c.loop-p.invariant.5.sound.seq_room), c.loop-p-test.true);
      count_in_bounds = (h.floats_room, h.words_room);
    }

pub push-requires : goal.push-requires
push-requires t c =
    let a = c.args in
    let pre = c.requires in
    let S : SearchAreas = (search_areas a.bvh.now a.materials.now a.planes.now) in
    let h = pre.lent.planes.held in record {
      depth_in_bounds = (omega (arith, pre.deep, pre.within, c.loop-p.invariant.5.sound.seq_room), omega (arith, pre.deep, pre.within, c.loop-p.invariant.5.sound.images_room), c.loop-p-test.true, pre.small);
      count_in_bounds = (h.floats_room, h.words_room);
    }

pub visit-s-requires : goal.visit-s-requires
visit-s-requires t c =
    let a = c.args in
    let pre = c.requires in
    let S : SearchAreas = (search_areas a.bvh.now a.materials.now a.planes.now) in
    let r : SearchReady S a.q a.depth (state c.loop-p.seq c.loop-p.images c.loop-p.s) c.loop-p.candidate_floats c.loop-p.candidate_words =
    law.ready_same S a.q a.depth a.depth (state a.seq.now a.images.now a.t) (state c.loop-p.seq c.loop-p.images c.loop-p.s) a.candidate_floats.now c.loop-p.candidate_floats a.candidate_words.now c.loop-p.candidate_words pre pre.deep c.loop-p.invariant.3 c.loop-p.invariant.4 c.loop-p.invariant.5.sound in
    law.visitable_push S a.q a.depth c.loop-p.p c.loop-p.seq c.push.new.seq c.loop-p.images c.push.new.images c.loop-p.s c.push.ensures.seq_after (c.push.ensures.by_index a.planes.now.members.now a.planes.now.edges.now) c.loop-p.candidate_floats c.loop-p.candidate_words r
    c.loop-p-test.true c.if-q-s.false

pub loop-p-preserved-then-depth-q : goal.loop-p-preserved-then-depth-q
loop-p-preserved-then-depth-q t c =
    let a = c.args in
    let pre = c.requires in
    let S : SearchAreas = (search_areas a.bvh.now a.materials.now a.planes.now) in
    let r : SearchReady S a.q a.depth (state c.loop-p.seq c.loop-p.images c.loop-p.s) c.loop-p.candidate_floats c.loop-p.candidate_words =
    law.ready_same S a.q a.depth a.depth (state a.seq.now a.images.now a.t) (state c.loop-p.seq c.loop-p.images c.loop-p.s) a.candidate_floats.now c.loop-p.candidate_floats a.candidate_words.now c.loop-p.candidate_words pre pre.deep c.loop-p.invariant.3 c.loop-p.invariant.4 c.loop-p.invariant.5.sound in
    let v : Visitable S a.q (a.depth + 1) (state c.push.new.seq c.push.new.images c.loop-p.s) c.loop-p.candidate_floats c.loop-p.candidate_words = law.visitable_push S a.q a.depth c.loop-p.p c.loop-p.seq
    c.push.new.seq c.loop-p.images c.push.new.images c.loop-p.s c.push.ensures.seq_after (c.push.ensures.by_index
    a.planes.now.members.now a.planes.now.edges.now) c.loop-p.candidate_floats c.loop-p.candidate_words r c.loop-p-test.true c.if-q-s.false in
    let j : Seen S a.q (a.depth + 1) c.push.new.seq c.loop-p.s c.loop-p.candidate_floats c.loop-p.candidate_words c.if-too_far.s c.if-too_far.candidate_floats c.if-too_far.candidate_words =
    elim c.if-too_far.branch [
      | then-too_far w ↦
          rw (w.s-is, w.candidate_floats-is, w.candidate_words-is, w.passed_over-s.ensures)
          (law.visited_far S a.q (a.depth + 1) c.push.new.seq c.push.new.images c.loop-p.s c.loop-p.candidate_floats c.loop-p.candidate_words v.within v.sound v.far (sym c.too_far.ensures ∙ w.if-too_far.true), refl, refl)
      | else-too_far w ↦ rw (w.s-is, w.candidate_floats-is, w.candidate_words-is) (w.visit-s.ensures, w.visit-s.auto.candidate_floats, w.visit-s.auto.candidate_words)
    ] in
    let sound : Sound S a.q (a.depth + 1) (state c.push.new.seq c.push.new.images c.if-too_far.s) =
    law.sound_visit S a.q (a.depth + 1) c.push.new.seq c.push.new.images c.loop-p.s c.if-too_far.s c.loop-p.candidate_floats c.if-too_far.candidate_floats
    c.loop-p.candidate_words c.if-too_far.candidate_words j.0 v.sound in (
      omega (arith, c.loop-p-test.true),
      c.push.auto.seq ∙ c.loop-p.invariant.1,
      c.push.auto.images ∙ c.loop-p.invariant.2,
      j.1 ∙ c.loop-p.invariant.3,
      j.2 ∙ c.loop-p.invariant.4,
      law.walked_more S a.q a.depth (a.q.order - (a.depth + 1)) c.loop-p.p c.loop-p.invariant.5
          (law.walked_last S a.q a.depth (a.q.order - (a.depth + 1)) c.loop-p.p c.loop-p.seq c.push.new.seq c.loop-p.images c.push.new.images c.loop-p.s c.if-too_far.s c.loop-p.candidate_floats
          c.if-too_far.candidate_floats c.loop-p.candidate_words c.if-too_far.candidate_words c.if-q-s.false (omega
          (arith, pre.deep, pre.within)) r.sound.seq_room (sym (c.may.ensures a.planes.now.members.now a.planes.now.edges.now) ∙ c.if-not-may.false) c.push.ensures.seq_after
          j.0 sound (omega (arith, c.if-depth-q.true))),
    )

pub last_planes-s-requires : goal.last_planes-s-requires
last_planes-s-requires t c =
    let a = c.args in
    let pre = c.requires in
    let S : SearchAreas = (search_areas a.bvh.now a.materials.now a.planes.now) in
    let r : SearchReady S a.q a.depth (state c.loop-p.seq c.loop-p.images c.loop-p.s) c.loop-p.candidate_floats c.loop-p.candidate_words =
    law.ready_same S a.q a.depth a.depth (state a.seq.now a.images.now a.t) (state c.loop-p.seq c.loop-p.images c.loop-p.s) a.candidate_floats.now c.loop-p.candidate_floats a.candidate_words.now c.loop-p.candidate_words pre pre.deep c.loop-p.invariant.3 c.loop-p.invariant.4 c.loop-p.invariant.5.sound in
    let v : Visitable S a.q (a.depth + 1) (state c.push.new.seq c.push.new.images c.loop-p.s)
    c.loop-p.candidate_floats c.loop-p.candidate_words = law.visitable_push S a.q a.depth c.loop-p.p c.loop-p.seq c.push.new.seq c.loop-p.images c.push.new.images c.loop-p.s c.push.ensures.seq_after (c.push.ensures.by_index
    a.planes.now.members.now a.planes.now.edges.now) c.loop-p.candidate_floats c.loop-p.candidate_words r c.loop-p-test.true
    c.if-q-s.false in
    let j : Seen S a.q (a.depth + 1) c.push.new.seq c.loop-p.s c.loop-p.candidate_floats c.loop-p.candidate_words c.if-too_far.s c.if-too_far.candidate_floats c.if-too_far.candidate_words =
    elim c.if-too_far.branch [
      | then-too_far w ↦
          rw (w.s-is, w.candidate_floats-is, w.candidate_words-is, w.passed_over-s.ensures)
          (law.visited_far S a.q (a.depth + 1) c.push.new.seq c.push.new.images c.loop-p.s c.loop-p.candidate_floats c.loop-p.candidate_words v.within v.sound v.far (sym c.too_far.ensures ∙ w.if-too_far.true), refl, refl)
      | else-too_far w ↦ rw (w.s-is, w.candidate_floats-is, w.candidate_words-is) (w.visit-s.ensures, w.visit-s.auto.candidate_floats, w.visit-s.auto.candidate_words)
    ] in
    let sound : Sound S a.q (a.depth + 1) (state c.push.new.seq c.push.new.images c.if-too_far.s) =
    law.sound_visit S a.q (a.depth + 1) c.push.new.seq c.push.new.images c.loop-p.s c.if-too_far.s c.loop-p.candidate_floats c.if-too_far.candidate_floats c.loop-p.candidate_words c.if-too_far.candidate_words j.0 v.sound in record {
      depth_value = omega (arith, c.if-depth-q-2.true);
      search_ready = law.ready_same S a.q a.depth (a.depth + 1) (state c.loop-p.seq c.loop-p.images c.loop-p.s) (state c.push.new.seq c.push.new.images c.if-too_far.s) c.loop-p.candidate_floats c.if-too_far.candidate_floats c.loop-p.candidate_words c.if-too_far.candidate_words r (omega
          (arith, c.if-depth-q-2.true)) j.1 j.2 sound;
    }

pub loop-p-preserved-then-depth-q-2 : goal.loop-p-preserved-then-depth-q-2
loop-p-preserved-then-depth-q-2 t c =
    let a = c.args in
    let pre = c.requires in
    let S : SearchAreas = (search_areas a.bvh.now a.materials.now a.planes.now) in
    let r : SearchReady S a.q a.depth (state c.loop-p.seq c.loop-p.images c.loop-p.s) c.loop-p.candidate_floats c.loop-p.candidate_words =
    law.ready_same S a.q a.depth a.depth (state a.seq.now a.images.now a.t) (state c.loop-p.seq c.loop-p.images c.loop-p.s) a.candidate_floats.now c.loop-p.candidate_floats a.candidate_words.now c.loop-p.candidate_words pre pre.deep c.loop-p.invariant.3 c.loop-p.invariant.4 c.loop-p.invariant.5.sound in
    let v : Visitable S a.q (a.depth + 1) (state c.push.new.seq c.push.new.images c.loop-p.s) c.loop-p.candidate_floats c.loop-p.candidate_words =
    law.visitable_push S a.q a.depth c.loop-p.p c.loop-p.seq c.push.new.seq c.loop-p.images c.push.new.images c.loop-p.s c.push.ensures.seq_after (c.push.ensures.by_index a.planes.now.members.now a.planes.now.edges.now) c.loop-p.candidate_floats c.loop-p.candidate_words r c.loop-p-test.true c.if-q-s.false in
    let j : Seen S a.q (a.depth + 1) c.push.new.seq c.loop-p.s c.loop-p.candidate_floats c.loop-p.candidate_words c.if-too_far.s c.if-too_far.candidate_floats c.if-too_far.candidate_words =
    elim c.if-too_far.branch [
      | then-too_far w ↦
          rw (w.s-is, w.candidate_floats-is, w.candidate_words-is, w.passed_over-s.ensures)
          (law.visited_far S a.q (a.depth + 1) c.push.new.seq c.push.new.images c.loop-p.s c.loop-p.candidate_floats c.loop-p.candidate_words v.within v.sound v.far (sym c.too_far.ensures ∙ w.if-too_far.true), refl, refl)
      | else-too_far w ↦ rw (w.s-is, w.candidate_floats-is, w.candidate_words-is) (w.visit-s.ensures, w.visit-s.auto.candidate_floats, w.visit-s.auto.candidate_words)
    ] in (
      omega (arith, c.loop-p-test.true),
      c.last_planes-s.auto.seq ∙ c.push.auto.seq ∙ c.loop-p.invariant.1,
      c.last_planes-s.auto.images ∙ c.push.auto.images ∙ c.loop-p.invariant.2,
      c.last_planes-s.auto.candidate_floats ∙ j.1 ∙ c.loop-p.invariant.3,
      c.last_planes-s.auto.candidate_words ∙ j.2 ∙ c.loop-p.invariant.4,
      law.walked_more S a.q a.depth (a.q.order - (a.depth + 1)) c.loop-p.p c.loop-p.invariant.5
          (law.walked_visit S a.q a.depth (a.q.order - (a.depth + 1)) c.loop-p.p c.loop-p.seq c.push.new.seq c.loop-p.images c.push.new.images c.loop-p.s c.if-too_far.s (state c.last_planes-s.new.seq c.last_planes-s.new.images c.last_planes-s.result)
          c.loop-p.candidate_floats c.if-too_far.candidate_floats c.last_planes-s.new.candidate_floats c.loop-p.candidate_words c.if-too_far.candidate_words c.last_planes-s.new.candidate_words
          c.if-q-s.false (omega (arith, pre.deep, pre.within)) r.sound.seq_room (sym
          (c.may.ensures a.planes.now.members.now a.planes.now.edges.now)
          ∙ c.if-not-may.false) c.push.ensures.seq_after j.0 c.last_planes-s.ensures),
    )

pub expand_images-s-requires : goal.expand_images-s-requires
expand_images-s-requires t c =
    let a = c.args in
    let pre = c.requires in
    let S : SearchAreas = (search_areas a.bvh.now a.materials.now a.planes.now) in
    let r : SearchReady S a.q a.depth (state c.loop-p.seq c.loop-p.images c.loop-p.s) c.loop-p.candidate_floats c.loop-p.candidate_words =
    law.ready_same S a.q a.depth a.depth (state a.seq.now a.images.now a.t) (state c.loop-p.seq c.loop-p.images c.loop-p.s) a.candidate_floats.now c.loop-p.candidate_floats a.candidate_words.now c.loop-p.candidate_words pre pre.deep c.loop-p.invariant.3 c.loop-p.invariant.4 c.loop-p.invariant.5.sound in
    let v : Visitable S a.q (a.depth + 1) (state c.push.new.seq c.push.new.images c.loop-p.s)
    c.loop-p.candidate_floats c.loop-p.candidate_words = law.visitable_push S a.q a.depth c.loop-p.p c.loop-p.seq c.push.new.seq c.loop-p.images c.push.new.images c.loop-p.s c.push.ensures.seq_after (c.push.ensures.by_index
    a.planes.now.members.now a.planes.now.edges.now) c.loop-p.candidate_floats c.loop-p.candidate_words r c.loop-p-test.true
    c.if-q-s.false in
    let j : Seen S a.q (a.depth + 1) c.push.new.seq c.loop-p.s c.loop-p.candidate_floats c.loop-p.candidate_words c.if-too_far.s c.if-too_far.candidate_floats c.if-too_far.candidate_words =
    elim c.if-too_far.branch [
      | then-too_far w ↦
          rw (w.s-is, w.candidate_floats-is, w.candidate_words-is, w.passed_over-s.ensures)
          (law.visited_far S a.q (a.depth + 1) c.push.new.seq c.push.new.images c.loop-p.s c.loop-p.candidate_floats c.loop-p.candidate_words v.within v.sound v.far (sym c.too_far.ensures ∙ w.if-too_far.true), refl, refl)
      | else-too_far w ↦ rw (w.s-is, w.candidate_floats-is, w.candidate_words-is) (w.visit-s.ensures, w.visit-s.auto.candidate_floats, w.visit-s.auto.candidate_words)
    ] in
    let sound : Sound S a.q (a.depth + 1) (state c.push.new.seq c.push.new.images c.if-too_far.s) =
    law.sound_visit S a.q (a.depth + 1) c.push.new.seq c.push.new.images c.loop-p.s c.if-too_far.s c.loop-p.candidate_floats c.if-too_far.candidate_floats c.loop-p.candidate_words c.if-too_far.candidate_words j.0 v.sound in (
      omega (arith, pre.deep),
      law.ready_same S a.q a.depth (a.depth + 1) (state c.loop-p.seq c.loop-p.images c.loop-p.s) (state c.push.new.seq c.push.new.images c.if-too_far.s) c.loop-p.candidate_floats c.if-too_far.candidate_floats c.loop-p.candidate_words c.if-too_far.candidate_words r (omega
          (arith, pre.deep, c.if-depth-q.false)) j.1 j.2 sound,
    )

pub loop-p-preserved : goal.loop-p-preserved
loop-p-preserved t c =
    let a = c.args in
    let pre = c.requires in
    let S : SearchAreas = (search_areas a.bvh.now a.materials.now a.planes.now) in
    let r : SearchReady S a.q a.depth (state c.loop-p.seq c.loop-p.images c.loop-p.s) c.loop-p.candidate_floats c.loop-p.candidate_words =
    law.ready_same S a.q a.depth a.depth (state a.seq.now a.images.now a.t) (state c.loop-p.seq c.loop-p.images c.loop-p.s) a.candidate_floats.now c.loop-p.candidate_floats a.candidate_words.now c.loop-p.candidate_words pre pre.deep c.loop-p.invariant.3 c.loop-p.invariant.4 c.loop-p.invariant.5.sound in
    let v : Visitable S a.q (a.depth + 1) (state c.push.new.seq c.push.new.images c.loop-p.s) c.loop-p.candidate_floats c.loop-p.candidate_words =
    law.visitable_push S a.q a.depth c.loop-p.p c.loop-p.seq c.push.new.seq c.loop-p.images c.push.new.images c.loop-p.s c.push.ensures.seq_after (c.push.ensures.by_index a.planes.now.members.now a.planes.now.edges.now) c.loop-p.candidate_floats c.loop-p.candidate_words r c.loop-p-test.true c.if-q-s.false in
    let j : Seen S a.q (a.depth + 1) c.push.new.seq c.loop-p.s c.loop-p.candidate_floats c.loop-p.candidate_words c.if-too_far.s c.if-too_far.candidate_floats c.if-too_far.candidate_words =
    elim c.if-too_far.branch [
      | then-too_far w ↦
          rw (w.s-is, w.candidate_floats-is, w.candidate_words-is, w.passed_over-s.ensures)
          (law.visited_far S a.q (a.depth + 1) c.push.new.seq c.push.new.images c.loop-p.s c.loop-p.candidate_floats c.loop-p.candidate_words v.within v.sound v.far (sym c.too_far.ensures ∙ w.if-too_far.true), refl, refl)
      | else-too_far w ↦ rw (w.s-is, w.candidate_floats-is, w.candidate_words-is) (w.visit-s.ensures, w.visit-s.auto.candidate_floats, w.visit-s.auto.candidate_words)
    ] in (
      omega (arith, c.loop-p-test.true),
      c.expand_images-s.auto.seq ∙ c.push.auto.seq ∙ c.loop-p.invariant.1,
      c.expand_images-s.auto.images ∙ c.push.auto.images ∙ c.loop-p.invariant.2,
      c.expand_images-s.auto.candidate_floats ∙ j.1 ∙ c.loop-p.invariant.3,
      c.expand_images-s.auto.candidate_words ∙ j.2 ∙ c.loop-p.invariant.4,
      law.walked_more S a.q a.depth (a.q.order - (a.depth + 1)) c.loop-p.p c.loop-p.invariant.5
          (law.walked_visit S a.q a.depth (a.q.order - (a.depth + 1)) c.loop-p.p c.loop-p.seq c.push.new.seq c.loop-p.images c.push.new.images c.loop-p.s c.if-too_far.s (state c.expand_images-s.new.seq c.expand_images-s.new.images
          c.expand_images-s.result) c.loop-p.candidate_floats c.if-too_far.candidate_floats c.expand_images-s.new.candidate_floats c.loop-p.candidate_words c.if-too_far.candidate_words c.expand_images-s.new.candidate_words
          c.if-q-s.false (omega (arith, pre.deep, pre.within)) r.sound.seq_room (sym
          (c.may.ensures a.planes.now.members.now a.planes.now.edges.now)
          ∙ c.if-not-may.false) c.push.ensures.seq_after j.0 c.expand_images-s.ensures),
    )

pub loop-p-preserved-then-not-may : goal.loop-p-preserved-then-not-may
loop-p-preserved-then-not-may t c =
    let a = c.args in
    let pre = c.requires in
    let S : SearchAreas = (search_areas a.bvh.now a.materials.now a.planes.now) in (
      omega (arith, c.loop-p-test.true),
      c.loop-p.invariant.1,
      c.loop-p.invariant.2,
      c.loop-p.invariant.3,
      c.loop-p.invariant.4,
      law.walked_more S a.q a.depth (a.q.order - (a.depth + 1)) c.loop-p.p c.loop-p.invariant.5
          (law.walked_not S a.q a.depth (a.q.order - (a.depth + 1)) c.loop-p.p (state c.loop-p.seq c.loop-p.images c.loop-p.s) c.loop-p.candidate_floats c.loop-p.candidate_words (sym (c.may.ensures a.planes.now.members.now a.planes.now.edges.now) ∙ c.if-not-may.true) c.loop-p.invariant.5.sound),
    )

pub returns : goal.returns
returns t c =
    let a = c.args in
    let pre = c.requires in
    let S : SearchAreas = (search_areas a.bvh.now a.materials.now a.planes.now) in
    let e : c.loop-p.p ≡ a.planes.now.count = omega (arith, c.loop-p-test.false, c.loop-p.invariant.0) in
    law.walked_all S a.q a.depth c.loop-p.p pre.deep (e ∙ sym (law.firsts_length S a.q)) c.loop-p.invariant.5
