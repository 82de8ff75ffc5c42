-- `search::last_planes` meets its contract: the planes up to the next near one were run over, then that one is (`proofs/Walks.antt`).
use Prim.Native.Nat.{◌+◌, ◌-◌, ◌<◌}
use mathlib.Core.Path.{◌≡◌, refl, sym, ◌∙◌}
use native.Mathlib.Omega.{arith}
use lib.ListN.{take}
use Rattle.sequences.specs.Allowed.{upto, at}
use Rattle.search.specs.Contract.{SearchAreas, search_areas, state, firsts_of, SearchReady, Visitable, Visited, Walked, Skipped}
use Rattle.search.proofs.Walks as law
use Rattle.search.proofs.last_planes.Goals as goal

pub loop-p-init : goal.loop-p-init
unfolding upto
loop-p-init c =
    let a = c.args in (
      omega arith,
      refl,
      refl,
      refl,
      refl,
      law.walked_none (search_areas a.bvh.now a.materials.now a.planes.now) a.q a.depth (state a.seq.now a.images.now a.t)
          a.candidate_floats.now a.candidate_words.now c.requires.search_ready.sound,
    )

pub next_near-next-requires : goal.next_near-next-requires
next_near-next-requires c = let pre = c.requires.search_ready in
    let h = pre.lent.planes.held in record {
      depth_in_bounds = (omega (arith, pre.deep, pre.within, c.loop-p.invariant.5.sound.seq_room), omega (arith, pre.deep, pre.within, c.loop-p.invariant.5.sound.images_room), c.loop-p.invariant.0, pre.bound);
      count_in_bounds = (h.floats_room, h.words_room);
    }

pub shape_of-seq-then-at-planes : goal.shape_of-seq-then-at-planes
shape_of-seq-then-at-planes c = c.loop-p.invariant.1

pub shape_of-images-then-at-planes : goal.shape_of-images-then-at-planes
shape_of-images-then-at-planes c = c.loop-p.invariant.2

pub shape_of-candidate_floats-then-at-planes : goal.shape_of-candidate_floats-then-at-planes
shape_of-candidate_floats-then-at-planes c = c.loop-p.invariant.3

pub shape_of-candidate_words-then-at-planes : goal.shape_of-candidate_words-then-at-planes
shape_of-candidate_words-then-at-planes c = c.loop-p.invariant.4

pub returns-then-at-planes : goal.returns-then-at-planes
returns-then-at-planes c =
    let a = c.args in
    let pre = c.requires in
    let S : SearchAreas = (search_areas a.bvh.now a.materials.now a.planes.now) in
    let r : SearchReady S a.q a.depth (state c.loop-p.seq c.loop-p.images c.loop-p.s) c.loop-p.candidate_floats c.loop-p.candidate_words =
    law.ready_same S a.q a.depth a.depth (state a.seq.now a.images.now a.t) (state c.loop-p.seq c.loop-p.images c.loop-p.s) a.candidate_floats.now c.loop-p.candidate_floats a.candidate_words.now c.loop-p.candidate_words pre.search_ready pre.search_ready.deep c.loop-p.invariant.3 c.loop-p.invariant.4 c.loop-p.invariant.5.sound in
    let k : Skipped S a.q a.depth c.loop-p.seq c.loop-p.images c.loop-p.p c.loop-p.s c.next_near-next.result.plane c.next_near-next.result.tally =
    c.next_near-next.ensures a.bvh.now a.materials.now in
    let w : Walked S a.q a.depth (upto (at (firsts_of S a.q) (a.q.order - (a.depth + 1)) (take a.depth a.seq.now)) c.next_near-next.result.plane) (state a.seq.now a.images.now a.t) a.candidate_floats.now a.candidate_words.now (state c.loop-p.seq c.loop-p.images c.next_near-next.result.tally)
    c.loop-p.candidate_floats c.loop-p.candidate_words =
    k.skips.walked (state a.seq.now a.images.now a.t) a.candidate_floats.now a.candidate_words.now c.loop-p.candidate_floats c.loop-p.candidate_words r pre.depth_value c.loop-p.invariant.5 in
    law.walked_all S a.q a.depth c.next_near-next.result.plane pre.search_ready.deep (c.if-at-planes.true ∙ sym (law.firsts_length S a.q)) w

pub overflow_add-p : goal.overflow_add-p
overflow_add-p c =
    let a = c.args in
    let pre = c.requires in
    let S : SearchAreas = (search_areas a.bvh.now a.materials.now a.planes.now) in
    let k : Skipped S a.q a.depth c.loop-p.seq c.loop-p.images c.loop-p.p c.loop-p.s c.next_near-next.result.plane c.next_near-next.result.tally =
    c.next_near-next.ensures a.bvh.now a.materials.now in
    omega (arith, k.within, c.if-at-planes.false, pre.search_ready.small)

pub push-requires : goal.push-requires
push-requires c =
    let a = c.args in
    let pre = c.requires in
    let S : SearchAreas = (search_areas a.bvh.now a.materials.now a.planes.now) in
    let k : Skipped S a.q a.depth c.loop-p.seq c.loop-p.images c.loop-p.p c.loop-p.s c.next_near-next.result.plane c.next_near-next.result.tally =
    c.next_near-next.ensures a.bvh.now a.materials.now in
    let d = pre.search_ready.deep in
    let w = pre.search_ready.within in
    let h = pre.search_ready.lent.planes.held in record {
      depth_in_bounds = (omega (arith, d, w, c.loop-p.invariant.5.sound.seq_room), omega (arith, d, w, c.loop-p.invariant.5.sound.images_room), omega (arith, k.within, c.if-at-planes.false), pre.search_ready.small);
      count_in_bounds = (h.floats_room, h.words_room);
    }

pub overflow_add-depth : goal.overflow_add-depth
overflow_add-depth c =
    omega (
      arith,
      c.requires.search_ready.deep,
      c.requires.search_ready.within,
    )

pub made-requires : goal.made-requires
made-requires c =
    let a = c.args in
    let pre = c.requires in
    let S : SearchAreas = (search_areas a.bvh.now a.materials.now a.planes.now) in
    let r : SearchReady S a.q a.depth (state c.loop-p.seq c.loop-p.images c.loop-p.s) c.loop-p.candidate_floats c.loop-p.candidate_words =
    law.ready_same S a.q a.depth a.depth (state a.seq.now a.images.now a.t) (state c.loop-p.seq c.loop-p.images c.loop-p.s) a.candidate_floats.now c.loop-p.candidate_floats a.candidate_words.now c.loop-p.candidate_words pre.search_ready pre.search_ready.deep c.loop-p.invariant.3 c.loop-p.invariant.4 c.loop-p.invariant.5.sound in
    let k : Skipped S a.q a.depth c.loop-p.seq c.loop-p.images c.loop-p.p c.loop-p.s c.next_near-next.result.plane c.next_near-next.result.tally =
    c.next_near-next.ensures a.bvh.now a.materials.now in
    let w : Walked S a.q a.depth (upto (at (firsts_of S a.q) (a.q.order - (a.depth + 1)) (take a.depth a.seq.now)) c.next_near-next.result.plane) (state a.seq.now a.images.now a.t) a.candidate_floats.now a.candidate_words.now (state c.loop-p.seq
    c.loop-p.images c.next_near-next.result.tally) c.loop-p.candidate_floats c.loop-p.candidate_words =
    k.skips.walked (state a.seq.now a.images.now a.t) a.candidate_floats.now a.candidate_words.now c.loop-p.candidate_floats c.loop-p.candidate_words r pre.depth_value c.loop-p.invariant.5 in
    let r₁ : SearchReady S a.q a.depth (state c.loop-p.seq c.loop-p.images c.next_near-next.result.tally) c.loop-p.candidate_floats c.loop-p.candidate_words =
    law.ready_same S a.q a.depth a.depth (state c.loop-p.seq c.loop-p.images c.loop-p.s) (state c.loop-p.seq c.loop-p.images c.next_near-next.result.tally) c.loop-p.candidate_floats c.loop-p.candidate_floats c.loop-p.candidate_words c.loop-p.candidate_words r r.deep refl refl w.sound in
    let h : c.next_near-next.result.plane < a.planes.now.count = omega (arith, k.within, c.if-at-planes.false) in
    let v : Visitable S a.q (a.depth + 1) (state c.push.new.seq c.push.new.images c.next_near-next.result.tally) c.loop-p.candidate_floats c.loop-p.candidate_words =
    law.visitable_push S a.q a.depth c.next_near-next.result.plane c.loop-p.seq c.push.new.seq c.loop-p.images c.push.new.images c.next_near-next.result.tally c.push.ensures.seq_after
    (c.push.ensures.by_index a.planes.now.members.now a.planes.now.edges.now) c.loop-p.candidate_floats c.loop-p.candidate_words r₁ h (k.next h).0 in record {
      planes_lent = v.lent.planes;
      len_in_bounds = (omega (arith, v.within, v.sound.seq_room), omega (arith, v.within, v.sound.images_room));
      by_index = v.sound.planes;
    }

pub overflow_add-depth-then-made : goal.overflow_add-depth-then-made
overflow_add-depth-then-made c =
    omega (
      arith,
      c.requires.search_ready.deep,
      c.requires.search_ready.within,
    )

pub judge-v-requires : goal.judge-v-requires
judge-v-requires c =
    let a = c.args in
    let pre = c.requires in
    let S : SearchAreas = (search_areas a.bvh.now a.materials.now a.planes.now) in
    let r : SearchReady S a.q a.depth (state c.loop-p.seq c.loop-p.images c.loop-p.s) c.loop-p.candidate_floats c.loop-p.candidate_words =
    law.ready_same S a.q a.depth a.depth (state a.seq.now a.images.now a.t) (state c.loop-p.seq c.loop-p.images c.loop-p.s) a.candidate_floats.now c.loop-p.candidate_floats a.candidate_words.now c.loop-p.candidate_words pre.search_ready pre.search_ready.deep c.loop-p.invariant.3 c.loop-p.invariant.4 c.loop-p.invariant.5.sound in
    let k : Skipped S a.q a.depth c.loop-p.seq c.loop-p.images c.loop-p.p c.loop-p.s c.next_near-next.result.plane c.next_near-next.result.tally =
    c.next_near-next.ensures a.bvh.now a.materials.now in
    let w : Walked S a.q a.depth (upto (at (firsts_of S a.q) (a.q.order - (a.depth + 1)) (take a.depth a.seq.now)) c.next_near-next.result.plane) (state a.seq.now a.images.now a.t)
    a.candidate_floats.now a.candidate_words.now (state c.loop-p.seq c.loop-p.images c.next_near-next.result.tally) c.loop-p.candidate_floats c.loop-p.candidate_words =
    k.skips.walked (state a.seq.now a.images.now a.t) a.candidate_floats.now a.candidate_words.now c.loop-p.candidate_floats c.loop-p.candidate_words r pre.depth_value c.loop-p.invariant.5 in
    let r₁ : SearchReady S a.q a.depth (state c.loop-p.seq c.loop-p.images c.next_near-next.result.tally) c.loop-p.candidate_floats c.loop-p.candidate_words =
    law.ready_same S a.q a.depth a.depth (state c.loop-p.seq c.loop-p.images c.loop-p.s) (state c.loop-p.seq c.loop-p.images c.next_near-next.result.tally) c.loop-p.candidate_floats c.loop-p.candidate_floats c.loop-p.candidate_words c.loop-p.candidate_words r
    r.deep refl refl w.sound in
    let h : c.next_near-next.result.plane < a.planes.now.count = omega (arith, k.within, c.if-at-planes.false) in
    law.visitable_push S a.q a.depth c.next_near-next.result.plane c.loop-p.seq c.push.new.seq c.loop-p.images c.push.new.images c.next_near-next.result.tally c.push.ensures.seq_after (c.push.ensures.by_index a.planes.now.members.now a.planes.now.edges.now) c.loop-p.candidate_floats c.loop-p.candidate_words r₁ h (k.next h).0

pub loop-p-smaller-then-made : goal.loop-p-smaller-then-made
loop-p-smaller-then-made c =
    let a = c.args in
    let pre = c.requires in
    let S : SearchAreas = (search_areas a.bvh.now a.materials.now a.planes.now) in
    let k : Skipped S a.q a.depth c.loop-p.seq c.loop-p.images c.loop-p.p c.loop-p.s c.next_near-next.result.plane c.next_near-next.result.tally =
    c.next_near-next.ensures a.bvh.now a.materials.now in
    omega (
      arith,
      k.within,
      c.if-at-planes.false,
      c.loop-p-test.true,
      k.from,
    )

pub loop-p-preserved-then-made : goal.loop-p-preserved-then-made
loop-p-preserved-then-made c =
    let a = c.args in
    let pre = c.requires in
    let S : SearchAreas = (search_areas a.bvh.now a.materials.now a.planes.now) in
    let r : SearchReady S a.q a.depth (state c.loop-p.seq c.loop-p.images c.loop-p.s) c.loop-p.candidate_floats c.loop-p.candidate_words =
    law.ready_same S a.q a.depth a.depth (state a.seq.now a.images.now a.t) (state c.loop-p.seq c.loop-p.images c.loop-p.s) a.candidate_floats.now c.loop-p.candidate_floats a.candidate_words.now c.loop-p.candidate_words pre.search_ready pre.search_ready.deep c.loop-p.invariant.3 c.loop-p.invariant.4 c.loop-p.invariant.5.sound in
    let k : Skipped S a.q a.depth c.loop-p.seq c.loop-p.images c.loop-p.p c.loop-p.s c.next_near-next.result.plane c.next_near-next.result.tally =
    c.next_near-next.ensures a.bvh.now a.materials.now in
    let w : Walked S a.q a.depth (upto (at (firsts_of S a.q) (a.q.order - (a.depth + 1)) (take a.depth a.seq.now)) c.next_near-next.result.plane) (state a.seq.now
    a.images.now a.t) a.candidate_floats.now a.candidate_words.now (state c.loop-p.seq c.loop-p.images c.next_near-next.result.tally) c.loop-p.candidate_floats c.loop-p.candidate_words =
    k.skips.walked (state a.seq.now a.images.now a.t) a.candidate_floats.now a.candidate_words.now c.loop-p.candidate_floats c.loop-p.candidate_words r pre.depth_value c.loop-p.invariant.5 in
    let r₁ : SearchReady S a.q a.depth (state c.loop-p.seq c.loop-p.images c.next_near-next.result.tally) c.loop-p.candidate_floats c.loop-p.candidate_words =
    law.ready_same S a.q a.depth a.depth (state c.loop-p.seq c.loop-p.images c.loop-p.s) (state c.loop-p.seq c.loop-p.images c.next_near-next.result.tally) c.loop-p.candidate_floats c.loop-p.candidate_floats
    c.loop-p.candidate_words c.loop-p.candidate_words r r.deep refl refl w.sound in
    let h : c.next_near-next.result.plane < a.planes.now.count = omega (
      arith,
      k.within,
      c.if-at-planes.false,
    ) in
    let v : Visitable S a.q (a.depth + 1) (state c.push.new.seq c.push.new.images c.next_near-next.result.tally) c.loop-p.candidate_floats c.loop-p.candidate_words =
    law.visitable_push S a.q a.depth c.next_near-next.result.plane c.loop-p.seq c.push.new.seq c.loop-p.images c.push.new.images c.next_near-next.result.tally c.push.ensures.seq_after (c.push.ensures.by_index a.planes.now.members.now a.planes.now.edges.now) c.loop-p.candidate_floats c.loop-p.candidate_words r₁ h (k.next h).0 in (
      omega (arith, h),
      c.push.auto.seq ∙ c.loop-p.invariant.1,
      c.push.auto.images ∙ c.loop-p.invariant.2,
      c.judge-v.auto.candidate_floats ∙ c.loop-p.invariant.3,
      c.judge-v.auto.candidate_words ∙ c.loop-p.invariant.4,
      law.walked_more S a.q a.depth (a.q.order - (a.depth + 1)) c.next_near-next.result.plane w
          (law.walked_last S a.q a.depth (a.q.order - (a.depth + 1)) c.next_near-next.result.plane c.loop-p.seq c.push.new.seq c.loop-p.images c.push.new.images c.next_near-next.result.tally c.judge-v.result c.loop-p.candidate_floats
          c.judge-v.new.candidate_floats c.loop-p.candidate_words c.judge-v.new.candidate_words (k.next h).0 (omega (arith, r.deep, r.within)) r.sound.seq_room (k.next h).1 c.push.ensures.seq_after c.judge-v.ensures
          (law.sound_visit S a.q (a.depth + 1) c.push.new.seq c.push.new.images c.next_near-next.result.tally c.judge-v.result c.loop-p.candidate_floats c.judge-v.new.candidate_floats c.loop-p.candidate_words
          c.judge-v.new.candidate_words c.judge-v.ensures v.sound) (omega (arith, pre.depth_value))),
    )

pub passed_over-s-requires : goal.passed_over-s-requires
passed_over-s-requires c =
    let a = c.args in
    let pre = c.requires in
    let S : SearchAreas = (search_areas a.bvh.now a.materials.now a.planes.now) in
    let k : Skipped S a.q a.depth c.loop-p.seq c.loop-p.images c.loop-p.p c.loop-p.s c.next_near-next.result.plane c.next_near-next.result.tally =
    c.next_near-next.ensures a.bvh.now a.materials.now in
    let h : c.next_near-next.result.plane < a.planes.now.count = omega (arith, k.within, c.if-at-planes.false) in
    omega (arith, (k.next h).0, pre.search_ready.bound)

pub loop-p-smaller : goal.loop-p-smaller
loop-p-smaller c =
    let a = c.args in
    let pre = c.requires in
    let S : SearchAreas = (search_areas a.bvh.now a.materials.now a.planes.now) in
    let k : Skipped S a.q a.depth c.loop-p.seq c.loop-p.images c.loop-p.p c.loop-p.s c.next_near-next.result.plane c.next_near-next.result.tally =
    c.next_near-next.ensures a.bvh.now a.materials.now in
    omega (arith, k.within, c.if-at-planes.false, c.loop-p-test.true, k.from)

pub loop-p-preserved : goal.loop-p-preserved
loop-p-preserved c =
    let a = c.args in
    let pre = c.requires in
    let S : SearchAreas = (search_areas a.bvh.now a.materials.now a.planes.now) in
    let r : SearchReady S a.q a.depth (state c.loop-p.seq c.loop-p.images c.loop-p.s) c.loop-p.candidate_floats c.loop-p.candidate_words =
    law.ready_same S a.q a.depth a.depth (state a.seq.now a.images.now a.t) (state c.loop-p.seq c.loop-p.images c.loop-p.s) a.candidate_floats.now c.loop-p.candidate_floats a.candidate_words.now c.loop-p.candidate_words pre.search_ready pre.search_ready.deep c.loop-p.invariant.3 c.loop-p.invariant.4 c.loop-p.invariant.5.sound in
    let k : Skipped S a.q a.depth c.loop-p.seq c.loop-p.images c.loop-p.p c.loop-p.s c.next_near-next.result.plane c.next_near-next.result.tally =
    c.next_near-next.ensures a.bvh.now a.materials.now in
    let w : Walked S a.q a.depth (upto (at (firsts_of S a.q) (a.q.order - (a.depth + 1)) (take a.depth a.seq.now)) c.next_near-next.result.plane) (state a.seq.now a.images.now a.t) a.candidate_floats.now
    a.candidate_words.now (state c.loop-p.seq c.loop-p.images c.next_near-next.result.tally) c.loop-p.candidate_floats c.loop-p.candidate_words =
    k.skips.walked (state a.seq.now a.images.now a.t) a.candidate_floats.now a.candidate_words.now c.loop-p.candidate_floats c.loop-p.candidate_words r pre.depth_value c.loop-p.invariant.5 in
    let r₁ : SearchReady S a.q a.depth (state c.loop-p.seq c.loop-p.images c.next_near-next.result.tally) c.loop-p.candidate_floats c.loop-p.candidate_words =
    law.ready_same S a.q a.depth a.depth (state c.loop-p.seq c.loop-p.images c.loop-p.s) (state c.loop-p.seq c.loop-p.images c.next_near-next.result.tally) c.loop-p.candidate_floats c.loop-p.candidate_floats c.loop-p.candidate_words c.loop-p.candidate_words r r.deep refl refl w.sound in
    let h : c.next_near-next.result.plane < a.planes.now.count = omega (arith, k.within, c.if-at-planes.false) in
    let v : Visitable S a.q (a.depth + 1) (state c.push.new.seq c.push.new.images c.next_near-next.result.tally) c.loop-p.candidate_floats c.loop-p.candidate_words =
    law.visitable_push S a.q a.depth c.next_near-next.result.plane c.loop-p.seq c.push.new.seq c.loop-p.images c.push.new.images c.next_near-next.result.tally c.push.ensures.seq_after (c.push.ensures.by_index a.planes.now.members.now a.planes.now.edges.now) c.loop-p.candidate_floats c.loop-p.candidate_words r₁ h (k.next h).0 in
    let seen : Visited S a.q (a.depth + 1) c.push.new.seq c.next_near-next.result.tally c.loop-p.candidate_floats c.loop-p.candidate_words c.passed_over-s.result
    c.loop-p.candidate_floats c.loop-p.candidate_words =
    rw c.passed_over-s.ensures (law.visited_lost S a.q (a.depth + 1) c.push.new.seq c.push.new.images c.next_near-next.result.tally c.loop-p.candidate_floats c.loop-p.candidate_words v.within v.sound (c.made.ensures c.if-made.false)) in (
      omega (arith, h),
      c.push.auto.seq ∙ c.loop-p.invariant.1,
      c.push.auto.images ∙ c.loop-p.invariant.2,
      c.loop-p.invariant.3,
      c.loop-p.invariant.4,
      law.walked_more S a.q a.depth (a.q.order - (a.depth + 1)) c.next_near-next.result.plane w
          (law.walked_last S a.q a.depth (a.q.order - (a.depth + 1)) c.next_near-next.result.plane c.loop-p.seq c.push.new.seq c.loop-p.images c.push.new.images c.next_near-next.result.tally c.passed_over-s.result c.loop-p.candidate_floats c.loop-p.candidate_floats c.loop-p.candidate_words c.loop-p.candidate_words (k.next h).0 (omega
          (arith, r.deep, r.within)) r.sound.seq_room (k.next h).1 c.push.ensures.seq_after seen
          (law.sound_visit S a.q (a.depth + 1) c.push.new.seq c.push.new.images c.next_near-next.result.tally c.passed_over-s.result c.loop-p.candidate_floats c.loop-p.candidate_floats c.loop-p.candidate_words c.loop-p.candidate_words seen v.sound) (omega (arith, pre.depth_value))),
    )

pub shape_of-seq : goal.shape_of-seq
shape_of-seq c = c.loop-p.invariant.1

pub shape_of-images : goal.shape_of-images
shape_of-images c = c.loop-p.invariant.2

pub shape_of-candidate_floats : goal.shape_of-candidate_floats
shape_of-candidate_floats c = c.loop-p.invariant.3

pub shape_of-candidate_words : goal.shape_of-candidate_words
shape_of-candidate_words c = c.loop-p.invariant.4

pub returns : goal.returns
returns c =
    let a = c.args in
    let pre = c.requires in
    let S : SearchAreas = (search_areas a.bvh.now a.materials.now a.planes.now) in
    let e : c.loop-p.p ≡ a.planes.now.count = omega (arith, c.loop-p-test.false, c.loop-p.invariant.0) in
    law.walked_all S a.q a.depth c.loop-p.p pre.search_ready.deep (e ∙ sym (law.firsts_length S a.q)) c.loop-p.invariant.5
