-- `search::visit` meets its contract: a path whose bounces are not all made fails with no ray traced.
use native.Mathlib.Omega.{arith}
use Rattle.search.specs.Contract.{search_areas}
use Rattle.search.proofs.Walks as law
use Rattle.search.proofs.visit.Goals as goal

pub made-requires : goal.made-requires
made-requires c = let pre = c.requires in record {
  planes_lent = pre.lent.planes;
  len_in_bounds = (omega (arith, pre.within, pre.sound.seq_room), omega (arith, pre.within, pre.sound.images_room));
  by_index = pre.sound.planes;
}

pub judge-requires : goal.judge-requires
judge-requires c = c.requires

pub shape_of-candidate_floats-then-made : goal.shape_of-candidate_floats-then-made
shape_of-candidate_floats-then-made c = c.judge.auto.candidate_floats

pub shape_of-candidate_words-then-made : goal.shape_of-candidate_words-then-made
shape_of-candidate_words-then-made c = c.judge.auto.candidate_words

pub returns-then-made : goal.returns-then-made
returns-then-made c = c.judge.ensures

pub passed_over-requires : goal.passed_over-requires
passed_over-requires c = c.requires.under

pub returns : goal.returns
returns c =
    let a = c.args in
    let pre = c.requires in
    rw c.passed_over.ensures (law.visited_lost (search_areas a.bvh.now a.materials.now a.planes.now) a.q a.len a.seq.now a.images.now a.t a.candidate_floats.now
    a.candidate_words.now pre.within pre.sound (c.made.ensures c.if-made.false))
