-- `taps::write_taps` meets its contract: what is ranked is stored, and the writer takes it (`ended`).
use Rattle.std.proofs.Common.{rules, sym, ◌∙◌, IsOk}
use Rattle.taps.proofs.Ending.{fewer, pointing, written, ended, exactly, within}
use Rattle.taps.proofs.write_taps.Goals as goal

pub rank_reflections-count-requires : goal.rank_reflections-count-requires
rank_reflections-count-requires c =
    let p = c.requires in
    record {
      sortable = p.sortable;
      for_index = p.for_index;
      for_words = p.for_words;
      for_scratch = p.for_scratch;
      for_out = within c.fresh_positions-kept.ensures p.few;
    }

pub put_taps-requires : goal.put_taps-requires
put_taps-requires c =
    let a = c.args in
    let p = c.requires in
    let k = c.rank_reflections-count.ensures.ranked in record {
      candidate_rows = p.sortable.rows;
      pointing = pointing a.speed a.rate a.limit a.n a.images a.candidate_floats.now a.candidate_words.now c.fresh_positions-kept.result _ _ p.few p.sendable k;
      tap_words_in_bounds = fewer a.speed a.rate a.limit a.n a.images a.candidate_floats.now a.candidate_words.now c.fresh_positions-kept.result _ _ p.few p.sendable k c.fresh_taps-taps.result (exactly c.fresh_taps-taps.ensures);
    }

pub unwrap-bytes-requires : goal.unwrap-bytes-requires
unwrap-bytes-requires c =
    let a = c.args in
    let p = c.requires in
    rw (written a.speed a.rate a.limit a.n a.images a.candidate_floats.now a.candidate_words.now c.fresh_positions-kept.result _ _ p.few p.sendable
    c.rank_reflections-count.ensures.ranked
    c.fresh_taps-taps.result _ (exactly c.fresh_taps-taps.ensures)
    c.put_taps.auto.taps
    c.put_taps.ensures
    a.rays _ a.out.now _ p.for_out
    c.write.ensures.0
    c.write.ensures.1) (search rules)

pub returns : goal.returns
returns c =
    let a = c.args in
    let p = c.requires in
    let e = ended a.speed a.rate a.limit a.n a.images a.candidate_floats.now a.candidate_words.now c.fresh_positions-kept.result _ _ p.few p.sendable
    c.rank_reflections-count.ensures.ranked
    c.fresh_taps-taps.result _ (exactly c.fresh_taps-taps.ensures)
    c.put_taps.auto.taps
    c.put_taps.ensures
    a.rays _ a.out.now _ p.for_out
    c.write.ensures.0
    c.write.ensures.1
    _ c.unwrap-bytes.ensures in record {
      count = e.0;
      bytes = e.1.0;
      packet = e.1.1;
      rest = ((search rules), (search rules), (search rules), (search rules));
    }
