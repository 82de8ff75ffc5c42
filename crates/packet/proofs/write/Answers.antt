-- `packet::write` meets its contract: each return by the test that it follows, and the packet by its parts as they were stored.
use Rattle.std.proofs.Common.{◌≡◌, Ok, sym, ap, ◌∙◌, arith, length}
use Rattle.std.proofs.lemmas.Result.{err_from_is_err_and}
use Rattle.refusals.specs.declared.Refusal.TheVariants.{Areas}
use Rattle.packet.specs.Tap.{taps_of}
use Rattle.packet.specs.Writer.{packet}
use Rattle.packet.proofs.Answers.{short_taps, short_out, by_tests_write, write_refused, write_taken, write_packet, passed, is_refused, not_refused}
use Rattle.packet.proofs.write.Goals as goal

pub returns-then-taps-lt-AREA_WORDS : goal.returns-then-taps-lt-AREA_WORDS
returns-then-taps-lt-AREA_WORDS c =
    let h = c.args.head in
    let a = c.args.taps.now in
    let o = c.args.out.now in
    write_refused h.count h.images h.rays a o Areas (short_taps h.count h.images h.rays a o c.if-taps-lt-AREA_WORDS.true)

pub returns-then-out-lt-OUT_BYTES : goal.returns-then-out-lt-OUT_BYTES
returns-then-out-lt-OUT_BYTES c =
    let h = c.args.head in
    let a = c.args.taps.now in
    let o = c.args.out.now in
    write_refused h.count h.images h.rays a o Areas (short_out h.count h.images h.rays a o c.if-taps-lt-AREA_WORDS.false c.if-out-lt-OUT_BYTES.true)

pub returns-in_err-test_taps : goal.returns-in_err-test_taps
returns-in_err-test_taps c =
    let h = c.args.head in
    let a = c.args.taps.now in
    let o = c.args.out.now in
    let f = is_refused _ _ _ (sym (c.in_err-test_taps.ensures)) in
    let p = err_from_is_err_and c.from_residual.result c.from_residual.ensures.1 in
    rw (p.1, p.2) (write_refused h.count h.images h.rays a o _ (by_tests_write h.count h.images h.rays a o c.if-taps-lt-AREA_WORDS.false c.if-out-lt-OUT_BYTES.false ∙ f))

pub write_taps-requires : goal.write_taps-requires
write_taps-requires c =
    let h = c.args.head in
    let p = passed h.count h.images (taps_of h.count c.args.taps.now) (not_refused _ _ _ (sym (c.in_ok-test_taps.ensures))) in
    (p.0, omega (arith, p.0), omega arith, p.1)

pub returns : goal.returns
returns c =
    let h = c.args.head in
    let a = c.args.taps.now in
    let o = c.args.out.now in
    let f = not_refused _ _ _ (sym (c.in_ok-test_taps.ensures)) in
    let t = write_taken h.count h.images h.rays a o (by_tests_write h.count h.images h.rays a o c.if-taps-lt-AREA_WORDS.false c.if-out-lt-OUT_BYTES.false ∙ f) in
    let w = c.write_taps.ensures in
    let n : c.write_taps.result ≡ length (packet h.count h.images h.rays a) = omega (arith, w.0) in (
      ap Ok n ∙ t.0,
      write_packet h.count h.images h.rays a o c.write_count.new.out c.write_word.new.out c.write_word-2.new.out c.write_taps.new.out
          c.write_count.ensures c.write_word.ensures c.write_word-2.ensures w.2 (omega (arith, w.0, w.1, c.if-out-lt-OUT_BYTES.false)) ∙ t.1,
    )
