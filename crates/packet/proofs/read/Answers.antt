-- `packet::read` meets its contract: each return by the test that it follows, in the order of the refusals.
use Rattle.std.proofs.Common.{◌≡◌, ◌*◌, ◌≤◌, Bool, true, false, ◌&&◌, Ok, sym, ap, ◌∙◌, arith, length, drop, ℕ}
use Rattle.std.proofs.lemmas.Result.{err_from_is_err_and}
use lib.Seq.{sets}
use borrow.Author.Tests.{le-leb, lt-leb}
use Rattle.refusals.specs.declared.Refusal.TheVariants.{Areas, Bytes}
use Rattle.packet.specs.Limits.{head_bytes, tap_words}
use Rattle.packet.specs.Tap.{all_words}
use Rattle.packet.specs.Bytes.{taps_in, has_only_taps, count_in, images_in, decode}
use Rattle.packet.specs.Refusals.{first_failed, tests}
use Rattle.packet.specs.Reader.{whole, head}
use Rattle.packet.proofs.Runs.{sets_front}
use Rattle.packet.proofs.FromBytes.{all_words_length}
use Rattle.packet.proofs.Answers.{short_area, not_whole, by_tests, read_refused, read_taken, passed, is_refused, not_refused}
use Rattle.packet.proofs.read.Goals as goal

pub returns-then-taps-lt-AREA_WORDS : goal.returns-then-taps-lt-AREA_WORDS
returns-then-taps-lt-AREA_WORDS c =
    let bs = c.args.bytes.now in
    let t = c.args.taps.now in
    read_refused bs t Areas (short_area bs t c.if-taps-lt-AREA_WORDS.true)

pub returns-then-bytes-lt-HEAD_BYTES : goal.returns-then-bytes-lt-HEAD_BYTES
returns-then-bytes-lt-HEAD_BYTES c =
    let bs = c.args.bytes.now in
    let t = c.args.taps.now in
    let w : whole bs ≡ false = ap (λ (b : Bool). b && has_only_taps (count_in bs) (drop head_bytes bs)) (lt-leb head_bytes (length bs) c.if-bytes-lt-HEAD_BYTES.true) in
    read_refused bs t Bytes (not_whole bs t c.if-taps-lt-AREA_WORDS.false w)

pub returns-then-not-holds_taps : goal.returns-then-not-holds_taps
returns-then-not-holds_taps c =
    let bs = c.args.bytes.now in
    let t = c.args.taps.now in
    let x = ap (λ (k : ℕ). has_only_taps k (drop head_bytes bs)) (sym c.read_count-count.ensures) ∙ sym c.holds_taps.ensures ∙ c.if-not-holds_taps.true in
    let w : whole bs ≡ false = rw (le-leb head_bytes (length bs) c.if-bytes-lt-HEAD_BYTES.false, x) in
    read_refused bs t Bytes (not_whole bs t c.if-taps-lt-AREA_WORDS.false w)

pub returns-in_err-test_bytes : goal.returns-in_err-test_bytes
returns-in_err-test_bytes c =
    let bs = c.args.bytes.now in
    let t = c.args.taps.now in
    let n = c.read_count-count.ensures in
    let x = ap (λ (k : ℕ). has_only_taps k (drop head_bytes bs)) (sym n) ∙ sym c.holds_taps.ensures ∙ c.if-not-holds_taps.false in
    let w : whole bs ≡ true = rw (le-leb head_bytes (length bs) c.if-bytes-lt-HEAD_BYTES.false, x) in
    let f = is_refused _ _ _ (sym (c.in_err-test_bytes.ensures)) in
    let e : first_failed (tests c.read_count-count.result c.read_word-images.result (taps_in c.read_count-count.result (drop head_bytes bs))) ≡ first_failed (tests (count_in bs) (images_in bs) (decode bs)) =
    λ i. first_failed (tests (n i) (c.read_word-images.ensures i) (taps_in (n i) (drop head_bytes bs))) in
    let p = err_from_is_err_and c.from_residual.result c.from_residual.ensures.1 in
    rw (p.1, p.2) (read_refused bs t _ (by_tests bs t c.if-taps-lt-AREA_WORDS.false w ∙ sym e ∙ f))

pub read_taps-requires : goal.read_taps-requires
read_taps-requires c =
    let bs = c.args.bytes.now in
    let t = c.args.taps.now in
    let n = c.read_count-count.result in
    let p = passed n c.read_word-images.result (taps_in n (drop head_bytes bs)) (not_refused _ _ _ (sym (c.in_ok-test_bytes.ensures))) in
    let q : n * tap_words ≤ length t = omega (arith, p.0, c.if-taps-lt-AREA_WORDS.false) in
    (c.if-bytes-lt-HEAD_BYTES.false, sym c.holds_taps.ensures ∙ c.if-not-holds_taps.false, q)

pub returns : goal.returns
returns c =
    let bs = c.args.bytes.now in
    let t = c.args.taps.now in
    let n = c.read_count-count.ensures in
    let x = ap (λ (k : ℕ). has_only_taps k (drop head_bytes bs)) (sym n) ∙ sym c.holds_taps.ensures ∙ c.if-not-holds_taps.false in
    let w : whole bs ≡ true = rw (le-leb head_bytes (length bs) c.if-bytes-lt-HEAD_BYTES.false, x) in
    let i = c.read_word-images.ensures in
    let f = not_refused _ _ _ (sym (c.in_ok-test_bytes.ensures)) in
    let e : first_failed (tests c.read_count-count.result c.read_word-images.result (taps_in c.read_count-count.result (drop head_bytes bs))) ≡ first_failed (tests (count_in bs) (images_in bs) (decode bs)) =
    λ k. first_failed (tests (n k) (i k) (taps_in (n k) (drop head_bytes bs))) in
    let r = read_taken bs t (by_tests bs t c.if-taps-lt-AREA_WORDS.false w ∙ sym e ∙ f) in
    let p = passed (count_in bs) (images_in bs) (decode bs) (sym e ∙ f) in
    let l = all_words_length (count_in bs) (drop head_bytes bs) in (
      (λ k. Ok (head (n k) (i k) (c.read_word-rays.ensures k))) ∙ r.0,
      c.read_taps.ensures ∙ ap (λ (k : ℕ). sets t 0 (all_words (taps_in k (drop head_bytes bs)))) n
          ∙ sets_front t (all_words (decode bs)) (omega (arith, p.0, l, c.if-taps-lt-AREA_WORDS.false)) ∙ r.1,
    )
