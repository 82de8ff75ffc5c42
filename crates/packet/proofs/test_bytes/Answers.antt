-- `packet::test_bytes` meets its contract: each return is the first test that fails, for the packet's taps as the local area holds them.
use Rattle.std.proofs.Common.{◌*◌, ◌≤◌, ap, sym, ◌∙◌, arith, rules, drop, replicate, List, ℕ}
use Rattle.packet.specs.Limits.{head_bytes, tap_words, area_words}
use Rattle.packet.specs.Refusals.{all}
use Rattle.packet.specs.Helpers.{finite_gains}
use Rattle.packet.proofs.Areas.{valid_finite}
use Rattle.packet.proofs.FromBytes.{finite_gains_in_area}
use Rattle.packet.proofs.Answers.{held, held_in_range, held_distinct, held_sums}
use Rattle.packet.proofs.test_bytes.Goals as goal

pub returns-then-not-all_in_range : goal.returns-then-not-all_in_range
returns-then-not-all_in_range c =
    let a = c.args in
    let h : a.count * tap_words ≤ area_words = omega arith in
    rw (← held_in_range a.count (drop head_bytes a.b.now) (replicate area_words 0) c.read_taps.new.area h c.read_taps.ensures a.images) (search rules)

pub all_floats_valid_by-requires-clause-taps_value : goal.all_floats_valid_by-requires-clause-taps_value
all_floats_valid_by-requires-clause-taps_value c =
    let a = c.args in
    held a.count (drop head_bytes a.b.now) (replicate area_words 0) c.read_taps.new.area (omega arith) c.read_taps.ensures

pub returns-then-not-all_floats_valid_by : goal.returns-then-not-all_floats_valid_by
returns-then-not-all_floats_valid_by c =
    let a = c.args in
    let h : a.count * tap_words ≤ area_words = omega arith in
    rw (← held_in_range a.count (drop head_bytes a.b.now) (replicate area_words 0) c.read_taps.new.area h c.read_taps.ensures a.images) (search rules)

pub are_sums_valid-requires : goal.are_sums_valid-requires
are_sums_valid-requires c =
    let a = c.args in
    let h : a.count * tap_words ≤ area_words = omega arith in
    let e = held a.count (drop head_bytes a.b.now) (replicate area_words 0) c.read_taps.new.area h c.read_taps.ensures in
    (omega arith, ap (all finite_gains) e ∙ finite_gains_in_area _ ∙ valid_finite _ (sym c.all_floats_valid_by.ensures ∙ c.if-not-all_floats_valid_by.false))

pub returns-then-not-are_distinct : goal.returns-then-not-are_distinct
returns-then-not-are_distinct c =
    let a = c.args in
    let h : a.count * tap_words ≤ area_words = omega arith in
    let bs = drop head_bytes a.b.now in
    let fresh : List ℕ = replicate area_words 0 in
    rw (← held_in_range a.count bs fresh c.read_taps.new.area h c.read_taps.ensures a.images, ← held_distinct a.count bs fresh c.read_taps.new.area h c.read_taps.ensures, ← held_sums a.count bs fresh c.read_taps.new.area h c.read_taps.ensures) (search rules)

pub returns : goal.returns
returns c =
    let a = c.args in
    let h : a.count * tap_words ≤ area_words = omega arith in
    let bs = drop head_bytes a.b.now in
    let fresh : List ℕ = replicate area_words 0 in
    rw (← held_in_range a.count bs fresh c.read_taps.new.area h c.read_taps.ensures a.images, ← held_distinct a.count bs fresh c.read_taps.new.area h c.read_taps.ensures, ← held_sums a.count bs fresh c.read_taps.new.area h c.read_taps.ensures) (search rules)
