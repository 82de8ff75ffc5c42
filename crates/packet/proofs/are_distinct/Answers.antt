-- `packet::are_distinct` meets its contract: the words lent are as many as the taps.
use Prim.Native.Nat.{ℕ}
use mathlib.Core.Path.{refl, sym, ap, ◌∙◌}
use mathlib.Core.List.{map}
use lib.ListN.{length}
use Rattle.packet.specs.Limits.{most_taps, tap_words}
use Rattle.packet.specs.Tap.{taps_of}
use Rattle.packet.specs.Refusals.{distinct, number_of}
use Rattle.packet.proofs.Repeats.{lent, lent_fits}
use Rattle.packet.proofs.are_distinct.Goals as goal

pub slice_bounds-sorted_numbers_differ-end : goal.slice_bounds-sorted_numbers_differ-end
slice_bounds-sorted_numbers_differ-end c = sym (lent c.args.count most_taps c.requires.0)

pub slice_bounds-sorted_numbers_differ-end-2 : goal.slice_bounds-sorted_numbers_differ-end-2
slice_bounds-sorted_numbers_differ-end-2 c =
    sym (lent c.args.count most_taps c.requires.0)

pub sorted_numbers_differ-requires : goal.sorted_numbers_differ-requires
sorted_numbers_differ-requires c =
    let a = c.args in
    (lent_fits a.count most_taps tap_words (length a.taps.now) c.requires.0 c.requires.1, refl)

pub returns : goal.returns
returns c =
    let a = c.args in
    c.sorted_numbers_differ.ensures ∙ ap (λ (k : ℕ). distinct (map number_of (taps_of k a.taps.now))) (lent a.count most_taps c.requires.0)
