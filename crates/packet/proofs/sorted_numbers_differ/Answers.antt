-- `packet::sorted_numbers_differ` meets its contract: by the law that repeated numbers are neighbours once sorted.
use mathlib.Core.Path.{sym, ap, ◌∙◌}
use Rattle.order.specs.Sort.{sort_by}
use Rattle.order.specs.Radix.{upper}
use Rattle.packet.specs.Helpers.{none_repeats}
use Rattle.packet.proofs.Repeats.{sorted_keys}
use Rattle.packet.proofs.sorted_numbers_differ.Goals as goal

pub number_keys-requires : goal.number_keys-requires
number_keys-requires c =
    c.requires.0

pub sort_words-requires : goal.sort_words-requires
sort_words-requires c =
    c.requires.1 ∙ sym c.number_keys.auto.keys

pub shape_of-keys : goal.shape_of-keys
shape_of-keys c =
    c.sort_words.auto.a ∙ c.number_keys.auto.keys

pub shape_of-scratch : goal.shape_of-scratch
shape_of-scratch c =
    c.sort_words.auto.scratch

pub returns : goal.returns
returns c =
    c.neighbours_differ.ensures ∙ ap none_repeats (c.sort_words.ensures.sorted ∙ ap (sort_by upper) c.number_keys.ensures) ∙ sorted_keys _

pub neighbours_differ-requires : goal.neighbours_differ-requires
neighbours_differ-requires c = tt
