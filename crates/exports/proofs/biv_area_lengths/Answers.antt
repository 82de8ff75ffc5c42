-- `exports::biv_area_lengths` meets its contract: by the test of the triples.
use mathlib.Core.Path.{refl, sym}
use borrow.Author.Tests.{le-leb, lt-leb}
use Rattle.exports.proofs.biv_area_lengths.Goals as goal

pub returns-then-triples-gt-MOST_TRIPLES : goal.returns-then-triples-gt-MOST_TRIPLES
returns-then-triples-gt-MOST_TRIPLES c = record { answered = sym (lt-leb _ _ c.if-triples-gt-MOST_TRIPLES.true); lengths = refl }

pub returns : goal.returns
returns c = record { answered = sym (le-leb _ _ c.if-triples-gt-MOST_TRIPLES.false); lengths = c.least_lengths.ensures }
