-- `planes_links::push` meets its contract: the word's upper half is the word of p and q (`pushed`).
use mathlib.Core.Path.{refl}
use Rattle.planes_links.specs.Words.{word_of}
use Rattle.planes_links.proofs.Compacting.{pushed}
use Rattle.planes_links.proofs.push.Goals as goal

pub returns : goal.returns
returns c = record {
  value = refl;
  result_after = pushed c.args.words.now c.args.k (word_of c.args.p c.args.q) c.requires.k_in_bounds;
}
