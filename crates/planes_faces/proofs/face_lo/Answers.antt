-- `planes_faces::face_lo` meets its contract: its calls are those of the definition.
use native.Mathlib.Omega.{arith}
use Rattle.planes_faces.specs.Triples.{highest}
use borrow.Author.Rules.{rules}
use Rattle.planes_faces.proofs.face_lo.Goals as goal

pub higher-q-requires : goal.higher-q-requires
unfolding highest
higher-q-requires c = search rules

pub higher-high-requires : goal.higher-high-requires
unfolding highest
higher-high-requires c = search rules

pub returns : goal.returns
unfolding highest
returns c = (rw (c.higher-high.ensures, c.higher-q.ensures), omega arith)
