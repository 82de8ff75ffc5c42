-- `planes_faces::face_hi` meets its contract: its calls are those of the definition.
use Rattle.planes_faces.specs.Triples.{lowest, middle}
use borrow.Author.Rules.{rules}
use Rattle.planes_faces.proofs.face_hi.Goals as goal

pub lower-p-requires : goal.lower-p-requires
unfolding lowest middle
lower-p-requires c = search rules

pub higher-q-requires : goal.higher-q-requires
unfolding lowest middle
higher-q-requires c = search rules

pub lower-low-requires : goal.lower-low-requires
unfolding lowest middle
lower-low-requires c = search rules

pub lower-rest-requires : goal.lower-rest-requires
unfolding lowest middle
lower-rest-requires c = search rules

pub higher-mid-requires : goal.higher-mid-requires
unfolding lowest middle
higher-mid-requires c = search rules

pub overflow_mul-result : goal.overflow_mul-result
unfolding lowest middle
overflow_mul-result c = search rules

pub overflow_add-result : goal.overflow_add-result
unfolding lowest middle
overflow_add-result c = search rules

pub returns : goal.returns
unfolding lowest middle
returns c = rw (c.lower-low.ensures, c.higher-mid.ensures, c.lower-rest.ensures, c.lower-p.ensures, c.higher-q.ensures)
