-- `bounces::next_image` meets its contract: the plane's row is what it is mirrored in.
use Rattle.mirror.specs.Rows.{tris_of, border_of}
use Rattle.bounces.proofs.Laws.{plane_row}
use Rattle.bounces.proofs.next_image.Goals as goal

pub returns : goal.returns
returns c = λ members edges count h.
    rw (plane_row _ _ members edges count _ h, ← c.plane_at.ensures, ← c.mirror.ensures (tris_of c.plane_at.result members) (border_of c.plane_at.result edges))
