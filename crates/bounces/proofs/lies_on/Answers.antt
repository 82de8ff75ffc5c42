-- `bounces::lies_on` meets its contract: the plane's row is what the distance is taken from.
use Rattle.mirror.specs.Rows.{tris_of, border_of}
use Rattle.bounces.specs.Image.{lies_on_of}
use Rattle.bounces.proofs.Laws.{plane_row}
use Rattle.bounces.proofs.lies_on.Goals as goal

pub returns : goal.returns
unfolding lies_on_of
returns c = λ members edges count h.
    rw (
      plane_row _ _ members edges count _ h,
      ← c.plane_at.ensures,
      ← c.signed_distance.ensures (tris_of c.plane_at.result members) (border_of c.plane_at.result edges),
      ← c.abs.ensures,
    )
