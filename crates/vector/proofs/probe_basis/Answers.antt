-- `vector::probe_basis` meets its contract: the tangent and its product with the axis, by the contracts of `tangent` and `cross3`.
use Rattle.vector.specs.Basis.{probe_basis_of}
use Rattle.vector.proofs.probe_basis.Goals as goal

pub tangent-u-requires : goal.tangent-u-requires
unfolding probe_basis_of
tangent-u-requires c = tt

pub cross3-requires : goal.cross3-requires
unfolding probe_basis_of
cross3-requires c = tt

pub returns : goal.returns
unfolding probe_basis_of
returns c = rw (← c.tangent-u.ensures, ← c.cross3.ensures)
