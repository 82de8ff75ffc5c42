-- `vector::axis` meets its contract: by the arm of the match, with z for every axis from 2 on (`last`).
use mathlib.Core.Path.{◌≡◌, refl}
use Prim.Native.Nat.{ℕ, zero, suc}
use Rattle.vector.specs.declared.Vec3.{Vec3}
use Rattle.vector.specs.Vector.{axis_of}
use Rattle.vector.proofs.axis.Goals as goal

last : (v : Vec3) (k : ℕ) → (k ≡ 0 → ⊥) → (k ≡ 1 → ⊥) → v.z ≡ axis_of v k
unfolding axis_of
last v zero a b = absurd (a refl)
last v (suc zero) a b = absurd (b refl)
last v (suc (suc k)) a b = refl

pub returns-in-0 : goal.returns-in-0
unfolding axis_of
returns-in-0 c = rw c.in-0.is

pub returns-in-1 : goal.returns-in-1
unfolding axis_of
returns-in-1 c = rw c.in-1.is

pub returns-in_default : goal.returns-in_default
unfolding axis_of
returns-in_default c = last _ _ c.in_default.in_default-own.rest.0.1 c.in_default.in_default-own.rest.1
