-- `vector::probe_angle` meets its contract: each arm is its entry of the table, and from 7 on the last (`no_other`).
use mathlib.Core.Path.{◌≡◌, refl}
use Prim.Native.Nat.{ℕ, zero, suc}
use lib.Ieee.{nan_bits}
use Rattle.vector.specs.Basis.{last_angle, probe_angle_of}
use Rattle.vector.proofs.probe_angle.Goals as goal

no_other :
    (k : ℕ) → (k ≡ 0 → ⊥) → (k ≡ 1 → ⊥) → (k ≡ 2 → ⊥) → (k ≡ 3 → ⊥) → (k ≡ 4 → ⊥) → (k ≡ 5 → ⊥) → (k ≡ 6 → ⊥) →
    last_angle ≡ probe_angle_of k
unfolding probe_angle_of
no_other zero a b c d e f g = absurd (a refl)
no_other (suc zero) a b c d e f g = absurd (b refl)
no_other (suc (suc zero)) a b c d e f g = absurd (c refl)
no_other (suc (suc (suc zero))) a b c d e f g = absurd (d refl)
no_other (suc (suc (suc (suc zero)))) a b c d e f g = absurd (e refl)
no_other (suc (suc (suc (suc (suc zero))))) a b c d e f g = absurd (f refl)
no_other (suc (suc (suc (suc (suc (suc zero)))))) a b c d e f g = absurd (g refl)
no_other (suc (suc (suc (suc (suc (suc (suc zero))))))) a b c d e f g = refl
no_other (suc (suc (suc (suc (suc (suc (suc (suc k)))))))) a b c d e f g = refl

pub float_from_bits-result : goal.float_from_bits-result
unfolding nan_bits probe_angle_of
float_from_bits-result c = tt

pub float_from_bits-result-in-0 : goal.float_from_bits-result-in-0
unfolding nan_bits probe_angle_of
float_from_bits-result-in-0 c = tt

pub float_from_bits-result-in-1 : goal.float_from_bits-result-in-1
unfolding nan_bits probe_angle_of
float_from_bits-result-in-1 c = tt

pub float_from_bits-result-in-1-2 : goal.float_from_bits-result-in-1-2
unfolding nan_bits probe_angle_of
float_from_bits-result-in-1-2 c = tt

pub float_from_bits-result-in-2 : goal.float_from_bits-result-in-2
unfolding nan_bits probe_angle_of
float_from_bits-result-in-2 c = tt

pub float_from_bits-result-in-2-2 : goal.float_from_bits-result-in-2-2
unfolding nan_bits probe_angle_of
float_from_bits-result-in-2-2 c = tt

pub float_from_bits-result-in-3 : goal.float_from_bits-result-in-3
unfolding nan_bits probe_angle_of
float_from_bits-result-in-3 c = tt

pub float_from_bits-result-in-3-2 : goal.float_from_bits-result-in-3-2
unfolding nan_bits probe_angle_of
float_from_bits-result-in-3-2 c = tt

pub float_from_bits-result-in-4 : goal.float_from_bits-result-in-4
unfolding nan_bits probe_angle_of
float_from_bits-result-in-4 c = tt

pub float_from_bits-result-in-4-2 : goal.float_from_bits-result-in-4-2
unfolding nan_bits probe_angle_of
float_from_bits-result-in-4-2 c = tt

pub float_from_bits-result-in-5 : goal.float_from_bits-result-in-5
unfolding nan_bits probe_angle_of
float_from_bits-result-in-5 c = tt

pub float_from_bits-result-in-5-2 : goal.float_from_bits-result-in-5-2
unfolding nan_bits probe_angle_of
float_from_bits-result-in-5-2 c = tt

pub float_from_bits-result-in-6 : goal.float_from_bits-result-in-6
unfolding nan_bits probe_angle_of
float_from_bits-result-in-6 c = tt

pub float_from_bits-result-in-6-2 : goal.float_from_bits-result-in-6-2
unfolding nan_bits probe_angle_of
float_from_bits-result-in-6-2 c = tt

pub float_from_bits-result-in_default : goal.float_from_bits-result-in_default
unfolding nan_bits probe_angle_of
float_from_bits-result-in_default c = tt

pub float_from_bits-result-in_default-2 : goal.float_from_bits-result-in_default-2
unfolding nan_bits probe_angle_of
float_from_bits-result-in_default-2 c = tt

pub returns-in-0 : goal.returns-in-0
unfolding nan_bits probe_angle_of
returns-in-0 c = rw c.in-0.is

pub returns-in-1 : goal.returns-in-1
unfolding nan_bits probe_angle_of
returns-in-1 c = rw c.in-1.is

pub returns-in-2 : goal.returns-in-2
unfolding nan_bits probe_angle_of
returns-in-2 c = rw c.in-2.is

pub returns-in-3 : goal.returns-in-3
unfolding nan_bits probe_angle_of
returns-in-3 c = rw c.in-3.is

pub returns-in-4 : goal.returns-in-4
unfolding nan_bits probe_angle_of
returns-in-4 c = rw c.in-4.is

pub returns-in-5 : goal.returns-in-5
unfolding nan_bits probe_angle_of
returns-in-5 c = rw c.in-5.is

pub returns-in-6 : goal.returns-in-6
unfolding nan_bits probe_angle_of
returns-in-6 c = rw c.in-6.is

pub returns-in_default : goal.returns-in_default
unfolding nan_bits probe_angle_of
returns-in_default c = let r = c.in_default.in_default-own.rest in no_other c.args.k r.0.0.0.0.0.0.1 r.0.0.0.0.0.1 r.0.0.0.0.1 r.0.0.0.1 r.0.0.1 r.0.1 r.1
