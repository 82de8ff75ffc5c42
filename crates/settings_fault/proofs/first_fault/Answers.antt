-- `settings_fault::first_fault` meets its contract: test by test, and by the laws of the first failed test.
use Prim.Native.Nat.{ℕ}
use native.Mathlib.Omega.{arith}
use mathlib.Core.Path.{◌≡◌, sym, ◌∙◌, ap}
use lib.Dec.{eqb}
use Rattle.scene.specs.Limits.{settings_of}
use Rattle.settings_fault.specs.Fault.{setting_tests, fault_of}
use Rattle.settings_fault.proofs.First.{none_failed, failed, all_settings}
use Rattle.settings_fault.proofs.first_fault.Goals as goal

pub returns : goal.returns
unfolding fault_of setting_tests
returns c =
    let a = c.args in
    let same : c.pick-2.result ≡ fault_of a.s a.c = rw (
      ← c.planes_within.ensures,
      ← c.room_within.ensures,
      ← c.rate_fault.ensures,
      ← c.pick.ensures,
      ← c.pick-2.ensures,
    ) in
    let zero-where : eqb (fault_of a.s a.c) 0 ≡ settings_of a.s a.c = none_failed 0 (setting_tests a.s a.c) ∙ all_settings a.s a.c in
    (same, ap (λ (r : ℕ). eqb r 0) same ∙ zero-where, λ j e. failed 0 j (setting_tests a.s a.c) (sym same ∙ e ∙ omega arith))

pub planes_within-requires : goal.planes_within-requires
planes_within-requires c = tt

pub room_within-requires : goal.room_within-requires
room_within-requires c = tt

pub rate_fault-requires : goal.rate_fault-requires
rate_fault-requires c = tt

pub pick-requires : goal.pick-requires
pick-requires c = tt

pub pick-requires-2 : goal.pick-requires-2
pick-requires-2 c = tt
