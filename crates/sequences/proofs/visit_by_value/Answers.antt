-- `sequences::visit_by_value` meets its contract. The loop's invariant: the first k bytes of the record are stored at their place.
use Prim.Native.Nat.{ℕ, ◌+◌, ◌*◌}
use mathlib.Core.Path.{◌≡◌, refl, ap, ◌∙◌}
use mathlib.Core.List.{List}
use native.Mathlib.Omega.{arith}
use lib.ListN.{take, length-set}
use lib.Seq.{sets, take_all}
use Rattle.sequences.specs.Run.{record_of, world, visit_at}
use Rattle.sequences.proofs.Laws.{length_record, sets_more}
use Rattle.sequences.proofs.visit_by_value.Goals as goal

pub loop-k-init : goal.loop-k-init
loop-k-init c = (omega arith, refl, refl)

pub loop-k-preserved : goal.loop-k-preserved
loop-k-preserved c =
    let a = c.args in
    let i = c.loop-k.invariant in
    let w : List ℕ = record_of (take a.len a.st.seq) in (
      omega arith,
      length-set c.loop-k.area (a.st.nodes * 9 + c.loop-k.k) c.byte.result ∙ i.1,
      (rw (i.2, c.byte.ensures) (sets_more a.area.now (a.st.nodes * 9) c.loop-k.k w (omega (arith, length_record (take a.len a.st.seq))))),
    )

pub returns : goal.returns
unfolding visit_at
returns c =
    let a = c.args in
    let i = c.loop-k.invariant in
    let w : List ℕ = record_of (take a.len a.st.seq) in
    let k : c.loop-k.k ≡ 9 = omega arith in
    record { same = refl; seen = ap (world (a.st.nodes + 1)) (i.2 ∙ ap (sets a.area.now (a.st.nodes * 9)) (take_all c.loop-k.k w (omega (arith, length_record (take a.len a.st.seq))))) }
