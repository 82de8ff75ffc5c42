-- `numbering::first_plane` meets its contract. The loop's invariant: of the q planes to be passed, `left` are not below p.
use mathlib.Core.Path.{◌≡◌, ap}
use mathlib.Core.List.{[]}
use native.Mathlib.Omega.{arith}
use lib.ListN.{length}
use Rattle.sequences.specs.Allowed.{may}
use Rattle.sequences.specs.Count.{count}
use Rattle.numbering.proofs.Laws.{firsts_more, first_is}
use Rattle.numbering.proofs.first_plane.Goals as goal

pub loop-p-init : goal.loop-p-init
unfolding count
loop-p-init c = (omega arith, omega arith)

pub overflow_cast-result : goal.overflow_cast-result
overflow_cast-result c =
    let at_pre = c.requires in
    let f = at_pre.few in
    let t = c.loop-p-test.true in
    omega arith

pub returns-then-left-c : goal.returns-then-left-c
returns-then-left-c c =
    let at-args = c.args in
    first_is at-args.on.now c.loop-p.p at-args.q c.loop-p.left c.counts-c.result c.loop-p-test.true c.loop-p.invariant.1
    c.counts-c.ensures c.if-left-c.true

pub loop-p-preserved : goal.loop-p-preserved
loop-p-preserved c =
    let at-args = c.args in
    let f = firsts_more at-args.on.now c.loop-p.p in
    let g = c.counts-c.ensures in
    let i = c.loop-p.invariant.1 in
    let t = c.if-left-c.false in
    (omega arith, omega arith)

pub returns : goal.returns
returns c =
    let at-args = c.args in
    let at_pre = c.requires in
    let i = c.loop-p.invariant in
    let t = c.loop-p-test.false in
    let l = at_pre.less in
    let e : count (may at-args.on.now []) c.loop-p.p ≡ count (may at-args.on.now []) (length at-args.on.now) =
    ap (count (may at-args.on.now [])) (let e : c.loop-p.p ≡ length at-args.on.now = omega arith in e) in
    absurd (let no : ⊥ = omega arith in no)
