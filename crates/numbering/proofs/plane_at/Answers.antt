-- `numbering::plane_at` meets its contract: the first plane by its search, a later one by the plane before it.
use Prim.Native.Nat.{ℕ}
use mathlib.Core.Path.{sym, ap, ◌∙◌}
use native.Mathlib.Nat.{pos_of_ne-zero}
use native.Mathlib.Omega.{arith}
use lib.ListN.{length, take}
use mir.Syntax.{w8}
use borrow.Kind.Array.{good_length, e_int}
use Rattle.sequences.specs.Allowed.{may}
use Rattle.numbering.specs.Unrank.{nth}
use Rattle.numbering.proofs.Laws.{count_le, follows_first, later_low, later_high, later_above}
use Rattle.numbering.proofs.plane_at.Goals as goal

pub first_plane-requires : goal.first_plane-requires
first_plane-requires c =
    let at-args = c.args in
    let at_pre = c.requires in
    follows_first at-args.on.now at-args.planes at-args.len at-args.q c.if-len-eq0.true (at_pre)

pub returns-then-len-eq0 : goal.returns-then-len-eq0
returns-then-len-eq0 c =
    let at-args = c.args in
    c.first_plane.ensures ∙ ap (λ (n : ℕ). nth (may at-args.on.now (take n at-args.planes)) (length at-args.on.now) at-args.q)
    (sym c.if-len-eq0.true)

pub overflow_sub-len : goal.overflow_sub-len
overflow_sub-len c = omega (arith, pos_of_ne-zero c.if-len-eq0.false)

pub bounds-planes-len : goal.bounds-planes-len
bounds-planes-len c = omega (arith, pos_of_ne-zero c.if-len-eq0.false)

pub overflow_cast-result : goal.overflow_cast-result
overflow_cast-result c =
    let at-args = c.args in
    let at_pre = c.requires in
    let l = at_pre.less in
    let g = count_le (may at-args.on.now (take at-args.len at-args.planes)) (length at-args.on.now) in
    let f = at_pre.few in
    omega arith

pub returns-then-q-planes : goal.returns-then-q-planes
returns-then-q-planes c =
    let at-args = c.args in
    let at_pre = c.requires in
    let e = later_low at-args.on.now at-args.planes at-args.len at-args.q c.if-len-eq0.false
    (good_length (e_int w8) 8 at-args.planes _ c.well_formed.1.0) (at_pre) c.if-q-planes.true in
    omega arith

pub overflow_add-result : goal.overflow_add-result
overflow_add-result c =
    let at-args = c.args in
    let at_pre = c.requires in
    let a = later_above at-args.on.now at-args.planes at-args.len at-args.q c.if-len-eq0.false
    (good_length (e_int w8) 8 at-args.planes _ c.well_formed.1.0) (at_pre) c.if-q-planes.false in
    let f = at_pre.few in
    omega arith

pub overflow_cast-result-2 : goal.overflow_cast-result-2
overflow_cast-result-2 c =
    let at-args = c.args in
    let at_pre = c.requires in
    let a = later_above at-args.on.now at-args.planes at-args.len at-args.q c.if-len-eq0.false
    (good_length (e_int w8) 8 at-args.planes _ c.well_formed.1.0) (at_pre) c.if-q-planes.false in
    let f = at_pre.few in
    omega arith

pub returns : goal.returns
returns c =
    let at-args = c.args in
    let at_pre = c.requires in
    let e = later_high at-args.on.now at-args.planes at-args.len at-args.q c.if-len-eq0.false
    (good_length (e_int w8) 8 at-args.planes _ c.well_formed.1.0) (at_pre) c.if-q-planes.false in
    omega arith
