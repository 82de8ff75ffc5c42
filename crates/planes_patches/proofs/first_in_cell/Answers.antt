-- `planes_patches::first_in_cell` meets its contract: the loop holds that no patch before p matches (`Buckets`).
use mathlib.Core.Path.{◌∙◌, sym}
use Prim.Native.Nat.{◌-◌}
use native.Mathlib.Omega.{arith}
use lib.ListN.{get_or}
use Rattle.planes_patches.specs.Grid.{key}
use Rattle.planes_patches.proofs.Buckets.{tail_low, walk_done, walk_empty, walk_found, walk_start, walk_step}
use Rattle.planes_patches.proofs.first_in_cell.Goals as goal

pub bounds-heads-bucket : goal.bounds-heads-bucket
bounds-heads-bucket c = let b = c.requires.buckets in let e = c.bucket.ensures.1 in omega arith

pub returns-then-head-eq0 : goal.returns-then-head-eq0
returns-then-head-eq0 c =
    let a = c.args in walk_empty c.requires (key a.x a.y a.z) a.k.normal a.k.offset c.bucket.ensures.0 c.if-head-eq0.true

pub overflow_cast-tail : goal.overflow_cast-tail
overflow_cast-tail c = omega (arith, (c.shared_slice_known-5-1.given c.bucket.result).fits)

pub offset_bounds-next-tail : goal.offset_bounds-next-tail
offset_bounds-next-tail c = omega (arith, (c.shared_slice_known-5-1.given c.bucket.result).fits)

pub bounds-next-tail : goal.bounds-next-tail
bounds-next-tail c =
    let a = c.args in let r = c.requires.room_next in
    let l = tail_low c.requires (key a.x a.y a.z) a.k.normal a.k.offset c.bucket.ensures.0 c.if-head-eq0.false in omega arith

pub overflow_cast-p : goal.overflow_cast-p
overflow_cast-p c = let a = c.args in omega (arith, (c.shared_slice_known-6-1.given (get_or a.heads.now c.bucket.result 0 - 1)).fits)

pub loop-k-init : goal.loop-k-init
loop-k-init c =
    let a = c.args in walk_start c.requires (key a.x a.y a.z) a.k.normal a.k.offset c.bucket.ensures.0 c.if-head-eq0.false

pub is_match-requires : goal.is_match-requires
is_match-requires c =
    let a = c.args in let g = c.requires in let w = c.loop-k.invariant.0 in
    let l = tail_low g (key a.x a.y a.z) a.k.normal a.k.offset c.bucket.ensures.0 c.if-head-eq0.false in (omega arith, omega arith)

pub returns-then-is_match : goal.returns-then-is_match
returns-then-is_match c =
    let a = c.args in
    walk_found c.requires (key a.x a.y a.z) a.k.normal a.k.offset c.bucket.ensures.0 c.if-head-eq0.false c.loop-k.p c.loop-k.invariant (sym c.is_match.ensures ∙ c.if-is_match.true)

pub returns-then-p-tail : goal.returns-then-p-tail
returns-then-p-tail c =
    let a = c.args in
    walk_done c.requires (key a.x a.y a.z) a.k.normal a.k.offset c.bucket.ensures.0 c.if-head-eq0.false c.loop-k.p c.loop-k.invariant c.if-p-tail.true (sym c.is_match.ensures ∙ c.if-is_match.false)

pub offset_bounds-next-p : goal.offset_bounds-next-p
offset_bounds-next-p c = let w = c.loop-k.invariant.0 in omega (arith, (c.shared_slice_known-5-1.given c.bucket.result).fits)

pub bounds-next-p : goal.bounds-next-p
bounds-next-p c =
    let a = c.args in let r = c.requires.room_next in let w = c.loop-k.invariant.0 in
    let l = tail_low c.requires (key a.x a.y a.z) a.k.normal a.k.offset c.bucket.ensures.0 c.if-head-eq0.false in omega arith

pub overflow_cast-p-in-loop-k : goal.overflow_cast-p-in-loop-k
overflow_cast-p-in-loop-k c = omega (arith, (c.shared_slice_known-in-loop-k-1.given c.loop-k.p).fits)

pub loop-k-smaller : goal.loop-k-smaller
loop-k-smaller c =
    let a = c.args in
    let w = walk_step c.requires (key a.x a.y a.z) a.k.normal a.k.offset c.bucket.ensures.0 c.if-head-eq0.false c.loop-k.p c.loop-k.invariant c.if-p-tail.false (sym
    c.is_match.ensures ∙ c.if-is_match.false) in
    let l = w.0 in let i = w.1.0 in omega arith

pub loop-k-preserved : goal.loop-k-preserved
loop-k-preserved c =
    let a = c.args in
    (walk_step c.requires (key a.x a.y a.z) a.k.normal a.k.offset c.bucket.ensures.0 c.if-head-eq0.false c.loop-k.p c.loop-k.invariant c.if-p-tail.false (sym
    c.is_match.ensures ∙ c.if-is_match.false)).1

pub bucket-requires : goal.bucket-requires
bucket-requires c = tt
