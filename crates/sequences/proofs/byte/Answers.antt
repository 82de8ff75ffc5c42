-- `sequences::byte` meets its contract: a law for a plane, one for the zeros behind the planes, one for the length.
use mathlib.Core.Path.{◌≡◌, sym}
use native.Mathlib.Omega.{arith}
use lib.ListN.{length}
use mir.Syntax.{w8}
use borrow.Kind.Array.{good_length, e_int}
use Rattle.sequences.proofs.Laws.{byte_plane, byte_zero, byte_length}
use Rattle.sequences.proofs.byte.Goals as goal

pub returns-then-k-len : goal.returns-then-k-len
returns-then-k-len c =
    let a = c.args in
    let g : length a.seq ≡ 8 = good_length (e_int w8) 8 a.seq _ c.well_formed.0 in
    let h = c.requires in
    sym (byte_plane a.seq a.len (omega arith) h.0 a.k c.if-k-len.true)

pub returns-then-k-lt-MAX_IMAGE_ORDER : goal.returns-then-k-lt-MAX_IMAGE_ORDER
returns-then-k-lt-MAX_IMAGE_ORDER c =
    let a = c.args in
    let g : length a.seq ≡ 8 = good_length (e_int w8) 8 a.seq _ c.well_formed.0 in
    let h = c.requires in
    sym (byte_zero a.seq a.len (omega arith) h.0 a.k c.if-k-len.false c.if-k-lt-MAX_IMAGE_ORDER.true)

pub returns-else-k-lt-MAX_IMAGE_ORDER : goal.returns-else-k-lt-MAX_IMAGE_ORDER
returns-else-k-lt-MAX_IMAGE_ORDER c =
    let a = c.args in
    let g : length a.seq ≡ 8 = good_length (e_int w8) 8 a.seq _ c.well_formed.0 in
    let h = c.requires in
    sym (byte_length a.seq a.len (omega arith) h.0 a.k (omega arith))
