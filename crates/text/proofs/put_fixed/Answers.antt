-- `text::put_fixed` meets its contract: sign and parts, or a dash.
use Rattle.std.proofs.Common.{arith}
use Rattle.std.proofs.Math.Nat.{one-le-pow}
use Rattle.listing.proofs.Writing.{wrote_then}
use Rattle.text.specs.Fixed.{fixed_of}
use Rattle.text.proofs.Pieces.{sign_length, parts_length}
use Rattle.text.proofs.put_fixed.Goals as goal

pub returns-in_default : goal.returns-in_default
unfolding fixed_of
returns-in_default c = (
  rw (← c.pow-tens.ensures, ← c.scaled.ensures, c.in_default.is) c.put.ensures,
  omega (arith, c.put.ensures.ends, c.put.auto, c.requires.1),
)

pub put_parts-requires : goal.put_parts-requires
put_parts-requires c =
    let l = sign_length c.args.x c.in-Some.m in (
      c.requires.0,
      c.pow-tens.ensures,
      omega (arith, one-le-pow c.args.k 10 (omega arith)),
      omega (arith, l, c.put_sign-a.ensures.ends, c.put_sign-a.auto, c.requires.1),
    )

pub returns : goal.returns
unfolding fixed_of
returns c =
    let l = sign_length c.args.x c.in-Some.m in
    let n = parts_length c.in-Some.m c.args.k in (
      rw (← c.pow-tens.ensures, ← c.scaled.ensures, c.in-Some.is) (wrote_then c.put_sign-a.ensures c.put_parts.ensures),
      omega (arith, l, n, c.put_sign-a.ensures.ends, c.put_sign-a.auto, c.put_parts.ensures.ends, c.put_parts.auto, c.requires.0, c.requires.1),
    )
