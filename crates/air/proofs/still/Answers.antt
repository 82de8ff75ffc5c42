-- `air::still` meets its contract: one coefficient after the other.
use Rattle.std.proofs.Common.{eq-eqb, ne_eqb}
use Rattle.air.specs.Kept.{still_of}
use Rattle.air.proofs.still.Goals as goal

pub returns-then-air-ne0 : goal.returns-then-air-ne0
unfolding still_of
returns-then-air-ne0 c =
    rw (
    ne_eqb c.args.air.a0 0 c.if-air-ne0.true
    )

pub returns-then-air-ne0-2 : goal.returns-then-air-ne0-2
unfolding still_of
returns-then-air-ne0-2 c =
    rw (
      eq-eqb c.args.air.a0 0 c.if-air-ne0.false,
      ne_eqb c.args.air.a1 0 c.if-air-ne0-2.true,
    )

pub returns-then-air-ne0-3 : goal.returns-then-air-ne0-3
unfolding still_of
returns-then-air-ne0-3 c =
    rw (
      eq-eqb c.args.air.a0 0 c.if-air-ne0.false,
      eq-eqb c.args.air.a1 0 c.if-air-ne0-2.false,
      ne_eqb c.args.air.a2 0 c.if-air-ne0-3.true,
    )

pub returns-then-air-ne0-4 : goal.returns-then-air-ne0-4
unfolding still_of
returns-then-air-ne0-4 c =
    rw (
      eq-eqb c.args.air.a0 0 c.if-air-ne0.false,
      eq-eqb c.args.air.a1 0 c.if-air-ne0-2.false,
      eq-eqb c.args.air.a2 0 c.if-air-ne0-3.false,
      ne_eqb c.args.air.a3 0 c.if-air-ne0-4.true,
    )

pub returns-then-air-ne0-5 : goal.returns-then-air-ne0-5
unfolding still_of
returns-then-air-ne0-5 c =
    rw (
      eq-eqb c.args.air.a0 0 c.if-air-ne0.false,
      eq-eqb c.args.air.a1 0 c.if-air-ne0-2.false,
      eq-eqb c.args.air.a2 0 c.if-air-ne0-3.false,
      eq-eqb c.args.air.a3 0 c.if-air-ne0-4.false,
      ne_eqb c.args.air.a4 0 c.if-air-ne0-5.true,
    )

pub returns-then-air-ne0-6 : goal.returns-then-air-ne0-6
unfolding still_of
returns-then-air-ne0-6 c =
    rw (
      eq-eqb c.args.air.a0 0 c.if-air-ne0.false,
      eq-eqb c.args.air.a1 0 c.if-air-ne0-2.false,
      eq-eqb c.args.air.a2 0 c.if-air-ne0-3.false,
      eq-eqb c.args.air.a3 0 c.if-air-ne0-4.false,
      eq-eqb c.args.air.a4 0 c.if-air-ne0-5.false,
      ne_eqb c.args.air.a5 0 c.if-air-ne0-6.true,
    )

pub returns-then-air-ne0-7 : goal.returns-then-air-ne0-7
unfolding still_of
returns-then-air-ne0-7 c =
    rw (
      eq-eqb c.args.air.a0 0 c.if-air-ne0.false,
      eq-eqb c.args.air.a1 0 c.if-air-ne0-2.false,
      eq-eqb c.args.air.a2 0 c.if-air-ne0-3.false,
      eq-eqb c.args.air.a3 0 c.if-air-ne0-4.false,
      eq-eqb c.args.air.a4 0 c.if-air-ne0-5.false,
      eq-eqb c.args.air.a5 0 c.if-air-ne0-6.false,
      ne_eqb c.args.air.a6 0 c.if-air-ne0-7.true,
    )

pub returns : goal.returns
unfolding still_of
returns c =
    rw (
      eq-eqb c.args.air.a0 0 c.if-air-ne0.false,
      eq-eqb c.args.air.a1 0 c.if-air-ne0-2.false,
      eq-eqb c.args.air.a2 0 c.if-air-ne0-3.false,
      eq-eqb c.args.air.a3 0 c.if-air-ne0-4.false,
      eq-eqb c.args.air.a4 0 c.if-air-ne0-5.false,
      eq-eqb c.args.air.a5 0 c.if-air-ne0-6.false,
      eq-eqb c.args.air.a6 0 c.if-air-ne0-7.false,
    )
