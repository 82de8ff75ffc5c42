-- `air::millimetres` meets its contract: near, far, endless, and no length at all.
use Rattle.std.proofs.Common.{◌≡◌, ℕ, ◌+◌, ◌<◌, T, sym, ap, ◌∙◌, subst, arith, rules}
use lib.Ieee.{Float, lt, to_unsigned}
use Rattle.air.proofs.Halves.{Near, near, far, endless, no_length, twice_of, too_far}
use Rattle.air.proofs.millimetres.Goals.{After-truncating_f64_to_u64, Then-twice}
use Rattle.air.proofs.millimetres.Goals as goal

-- what is known of the total where twice its millimetres are not too far
close : (c : Then-twice) → Near c.args.total
close c =
    near c.args.total
    (subst T (sym c.well_formed.0.1) tt)
    (subst T (sym c.if-total.true) tt)
    (subst (λ (y : Float). T (lt (twice_of y) too_far)) c.f32_to_f64_with_nan-twice.ensures (subst T (sym c.if-twice.true) tt))

whole : (c : After-truncating_f64_to_u64) → c.truncating_f64_to_u64.result ≡ to_unsigned 64 (twice_of c.args.total)
whole c = c.truncating_f64_to_u64.ensures ∙ ap (λ (y : Float). to_unsigned 64 (twice_of y)) c.f32_to_f64_with_nan-twice.ensures

pub truncating_f64_to_u64-requires : goal.truncating_f64_to_u64-requires
truncating_f64_to_u64-requires c = rw c.f32_to_f64_with_nan-twice.ensures record {
  lower_bound = (close c).low;
  upper_bound = (close c).high;
}

pub overflow_add-result : goal.overflow_add-result
overflow_add-result c =
    let close : Near c.args.total = near c.args.total
    (subst T (sym c.well_formed.0.1) tt)
    (subst T (sym c.if-total.true) tt)
    (subst (λ (y : Float). T (lt (twice_of y) too_far)) c.f32_to_f64_with_nan-twice.ensures (subst T (sym c.if-twice.true) tt)) in
    let h : c.truncating_f64_to_u64.result < 536870912000 = subst (λ (n : ℕ). n < 536870912000) (sym (whole c)) (close).whole in
    search (rules, let e : c.truncating_f64_to_u64.result + 1 < 18446744073709551616 = omega (arith, h) in e)

pub returns-then-twice : goal.returns-then-twice
returns-then-twice c =
    let close : Near c.args.total = near c.args.total
    (subst T (sym c.well_formed.0.1) tt)
    (subst T (sym c.if-total.true) tt)
    (subst (λ (y : Float). T (lt (twice_of y) too_far)) c.f32_to_f64_with_nan-twice.ensures (subst T (sym c.if-twice.true) tt)) in
    rw (whole c) (close).half

pub returns-then-is_finite : goal.returns-then-is_finite
returns-then-is_finite c =
    far c.args.total
    (subst T (sym c.well_formed.0.1) tt)
    (subst T (sym (sym c.is_finite.ensures ∙ c.if-is_finite.true)) tt)
    (subst T (sym c.if-total.true) tt)
    (ap (λ (y : Float). lt (twice_of y) too_far) (sym c.f32_to_f64_with_nan-twice.ensures) ∙ c.if-twice.false)

pub returns-else-is_finite : goal.returns-else-is_finite
returns-else-is_finite c = endless c.args.total (sym c.is_finite.ensures ∙ c.if-is_finite.false)

pub returns-else-total : goal.returns-else-total
returns-else-total c = no_length c.args.total c.if-total.false
