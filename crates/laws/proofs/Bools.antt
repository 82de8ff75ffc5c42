-- Tests with `and` and `or`: what holds of both where the whole is true or false, and back.
--     or_cases, and_cases      whatever follows from the parts of a true test
--     or_right                 `or` of a true second part
--     or_first, or_second      both parts of a false `or` are false
--     and_second               the second part of a true `and` is true
--     both, neither            both parts of a true `and`, and of a false `or`, as one
--     or_none, and_false       a second part that is false
--     bool_iff                 two tests that follow from each other are equal
use mathlib.Core.Path.{◌≡◌, refl, sym}
use mathlib.Core.Bool.{Bool, true, false, ◌||◌, ◌&&◌, true≢false}

pub or_cases : {C : Type 0} (p q : Bool) → (p ≡ true → C) → (q ≡ true → C) → p || q ≡ true → C
or_cases true q f g e = f refl
or_cases false q f g e = g e

pub and_cases : {C : Type 0} (p q : Bool) → (p ≡ true → q ≡ true → C) → p && q ≡ true → C
and_cases true q f e = f refl e
and_cases false q f e = absurd (true≢false (sym e))

pub or_right : (p q : Bool) → q ≡ true → p || q ≡ true
or_right true q e = refl
or_right false q e = e

pub or_first : (a b : Bool) → a || b ≡ false → a ≡ false
or_first true b e = e
or_first false b e = refl

pub or_second : (a b : Bool) → a || b ≡ false → b ≡ false
or_second true b e = absurd (true≢false e)
or_second false b e = e

pub and_second : (a b : Bool) → a && b ≡ true → b ≡ true
and_second true b e = e
and_second false b e = absurd (true≢false (sym e))

pub record Both (a b : Bool) : Type 0 where
  pub one : a ≡ true
  pub two : b ≡ true

pub both : (a b : Bool) → (a && b) ≡ true → Both a b
both true true e = record { one = refl; two = refl }
both true false e = absurd (true≢false (sym e))
both false b e = absurd (true≢false (sym e))

pub record Neither (a b : Bool) : Type 0 where
  pub one : a ≡ false
  pub two : b ≡ false

pub neither : (a b : Bool) → (a || b) ≡ false → Neither a b
neither false false e = record { one = refl; two = refl }
neither false true e = absurd (true≢false e)
neither true b e = absurd (true≢false e)

pub or_none : (b : Bool) → b || false ≡ b
or_none true = refl
or_none false = refl

pub and_false : (a : Bool) → a && false ≡ false
and_false true = refl
and_false false = refl

pub bool_iff : (p q : Bool) → (p ≡ true → q ≡ true) → (q ≡ true → p ≡ true) → p ≡ q
bool_iff true q f g = sym (f refl)
bool_iff false true f g = g refl
bool_iff false false f g = refl
