-- What a list of taps is, in words that say nothing of how it is found. That `ranked` is such a list is `ranked_listed` of `proofs/Laws.antt`;
-- that there is no other is `only_one` of `proofs/Only.antt`.
use Rattle.std.specs.Prelude.{ℕ, ◌<◌, ◌≡◌, true, false, ◌↔◌, List, [], ◌∷◌, Float}
use Rattle.ranking.specs.declared.Candidate.{Candidate}
use Rattle.ranking.specs.Lists.{Has, BestFirst, ahead}
use Rattle.ranking.specs.Candidate.{better, duplicates}

-- no two have one number
abbrev pub Once : List Candidate → Type 0
Once [] = Unit {0}
Once (c ∷ cs) = ((d : Candidate) → Has d cs → c.number ≡ d.number → ⊥) × Once cs

-- why c, one of the candidates cs, stands in the list `taps`: no better tap of the list duplicates it, and fewer than the limit are better
pub record StandsAmong (speed rate : Float) (limit : ℕ) (cs taps : List Candidate) (c : Candidate) : Type 0 where
  pub among : Has c cs
  pub fresh : (k : Candidate) → Has k taps → better k c ≡ true → duplicates speed rate k c ≡ false
  pub room : ahead better c taps < limit

-- the list of the candidates cs: a candidate stands in it exactly for that reason, the better first, each once
pub record Listed (speed rate : Float) (limit : ℕ) (cs taps : List Candidate) : Type 0 where
  pub exactly : (c : Candidate) → Has c taps ↔ StandsAmong speed rate limit cs taps c
  pub best_first : BestFirst better taps
  pub once : Once taps
