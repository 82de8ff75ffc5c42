-- DEMAND 3: what is claimed of a query's answer, count of images and list together, in words that say nothing of how the search goes.
-- That `answer_of` has it is `complete` of `proofs/Whole.antt`; that nothing else has it is `only_one` there.
use Rattle.std.specs.Prelude.{ℕ, ◌<◌, ◌≡◌, true, false, ◌↔◌, List, length, Float}
use Rattle.sequences.specs.Members.{Image, IsVisited, IsNumbered}
use Rattle.ranking.specs.declared.Candidate.{Candidate}
use Rattle.ranking.specs.Lists.{Has, BestFirst, ahead}
use Rattle.ranking.specs.Candidate.{better, duplicates}
use Rattle.ranking.specs.Listed.{Once}
use Rattle.claim.specs.Answer.{Found, Outcome, passes, tap_of, Answer}

-- c is the tap of an image seen, under that image's number, and the image's path passes. `path` is given the sequence and nothing else:
-- "from nothing found for another image"
pub record Passed (path : List ℕ → Outcome) (seen : List (List ℕ)) (c : Candidate) : Type 0 where
  pub sequence : List ℕ
  pub image : Image seen c.number sequence
  pub rays : ℕ
  pub what : Found
  pub passing : path sequence ≡ passes rays what
  pub tap : c ≡ tap_of c.number sequence what

-- why c stands in the list `taps`
pub record Stands (speed rate : Float) (limit : ℕ) (path : List ℕ → Outcome) (seen : List (List ℕ)) (taps : List Candidate) (c : Candidate) : Type 0 where
  pub passed : Passed path seen c
  pub fresh : (k : Candidate) → Has k taps → better k c ≡ true → duplicates speed rate k c ≡ false
  pub room : ahead better c taps < limit

pub record Complete (on : List ℕ) (order : ℕ) (speed rate : Float) (limit : ℕ) (path : List ℕ → Outcome) (answer : Answer) : Type 0 where
  -- the images visited, in turn: the allowed sequences in document 01's order, until none remains or 250,000 are visited
  pub seen : List (List ℕ)
  pub visits : IsVisited on order seen
  -- the answer's count of images is how many they are
  pub count : answer.images ≡ length seen
  -- they are numbered from 1 without a gap, and two are equal in number exactly when their sequences are equal
  pub numbers : IsNumbered seen
  -- a tap stands in the answer exactly when its image was visited, its path passes, no better tap kept duplicates it, and fewer than the limit were
  -- kept before it
  pub exactly : (c : Candidate) → Has c answer.taps ↔ Stands speed rate limit path seen answer.taps c
  -- each once, the better first
  pub once : Once answer.taps
  pub best_first : BestFirst better answer.taps
