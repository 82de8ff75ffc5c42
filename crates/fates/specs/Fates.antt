-- A FATE FOR EVERY IMAGE: "one byte for each visited image, in number order". Images are numbered from 1; `own n` is the place, in the Rust's order, of the
-- first test that the path of image n fails, from 1 to 7, and 0 where the path passes; cs are the candidates of those that pass, each under its image's number.
use Rattle.std.specs.Prelude.{ℕ, zero, suc, ◌+◌, ◌-◌, ◌≤◌, ◌≡◌, Bool, true, false, cond, ◌||◌, ◌↔◌, List, [], ◌∷◌, eqb, Float, length, get_or, set}
use Rattle.ranking.specs.declared.Candidate.{Candidate}
use Rattle.ranking.specs.Lists.{Has, sorted, kept}
use Rattle.ranking.specs.Candidate.{better, duplicates, ranked, Rankable}
use Rattle.ranking.specs.Listed.{Once}

-- one of the list has the number n
unfoldable pub numbered : ℕ → List Candidate → Bool
numbered n [] = false
numbered n (c ∷ cs) = eqb c.number n || numbered n cs

-- "the kept list before its cut" (`ranked` is its front)
abbrev pub whole_list : Float → Float → List Candidate → List Candidate
whole_list speed rate cs = kept (duplicates speed rate) (sorted better cs)

-- "8 duplicate, 9 cut by the list's limit"
abbrev pub duplicate_fate : ℕ
duplicate_fate = 8

abbrev pub cut_fate : ℕ
cut_fate = 9

-- the byte of image n, by the list before its cut and the answer's taps: its own fate, or else what became of its candidate
abbrev pub fate_in : List Candidate → List Candidate → ℕ → ℕ → ℕ
fate_in whole taps (suc f) n = suc f
fate_in whole taps zero n = cond (numbered n taps) 0 (cond (numbered n whole) cut_fate duplicate_fate)

-- those of k images, from number n on
unfoldable pub fates_from : (ℕ → ℕ) → List Candidate → List Candidate → ℕ → ℕ → List ℕ
fates_from own whole taps n zero = []
fates_from own whole taps n (suc k) = fate_in whole taps (own n) n ∷ fates_from own whole taps (suc n) k

-- THE FATES of so many images
abbrev pub fates_of : (ℕ → ℕ) → Float → Float → ℕ → List Candidate → ℕ → List ℕ
fates_of own speed rate limit cs images = fates_from own (whole_list speed rate cs) (ranked speed rate limit cs) 1 images

-- the byte of image n
abbrev pub byte_of : List ℕ → ℕ → ℕ
byte_of fates n = get_or fates (n - 1) 0

-- the same byte by byte, as they may be stored: first the own fates, and 8 for each that passes; then 9 for all that are kept, then 0 for the taps.
-- `marks_are_fates` of `proofs/Marks.antt` says that these are the fates
unfoldable pub unranked : (ℕ → ℕ) → ℕ → ℕ → List ℕ
unranked own n zero = []
unranked own n (suc k) = fate_in [] [] (own n) n ∷ unranked own (suc n) k

unfoldable pub marked : ℕ → List Candidate → List ℕ → List ℕ
marked v [] bs = bs
marked v (c ∷ cs) bs = marked v cs (set bs (c.number - 1) v)

-- how many bytes are 0
unfoldable pub zeros_in : List ℕ → ℕ
zeros_in [] = 0
zeros_in (b ∷ bs) = cond (eqb b 0) 1 0 + zeros_in bs

-- candidates as a search finds them: no two of one number, such as can be ranked, each of an image whose path passes
pub record Judged (own : ℕ → ℕ) (images : ℕ) (cs : List Candidate) : Type 0 where
  pub once : Once cs
  pub rankable : (c : Candidate) → Has c cs → Rankable c
  pub low : (c : Candidate) → Has c cs → 1 ≤ c.number
  pub high : (c : Candidate) → Has c cs → c.number ≤ images
  pub passed : (c : Candidate) → Has c cs → own c.number ≡ 0

-- each image whose path passes has its candidate
abbrev pub AllFound : (ℕ → ℕ) → ℕ → List Candidate → Type 0
AllFound own images cs = (n : ℕ) → 1 ≤ n → n ≤ images → own n ≡ 0 → (c : Candidate) × Has c cs × (c.number ≡ n)

-- a better one of the list duplicates c
pub record Doubled (speed rate : Float) (whole : List Candidate) (c : Candidate) : Type 0 where
  pub by : Candidate
  pub there : Has by whole
  pub ahead_of : better by c ≡ true
  pub alike : duplicates speed rate by c ≡ true

-- WHAT THE BYTES SAY, in both directions
pub record Fated (own : ℕ → ℕ) (speed rate : Float) (limit : ℕ) (cs : List Candidate) (images : ℕ) (fates : List ℕ) : Type 0 where
  pub count : length fates ≡ images
  -- "The byte names the first test that failed, in the Rust's order"
  pub failed : (n : ℕ) → 1 ≤ n → n ≤ images → (own n ≡ 0 → ⊥) → byte_of fates n ≡ own n
  -- "0 kept": exactly when it is a tap of the answer
  pub tap : (c : Candidate) → Has c cs → (byte_of fates c.number ≡ 0) ↔ Has c (ranked speed rate limit cs)
  -- "Fate 8 is judged against the kept list before its cut": exactly when a better one of that list duplicates it
  pub duplicate : (c : Candidate) → Has c cs → (byte_of fates c.number ≡ duplicate_fate) ↔ Doubled speed rate (whole_list speed rate cs) c
  -- "9 cut by the list's limit": exactly when it stands in the list before its cut, and not in the answer
  pub cut : (c : Candidate) → Has c cs → (byte_of fates c.number ≡ cut_fate) ↔ (Has c (whole_list speed rate cs) × (Has c (ranked speed rate limit cs) → ⊥))
  -- "In a result the zeros among these bytes are as many as the taps returned"
  pub zeros : zeros_in fates ≡ length (ranked speed rate limit cs)
