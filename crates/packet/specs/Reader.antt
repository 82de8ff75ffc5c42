-- What the reader answers, and what its tap area then holds: for any bytes bs and any tap area a, as it is found.
use Rattle.std.specs.Prelude.{ℕ, Bool, ◌&&◌, List, [], ◌∷◌, ◌++◌, length, drop, leb, Option, Result, Ok, Err}
use Rattle.refusals.specs.declared.Refusal.{Refusal}
use Rattle.refusals.specs.declared.Refusal.TheVariants.{Areas, Bytes}
use Rattle.packet.specs.declared.Head.{Head}
use Rattle.packet.specs.Limits.{head_bytes, area_words}
use Rattle.packet.specs.Tap.{all_words}
use Rattle.packet.specs.Bytes.{count_in, images_in, rays_in, has_only_taps, decode}
use Rattle.packet.specs.Refusals.{must, first_failed, tests, unless, unless_refused}

-- "the bytes end early or go on after the last tap": neither
abbrev pub whole : List ℕ → Bool
whole bs = leb head_bytes (length bs) && has_only_taps (count_in bs) (drop head_bytes bs)

-- The reader's refusals: 5, "tested first", where the tap area is too short, then 8, 9, 10 and 11
unfoldable pub refused_read : List ℕ → List ℕ → Option Refusal
refused_read bs a = first_failed ((must Areas (leb area_words (length a))) ∷ (must Bytes (whole bs)) ∷ tests (count_in bs) (images_in bs) (decode bs))

-- "Count .., images (4), rays (4)"
abbrev pub head : ℕ → ℕ → ℕ → Head
head count images rays = record { count = count; images = images; rays = rays }

-- What the reader answers
unfoldable pub read_answer : List ℕ → List ℕ → Result Head Refusal
read_answer bs a = unless_refused (refused_read bs a) (head (count_in bs) (images_in bs) (rays_in bs))

-- "What lies in the tap area past the last tap read is unchanged", and a refusal "leaves its tap area as found"
unfoldable pub read_area : List ℕ → List ℕ → List ℕ
read_area bs a = unless (refused_read bs a) (all_words (decode bs) ++ drop (length (all_words (decode bs))) a) a

-- Count, images and rays, "with counts 0" for a refusal
abbrev pub read_counts : Result Head Refusal → List ℕ
read_counts (Ok h) = h.count ∷ h.images ∷ h.rays ∷ []
read_counts (Err r) = 0 ∷ 0 ∷ 0 ∷ []
