-- Refusals 9 to 11: what taps are tested for, in the order of the numbers. Reader and writer have these tests in common.
use Rattle.std.specs.Prelude.{ℕ, ◌/◌, ◌%◌, Bool, true, false, cond, not, ◌&&◌, ◌||◌, leb, eqb, Float, List, [], ◌∷◌, map, Option, Some, None, Result, Ok, Err}
use mathlib.Core.List.{foldl}
use Rattle.std.specs.Float.{binary32}
use Rattle.std.specs.Float.Ieee.{of_bits, add, mul, lt}
use Rattle.refusals.specs.declared.Refusal.{Refusal}
use Rattle.refusals.specs.declared.Refusal.TheVariants.{Counts, Numbers, Order}
use Rattle.packet.specs.Limits.{most_taps, most_images, most_order}
use Rattle.packet.specs.Floats.{finite_bits, positive_bits}
use Rattle.packet.specs.Tap.{Tap}

-- Every element passes p
unfoldable pub all : {A : Type 0} → (A → Bool) → List A → Bool
all p [] = true
all p (a ∷ l) = p a && all p l

-- ---- 9

-- "an order is not 1 to 8, or an image number is 0 or above images": neither
abbrev pub in_range : ℕ → Tap → Bool
in_range images t = leb 1 t.order && (leb t.order most_order && (leb 1 t.number && leb t.number images))

-- ---- 10

-- "a float is not finite .. or a gain whose bit stands is not above 0": neither, the gain's bit being the lowest of m
abbrev pub valid_gain : ℕ → ℕ → Bool
valid_gain m g = finite_bits g && (not (eqb (m % 2) 1) || positive_bits g)

-- The same of gains, the lowest bit of m being that of the first
unfoldable pub valid_gains : ℕ → List ℕ → Bool
valid_gains m [] = true
valid_gains m (g ∷ gs) = valid_gain m g && valid_gains (m / 2) gs

-- "a float is not finite, a delay is not above 0, or a gain whose bit stands is not above 0": none of them, for the bit map m
abbrev pub valid_floats_by : ℕ → Tap → Bool
valid_floats_by m t = finite_bits t.x && (finite_bits t.y && (finite_bits t.z && (positive_bits t.delay && valid_gains m t.gains)))

-- The same for the tap's own bit map
abbrev pub valid_floats : Tap → Bool
valid_floats t = valid_floats_by t.bits t

-- ---- 11

-- A number is in a list
abbrev pub member : ℕ → List ℕ → Bool
member n [] = false
member n (m ∷ ms) = eqb n m || member n ms

-- "an image number comes twice": none does
unfoldable pub distinct : List ℕ → Bool
distinct [] = true
distinct (n ∷ ns) = not (member n ns) && distinct ns

-- The image number of a tap
abbrev pub number_of : Tap → ℕ
number_of t = t.number

-- A gain's square, as an f32
abbrev pub square : ℕ → Float
square g = mul binary32 (of_bits binary32 g) (of_bits binary32 g)

-- One square more in a sum, "rounded once"
abbrev pub plus_square : Float → ℕ → Float
plus_square s g = add binary32 s (square g)

-- "a squared-gain sum": from 0 and band 0 on
abbrev pub squared_sum : List ℕ → Float
squared_sum gs = foldl plus_square (of_bits binary32 0) gs

-- The squared-gain sum of a tap
abbrev pub sum_of_squared_gains : Tap → Float
sum_of_squared_gains t = squared_sum t.gains

-- "1e-14": the f32 nearest to it
abbrev pub least_sum : Float
least_sum = of_bits binary32 0x2834_24dc

-- "or exceeds the one before it": none does
unfoldable pub none_exceeds : List Float → Bool
none_exceeds [] = true
none_exceeds (e ∷ []) = true
none_exceeds (e ∷ f ∷ es) = not (lt e f) && none_exceeds (f ∷ es)

-- "a squared-gain sum is not above 1e-14 or exceeds the one before it": neither, for each sum
abbrev pub valid_sums : List Float → Bool
valid_sums es = all (lt least_sum) es && none_exceeds es

-- ---- the lowest that applies

-- A refusal, and the test that keeps it away
pub record Test : Type 0 where
  pub refusal : Refusal
  pub holds : Bool

-- Refusal r applies unless b
abbrev pub must : Refusal → Bool → Test
must r b = record { refusal = r; holds = b }

-- "The lowest that applies": the refusal of the first test that fails, none where all hold
abbrev pub first_failed : List Test → Option Refusal
first_failed [] = None
first_failed (t ∷ ts) = cond t.holds (first_failed ts) (Some t.refusal)

-- Refusals 9, 10 and 11, in this order
abbrev pub tests : ℕ → ℕ → List Tap → List Test
tests count images ts =
    (must Counts (leb count most_taps))
    ∷ (must Counts (leb images most_images))
    ∷ (must Counts (all (in_range images) ts))
    ∷ (must Numbers (all valid_floats ts))
    ∷ (must Order (distinct (map number_of ts)))
    ∷ (must Order (valid_sums (map sum_of_squared_gains ts)))
    ∷ []

-- the answer a, unless something is refused
abbrev pub unless_refused : {A : Type 0} → Option Refusal → A → Result A Refusal
unless_refused None a = Ok a
unless_refused (Some r) a = Err r

-- "leaves its tap area as found": where nothing is refused the first, else the second
abbrev pub unless : {A : Type 0} → Option Refusal → A → A → A
unless None a b = a
unless (Some r) a b = b
