-- The refusals by their numbers in document 01 and docs/BEHAVIOUR.md. There is no 12.
use Rattle.std.specs.Prelude.{ℕ, Result, Ok, Err}
use Rattle.refusals.specs.declared.Refusal.{Refusal}
use Rattle.refusals.specs.declared.Refusal.TheVariants.{Settings, Lengths, Material, Triangles, Areas, Far, Candidates, Bytes, Counts, Numbers, Order, NoImage, Forecast}

abbrev pub number_of : Refusal → ℕ
number_of Settings = 1
number_of Lengths = 2
number_of Material = 3
number_of Triangles = 4
number_of Areas = 5
number_of Far = 6
number_of Candidates = 7
number_of Bytes = 8
number_of Counts = 9
number_of Numbers = 10
number_of Order = 11
number_of NoImage = 13
number_of Forecast = 14

-- the number that a result tells: that of its refusal, 0 where there is none
abbrev pub number_told : {A : Type 0} → Result A Refusal → ℕ
number_told (Ok a) = 0
number_told (Err r) = number_of r
