-- What the answer of `check` says where it accepts a scene.
use mathlib.Core.Path.{◌≡◌, refl, sym}
use mathlib.Core.Bool.{Bool, true, false}
use mathlib.Core.List.{List, [], ◌∷◌}
use Prim.Native.Nat.{ℕ, ◌≤◌}
use native.Mathlib.Omega.{arith}
use borrow.Author.Tests.{ltb-false, not-false}
use Rattle.scene.specs.declared.Settings.{Settings}
use Rattle.scene.specs.Scene.{Scene, headers}
use Rattle.scene.specs.Limits.{settings_of, most_triples}
use Rattle.scene.specs.Areas.{short_of, RoomyIn}
use Rattle.scene.specs.Refusals.{refusal1, refusal2, refusal3, refusal4, refusal5, first, Accepted, answer, first_of_five, check_of, lengths_are_right, has_unknown_handle, triples_in}
use Rattle.scene.proofs.Rooms.{rooms}

-- none of the refusals 1 to 5 applies, and the scene has t whole triples
pub record NoneOfFive (st : Settings) (c : ℕ) (s : Scene) (lens : List ℕ) (t : ℕ) : Type 0 where
  pub settings : refusal1 st c ≡ false
  pub lengths : refusal2 s ≡ false
  pub known : refusal3 s ≡ false
  pub few : refusal4 s ≡ false
  pub room : refusal5 s c lens ≡ false
  pub count : triples_in s ≡ t

record Five (b1 b2 b3 b4 b5 : Bool) (t n : ℕ) : Type 0 where
  pub one : b1 ≡ false
  pub two : b2 ≡ false
  pub three : b3 ≡ false
  pub four : b4 ≡ false
  pub five : b5 ≡ false
  pub count : t ≡ n

five : (b1 b2 b3 b4 b5 : Bool) (t n : ℕ) → answer (first 1 (b1 ∷ b2 ∷ b3 ∷ b4 ∷ b5 ∷ [])) t ≡ Accepted n → Five b1 b2 b3 b4 b5 t n
five true b2 b3 b4 b5 t n e = let z : ◌≡◌ {A = ℕ} 0 1 = cc in absurd (omega arith)
five false true b3 b4 b5 t n e = let z : ◌≡◌ {A = ℕ} 0 1 = cc in absurd (omega arith)
five false false true b4 b5 t n e = let z : ◌≡◌ {A = ℕ} 0 1 = cc in absurd (omega arith)
five false false false true b5 t n e = let z : ◌≡◌ {A = ℕ} 0 1 = cc in absurd (omega arith)
five false false false false true t n e = let z : ◌≡◌ {A = ℕ} 0 1 = cc in absurd (omega arith)
five false false false false false t n e = record { one = refl; two = refl; three = refl; four = refl; five = refl; count = cc }

-- what that says of the settings, the scene and the areas
pub record AcceptedScene (st : Settings) (c : ℕ) (s : Scene) (lens : List ℕ) (t : ℕ) : Type 0 where
  pub settings : settings_of st c ≡ true
  pub lengths : lengths_are_right s ≡ true
  pub known : has_unknown_handle s.rows (headers s.meshes) ≡ false
  pub count : t ≡ triples_in s
  pub few : t ≤ most_triples
  pub enough : short_of t c lens ≡ false
  pub room : RoomyIn t c lens

module _ (st : Settings) (c : ℕ) (s : Scene) (lens : List ℕ) (t : ℕ) where
  pub none_of_five : check_of st c s lens ≡ Accepted t → NoneOfFive st c s lens t
  unfolding check_of first_of_five
  none_of_five e =
      let o = five (refusal1 st c) (refusal2 s) (refusal3 s) (refusal4 s) (refusal5 s c lens) (triples_in s) t e in
      record { settings = o.one; lengths = o.two; known = o.three; few = o.four; room = o.five; count = o.count }

  pub none_accepted : NoneOfFive st c s lens t → AcceptedScene st c s lens t
  unfolding refusal1 refusal2 refusal3 refusal4 refusal5
  none_accepted o =
      let short : short_of t c lens ≡ false = rw (← o.count) o.room in
      record {
        settings = not-false (settings_of st c) o.settings;
        lengths = not-false (lengths_are_right s) o.lengths;
        known = o.known;
        count = sym o.count;
        few = rw o.count at (ltb-false most_triples (triples_in s) o.few);
        enough = short;
        room = rooms t c lens short;
      }

  pub accepted_scene : check_of st c s lens ≡ Accepted t → AcceptedScene st c s lens t
  accepted_scene e = none_accepted (none_of_five e)
