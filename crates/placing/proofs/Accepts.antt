-- What the answer of `check` says of the refusals.
use mathlib.Core.Path.{◌≡◌, refl, sym, ap, ◌∙◌}
use mathlib.Core.Bool.{Bool, true, false, cond, ◌&&◌, true≢false}
use mathlib.Core.List.{List, [], ◌∷◌}
use Prim.Native.Nat.{ℕ, zero, suc, ◌*◌, ◌≤◌}
use native.Mathlib.Omega.{arith}
use borrow.Author.Tests.{eqb-true, eqb-false, ltb-false, not-false}
use lib.Dec.{eqb}
use lib.Ieee.{Float}
use lib.ListN.{length}
use Rattle.scene.specs.declared.Settings.{Settings}
use Rattle.std.specs.Prelude.{Ok, Err}
use Rattle.refusals.specs.declared.Refusal.{Refusal}
use Rattle.refusals.specs.declared.Refusal.TheVariants as refusal
use Rattle.refusals.specs.Numbers.{number_of}
use Rattle.scene.specs.Scene.{Scene, headers, vertex_sum, index_sum}
use Rattle.scene.specs.Refusals.{refusal1, refusal2, refusal3, refusal4, refusal5, first, Refused, Accepted, answer, first_of_five, check_of, lengths_right_of, meshes_are_whole, transforms_are_right, positions_are_right, indices_are_right, materials_are_right, triples_in}
use Rattle.scene.specs.Limits.{most_triples}
use Rattle.scene.proofs.Answers.{NoneOfFive, AcceptedScene, accepted_scene}
use Rattle.placing.specs.Corners.{refusal6, corners, triangles, placings}
use Rattle.placing.specs.Passing.{Fits, pass, PassedOver}
use Rattle.placing.specs.declared.Placed.{Placed}
use Rattle.placing.specs.Loading.{first_refusal, LoadSaid, Triangles, loaded_of, Loading}
use Rattle.placing.specs.Loading as said

-- one of five refuses: the sixth is not asked
pub record Stopped (k first : ℕ) (s : Scene) : Type 0 where
  pub same : first ≡ k
  pub some : eqb k 0 ≡ false
  pub early : eqb k 6 ≡ false
  pub said : said.Refused k ≡ loaded_of k s

stopped :
    (sc : Scene) (b1 b2 b3 b4 b5 b6 : Bool) (t k : ℕ) →
    answer (first 1 (b1 ∷ b2 ∷ b3 ∷ b4 ∷ b5 ∷ [])) t ≡ Refused k → Stopped k (first 1 (b1 ∷ b2 ∷ b3 ∷ b4 ∷ b5 ∷ b6 ∷ [])) sc
stopped sc true b2 b3 b4 b5 b6 t k e = let s : 1 ≡ k = cc in rw (← s) (record { same = refl; some = refl; early = refl; said = refl })
stopped sc false true b3 b4 b5 b6 t k e = let s : 2 ≡ k = cc in rw (← s) (record { same = refl; some = refl; early = refl; said = refl })
stopped sc false false true b4 b5 b6 t k e = let s : 3 ≡ k = cc in rw (← s) (record { same = refl; some = refl; early = refl; said = refl })
stopped sc false false false true b5 b6 t k e = let s : 4 ≡ k = cc in rw (← s) (record { same = refl; some = refl; early = refl; said = refl })
stopped sc false false false false true b6 t k e = let s : 5 ≡ k = cc in rw (← s) (record { same = refl; some = refl; early = refl; said = refl })
stopped sc false false false false false b6 t k e = let z : ◌≡◌ {A = ℕ} 0 1 = cc in absurd (omega arith)

-- none of five refuses: the sixth decides
sixth : (b1 b2 b3 b4 b5 b6 : Bool) → b1 ≡ false → b2 ≡ false → b3 ≡ false → b4 ≡ false → b5 ≡ false → first 1 (b1 ∷ b2 ∷ b3 ∷ b4 ∷ b5 ∷ b6 ∷ []) ≡ cond b6 6 0
sixth b1 b2 b3 b4 b5 b6 h1 h2 h3 h4 h5 = rw (h1, h2, h3, h4, h5)

module _ (st : Settings) (c : ℕ) (s : Scene) (lens : List ℕ) where
  pub refused : (k : ℕ) → check_of st c s lens ≡ Refused k → Stopped k (first_refusal st c s lens) s
  unfolding check_of first_of_five first_refusal
  refused k e = stopped s (refusal1 st c) (refusal2 s) (refusal3 s) (refusal4 s) (refusal5 s c lens) (refusal6 s) (triples_in s) k e

  pub accepted : (n : ℕ) → NoneOfFive st c s lens n → first_refusal st c s lens ≡ cond (refusal6 s) 6 0
  unfolding first_refusal
  accepted n o =
      sixth (refusal1 st c) (refusal2 s) (refusal3 s) (refusal4 s) (refusal5 s c lens) (refusal6 s) o.settings o.lengths o.known o.few o.room

record Four (a b c d : Bool) : Type 0 where
  pub one : a ≡ true
  pub two : b ≡ true
  pub three : c ≡ true
  pub four : d ≡ true

all_true : (a b c d e : Bool) → (a && (b && (c && (d && e)))) ≡ true → Four a b c d
all_true true true true true e h = record { one = refl; two = refl; three = refl; four = refl }
all_true true true true false e h = absurd (true≢false (sym h))
all_true true true false d e h = absurd (true≢false (sym h))
all_true true false c d e h = absurd (true≢false (sym h))
all_true false b c d e h = absurd (true≢false (sym h))

-- without refusal 2 the parts fit
pub fits : (s : Scene) (n : ℕ) → refusal2 s ≡ false → triples_in s ≡ n → Fits s.meshes (length s.transforms) (length s.positions) (length s.indices) n
unfolding refusal2 lengths_right_of meshes_are_whole transforms_are_right positions_are_right indices_are_right
fits s n not_so count =
    let ms = s.meshes in
    let t = length s.transforms in
    let p = length s.positions in
    let x = length s.indices in
    let m = length s.materials in
    let all =
    all_true (meshes_are_whole ms) (transforms_are_right ms t) (positions_are_right ms p) (indices_are_right ms x) (materials_are_right s.rows m)
    (not-false (lengths_right_of ms t p x m s.rows) not_so) in
    record {
      words = eqb-true (length ms) (3 * length (headers ms)) all.one;
      placed = eqb-true t (16 * length (headers ms)) all.two;
      points = eqb-true p (3 * vertex_sum (headers ms)) all.three;
      listed = eqb-true x (index_sum (headers ms)) all.four;
      whole = sym count;
    }

-- without refusal 4 the triples are few
pub few : (s : Scene) (n : ℕ) → refusal4 s ≡ false → triples_in s ≡ n → n ≤ most_triples
unfolding refusal4
few s n not_so count = rw count at (ltb-false most_triples (triples_in s) not_so)

far_told : (b : Bool) (x y : ℕ) (r : Placed) (e : Refusal) → r ≡ pass b x y → r.kept ≡ Err e → (b ≡ true) × (e ≡ refusal.Far)
far_told true x y r e p q = let k : r.kept ≡ Err refusal.Far = ap (λ (z : Placed). z.kept) p in (refl, cc)
far_told false x y r e p q = let k : r.kept ≡ Ok y = ap (λ (z : Placed). z.kept) p in cc

record Told (b : Bool) (k p y z : ℕ) : Type 0 where
  pub near : b ≡ false
  pub kept : k ≡ y
  pub placed : p ≡ z

kept_told : (b : Bool) (x y k : ℕ) (r : Placed) → r ≡ pass b x y → r.kept ≡ Ok k → Told b k r.placings y x
kept_told true x y k r p q = let e : r.kept ≡ Err refusal.Far = ap (λ (z : Placed). z.kept) p in cc
kept_told false x y k r p q =
    let e : r.kept ≡ Ok y = ap (λ (z : Placed). z.kept) p in
    record { near = refl; kept = cc; placed = ap (λ (z : Placed). z.placings) p }

module _ (st : Settings) (c : ℕ) (s : Scene) (lens : List ℕ) (columns : List Float) (handles : List ℕ) where
  pub load_refused : (k : ℕ) → check_of st c s lens ≡ Refused k → Loading (first_refusal st c s lens) s columns handles (said.Refused k) columns handles
  load_refused k e =
      let o = refused st c s lens k e in
      record {
        answer = rw o.same o.said;
        filled = rw (o.same, o.some, o.early);
        named = rw (o.same, o.some, o.early);
        reads = λ z. absurd (eqb-false k 0 o.some (sym o.same ∙ z));
      }

  module _ (n : ℕ) (none : NoneOfFive st c s lens n) (r : Placed) (columns' : List Float) (handles' : List ℕ) (passed : PassedOver (corners s) n columns handles r columns' handles') where
    pub load_far :
        (e : Refusal) → r.kept ≡ Err e → Loading (first_refusal st c s lens) s columns handles (said.Refused (number_of e)) columns' handles'
    load_far e is =
        let o = accepted st c s lens n none in
        let t = far_told (refusal6 s) _ _ r e passed.answer is in
        let yes : refusal6 s ≡ true = t.0 in
        let six : first_refusal st c s lens ≡ 6 = rw yes at o in
        record {
          answer = rw (six, t.1);
          filled = rw six (rw yes at passed.filled);
          named = rw six (rw yes at passed.named);
          reads = λ z. let w : ◌≡◌ {A = ℕ} 6 0 = sym six ∙ z in absurd (omega arith);
        }

    pub load_kept : (k : ℕ) → r.kept ≡ Ok k → Loading (first_refusal st c s lens) s columns handles (Triangles k r.placings n) columns' handles'
    load_kept k e =
        let o = accepted st c s lens n none in
        let t = kept_told (refusal6 s) _ _ k r passed.answer e in
        let zero_is : first_refusal st c s lens ≡ 0 = rw t.near at o in
        record {
          answer = rw (zero_is, t.kept, t.placed, none.count);
          filled = rw (zero_is, none.count) (rw t.near at passed.filled);
          named = rw zero_is (rw t.near at passed.named);
          reads = λ _. rw none.count (passed.reads t.near);
        }

-- ---- what a loaded scene says

-- triangles are answered where there is no refusal, with their counts
pub record Counted (k a b t : ℕ) (s : Scene) : Type 0 where
  pub none : k ≡ 0
  pub kept : a ≡ length (triangles s)
  pub placed : b ≡ placings s
  pub whole : t ≡ triples_in s

pub counted : (k a b t : ℕ) (s : Scene) → Triangles a b t ≡ loaded_of k s → Counted k a b t s
counted zero a b t s e = record { none = refl; kept = cc; placed = cc; whole = cc }
counted (suc k) a b t s e = let o : ◌≡◌ {A = ℕ} 0 1 = cc in absurd (omega arith)

passed_five : (b1 b2 b3 b4 b5 b6 : Bool) (t : ℕ) → first 1 (b1 ∷ b2 ∷ b3 ∷ b4 ∷ b5 ∷ b6 ∷ []) ≡ 0 → answer (first 1 (b1 ∷ b2 ∷ b3 ∷ b4 ∷ b5 ∷ [])) t ≡ Accepted t
passed_five true b2 b3 b4 b5 b6 t e = absurd (let z : ◌≡◌ {A = ℕ} 1 0 = e in omega arith)
passed_five false true b3 b4 b5 b6 t e = absurd (let z : ◌≡◌ {A = ℕ} 2 0 = e in omega arith)
passed_five false false true b4 b5 b6 t e = absurd (let z : ◌≡◌ {A = ℕ} 3 0 = e in omega arith)
passed_five false false false true b5 b6 t e = absurd (let z : ◌≡◌ {A = ℕ} 4 0 = e in omega arith)
passed_five false false false false true b6 t e = absurd (let z : ◌≡◌ {A = ℕ} 5 0 = e in omega arith)
passed_five false false false false false b6 t e = refl

module _ (st : Settings) (c : ℕ) (s : Scene) (lens : List ℕ) where
  pub first_accepted : first_refusal st c s lens ≡ 0 → check_of st c s lens ≡ Accepted (triples_in s)
  unfolding check_of first_of_five first_refusal
  first_accepted e = passed_five (refusal1 st c) (refusal2 s) (refusal3 s) (refusal4 s) (refusal5 s c lens) (refusal6 s) (triples_in s) e

  -- the settings, the scene and the areas passed the test
  pub loaded_accepted :
      (columns : List Float) (handles : List ℕ) (r : LoadSaid) (columns' : List Float) (handles' : List ℕ) (m p n : ℕ) →
      Loading (first_refusal st c s lens) s columns handles r columns' handles' → r ≡ Triangles m p n → AcceptedScene st c s lens n
  loaded_accepted columns handles r columns' handles' m p n l e =
      let t = counted (first_refusal st c s lens) m p n s (sym e ∙ l.answer) in
      rw t.whole (accepted_scene st c s lens (triples_in s) (first_accepted t.none))
