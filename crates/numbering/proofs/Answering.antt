-- What `takes` takes, and what `sequence_of` answers then.
use Prim.Native.Nat.{ℕ, suc, ◌-◌, ◌≤◌, ◌<◌, min}
use mathlib.Core.Path.{◌≡◌, refl, sym, ap, ap₂, ◌∙◌, subst}
use mathlib.Core.Bool.{Bool, true, false, cond, ◌&&◌, and-eq-true_iff}
use mathlib.Core.List.{List, []}
use native.Mathlib.Omega.{arith}
use lib.ListN.{length, take, replicate}
use lib.Seq.{take-append_seam}
use lib.Dec.{leb, eqb}
use borrow.Author.Tests.{le-leb, leb-true, eq-eqb, eqb-true}
use Rattle.sequences.specs.Allowed.{visited, allowed, most, most_order, most_planes}
use Rattle.sequences.specs.Count.{firsts, images}
use Rattle.sequences.specs.Members.{Image}
use Rattle.sequences.proofs.Counting.{allowed_length, visited_length}
use Rattle.sequences.proofs.Numbers.{is_numbered, visited_alone}
use Rattle.numbering.specs.declared.Walls.{Walls}
use Rattle.numbering.specs.Walls.{flags, is_one_to, takes, walls_of, walls_from, found, refused, sequence_answer}
use Rattle.numbering.specs.Unrank.{unrank}
use Rattle.numbering.specs.Contract.{Placed}
use Rattle.numbering.specs.Undone.{Room, Undone, NumberingUndone}
use Rattle.numbering.proofs.Unranked.{walls_found}

-- ---- the tests

pub one_to_is : (m n : ℕ) → 1 ≤ n → n ≤ m → is_one_to m n ≡ true
unfolding is_one_to
one_to_is m n h g = ap₂ (λ (a b : Bool). a && b) (le-leb 1 n h) (le-leb n m g)

pub one_to_low : (m n : ℕ) → is_one_to m n ≡ true → 1 ≤ n
unfolding is_one_to
one_to_low m n e = leb-true 1 n ((and-eq-true_iff (leb 1 n) (leb n m)).0 e).0

pub one_to_high : (m n : ℕ) → is_one_to m n ≡ true → n ≤ m
unfolding is_one_to
one_to_high m n e = leb-true n m ((and-eq-true_iff (leb 1 n) (leb n m)).0 e).1

-- a room with so many planes, and the number of an image
pub record Taken (planes order : ℕ) (on : List ℕ) (number : ℕ) : Type 0 where
  pub room : Room on order
  pub many : length on ≡ planes
  pub low : 1 ≤ number
  pub high : number ≤ images planes (firsts on) order

pub taken : (planes order : ℕ) (on : List ℕ) (number : ℕ) → takes planes order on number ≡ true → Taken planes order on number
unfolding takes
taken planes order on number e =
    let a = (and-eq-true_iff (is_one_to most_order order)
    (is_one_to most_planes planes && (eqb (length on) planes && (flags on && is_one_to (images planes (firsts on) order) number)))).0 e in
    let b = (and-eq-true_iff (is_one_to most_planes planes)
    (eqb (length on) planes && (flags on && is_one_to (images planes (firsts on) order) number))).0 a.1 in
    let c = (and-eq-true_iff (eqb (length on) planes) (flags on && is_one_to (images planes (firsts on) order) number)).0 b.1 in
    let d = (and-eq-true_iff (flags on) (is_one_to (images planes (firsts on) order) number)).0 c.1 in
    let n : length on ≡ planes = eqb-true (length on) planes c.0 in
    record {
      room = record {
        low = one_to_low most_order order a.0;
        high = one_to_high most_order order a.0;
        some = subst (λ (k : ℕ). 1 ≤ k) (sym n) (one_to_low most_planes planes b.0);
        few = subst (λ (k : ℕ). k ≤ most_planes) (sym n) (one_to_high most_planes planes b.0);
        bytes = d.0;
      };
      many = n;
      low = one_to_low (images planes (firsts on) order) number d.1;
      high = one_to_high (images planes (firsts on) order) number d.1;
    }

-- in a room the number alone decides
pub takes_number : (on : List ℕ) (order number : ℕ) → Room on order →
    takes (length on) order on number ≡ is_one_to (images (length on) (firsts on) order) number
unfolding takes
takes_number on order number r =
    ap (λ (b : Bool). b &&
    (is_one_to most_planes (length on) && (eqb (length on) (length on) && (flags on && is_one_to (images (length on) (firsts on) order) number))))
    (one_to_is most_order order r.low r.high)
    ∙ ap (λ (b : Bool). b && (eqb (length on) (length on) && (flags on && is_one_to (images (length on) (firsts on) order) number)))
    (one_to_is most_planes (length on) r.some r.few)
    ∙ ap (λ (b : Bool). b && (flags on && is_one_to (images (length on) (firsts on) order) number)) (eq-eqb (length on) (length on) refl)
    ∙ ap (λ (b : Bool). b && is_one_to (images (length on) (firsts on) order) number) r.bytes

-- ---- the answer

-- a place of `visited`, over any limit, so that 250,000 stays a name
place_in : (c n i k : ℕ) → suc i ≡ n → n ≤ min c k → (i < c) × (i < k)
place_in c n i k h g = (omega arith, omega arith)

-- numbers count from 1, places from 0
pub placed : (planes order : ℕ) (on : List ℕ) (number place : ℕ) → Taken planes order on number → suc place ≡ number → Placed on order place
placed planes order on number place t s =
    let r = t.room in
    let h : number ≤ images (length on) (firsts on) order = subst (λ (k : ℕ). number ≤ images k (firsts on) order) (sym t.many) t.high in
    let g = place_in most number place (length (allowed on order)) s (subst (λ (k : ℕ). number ≤ min most k) (sym (allowed_length on order)) h) in
    record { within = r.high; some = r.some; few = r.few; low = g.0; there = g.1 }

-- "return the plane sequence without walking the earlier ones": the answer, by division
pub answered :
    (planes order : ℕ) (on : List ℕ) (number : ℕ) → takes planes order on number ≡ true →
    found (unrank on order [] (number - 1)) ≡ sequence_answer planes order on number
unfolding sequence_answer
answered planes order on number e =
    let t = taken planes order on number e in
    ap found (walls_found on order number t.low (subst (λ (k : ℕ). number ≤ images k (firsts on) order) (sym t.many) t.high))
    ∙ ap (λ (b : Bool). cond b (found (walls_of on order number)) refused) (sym e)

pub turned_away_lem : (planes order : ℕ) (on : List ℕ) (number : ℕ) → takes planes order on number ≡ false → refused ≡ sequence_answer planes order on number
unfolding sequence_answer
turned_away_lem planes order on number e = ap (λ (b : Bool). cond b (found (walls_of on order number)) refused) (sym e)

-- ---- "It undoes the numbering, and numbering undoes it"

-- the planes of an answer say the sequence
found_once : (s t : List ℕ) → found s ≡ found t → s ≡ t
found_once s t e =
    let f : walls_from s ≡ walls_from t = cc in
    sym (take-append_seam s (padding s)) ∙ ap₂ (λ (k : ℕ) (l : List ℕ). take k l) (ap (λ (w : Walls). w.len) f) (ap (λ (w : Walls). w.planes) f)
    ∙ take-append_seam t (padding t)
  where
    padding : List ℕ → List ℕ
    padding q = replicate (most_order - length q) 0

module _ (on : List ℕ) (order : ℕ) (room : Room on order) where
  range : (n : ℕ) (s : List ℕ) → Image (visited on order) n s → takes (length on) order on n ≡ true
  range n s i =
      takes_number on order n room
      ∙ one_to_is (images (length on) (firsts on) order) n i.low (subst (λ (k : ℕ). n ≤ k) (visited_length on order) i.high)

  answer_found : (n : ℕ) → takes (length on) order on n ≡ true → sequence_answer (length on) order on n ≡ found (walls_of on order n)
  unfolding sequence_answer
  answer_found n e = ap (λ (b : Bool). cond b (found (walls_of on order n)) refused) e

  -- each number taken is that of an image, the one with these walls
  image_found : (n : ℕ) → takes (length on) order on n ≡ true → Image (visited on order) n (walls_of on order n)
  unfolding walls_of
  image_found n e =
      let t = taken (length on) order on n e in
      record { low = t.low; high = subst (λ (k : ℕ). n ≤ k) (sym (visited_length on order)) t.high; is = refl }

  walls_of_lem : (n : ℕ) (s : List ℕ) → Image (visited on order) n s → walls_of on order n ≡ s
  unfolding walls_of
  walls_of_lem n s i = i.is

  no_walls : (s : List ℕ) → refused ≡ found s → ⊥
  no_walls s e = cc

  taken_back : (n : ℕ) (s : List ℕ) → sequence_answer (length on) order on n ≡ found s → takes (length on) order on n ≡ true
  taken_back n s e = by (takes (length on) order on n) refl
    where
      by : (b : Bool) → takes (length on) order on n ≡ b → takes (length on) order on n ≡ true
      by true f = f
      by false f = absurd (no_walls s (turned_away_lem (length on) order on n f ∙ e))

  image_back : (n : ℕ) (s : List ℕ) → sequence_answer (length on) order on n ≡ found s → Image (visited on order) n s
  image_back n s e =
      let t = taken_back n s e in
      subst (Image (visited on order) n) (found_once (walls_of on order n) s (sym (answer_found n t) ∙ e)) (image_found n t)

  none_there : (n : ℕ) → ((s : List ℕ) → Image (visited on order) n s → ⊥) → sequence_answer (length on) order on n ≡ refused
  none_there n no_one = by (takes (length on) order on n) refl
    where
      by : (b : Bool) → takes (length on) order on n ≡ b → sequence_answer (length on) order on n ≡ refused
      by true f = absurd (no_one (walls_of on order n) (image_found n f))
      by false f = sym (turned_away_lem (length on) order on n f)

  undone_visited : Undone on order (visited on order)
  undone_visited = record {
    undoes = (λ n s i. answer_found n (range n s i) ∙ ap found (walls_of_lem n s i));
    undone =
        (λ m n s e. (
          (λ i. ((is_numbered on order).same m n s s i (image_back n s e)).1 refl),
          (λ k. subst (λ (j : ℕ). Image (visited on order) j s) (sym k) (image_back n s e)),
        ));
    none = none_there;
  }

pub numbering_undone : NumberingUndone
numbering_undone on order room seen v = subst (Undone on order) (sym (visited_alone on order seen v)) (undone_visited on order room)
