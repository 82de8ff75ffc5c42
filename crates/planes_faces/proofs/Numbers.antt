-- Keys as numbers: two keys are the same where their numbers are, and step 1 by numbers is step 1.
--     number_same    same_key is the equality of the numbers
--     new_first      what `first_faces` promises by numbers is the definition's `is_first`
use mathlib.Core.Path.{◌≡◌, sym, ap}
use mathlib.Core.Bool.{true, false, not, ◌&&◌}
use mathlib.Core.List.{List}
use Prim.Native.Nat.{ℕ, zero, suc, ◌+◌, ◌*◌, ◌<◌, ◌≤◌, min}
use native.Mathlib.Nat.{min-le_right}
use native.Mathlib.Omega.{arith}
use lib.Dec.{eqb}
use lib.IntN.{ℤ, pos, negsuc, neg_ℤ}
use lib.Ieee.{Float, nan, inf, fin, binary32, mul}
use borrow.Author.Tests.{eq-eqb, ne_eqb}
use Rattle.vector.specs.declared.Vec3.{Vec3}
use Rattle.planes_faces.specs.Whole.{half_up, whole_of, place_of}
use Rattle.order.proofs.Stable.{by-eq}
use Rattle.planes_faces.specs.Triples.{any_order}
use Rattle.planes_faces.specs.Numbers.{is_new_at}
use Rattle.planes_faces.specs.Key.{Key, same_key, step_of, key_by, vertex_key}
use Rattle.planes_faces.specs.Numbers.{number_of}
use Rattle.planes_faces.specs.Faces.{Face, keys_of, face_at, same_face, is_first}
use Rattle.order.proofs.Runs.{any_under}

-- from -2 ^ 31 to 2 ^ 31 - 1
abbrev pub InRange : ℤ → Type 0
InRange (pos n) = n < 2147483648
InRange (negsuc n) = n < 2147483648

neg_range : (n : ℕ) → n ≤ 2147483648 → InRange (neg_ℤ (pos n))
neg_range zero h = omega arith
neg_range (suc n) h = h

pub whole_range : (x : Float) → InRange (whole_of x)
unfolding whole_of
whole_range nan = omega arith
whole_range (inf true) = omega arith
whole_range (inf false) = omega arith
whole_range (fin true m e) = neg_range (min (half_up m e) 2147483648) (min-le_right (half_up m e) 2147483648)
whole_range (fin false m e) = let h = min-le_right (half_up m e) 2147483647 in omega arith

pub place_lt : (z : ℤ) → InRange z → place_of z < 4294967296
place_lt (pos n) h = omega arith
place_lt (negsuc n) h = omega arith

-- every part of a key is below 2 ^ 32
pub step_lt : (k x : Float) → step_of k x < 4294967296
unfolding step_of
step_lt k x = place_lt (whole_of (mul binary32 x k)) (whole_range (mul binary32 x k))

-- three equalities, and the equality of the packed numbers
pack_same : (a b c d e f : ℕ) → b < 4294967296 → c < 4294967296 → e < 4294967296 → f < 4294967296
    → eqb a d && eqb b e && eqb c f ≡ eqb ((a * 4294967296 + b) * 4294967296 + c) ((d * 4294967296 + e) * 4294967296 + f)
pack_same a b c d e f hb hc he hf =
    by-eq a d
    (λ p. rw (eq-eqb a d p) (by-eq b e
    (λ q. rw (eq-eqb b e q) (by-eq c f
    (λ r. rw (eq-eqb c f r) (sym (eq-eqb ((a * 4294967296 + b) * 4294967296 + c) ((d * 4294967296 + e) * 4294967296 + f) (omega arith))))
    (λ n. rw (ne_eqb c f n) (sym (ne_eqb ((a * 4294967296 + b) * 4294967296 + c) ((d * 4294967296 + e) * 4294967296 + f) (λ s. n (omega arith)))))))
    (λ n. rw (ne_eqb b e n) (sym (ne_eqb ((a * 4294967296 + b) * 4294967296 + c) ((d * 4294967296 + e) * 4294967296 + f) (λ s. n (omega arith)))))))
    (λ n. rw (ne_eqb a d n) (sym (ne_eqb ((a * 4294967296 + b) * 4294967296 + c) ((d * 4294967296 + e) * 4294967296 + f) (λ s. n (omega arith)))))

pub record Ranged (k : Key) : Type 0 where
  pub y : k.y < 4294967296
  pub z : k.z < 4294967296

pub number_same : (a b : Key) → Ranged a → Ranged b → same_key a b ≡ eqb (number_of a) (number_of b)
unfolding same_key
number_same a b h g = pack_same a.x a.y a.z b.x b.y b.z h.y h.z g.y g.z

pub key_ranged : (k : Float) (p : Vec3) → Ranged (key_by k p)
unfolding key_by
key_ranged k p = record { y = step_lt k p.y; z = step_lt k p.z }

any_order_number : (a b c d e f : Key) → Ranged a → Ranged b → Ranged c → Ranged d → Ranged e → Ranged f
    → any_order same_key a b c d e f ≡ any_order eqb (number_of a) (number_of b) (number_of c) (number_of d) (number_of e) (number_of f)
unfolding any_order
any_order_number a b c d e f ha hb hc hd he hf =
    rw (number_same a d ha hd, number_same b e hb he, number_same c f hc hf, number_same a e ha he, number_same b f hb hf, number_same c d hc hd, number_same a f ha hf, number_same b d hb hd, number_same c e hc he)

-- ---- step 1

pub record RangedFace (f : Face) : Type 0 where
  pub a : Ranged f.a
  pub b : Ranged f.b
  pub c : Ranged f.c

pub face_ranged : (p q r : Vec3) → RangedFace (keys_of p q r)
unfolding keys_of vertex_key
face_ranged p q r = record { a = key_ranged _ p; b = key_ranged _ q; c = key_ranged _ r }

module _ (fs : List Face) (n : ℕ) (k : ℕ → ℕ) (ranged : (i : ℕ) → i < n → RangedFace (face_at fs i))
    (at_a : (i : ℕ) → i < n → k i ≡ number_of (face_at fs i).a)
    (at_b : (i : ℕ) → i < n → k (n + i) ≡ number_of (face_at fs i).b)
    (at_c : (i : ℕ) → i < n → k (2 * n + i) ≡ number_of (face_at fs i).c) where
  pub new_first : (i : ℕ) → i < n → is_new_at k n i ≡ is_first fs i
  unfolding is_new_at is_first same_face
  new_first i h =
      ap not
      (any_under (λ j. any_order eqb (k j) (k (n + j)) (k (2 * n + j)) (k i) (k (n + i)) (k (2 * n + i))) (λ j. same_face (face_at fs j) (face_at fs i)) i
      (λ j l. let g : j < n = omega arith in
      rw (at_a j g, at_b j g, at_c j g, at_a i h, at_b i h, at_c i h)
      (sym (any_order_number (face_at fs j).a (face_at fs j).b (face_at fs j).c (face_at fs i).a (face_at fs i).b (face_at fs i).c
      (ranged j g).a (ranged j g).b (ranged j g).c (ranged i h).a (ranged i h).b (ranged i h).c))))
