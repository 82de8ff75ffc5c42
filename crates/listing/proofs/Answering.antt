-- Laws of what `answer` leaves: the bytes of the mask, the answer of `enumerate` for a request in range, and the first line.
-- By unfolding the definitions, by induction over the planes, and by cases on each test.
use Prim.Native.Nat.{ℕ, zero, suc, ◌+◌, ◌-◌, ◌*◌, ◌/◌, ◌%◌, ◌^◌, ◌≤◌, ◌<◌}
use mathlib.Core.Path.{◌≡◌, refl, sym, ap, ap₂, ◌∙◌}
use mathlib.Core.Bool.{Bool, true, false, cond, ◌&&◌}
use mathlib.Core.List.{List, [], ◌∷◌, ◌++◌, append-nil}
use native.Mathlib.Omega.{arith}
use native.Mathlib.Nat.{sub-zero}
use native.Mathlib.Numerals.{add-one}
use lib.ListN.{length, get_or, take, drop, set, drop_of_length-le, length-append}
use lib.Seq.{sets, sets-eq}
use lib.Dec.{leb}
use lib.Pow.{shr-shr}
use borrow.Author.Tests.{le-leb, lt-leb, leb-true}
use Rattle.sequences.specs.Allowed.{visited, most, most_order, most_planes as widest}
use Rattle.sequences.specs.Run.{listed}
use Rattle.sequences.specs.Contract as sequences
use Rattle.sequences.specs.Count.{images, firsts}
use Rattle.sequences.proofs.Counting.{visited_length}
use Rattle.sequences.proofs.Laws.{length_listed}
use Rattle.std.specs.Prelude.{Option, Some, None}
use Rattle.listing.specs.declared.Head.{Head}
use Rattle.listing.specs.Request.{images_at, request_of, asked, checked, in_range, words, length_of_line, is_decimal_text, value_of, most_text, most_planes}
use Rattle.listing.specs.Text.{Wrote, header_of, refused_text, most_header}
use Rattle.listing.specs.Printed.{on_bytes, head_at, images_of, images_for, head_for, room, reply_of, records_of, out_of, Answered, Listed}
use Rattle.listing.specs.declared.Request.{Request}
use Rattle.listing.proofs.Reading.{and_left, and_right, and_false}
use Rattle.listing.proofs.Writing.{wrote_front, header_length}

-- ---- the mask

length_on : (n m : ℕ) → length (on_bytes n m) ≡ n
unfolding on_bytes
length_on zero m = refl
length_on (suc n) m = ap suc (length_on n (m / 2))

pub on_start : (o : List ℕ) (m : ℕ) → sets o 0 (on_bytes (length o - 0) m) ≡ on_bytes (length o) m
on_start o m =
    let l = length_on (length o) m in
    ap (λ (n : ℕ). sets o 0 (on_bytes n m)) (sub-zero (length o))
    ∙ sets-eq (on_bytes (length o) m) o 0 (omega arith)
    ∙ ap (λ (r : List ℕ). on_bytes (length o) m ++ r) (drop_of_length-le o (let h : length o ≤ 0 + length (on_bytes (length o) m) = omega arith in h))
    ∙ append-nil (on_bytes (length o) m)

pub on_more : (o : List ℕ) (n p m : ℕ) → p < n → sets (set o p (m % 2)) (p + 1) (on_bytes (n - (p + 1)) (m / 2)) ≡ sets o p (on_bytes (n - p) m)
unfolding on_bytes
on_more o n p m h =
    ap (λ (k : ℕ). sets (set o p (m % 2)) k (on_bytes (n - (p + 1)) (m / 2))) (add-one p)
    ∙ sym (ap (λ (k : ℕ). sets o p (on_bytes k m)) (let e : n - p ≡ suc (n - (p + 1)) = omega arith in e))

pub on_all : (o : List ℕ) (n p m : ℕ) → n ≤ p → o ≡ sets o p (on_bytes (n - p) m)
unfolding on_bytes
on_all o n p m h = sym (ap (λ (k : ℕ). sets o p (on_bytes k m)) (let e : n - p ≡ 0 = omega arith in e))

take_on : (n k m : ℕ) → n ≤ k → take n (on_bytes k m) ≡ on_bytes n m
unfolding on_bytes
take_on zero k m h = refl
take_on (suc n) zero m h = absurd (omega arith)
take_on (suc n) (suc k) m h = ap (λ (l : List ℕ). m % 2 ∷ l) (take_on n k (m / 2) (omega arith))

-- "bit p says the source lies on plane p"
pub on_bit : (n m p : ℕ) → p < n → get_or (on_bytes n m) p 0 ≡ m / 2 ^ p % 2
unfolding on_bytes
on_bit zero m p h = absurd (omega arith)
on_bit (suc n) m zero h = ap (λ (k : ℕ). k % 2) (let e : m ≡ m / 1 = omega arith in e)
on_bit (suc n) m (suc p) h =
    on_bit n (m / 2) p (omega arith)
    ∙ ap (λ (k : ℕ). k % 2) (shr-shr m 1 p ∙ ap (λ (k : ℕ). m / 2 ^ k) (let e : 1 + p ≡ suc p = omega arith in e))

-- ---- the images of a request in range

-- how many they are: the count law of `sequences`
pub images_count : (planes order mask : ℕ) → length (images_of planes order mask) ≡ images planes (firsts (on_bytes planes mask)) order
unfolding images_of
images_count planes order mask =
    visited_length (on_bytes planes mask) order ∙ ap (λ (n : ℕ). images n (firsts (on_bytes planes mask)) order) (length_on planes mask)

module _ (planes order mask : ℕ) (on records : List ℕ) (few : planes ≤ most_planes) (deep : order ≤ most_order)
    (wide : most * 9 ≤ length records) (is : on ≡ on_bytes most_planes mask) where
  these : take planes on ≡ on_bytes planes mask
  these = ap (take planes) is ∙ take_on planes most_planes mask few

  fit : sequences.fits (take planes on) order records ≡ true
  fit =
      let l : length (take planes on) ≡ planes = ap length these ∙ length_on planes mask in
      ap₂ (λ (b b' : Bool). b && (b' && leb (most * 9) (length records))) (le-leb order most_order deep)
      (le-leb (length (take planes on)) widest (omega arith))
      ∙ le-leb (most * 9) (length records) wide

  pub found : sequences.enumeration_of (take planes on) order records ≡ Some (length (images_of planes order mask))
  unfolding sequences.enumeration_of images_of
  found =
      ap (λ (b : Bool). cond b (Some (length (visited (take planes on) order))) None) fit
      ∙ ap (λ (l : List ℕ). Some (length (visited l order))) these

  pub found_area :
      sequences.area_of (take planes on) order records
      ≡ listed (images_of planes order mask) ++ drop (length (images_of planes order mask) * 9) records
  unfolding sequences.area_of images_of
  found_area =
      ap
      (λ (b : Bool).
      cond b (listed (visited (take planes on) order) ++ drop (length (visited (take planes on) order) * 9) records) records)
      fit
      ∙ ap (λ (l : List ℕ). listed (visited l order) ++ drop (length (visited l order) * 9) records) these

-- the first line of a request in range
pub listed_head :
    (planes order mask : ℕ) (records out : List ℕ) (total len : ℕ) (records' out' : List ℕ) →
    total ≡ length (images_of planes order mask) → most_header ≤ length out → Wrote (header_of total) out 0 out' len →
    records' ≡ listed (images_of planes order mask) ++ drop (length (images_of planes order mask) * 9) records →
    Listed planes order mask records out (head_at total len) records' out'
listed_head planes order mask records out total len records' out' e h w a =
    let k : len ≤ length out = (let g = header_length total in let f = w.ends in omega arith) in
    let f = wrote_front (header_of total) out out' len w k in
    let n : len ≡ length (header_of (length (images_of planes order mask))) = f.0 ∙ ap (λ (t : ℕ). length (header_of t)) e in
    record {
      answer = ap₂ head_at e n;
      area = a;
      head = f.1 ∙ ap₂ (λ (t l : ℕ). header_of t ++ drop l out) e n;
    }

-- ---- a request that is not refused is in range

-- a number of what an option holds
abbrev pub of_request : (Request → ℕ) → Option Request → ℕ
of_request f None = 0
of_request f (Some r) = f r

abbrev pub of_head : (Head → ℕ) → Option Head → ℕ
of_head f None = 0
of_head f (Some r) = f r

pub cond_images : (b : Bool) (r : Option Request) (n o m : ℕ) → cond b r None ≡ images_at n o m → r ≡ images_at n o m
cond_images true r n o m e = e
cond_images false r n o m e = cc

checked_range : (a b c n o m : ℕ) → checked a b c ≡ images_at n o m → in_range n o m ≡ true
checked_range a b c n o m e = by (in_range a b c) refl e
  where
    by : (t : Bool) → in_range a b c ≡ t → cond t (images_at a b c) None ≡ images_at n o m → in_range n o m ≡ true
    by true f e =
        let p : n ≡ a = sym (ap (of_request (λ x. x.planes)) e) in
        let q : o ≡ b = sym (ap (of_request (λ x. x.order)) e) in
        let r : m ≡ c = sym (ap (of_request (λ x. x.mask)) e) in
        ap (λ (x : ℕ). in_range x o m) p ∙ ap (λ (x : ℕ). in_range a x m) q ∙ ap (λ (x : ℕ). in_range a b x) r ∙ f
    by false f e = let z : ◌≡◌ {A = ℕ} 0 1 = cc in absurd (omega arith)

asked_range : (ws : List (List ℕ)) (n o m : ℕ) → asked ws ≡ images_at n o m → in_range n o m ≡ true
asked_range [] n o m e = let z : ◌≡◌ {A = ℕ} 0 1 = cc in absurd (omega arith)
asked_range (a ∷ []) n o m e = let z : ◌≡◌ {A = ℕ} 0 1 = cc in absurd (omega arith)
asked_range (a ∷ b ∷ []) n o m e = let z : ◌≡◌ {A = ℕ} 0 1 = cc in absurd (omega arith)
asked_range (a ∷ b ∷ c ∷ []) n o m e =
    checked_range (value_of a) (value_of b) (value_of c) n o m
    (cond_images (is_decimal_text a && (is_decimal_text b && is_decimal_text c)) (checked (value_of a) (value_of b) (value_of c)) n o m e)
asked_range (a ∷ b ∷ c ∷ d ∷ l) n o m e = let z : ◌≡◌ {A = ℕ} 0 1 = cc in absurd (omega arith)

pub request_range : (t : List ℕ) (n o m : ℕ) → request_of t ≡ images_at n o m → in_range n o m ≡ true
unfolding request_of
request_range t n o m e =
    asked_range (words (take (length_of_line t) t)) n o m
    (cond_images (leb (length t) most_text) (asked (words (take (length_of_line t) t))) n o m e)

pub request_few : (t : List ℕ) (n o m : ℕ) → request_of t ≡ images_at n o m → (n ≤ most_planes) × (o ≤ most_order)
unfolding in_range
request_few t n o m e =
    let r = and_right (leb 1 n) _ (request_range t n o m e) in
    let s = and_right (leb 1 o) _ (and_right (leb n most_planes) _ r) in
    (leb-true n most_planes (and_left (leb n most_planes) _ r), leb-true o most_order (and_left (leb o most_order) _ s))

-- ---- the answer

module _ (text records out : List ℕ) where
  none : room records out ≡ false → Answered text records out None records out
  unfolding reply_of records_of out_of
  none e = record {
    answer =
        ap (λ (b : Bool). cond b (head_at (length (images_for (request_of text))) (length (head_for (request_of text)))) None) (sym e);
    area =
        ap
        (λ (b : Bool).
        cond b (listed (images_for (request_of text)) ++ drop (length (images_for (request_of text)) * 9) records) records)
        (sym e);
    head = ap (λ (b : Bool). cond b (head_for (request_of text) ++ drop (length (head_for (request_of text))) out) out) (sym e);
  }

  pub none_records : length records < most * 9 → Answered text records out None records out
  none_records h = none (ap (λ (b : Bool). b && leb most_header (length out)) (lt-leb (most * 9) (length records) h))

  pub none_out : length out < most_header → Answered text records out None records out
  none_out h = none (and_false (leb (most * 9) (length records)) (lt-leb most_header (length out) h))

  module _ (wide : most * 9 ≤ length records) (long : most_header ≤ length out) where
    roomy : room records out ≡ true
    roomy =
        ap (λ (b : Bool). b && leb most_header (length out)) (le-leb (most * 9) (length records) wide)
        ∙ le-leb most_header (length out) long

    -- for any request that the text asks for
    answered_for :
        (q : Option Request) (r : Option Head) (records' out' : List ℕ) → request_of text ≡ q → r ≡ head_at (length (images_for q)) (length (head_for q)) →
        records' ≡ listed (images_for q) ++ drop (length (images_for q) * 9) records → out' ≡ head_for q ++ drop (length (head_for q)) out →
        Answered text records out r records' out'
    unfolding reply_of records_of out_of
    answered_for q r records' out' e x y z = record {
      answer =
          x
          ∙ ap (λ (p : Option Request). head_at (length (images_for p)) (length (head_for p))) (sym e)
          ∙ ap (λ (b : Bool). cond b (head_at (length (images_for (request_of text))) (length (head_for (request_of text)))) None) (sym roomy);
      area =
          y
          ∙ ap (λ (p : Option Request). listed (images_for p) ++ drop (length (images_for p) * 9) records) (sym e)
          ∙ ap
          (λ (b : Bool).
          cond b (listed (images_for (request_of text)) ++ drop (length (images_for (request_of text)) * 9) records) records)
          (sym roomy);
      head =
          z
          ∙ ap (λ (p : Option Request). head_for p ++ drop (length (head_for p)) out) (sym e)
          ∙ ap (λ (b : Bool). cond b (head_for (request_of text) ++ drop (length (head_for (request_of text))) out) out) (sym roomy);
    }

    pub answered_images :
        (n o m : ℕ) (r : Option Head) (records' out' : List ℕ) → request_of text ≡ images_at n o m → Listed n o m records out r records' out' →
        Answered text records out r records' out'
    answered_images n o m r records' out' e l = answered_for (images_at n o m) r records' out' e l.answer l.area l.head

    pub answered_refused :
        (len : ℕ) (out' : List ℕ) → request_of text ≡ None → Wrote refused_text out 0 out' len →
        Answered text records out (head_at 0 len) records out'
    unfolding listed
    answered_refused len out' e w =
        let k : len ≤ length out = (let f = w.ends in omega arith) in
        let f = wrote_front refused_text out out' len w k in
        answered_for None (head_at 0 len) records out' e (ap (head_at 0) f.0) refl
        (f.1 ∙ ap (λ (n : ℕ). refused_text ++ drop n out) f.0)

  -- what a caller of `answer` asks: the first line is within the output
  pub answer_within :
      (total len : ℕ) (r : Option Head) (records' out' : List ℕ) → Answered text records out r records' out' → r ≡ head_at total len →
      len ≤ length out'
  unfolding reply_of out_of
  answer_within total len r records' out' a e = by (room records out) (sym e ∙ a.answer) a.head
    where
      by :
          (b : Bool) →
          head_at total len ≡ cond b (head_at (length (images_for (request_of text))) (length (head_for (request_of text)))) None →
          out' ≡ cond b (head_for (request_of text) ++ drop (length (head_for (request_of text))) out) out → len ≤ length out'
      by true p q =
          let n : len ≡ length (head_for (request_of text)) = ap (of_head (λ h. h.len)) p in
          let t = ap length q ∙ length-append (head_for (request_of text)) (drop (length (head_for (request_of text))) out) in
          omega arith
      by false p q = let z : ◌≡◌ {A = ℕ} 0 1 = cc in absurd (omega arith)

  -- and every image has its record
  pub answer_records :
      (total len : ℕ) (r : Option Head) (records' out' : List ℕ) → Answered text records out r records' out' → r ≡ head_at total len →
      total * 9 ≤ length records'
  unfolding reply_of records_of
  answer_records total len r records' out' a e = by (room records out) (sym e ∙ a.answer) a.area
    where
      by :
          (b : Bool) →
          head_at total len ≡ cond b (head_at (length (images_for (request_of text))) (length (head_for (request_of text)))) None →
          records' ≡ cond b (listed (images_for (request_of text)) ++ drop (length (images_for (request_of text)) * 9) records) records →
          total * 9 ≤ length records'
      by true p q =
          let n : total ≡ length (images_for (request_of text)) = ap (of_head (λ h. h.total)) p in
          let m : total * 9 ≡ length (images_for (request_of text)) * 9 = ap (λ (k : ℕ). k * 9) n in
          let l = length_listed (images_for (request_of text)) in
          let t =
          ap length q
          ∙ length-append (listed (images_for (request_of text))) (drop (length (images_for (request_of text)) * 9) records) in
          omega arith
      by false p q = let z : ◌≡◌ {A = ℕ} 0 1 = cc in absurd (omega arith)
