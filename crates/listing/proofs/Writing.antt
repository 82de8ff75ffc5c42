-- Laws of the pieces of the text: how what is written is put together, and how long it is at most.
-- By unfolding the definitions, and by induction over digits, planes and lines.
use Prim.Native.Nat.{ℕ, zero, suc, ◌+◌, ◌-◌, ◌*◌, ◌/◌, ◌%◌, ◌≤◌, ◌<◌, min}
use mathlib.Core.Path.{◌≡◌, refl, sym, ap, ◌∙◌}
use mathlib.Core.Bool.{Bool, true, false, cond}
use mathlib.Core.List.{List, [], ◌∷◌, ◌++◌, append-nil, append_assoc}
use native.Mathlib.Omega.{arith}
use native.Mathlib.Nat.{add-zero, zero-add}
use native.Mathlib.Numerals.{add-one}
use lib.ListN.{length, get_or, take, drop, set, length-append, length-take}
use Rattle.std.proofs.lemmas.List.{drop-drop}
use borrow.Rule.Slice.PartMut.{put_mid}
use lib.Seq.{sets, sets-eq, take-suc, take_all, get_or-drop}
use lib.Dec.{ltb}
use borrow.Author.Tests.{lt-ltb, le-ltb}
use Rattle.sequences.specs.Allowed.{most_order}
use Rattle.sequences.specs.Run.{per_record}
use Rattle.sequences.proofs.Laws.{sets_append}
use Rattle.listing.specs.Text.{most_digits, most_header, most_line, digits_of, decimal_of, planes_of, line_of, header_of, planes_at, lines_of, Wrote, end_of_chunk, Chunked}
use Rattle.listing.specs.declared.Chunk.{Chunk}

pub wrote_none : (o : List ℕ) (at : ℕ) → Wrote [] o at o at
wrote_none o at = record { there = refl; ends = sym (add-zero at) }

pub wrote_one : (b : ℕ) (o : List ℕ) (at : ℕ) → Wrote (b ∷ []) o at (set o at b) (at + 1)
wrote_one b o at = record { there = refl; ends = refl }

-- one piece after another
pub wrote_then :
    {xs ys o : List ℕ} {at : ℕ} {o₁ : List ℕ} {r₁ : ℕ} {o₂ : List ℕ} {r₂ : ℕ} →
    Wrote xs o at o₁ r₁ → Wrote ys o₁ r₁ o₂ r₂ → Wrote (xs ++ ys) o at o₂ r₂
wrote_then {xs} {ys} {o} {at} {o₁} {r₁} v w = record {
  there =
      w.there
      ∙ ap (λ (l : List ℕ). sets l r₁ ys) v.there
      ∙ ap (λ (n : ℕ). sets (sets o at xs) n ys) v.ends
      ∙ sym (sets_append o at xs ys);
  ends = let e = v.ends in let f = w.ends in let l = length-append xs ys in omega arith;
}

-- what is written from the front on, as a list
pub wrote_front : (bs o o' : List ℕ) (r : ℕ) → Wrote bs o 0 o' r → r ≤ length o → (r ≡ length bs) × (o' ≡ bs ++ drop r o)
wrote_front bs o o' r w h =
    let e : r ≡ length bs = w.ends ∙ zero-add (length bs) in (
      e,
      w.there ∙ sets-eq bs o 0 (let k = w.ends in omega arith) ∙ ap (λ (n : ℕ). bs ++ drop n o) (sym w.ends),
    )

-- ---- bytes

pub bytes_put :
    (bs o ys : List ℕ) (at k : ℕ) → ys ≡ bs → k ≡ length bs → at + length bs ≤ length o → Wrote bs o at (put_mid at k o ys) (at + length bs)
bytes_put bs o ys at k e n h = record {
  there =
      ap (λ (l : List ℕ). put_mid at k o l) e
      ∙ ap (λ (j : ℕ). put_mid at j o bs) n
      ∙ ap (λ (l : List ℕ). take at o ++ (bs ++ l)) (drop-drop (length bs) at o)
      ∙ sym (append_assoc (take at o) bs (drop (at + length bs) o))
      ∙ sym (sets-eq bs o at h);
  ends = refl;
}

-- ---- decimals

pub digits_none : (k n : ℕ) → k ≡ 0 → [] ≡ digits_of k n
unfolding digits_of
digits_none k n e = rw e

pub digits_one : (k n : ℕ) → (k ≡ 0 → ⊥) → n < 10 → digits_of k n ≡ (48 + n % 10) ∷ []
unfolding digits_of
digits_one zero n z h = absurd (z refl)
digits_one (suc k) n z h = rw (lt-ltb n 10 h)

pub digits_more : (k n : ℕ) → (k ≡ 0 → ⊥) → 10 ≤ n → digits_of k n ≡ digits_of (k - 1) (n / 10) ++ (48 + n % 10) ∷ []
unfolding digits_of
digits_more zero n z h = absurd (z refl)
digits_more (suc k) n z h =
    rw (le-ltb n 10 h)
    (ap (λ (j : ℕ). digits_of j (n / 10) ++ (48 + n % 10) ∷ []) (let e : k ≡ suc k - 1 = omega arith in e))

pub digits_length : (k n : ℕ) → length (digits_of k n) ≤ k
unfolding digits_of
digits_length zero n = omega arith
digits_length (suc k) n = last (ltb n 10) (digits_length k (n / 10))
  where
    last : (b : Bool) → length (digits_of k (n / 10)) ≤ k → length (cond b [] (digits_of k (n / 10)) ++ (48 + n % 10) ∷ []) ≤ suc k
    last true h = omega arith
    last false h = let e = length-append (digits_of k (n / 10)) ((48 + n % 10) ∷ []) in omega arith

-- ---- planes

planes_append : (p q : List ℕ) → planes_of (p ++ q) ≡ planes_of p ++ planes_of q
unfolding planes_of
planes_append [] q = refl
planes_append (x ∷ p) q =
    ap (λ (l : List ℕ). 32 ∷ decimal_of x ++ l) (planes_append p q)
    ∙ ap (λ (l : List ℕ). 32 ∷ l) (sym (append_assoc (decimal_of x) (planes_of p) (planes_of q)))

-- one plane more
pub planes_more :
    (q : List ℕ) (i : ℕ) → i < length q → planes_of (take (i + 1) q) ≡ (planes_of (take i q) ++ 32 ∷ []) ++ decimal_of (get_or q i 0)
unfolding planes_of
planes_more q i h =
    ap (λ (n : ℕ). planes_of (take n q)) (add-one i)
    ∙ ap planes_of (take-suc q i 0 h)
    ∙ planes_append (take i q) (get_or q i 0 ∷ [])
    ∙ ap (λ (l : List ℕ). planes_of (take i q) ++ 32 ∷ l) (append-nil (decimal_of (get_or q i 0)))
    ∙ sym (append_assoc (planes_of (take i q)) (32 ∷ []) (decimal_of (get_or q i 0)))

planes_length : (q : List ℕ) → length (planes_of q) ≤ (1 + most_digits) * length q
unfolding planes_of
planes_length [] = omega arith
planes_length (p ∷ q) =
    let d = digits_length most_digits p in
    let l = planes_length q in
    let e = length-append (decimal_of p) (planes_of q) in
    omega arith

pub planes_none : [] ≡ planes_of []
unfolding planes_of
planes_none = refl

pub planes_all : (q : List ℕ) (i : ℕ) → length q ≤ i → planes_of (take i q) ≡ planes_of q
planes_all q i h = ap planes_of (take_all i q h)

-- ---- a line and the header

pub line_is : (n : ℕ) (q : List ℕ) → line_of n q ≡ ((decimal_of n ++ 58 ∷ []) ++ planes_of q) ++ 10 ∷ []
unfolding line_of
line_is n q = ap (λ (l : List ℕ). l ++ 10 ∷ []) (sym (append_assoc (decimal_of n) (58 ∷ []) (planes_of q)))

pub planes_short : (q : List ℕ) → length q ≤ most_order → length (planes_of q) ≤ most_order * (1 + most_digits)
planes_short q h = let l = planes_length q in omega arith

line_length_lem : (n : ℕ) (q : List ℕ) → length q ≤ most_order → length (line_of n q) ≤ most_line
line_length_lem n q h =
    let d = digits_length most_digits n in
    let l = planes_short q h in
    let a = length-append (decimal_of n) (58 ∷ []) in
    let b = length-append (decimal_of n ++ 58 ∷ []) (planes_of q) in
    let c = length-append ((decimal_of n ++ 58 ∷ []) ++ planes_of q) (10 ∷ []) in
    rw (line_is n q) (omega arith)

pub header_is : (total : ℕ) → header_of total ≡ ((105 ∷ 109 ∷ 97 ∷ 103 ∷ 101 ∷ 115 ∷ 32 ∷ []) ++ decimal_of total) ++ 10 ∷ []
unfolding header_of
header_is total = refl

pub header_length : (total : ℕ) → length (header_of total) ≤ most_header
unfolding header_of
header_length total =
    let d = digits_length most_digits total in
    let a = length-append (decimal_of total) (10 ∷ []) in
    omega arith

-- ---- lines from records

pub planes_few : (area : List ℕ) (k : ℕ) → length (planes_at area k) ≤ most_order
unfolding planes_at
planes_few area k =
    let e = length-take (min (get_or (drop (k * 9) area) 8 0) 8) (drop (k * 9) area) in
    omega arith

-- the part of an area that is handed on as an image's planes
pub planes_part :
    (area : List ℕ) (k n : ℕ) → n ≡ min (get_or area (k * 9 + 8) 0) 8 → take (k * 9 + n - k * 9) (drop (k * 9) area) ≡ planes_at area k
unfolding planes_at
planes_part area k n e =
    ap (λ (m : ℕ). take m (drop (k * 9) area)) (let f : k * 9 + n - k * 9 ≡ n = omega arith in f)
    ∙ ap (λ (m : ℕ). take m (drop (k * 9) area)) (e ∙ ap (λ (m : ℕ). min m 8) (sym (get_or-drop (k * 9) area 8 0)))

pub lines_none : (area : List ℕ) (k n : ℕ) → n ≡ 0 → [] ≡ lines_of area k n
unfolding lines_of
lines_none area k n e = rw e

lines_snoc : (area : List ℕ) (k n : ℕ) → lines_of area k (suc n) ≡ lines_of area k n ++ line_of (k + n + 1) (planes_at area (k + n))
unfolding lines_of
lines_snoc area k zero =
    append-nil (line_of (k + 1) (planes_at area k)) ∙ ap (λ (m : ℕ). line_of (m + 1) (planes_at area m)) (sym (add-zero k))
lines_snoc area k (suc n) =
    ap (λ (l : List ℕ). line_of (k + 1) (planes_at area k) ++ l) (lines_snoc area (suc k) n)
    ∙ sym (append_assoc (line_of (k + 1) (planes_at area k)) (lines_of area (suc k) n) (line_of (suc k + n + 1) (planes_at area (suc k + n))))
    ∙ ap (λ (m : ℕ). (line_of (k + 1) (planes_at area k) ++ lines_of area (suc k) n) ++ line_of (m + 1) (planes_at area m))
    (let e : suc k + n ≡ k + suc n = omega arith in e)

-- one line more
pub lines_more :
    (area : List ℕ) (from next : ℕ) → from ≤ next →
    lines_of area from (next + 1 - from) ≡ lines_of area from (next - from) ++ line_of (next + 1) (planes_at area next)
lines_more area from next h =
    ap (lines_of area from) (let e : next + 1 - from ≡ suc (next - from) = omega arith in e)
    ∙ lines_snoc area from (next - from)
    ∙ ap (λ (m : ℕ). lines_of area from (next - from) ++ line_of (m + 1) (planes_at area m))
    (let e : from + (next - from) ≡ next = omega arith in e)

pub image_length : (area : List ℕ) (n k : ℕ) → length (line_of n (planes_at area k)) ≤ most_line
image_length area n k = line_length_lem n (planes_at area k) (planes_few area k)

-- ---- a chunk

pub chunk_room :
    (total from r o next : ℕ) → from ≤ next → next < end_of_chunk total from r o →
    (next * per_record + per_record ≤ r) × ((next - from) * most_line + most_line ≤ o) × (next < total)
unfolding end_of_chunk
chunk_room total from r o next g h = (omega arith, omega arith, omega arith)

pub chunk_from : (total from r o : ℕ) → from ≤ end_of_chunk total from r o
unfolding end_of_chunk
chunk_from total from r o = omega arith

-- what a chunk takes is within the output
pub chunk_fits :
    (total from r o next len : ℕ) → next ≡ end_of_chunk total from r o → len ≤ (next - from) * most_line → len ≤ o
unfolding end_of_chunk
chunk_fits total from r o next len e h = omega arith

pub chunked :
    (records : List ℕ) (total from : ℕ) (o : List ℕ) (next len : ℕ) (o' : List ℕ) →
    next ≡ end_of_chunk total from (length records) (length o) → len ≤ length o → Wrote (lines_of records from (next - from)) o 0 o' len →
    Chunked records total from o (record { next = next; len = len }) o'
chunked records total from o next len o' e h w =
    let f = wrote_front (lines_of records from (next - from)) o o' len w h in
    record { next = e; len = f.0; text = f.1 }

-- what a caller of `lines` asks: the chunk is within the output, and one that has a line ends within the total
pub chunk_within :
    (records : List ℕ) (total from : ℕ) (o : List ℕ) (r : Chunk) (o' : List ℕ) → Chunked records total from o r o' → r.len ≤ length o'
chunk_within records total from o r o' k =
    let t = ap length k.text ∙ length-append (lines_of records from (r.next - from)) (drop r.len o) in
    let l = k.len in
    omega arith

pub chunk_total :
    (records : List ℕ) (total from : ℕ) (o : List ℕ) (r : Chunk) (o' : List ℕ) → Chunked records total from o r o' → from < r.next →
    r.next ≤ total
unfolding end_of_chunk
chunk_total records total from o r o' k h = let e = k.next in omega arith
