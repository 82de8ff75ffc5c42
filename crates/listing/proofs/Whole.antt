-- The first line that `answer` leaves and the chunks that a loop over `lines` writes, one after the other, are the whole text `printed`.
-- By induction over the images: a record is read back as its sequence, and the lines of two runs of records join.
use Prim.Native.Nat.{ℕ, zero, suc, ◌+◌, ◌-◌, ◌*◌, ◌/◌, ◌%◌, ◌^◌, ◌≤◌, ◌<◌, min}
use mathlib.Core.Path.{◌≡◌, refl, sym, ap, ap₂, ◌∙◌}
use mathlib.Core.Bool.{Bool, true, false, cond}
use mathlib.Core.Logic.{inl, inr, ⊎_elim}
use mathlib.Core.List.{List, [], ◌∷◌, ◌++◌, append_assoc, append-nil, foldl, foldl-append}
use native.Mathlib.Omega.{arith}
use native.Mathlib.Nat.{pow-succ', add-zero, zero-add, sub-zero}
use lib.ListN.{length, get_or, take, drop, replicate, length-append, length-replicate}
use lib.Seq.{take-append-le, take-append_seam, take-take, take_at, drop_at, drop-drop, get_or_at, length-take-le}
use lib.Dec.{ltb}
use borrow.Author.Tests.{ltb-true}
use Rattle.sequences.specs.Allowed.{below, upto, may}
use Rattle.sequences.specs.Members.{In}
use Rattle.sequences.specs.Run.{record_of, listed}
use Rattle.sequences.proofs.Laws.{length_record}
use Rattle.sequences.proofs.Numbers.{is_visited}
use Rattle.std.specs.Prelude.{Option, Some, None}
use Rattle.listing.specs.declared.Head.{Head}
use Rattle.listing.specs.Request.{request_of, words, is_decimal_text, all, is_digit_byte, value_of, push, in_range, length_of_line}
use Rattle.listing.specs.Text.{most_line, digits_of, planes_of, line_of, header_of, lines_from, planes_in, planes_at, lines_of, end_of_chunk, Chunked, Turn, Turns, written}
use Rattle.listing.specs.Printed.{on_bytes, head_at, images_of, images_for, head_for, printed, room, reply_of, records_of, out_of, Answered}
use Rattle.listing.specs.declared.Request.{Request}
use Rattle.listing.specs.declared.Chunk.{Chunk}
use Rattle.listing.proofs.Answering.{of_head, request_few, answer_records}
use Rattle.listing.proofs.Writing.{chunk_total}

-- ---- a record is read back as its sequence

module _ (q r : List ℕ) (few : length q ≤ 8) where
  front : List ℕ
  front = take 8 (q ++ replicate 8 0)

  front_length : length front ≡ 8
  unfolding front
  front_length = length-take-le 8 (q ++ replicate 8 0) (simp (length-append, length-replicate) (omega arith))

  record_is : record_of q ++ r ≡ front ++ length q ∷ r
  unfolding record_of front
  record_is = append_assoc (take 8 (q ++ replicate 8 0)) (length q ∷ []) r

  planes_front : planes_in (record_of q ++ r) ≡ q
  unfolding front
  planes_front =
      ap planes_in record_is
      ∙ ap (λ (n : ℕ). take (min n 8) (front ++ length q ∷ r)) (get_or_at front (length q) r 0 8 front_length)
      ∙ ap (λ (n : ℕ). take n (front ++ length q ∷ r)) (let e : min (length q) 8 ≡ length q = omega arith in e)
      ∙ take-append-le (length q) front (length q ∷ r) (let l = front_length in omega arith)
      ∙ take-take (length q) 8 (q ++ replicate 8 0) few
      ∙ take-append_seam q (replicate 8 0)

pub planes_back :
    (v : List (List ℕ)) (r : List ℕ) → ((q : List ℕ) → In q v → length q ≤ 8) → (k : ℕ) → k < length v →
    planes_at (listed v ++ r) k ≡ get_or v k []
unfolding planes_at listed
planes_back [] r few k h = absurd (omega arith)
planes_back (q ∷ v) r few zero h =
    ap planes_in (append_assoc (record_of q) (listed v) r) ∙ planes_front q (listed v ++ r) (few q (inl refl))
planes_back (q ∷ v) r few (suc k) h =
    ap (λ (l : List ℕ). planes_in (drop (suc k * 9) l)) (append_assoc (record_of q) (listed v) r)
    ∙ ap (λ (n : ℕ). planes_in (drop n (record_of q ++ (listed v ++ r)))) (let e : suc k * 9 ≡ 9 + k * 9 = omega arith in e)
    ∙ sym (ap planes_in (drop-drop (k * 9) 9 (record_of q ++ (listed v ++ r))))
    ∙ ap (λ (l : List ℕ). planes_in (drop (k * 9) l)) (drop_at (record_of q) (listed v ++ r) 9 (length_record q))
    ∙ planes_back v r (λ p i. few p (inr i)) k (omega arith)

lines_images :
    (v : List (List ℕ)) (area : List ℕ) (k : ℕ) → ((i : ℕ) → i < length v → planes_at area (k + i) ≡ get_or v i []) →
    lines_of area k (length v) ≡ lines_from (k + 1) v
unfolding lines_of lines_from
lines_images [] area k h = refl
lines_images (q ∷ v) area k h =
    ap₂ (λ (p l : List ℕ). line_of (k + 1) p ++ l)
    (ap (planes_at area) (sym (add-zero k)) ∙ h 0 (omega arith))
    (lines_images v area (suc k)
    (λ i l. ap (planes_at area) (let e : suc k + i ≡ k + suc i = omega arith in e) ∙ h (suc i) (omega arith))
    ∙ ap (λ (n : ℕ). lines_from n v) (let e : suc k + 1 ≡ suc (k + 1) = omega arith in e))

-- ---- the whole text

images_short : (n o m : ℕ) (q : List ℕ) → In q (images_of n o m) → length q ≤ o
unfolding images_of
images_short n o m q i = ((is_visited (on_bytes n m) o).only q i).few

images_few : (t : List ℕ) (q : List ℕ) → In q (images_for (request_of t)) → length q ≤ 8
images_few t q i = by (request_of t) refl i
  where
    by : (r : Option Request) → request_of t ≡ r → In q (images_for r) → length q ≤ 8
    by None e i = absurd i
    by (Some a) e i =
        let k = images_short a.planes a.order a.mask q i in
        let l = (request_few t a.planes a.order a.mask e).1 in
        omega arith

-- all images' lines, read from the records that `answer` leaves
pub whole :
    (text records out : List ℕ) → room records out ≡ true →
    head_for (request_of text) ++ lines_of (records_of text records out) 0 (length (images_for (request_of text))) ≡ printed text
unfolding records_of printed
whole text records out e =
    let v : List (List ℕ) = images_for (request_of text) in
    let a : records_of text records out ≡ listed v ++ drop (length v * 9) records =
    ap (λ (b : Bool). cond b (listed v ++ drop (length v * 9) records) records) e in
    ap (λ (l : List ℕ). head_for (request_of text) ++ lines_of l 0 (length v)) a
    ∙ ap (λ (l : List ℕ). head_for (request_of text) ++ l)
    (lines_images v (listed v ++ drop (length v * 9) records) 0
    (λ i h.
    ap (planes_at (listed v ++ drop (length v * 9) records)) (zero-add i)
    ∙ planes_back v (drop (length v * 9) records) (images_few text) i h))

-- what the code leaves: the first line at the front of the output, then the lines of the records
pub answer_text :
    (text records out : List ℕ) (total len : ℕ) (r : Option Head) (records' out' : List ℕ) → Answered text records out r records' out' →
    r ≡ head_at total len → take len out' ++ lines_of records' 0 total ≡ printed text
unfolding reply_of out_of
answer_text text records out total len r records' out' a e = by (room records out) refl (sym e ∙ a.answer) a.head
  where
    by :
        (b : Bool) → room records out ≡ b →
        head_at total len ≡ cond b (head_at (length (images_for (request_of text))) (length (head_for (request_of text)))) None →
        out' ≡ cond b (head_for (request_of text) ++ drop (length (head_for (request_of text))) out) out →
        take len out' ++ lines_of records' 0 total ≡ printed text
    by true f p q =
        let n : total ≡ length (images_for (request_of text)) = ap (of_head (λ h. h.total)) p in
        let l : len ≡ length (head_for (request_of text)) = ap (of_head (λ h. h.len)) p in
        ap₂ (λ (x y : List ℕ). x ++ y)
        (ap (take len) q ∙ take_at (head_for (request_of text)) (drop (length (head_for (request_of text))) out) len (sym l))
        (ap₂ (λ (x : List ℕ) (y : ℕ). lines_of x 0 y) a.area n)
        ∙ whole text records out f
    by false f p q = let z : ◌≡◌ {A = ℕ} 0 1 = cc in absurd (omega arith)

-- ---- the chunks

lines_join : (area : List ℕ) (k m n : ℕ) → lines_of area k m ++ lines_of area (k + m) n ≡ lines_of area k (m + n)
unfolding lines_of
lines_join area k zero n = ap₂ (λ (i j : ℕ). lines_of area i j) (add-zero k) (sym (zero-add n))
lines_join area k (suc m) n =
    append_assoc (line_of (k + 1) (planes_at area k)) (lines_of area (suc k) m) (lines_of area (k + suc m) n)
    ∙ ap (λ (l : List ℕ). line_of (k + 1) (planes_at area k) ++ l)
    (ap (λ (i : ℕ). lines_of area (suc k) m ++ lines_of area i n) (let e : k + suc m ≡ suc k + m = omega arith in e)
    ∙ lines_join area (suc k) m n)
    ∙ ap (lines_of area k) (let e : suc (m + n) ≡ suc m + n = omega arith in e)

module _ (records : List ℕ) (total from : ℕ) (o : List ℕ) (r : Chunk) (o' : List ℕ) (k : Chunked records total from o r o') where
  chunk_text : take r.len o' ≡ lines_of records from (r.next - from)
  chunk_text =
      ap (take r.len) k.text ∙ take_at (lines_of records from (r.next - from)) (drop r.len o) r.len (sym k.len)

  chunk_last : r.next ≤ from → most_line ≤ length o → total * 9 ≤ length records → total ≤ from
  unfolding end_of_chunk
  chunk_last h l m = let e = k.next in omega arith

-- they print the lines of all images from `from` on
turns_all :
    (records : List ℕ) (total from : ℕ) (ts : List Turn) → total * 9 ≤ length records → Turns records total from ts →
    written ts ≡ lines_of records from (total - from)
turns_all records total from [] m h = absurd h
turns_all records total from (t ∷ ts) m h =
    ap (λ (l : List ℕ). l ++ written ts) (chunk_text records total from t.before t.chunk t.after h.0)
    ∙ ⊎_elim last (λ g. more g (turns_all records total t.chunk.next ts m g.1)) h.2
  where
    last : (t.chunk.next ≤ from) × (ts ≡ []) → lines_of records from (t.chunk.next - from) ++ written ts ≡ lines_of records from (total - from)
    last g =
        let a = g.0 in
        let b = chunk_last records total from t.before t.chunk t.after h.0 g.0 h.1 m in
        ap (λ (us : List Turn). lines_of records from (t.chunk.next - from) ++ written us) g.1
        ∙ append-nil (lines_of records from (t.chunk.next - from))
        ∙ ap (lines_of records from) (let e : t.chunk.next - from ≡ total - from = omega arith in e)

    more :
        (from < t.chunk.next) × Turns records total t.chunk.next ts →
        written ts ≡ lines_of records t.chunk.next (total - t.chunk.next) →
        lines_of records from (t.chunk.next - from) ++ written ts ≡ lines_of records from (total - from)
    more g e =
        let a = g.0 in
        let b = chunk_total records total from t.before t.chunk t.after h.0 g.0 in
        ap (λ (l : List ℕ). lines_of records from (t.chunk.next - from) ++ l) e
        ∙ ap (λ (i : ℕ). lines_of records from (t.chunk.next - from) ++ lines_of records i (total - t.chunk.next))
        (let f : t.chunk.next ≡ from + (t.chunk.next - from) = omega arith in f)
        ∙ lines_join records from (t.chunk.next - from) (total - t.chunk.next)
        ∙ ap (lines_of records from) (let f : t.chunk.next - from + (total - t.chunk.next) ≡ total - from = omega arith in f)

-- so the first line that `answer` leaves, and the chunks of a loop over `lines` from 0 on, are the whole text
pub turns_text :
    (text records out : List ℕ) (total len : ℕ) (r : Option Head) (records' out' : List ℕ) (ts : List Turn) →
    Answered text records out r records' out' → r ≡ head_at total len → Turns records' total 0 ts → take len out' ++ written ts ≡ printed text
turns_text text records out total len r records' out' ts a e h =
    ap (λ (l : List ℕ). take len out' ++ l)
    (turns_all records' total 0 ts (answer_records text records out total len r records' out' a e) h
    ∙ ap (lines_of records' 0) (sub-zero total))
    ∙ answer_text text records out total len r records' out' a e

-- ---- numbers are printed as they are read

pub decimal_value : (k n : ℕ) → n < 10 ^ k → value_of (digits_of k n) ≡ n
unfolding value_of digits_of
decimal_value zero n h = omega arith
decimal_value (suc k) n h = by (ltb n 10) refl (decimal_value k (n / 10))
  where
    by :
        (b : Bool) → ltb n 10 ≡ b → (n / 10 < 10 ^ k → foldl push 0 (digits_of k (n / 10)) ≡ n / 10) →
        foldl push 0 (cond b [] (digits_of k (n / 10)) ++ (48 + n % 10) ∷ []) ≡ n
    by true e ih = let l = ltb-true n 10 e in omega arith
    by false e ih =
        let p : 10 ^ suc k ≡ 10 * 10 ^ k = pow-succ' 10 k in
        let v = ih (let q : n / 10 < 10 ^ k = omega arith in q) in
        foldl-append push 0 (digits_of k (n / 10)) ((48 + n % 10) ∷ []) ∙ omega arith

-- ---- document 01's listing for `2 3 0`

document :
    printed (50 ∷ 32 ∷ 51 ∷ 32 ∷ 48 ∷ [])
    ≡ 105 ∷ 109 ∷ 97 ∷ 103 ∷ 101 ∷ 115 ∷ 32 ∷ 54 ∷ 10 ∷ 49 ∷ 58 ∷ 32 ∷ 48 ∷ 10 ∷ 50 ∷ 58 ∷ 32 ∷ 48 ∷ 32 ∷ 49 ∷ 10 ∷ 51 ∷ 58 ∷ 32 ∷ 48 ∷ 32 ∷ 49
    ∷ 32 ∷ 48 ∷ 10 ∷ 52 ∷ 58 ∷ 32 ∷ 49 ∷ 10 ∷ 53 ∷ 58 ∷ 32 ∷ 49 ∷ 32 ∷ 48 ∷ 10 ∷ 54 ∷ 58 ∷ 32 ∷ 49 ∷ 32 ∷ 48 ∷ 32 ∷ 49 ∷ 10 ∷ []
unfolding printed request_of length_of_line words is_decimal_text all is_digit_byte value_of in_range images_of on_bytes below upto may header_of lines_from line_of planes_of digits_of
document = refl
