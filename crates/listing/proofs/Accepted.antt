-- A text is taken exactly when it is three decimals on one line with one space between them, in range, and perhaps a line feed behind them.
-- One way the words of the line are joined again; the other way each decimal is a word, since it has no space.
use Prim.Native.Nat.{ℕ, suc, ◌+◌, ◌-◌, ◌≤◌, ◌<◌}
use mathlib.Core.Path.{◌≡◌, refl, sym, ap, subst, ◌∙◌}
use mathlib.Core.Bool.{Bool, true, false, cond, ◌&&◌}
use mathlib.Core.Logic.{◌⊎◌, inl, inr, ⊎_elim, ◌↔◌}
use mathlib.Core.List.{List, [], ◌∷◌, ◌++◌, append_assoc, append-nil}
use native.Mathlib.Omega.{arith}
use native.Mathlib.Decide.{dec_lt}
use lib.ListN.{length, get_or, take, drop, drop_of_length-le, length-append, take-append-drop}
use lib.Seq.{drop-cons, take_at, get_or-append-add, get_or_at}
use lib.Dec.{leb, eqb}
use borrow.Author.Tests.{ne_eqb, eqb-true, leb-true}
use Rattle.std.specs.Prelude.{Option, None}
use Rattle.listing.specs.Request.{images_at, most_text, is_digit_byte, all, is_decimal_text, value_of, words, onto, space, space_at, in_range, checked, asked, length_of_line, request_of, Accepted}
use Rattle.listing.specs.declared.Request.{Request}
use Rattle.listing.proofs.Reading.{and_left, and_right, words_none, words_some, decimal_digits, decimal_at, digit_range, line_feed, line_plain, request_short}
use Rattle.listing.proofs.Answering.{of_request, request_range, cond_images}

-- ---- from the words to the line

join : List (List ℕ) → List ℕ
join [] = []
join (w ∷ []) = w
join (w ∷ x ∷ ws) = w ++ 32 ∷ join (x ∷ ws)

join_onto : (b : ℕ) (ws : List (List ℕ)) → join (onto b ws) ≡ b ∷ join ws
unfolding join
join_onto b [] = refl
join_onto b (w ∷ []) = refl
join_onto b (w ∷ x ∷ ws) = refl

join_space : (l : List ℕ) → join ([] ∷ words l) ≡ 32 ∷ join (words l)
unfolding join
join_space l = by (dec_lt (space_at l) (length l))
  where
    by : Dec (space_at l < length l) → join ([] ∷ words l) ≡ 32 ∷ join (words l)
    by (yes h) = rw (words_some l h) refl
    by (no h) = rw (words_none l (omega arith)) refl

join_words : (l : List ℕ) → join (words l) ≡ l
unfolding words join
join_words [] = refl
join_words (b ∷ l) = by (eqb b 32) refl (join_words l)
  where
    by : (t : Bool) → eqb b 32 ≡ t → join (words l) ≡ l → join (cond t ([] ∷ words l) (onto b (words l))) ≡ b ∷ l
    by true e k = join_space l ∙ (λ i. sym (eqb-true b 32 e) i ∷ k i)
    by false e k = join_onto b (words l) ∙ ap (λ (r : List ℕ). b ∷ r) k

-- ---- a text that is taken

-- three words that are taken, each a decimal, and their numbers
record Three (ws : List (List ℕ)) (n o m : ℕ) : Type 0 where
  a : List ℕ
  b : List ℕ
  c : List ℕ
  are : ws ≡ a ∷ b ∷ c ∷ []
  decimals : (is_decimal_text a ≡ true) × (is_decimal_text b ≡ true) × (is_decimal_text c ≡ true)
  values : (value_of a ≡ n) × (value_of b ≡ o) × (value_of c ≡ m)

cond_test : (t : Bool) (r : Option Request) (n o m : ℕ) → cond t r None ≡ images_at n o m → t ≡ true
cond_test true r n o m e = refl
cond_test false r n o m e = let z : ◌≡◌ {A = ℕ} 0 1 = cc in absurd (omega arith)

asked_three : (ws : List (List ℕ)) (n o m : ℕ) → asked ws ≡ images_at n o m → Three ws n o m
asked_three [] n o m e = let z : ◌≡◌ {A = ℕ} 0 1 = cc in absurd (omega arith)
asked_three (a ∷ []) n o m e = let z : ◌≡◌ {A = ℕ} 0 1 = cc in absurd (omega arith)
asked_three (a ∷ b ∷ []) n o m e = let z : ◌≡◌ {A = ℕ} 0 1 = cc in absurd (omega arith)
asked_three (a ∷ b ∷ c ∷ []) n o m e =
    let d = cond_test (is_decimal_text a && (is_decimal_text b && is_decimal_text c)) (checked (value_of a) (value_of b) (value_of c)) n o m e in
    let f = cond_images (is_decimal_text a && (is_decimal_text b && is_decimal_text c)) (checked (value_of a) (value_of b) (value_of c)) n o m e in
    let g = cond_images (in_range (value_of a) (value_of b) (value_of c)) (images_at (value_of a) (value_of b) (value_of c)) n o m f in
    let bc = and_right (is_decimal_text a) (is_decimal_text b && is_decimal_text c) d in
    record {
      a = a;
      b = b;
      c = c;
      are = refl;
      decimals = (and_left (is_decimal_text a) (is_decimal_text b && is_decimal_text c) d, and_left (is_decimal_text b) (is_decimal_text c) bc, and_right (is_decimal_text b) (is_decimal_text c) bc);
      values = (ap (of_request (λ r. r.planes)) g, ap (of_request (λ r. r.order)) g, ap (of_request (λ r. r.mask)) g);
    }
asked_three (a ∷ b ∷ c ∷ d ∷ l) n o m e = let z : ◌≡◌ {A = ℕ} 0 1 = cc in absurd (omega arith)

-- what stands behind the line
feed_is : (t : List ℕ) → (drop (length_of_line t) t ≡ []) ⊎ (drop (length_of_line t) t ≡ 10 ∷ [])
unfolding length_of_line
feed_is t = by (eqb (get_or t (length t - 1) 0) 10) refl
  where
    some : (l : List ℕ) → get_or l (length l - 1) 0 ≡ 10 → 0 < length l
    some [] e = absurd (omega arith)
    some (x ∷ l) e = omega arith

    by :
        (x : Bool) → eqb (get_or t (length t - 1) 0) 10 ≡ x →
        (drop (cond x (length t - 1) (length t)) t ≡ []) ⊎ (drop (cond x (length t - 1) (length t)) t ≡ 10 ∷ [])
    by true e =
        let f : get_or t (length t - 1) 0 ≡ 10 = eqb-true (get_or t (length t - 1) 0) 10 e in
        let h = some t f in
        let d : drop (length t - 1) t ≡ get_or t (length t - 1) 0 ∷ drop (suc (length t - 1)) t = drop-cons t (length t - 1) 0 (omega arith) in
        let g : drop (suc (length t - 1)) t ≡ [] = drop_of_length-le t (let k : length t ≤ suc (length t - 1) = omega arith in k) in
        inr (d ∙ (λ i. f i ∷ g i))
    by false e = inl (drop_of_length-le t (let k : length t ≤ length t = omega arith in k))

taken : (t : List ℕ) (n o m : ℕ) → request_of t ≡ images_at n o m → Accepted t n o m
unfolding request_of join
taken t n o m e =
    let short = leb-true (length t) most_text (cond_test (leb (length t) most_text) (asked (words (take (length_of_line t) t))) n o m e) in
    let w =
    asked_three (words (take (length_of_line t) t)) n o m
    (cond_images (leb (length t) most_text) (asked (words (take (length_of_line t) t))) n o m e) in
    let l : take (length_of_line t) t ≡ w.a ++ 32 ∷ (w.b ++ 32 ∷ w.c) = sym (join_words (take (length_of_line t) t)) ∙ ap join w.are in
    let r : w.a ++ 32 ∷ (w.b ++ 32 ∷ w.c) ≡ w.a ++ space ++ w.b ++ space ++ w.c = simp append_assoc in
    record {
      short = short;
      line = record {
        first = w.a;
        second = w.b;
        third = w.c;
        feed = drop (length_of_line t) t;
        is =
            sym (take-append-drop (length_of_line t) t)
            ∙ ap (λ (x : List ℕ). x ++ drop (length_of_line t) t) (l ∙ r);
        decimals = w.decimals;
        end = feed_is t;
        values = w.values;
      };
      range = request_range t n o m e;
    }

-- ---- a text of three decimals

-- a decimal before a space is a word
words_word : (a l : List ℕ) → all is_digit_byte a ≡ true → words (a ++ 32 ∷ l) ≡ a ∷ words l
unfolding words all
words_word [] l e = refl
words_word (x ∷ a) l e =
    let d = digit_range x (and_left (is_digit_byte x) (all is_digit_byte a) e) in
    let k = words_word a l (and_right (is_digit_byte x) (all is_digit_byte a) e) in
    ap (λ (t : Bool). cond t ([] ∷ words (a ++ 32 ∷ l)) (onto x (words (a ++ 32 ∷ l)))) (ne_eqb x 32 (λ z. let g = d.0 in omega arith))
    ∙ ap (onto x) k

-- a decimal at the end is a word
words_last : (a : List ℕ) → all is_digit_byte a ≡ true → words a ≡ a ∷ []
unfolding words all
words_last [] e = refl
words_last (x ∷ a) e =
    let d = digit_range x (and_left (is_digit_byte x) (all is_digit_byte a) e) in
    let k = words_last a (and_right (is_digit_byte x) (all is_digit_byte a) e) in
    ap (λ (t : Bool). cond t ([] ∷ words a) (onto x (words a))) (ne_eqb x 32 (λ z. let g = d.0 in omega arith))
    ∙ ap (onto x) k

decimal_some : (a : List ℕ) → is_decimal_text a ≡ true → 1 ≤ length a
unfolding is_decimal_text
decimal_some a e = leb-true 1 (length a) (and_left (leb 1 (length a)) (all is_digit_byte a) e)

-- a decimal does not end with a line feed
plain_end : (p c : List ℕ) → is_decimal_text c ≡ true → get_or (p ++ c) (length (p ++ c) - 1) 0 ≡ 10 → ⊥
plain_end p c e z =
    let h = decimal_some c e in
    let l = length-append p c in
    let k : length (p ++ c) - 1 ≡ length p + (length c - 1) = omega arith in
    let f : get_or c (length c - 1) 0 ≡ 10 =
    sym (ap (λ (n : ℕ). get_or (p ++ c) n 0) k ∙ get_or-append-add p c (length c - 1) 0) ∙ z in
    let d = digit_range (get_or c (length c - 1) 0) (decimal_at c e (length c - 1) (omega arith)) in
    let g = d.0 in
    omega arith

-- the line is what stands before the line feed
line_of : (p c f : List ℕ) → is_decimal_text c ≡ true → (f ≡ []) ⊎ (f ≡ 10 ∷ []) → take (length_of_line ((p ++ c) ++ f)) ((p ++ c) ++ f) ≡ p ++ c
line_of p c f e h = ⊎_elim plain fed h
  where
    plain : f ≡ [] → take (length_of_line ((p ++ c) ++ f)) ((p ++ c) ++ f) ≡ p ++ c
    plain z =
        let t : (p ++ c) ++ f ≡ p ++ c = ap (λ (x : List ℕ). (p ++ c) ++ x) z ∙ append-nil (p ++ c) in
        let n : length_of_line ((p ++ c) ++ f) ≡ length (p ++ c) = ap length_of_line t ∙ sym (line_plain (p ++ c) (plain_end p c e)) in
        take_at (p ++ c) f (length_of_line ((p ++ c) ++ f)) (sym n)

    fed : f ≡ 10 ∷ [] → take (length_of_line ((p ++ c) ++ f)) ((p ++ c) ++ f) ≡ p ++ c
    fed z =
        let t : (p ++ c) ++ f ≡ (p ++ c) ++ 10 ∷ [] = ap (λ (x : List ℕ). (p ++ c) ++ x) z in
        let l = length-append (p ++ c) (10 ∷ []) in
        let k : length ((p ++ c) ++ 10 ∷ []) - 1 ≡ length (p ++ c) = omega arith in
        let g = get_or_at (p ++ c) 10 [] 0 (length ((p ++ c) ++ 10 ∷ []) - 1) (sym k) in
        let n : length_of_line ((p ++ c) ++ f) ≡ length (p ++ c) = ap length_of_line t ∙ sym (line_feed ((p ++ c) ++ 10 ∷ []) g) ∙ k in
        take_at (p ++ c) f (length_of_line ((p ++ c) ++ f)) (sym n)

-- three decimals with one space between them are taken for what they are
three : (a b c f : List ℕ) → is_decimal_text a ≡ true → is_decimal_text b ≡ true → is_decimal_text c ≡ true → (f ≡ []) ⊎ (f ≡ 10 ∷ []) →
    length (a ++ space ++ b ++ space ++ c ++ f) ≤ most_text →
    request_of (a ++ space ++ b ++ space ++ c ++ f) ≡ checked (value_of a) (value_of b) (value_of c)
three a b c f ea eb ec h s =
    let p : List ℕ = a ++ space ++ b ++ space in
    let l : p ++ c ≡ a ++ 32 ∷ (b ++ 32 ∷ c) = simp append_assoc in
    let w : words (p ++ c) ≡ a ∷ b ∷ c ∷ [] =
    ap words l
    ∙ words_word a (b ++ 32 ∷ c) (decimal_digits a ea)
    ∙ ap (λ (x : List (List ℕ)). a ∷ x) (words_word b c (decimal_digits b eb) ∙ ap (λ (x : List (List ℕ)). b ∷ x) (words_last c (decimal_digits c ec))) in
    sym (request_short ((p ++ c) ++ f) s)
    ∙ ap (λ (x : List ℕ). asked (words x)) (line_of p c f ec h)
    ∙ ap asked w
    ∙ ap (λ (x : Bool). cond x (checked (value_of a) (value_of b) (value_of c)) None)
    (ap (λ (x : Bool). x && (is_decimal_text b && is_decimal_text c)) ea ∙ ap (λ (x : Bool). x && is_decimal_text c) eb ∙ ec)

takes : (t : List ℕ) (n o m : ℕ) → Accepted t n o m → request_of t ≡ images_at n o m
takes t n o m x =
    let l = x.line in
    let d = l.decimals in
    let v = l.values in
    let s : length (l.first ++ space ++ l.second ++ space ++ l.third ++ l.feed) ≤ most_text =
    subst (λ (y : List ℕ). length y ≤ most_text) l.is x.short in
    ap request_of l.is
    ∙ three l.first l.second l.third l.feed d.0 d.1 d.2 l.end s
    ∙ ap (λ (y : ℕ). checked y (value_of l.second) (value_of l.third)) v.0
    ∙ ap (λ (y : ℕ). checked n y (value_of l.third)) v.1
    ∙ ap (λ (y : ℕ). checked n o y) v.2
    ∙ ap (λ (b : Bool). cond b (images_at n o m) None) x.range

-- a text asks for images exactly when it is accepted
pub accepted : (t : List ℕ) (n o m : ℕ) → (request_of t ≡ images_at n o m) ↔ Accepted t n o m
accepted t n o m = (taken t n o m, takes t n o m)
