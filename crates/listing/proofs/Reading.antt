-- Laws of the words and decimals of a text, which the functions that read the request cite.
-- By unfolding the definitions, by induction over the bytes, and by cases on each test.
use Prim.Native.Nat.{ℕ, zero, suc, ◌+◌, ◌-◌, ◌^◌, ◌≤◌, ◌<◌, min}
use mathlib.Core.Path.{◌≡◌, refl, sym, ap, ◌∙◌}
use mathlib.Core.Bool.{Bool, true, false, cond, ◌&&◌}
use mathlib.Core.List.{List, [], ◌∷◌, foldl, foldl-append}
use native.Mathlib.Omega.{arith}
use Rattle.std.proofs.lemmas.Grind.{common_steps}
use native.Mathlib.Decide.{dec_lt}
use native.Mathlib.Numerals.{add-one}
use lib.ListN.{length, get_or, take, drop, length-drop}
use lib.Seq.{take-suc, take_all}
use lib.Pow.{pow_mono}
use lib.Dec.{leb, ltb, eqb}
use borrow.Author.Tests.{eq-eqb, ne_eqb, le-leb, lt-leb, leb-true, le-ltb}
use Rattle.std.specs.Prelude.{Some, None, ◌==◌, position}
use Rattle.std.specs.List.{position_or_len, list_all}
use Rattle.std.proofs.lemmas.List.{get_or_default}
use Rattle.std.proofs.lemmas.List.Quantifiers.{position-Some}
use Rattle.std.proofs.lemmas.List.Recursion.{is_position_or_len}
use Rattle.std.proofs.lemmas.List.Sums.{AllPass-from_list_all, list_all-from_AllPass}
use Rattle.listing.specs.Request.{images_at, most_planes, most_text, cap, is_digit_byte, all, is_decimal_text, push, value_of, words, onto, space_at, in_range, checked, asked, length_of_line, request_of}
use Rattle.sequences.specs.Allowed.{most_order}

pub and_false : (x : Bool) {y : Bool} → y ≡ false → (x && y) ≡ false
and_false true e = e
and_false false e = refl

pub and_left : (x y : Bool) → (x && y) ≡ true → x ≡ true
and_left true y e = refl
and_left false y e = e

pub and_right : (x y : Bool) → (x && y) ≡ true → y ≡ true
and_right true y e = e
and_right false y e = let z : ◌≡◌ {A = Bool} false true = e in absurd (no z)
  where
    no : ◌≡◌ {A = Bool} false true → ⊥
    no z = let w : ◌≡◌ {A = ℕ} 0 1 = cc in omega arith

-- ---- decimals

all_at : (t : ℕ → Bool) (l : List ℕ) → all t l ≡ true → (i : ℕ) → i < length l → t (get_or l i 0) ≡ true
unfolding all
all_at t [] e i h = absurd (omega arith)
all_at t (b ∷ l) e zero h = and_left (t b) (all t l) e
all_at t (b ∷ l) e (suc i) h = all_at t l (and_right (t b) (all t l) e) i (omega arith)

all_from : (t : ℕ → Bool) (l : List ℕ) → ((i : ℕ) → i < length l → t (get_or l i 0) ≡ true) → all t l ≡ true
unfolding all
all_from t [] h = refl
all_from t (b ∷ l) h = ap (λ (x : Bool). x && all t l) (h 0 (omega arith)) ∙ all_from t l (λ i k. h (suc i) (omega arith))

-- `all` is the library's word
all_is : (t : ℕ → Bool) (l : List ℕ) → all t l ≡ list_all t l
all_is t l = by (all t l) (list_all t l) refl refl
  where
    by : (a b : Bool) → all t l ≡ a → list_all t l ≡ b → a ≡ b
    by true b e f =
        sym
        (list_all-from_AllPass t l
        (λ i d h. ap t (get_or_default l i d 0 h) ∙ all_at t l e i h))
        ∙ f
    by false true e f =
        sym e
        ∙ all_from t l (λ i h. AllPass-from_list_all t l f i 0 h)
    by false false e f = refl

module _ (w : List ℕ) where
  pub decimal_none : length w ≡ 0 → false ≡ is_decimal_text w
  unfolding is_decimal_text
  decimal_none e = sym (ap (λ (b : Bool). b && all is_digit_byte w) (lt-leb 1 (length w) (omega arith)))

  pub decimal_some : (length w ≡ 0 → ⊥) → list_all is_digit_byte w ≡ is_decimal_text w
  unfolding is_decimal_text
  decimal_some z =
      sym (ap (λ (b : Bool). b && all is_digit_byte w) (le-leb 1 (length w) (some (length w) z)) ∙ all_is is_digit_byte w)
    where
      some : (n : ℕ) → (n ≡ 0 → ⊥) → 1 ≤ n
      some zero z = absurd (z refl)
      some (suc n) z = omega arith

  pub decimal_digits : is_decimal_text w ≡ true → all is_digit_byte w ≡ true
  unfolding is_decimal_text
  decimal_digits e = and_right (leb 1 (length w)) (all is_digit_byte w) e

  pub decimal_at : is_decimal_text w ≡ true → (i : ℕ) → i < length w → is_digit_byte (get_or w i 0) ≡ true
  decimal_at e = all_at is_digit_byte w (decimal_digits e)

  -- one digit more, of a number that is read up to the cap
  pub value_more :
      (n i r : ℕ) → i < length w → n ≡ min (value_of (take i w)) cap → r ≡ min (push n (get_or w i 0)) cap →
      r ≡ min (value_of (take (i + 1) w)) cap
  unfolding value_of
  value_more n i r h inv e =
      let v : value_of (take (i + 1) w) ≡ push (value_of (take i w)) (get_or w i 0) =
      ap (λ (k : ℕ). foldl push 0 (take k w)) (add-one i)
      ∙ ap (foldl push 0) (take-suc w i 0 h)
      ∙ foldl-append push 0 (take i w) (get_or w i 0 ∷ []) in
      e ∙ capped (value_of (take i w)) n (get_or w i 0) inv ∙ ap (λ (k : ℕ). min k cap) (sym v)
    where
      capped : (v n d : ℕ) → n ≡ min v cap → min (push n d) cap ≡ min (push v d) cap
      capped v n d e = omega arith

  pub value_all : (n i : ℕ) → length w ≤ i → n ≡ min (value_of (take i w)) cap → n ≡ min (value_of w) cap
  value_all n i h inv = inv ∙ ap (λ (l : List ℕ). min (value_of l) cap) (take_all i w h)

pub digit_range : (b : ℕ) → is_digit_byte b ≡ true → (48 ≤ b) × (b ≤ 57)
unfolding is_digit_byte
digit_range b e = (leb-true 48 b (and_left (leb 48 b) (leb b 57) e), leb-true b 57 (and_right (leb 48 b) (leb b 57) e))

-- ---- spaces and words

-- what the library says of the first space
space_is : (l : List ℕ) → space_at l ≡ position_or_len (λ b. b == 32) l
unfolding space_at
space_is = is_position_or_len space_at (λ b. b == 32) refl (λ x xs. cases (x == 32) xs)
  where
    cases : (t : Bool) (xs : List ℕ) → cond t 0 (suc (space_at xs)) ≡ cond t 0 (1 + space_at xs)
    cases t xs = ap (λ (n : ℕ). cond t 0 n) (let e : suc (space_at xs) ≡ 1 + space_at xs = omega arith in e)

pub space_found : (l : List ℕ) (p : ℕ) → position (λ b. b == 32) l ≡ Some p → (p ≡ space_at l) × (p < length l)
space_found l p e =
    let k : position_or_len (λ b. b == 32) l ≡ p = grind (arith, common_steps) in
    (sym (space_is l ∙ k), (position-Some (λ b. b == 32) l p 0 e).0)

pub space_lacks : (l : List ℕ) → position (λ b. b == 32) l ≡ None → length l ≤ space_at l
space_lacks l e =
    let k : length l ≤ position_or_len (λ b. b == 32) l = grind (arith, common_steps) in
    let f = space_is l in
    omega arith

-- no space: one word
pub words_none : (l : List ℕ) → length l ≤ space_at l → words l ≡ l ∷ []
unfolding words space_at
words_none [] h = refl
words_none (b ∷ l) h = by (eqb b 32) h (words_none l)
  where
    by :
        (t : Bool) → suc (length l) ≤ cond t 0 (suc (space_at l)) → (length l ≤ space_at l → words l ≡ l ∷ []) →
        cond t ([] ∷ words l) (onto b (words l)) ≡ (b ∷ l) ∷ []
    by true h k = absurd (omega arith)
    by false h k = ap (onto b) (k (omega arith))

-- a space: the word before it, and the words behind it
pub words_some : (l : List ℕ) → space_at l < length l → words l ≡ take (space_at l) l ∷ words (drop (suc (space_at l)) l)
unfolding words space_at
words_some [] h = absurd (omega arith)
words_some (b ∷ l) h = by (eqb b 32) h (words_some l)
  where
    by :
        (t : Bool) → cond t 0 (suc (space_at l)) < suc (length l) →
        (space_at l < length l → words l ≡ take (space_at l) l ∷ words (drop (suc (space_at l)) l)) →
        cond t ([] ∷ words l) (onto b (words l))
        ≡ take (cond t 0 (suc (space_at l))) (b ∷ l) ∷ words (drop (suc (cond t 0 (suc (space_at l)))) (b ∷ l))
    by true h k = refl
    by false h k = ap (onto b) (k (omega arith))

words_at :
    (l : List ℕ) (p : ℕ) → p ≡ space_at l → p < length l → words l ≡ take p l ∷ words (drop (p + 1) l)
words_at l p e h =
    words_some l (let k : space_at l < length l = omega arith in k)
    ∙ ap (λ (n : ℕ). take n l ∷ words (drop (suc n) l)) (sym e)
    ∙ ap (λ (n : ℕ). take p l ∷ words (drop n l)) (sym (add-one p))

-- the words behind a space, which the code hands on as a part of the text
part_all : (l : List ℕ) (n : ℕ) → take (length l - n) (drop n l) ≡ drop n l
part_all l n = take_all (length l - n) (drop n l) (let e = length-drop n l in omega arith)

pub words_part :
    (l : List ℕ) (p : ℕ) → p ≡ space_at l → p < length l → take p l ∷ words (take (length l - (p + 1)) (drop (p + 1) l)) ≡ words l
words_part l p e h = ap (λ (r : List ℕ). take p l ∷ words r) (part_all l (p + 1)) ∙ sym (words_at l p e h)

-- digits have no space among them
digits_whole : (l : List ℕ) → all is_digit_byte l ≡ true → length l ≤ space_at l
unfolding all space_at is_digit_byte
digits_whole [] e = omega arith
digits_whole (b ∷ l) e =
    let d = leb-true 48 b (and_left (leb 48 b) (leb b 57) (and_left (is_digit_byte b) (all is_digit_byte l) e)) in
    let k = digits_whole l (and_right (is_digit_byte b) (all is_digit_byte l) e) in
    let f : cond (eqb b 32) 0 (suc (space_at l)) ≡ suc (space_at l) = ap (λ (t : Bool). cond t 0 (suc (space_at l))) (ne_eqb b 32 (λ z. omega arith)) in
    omega arith

-- ---- three words

-- a fourth word
asked_four : (a b c l : List ℕ) → asked (a ∷ b ∷ c ∷ words l) ≡ None
asked_four a b c l = by (dec_lt (space_at l) (length l))
  where
    by : Dec (space_at l < length l) → asked (a ∷ b ∷ c ∷ words l) ≡ None
    by (yes h) = ap (λ (ws : List (List ℕ)). asked (a ∷ b ∷ c ∷ ws)) (words_some l h)
    by (no h) = ap (λ (ws : List (List ℕ)). asked (a ∷ b ∷ c ∷ ws)) (words_none l (omega arith))

module _ (a b c : List ℕ) where
  pub asked_not : (is_decimal_text a && (is_decimal_text b && is_decimal_text c)) ≡ false → asked (a ∷ b ∷ words c) ≡ None
  asked_not e = by (dec_lt (space_at c) (length c))
    where
      by : Dec (space_at c < length c) → asked (a ∷ b ∷ words c) ≡ None
      by (yes h) =
          ap (λ (ws : List (List ℕ)). asked (a ∷ b ∷ ws)) (words_some c h)
          ∙ asked_four a b (take (space_at c) c) (drop (suc (space_at c)) c)
      by (no h) =
          ap (λ (ws : List (List ℕ)). asked (a ∷ b ∷ ws)) (words_none c (omega arith))
          ∙ ap (λ (t : Bool). cond t (checked (value_of a) (value_of b) (value_of c)) None) e

  pub not_first : is_decimal_text a ≡ false → asked (a ∷ b ∷ words c) ≡ None
  not_first e = asked_not (ap (λ (t : Bool). t && (is_decimal_text b && is_decimal_text c)) e)

  pub not_second : is_decimal_text b ≡ false → asked (a ∷ b ∷ words c) ≡ None
  not_second e = asked_not (and_false (is_decimal_text a) (ap (λ (t : Bool). t && is_decimal_text c) e))

  pub not_third : is_decimal_text c ≡ false → asked (a ∷ b ∷ words c) ≡ None
  not_third e = asked_not (and_false (is_decimal_text a) (and_false (is_decimal_text b) e))

  pub asked_three :
      is_decimal_text a ≡ true → is_decimal_text b ≡ true → is_decimal_text c ≡ true →
      asked (a ∷ b ∷ words c) ≡ checked (value_of a) (value_of b) (value_of c)
  asked_three ea eb ec =
      ap (λ (ws : List (List ℕ)). asked (a ∷ b ∷ ws)) (words_none c (digits_whole c (decimal_digits c ec)))
      ∙ ap (λ (t : Bool). cond t (checked (value_of a) (value_of b) (value_of c)) None)
      (ap (λ (t : Bool). t && (is_decimal_text b && is_decimal_text c)) ea ∙ ap (λ (t : Bool). t && is_decimal_text c) eb ∙ ec)

-- ---- the ranges

module _ (n o m : ℕ) where
  refuse : in_range n o m ≡ false → checked n o m ≡ None
  refuse e = ap (λ (t : Bool). cond t (images_at n o m) None) e

  out_planes : most_planes < n → checked n o m ≡ None
  unfolding in_range
  out_planes h =
      refuse
      (and_false (leb 1 n)
      (ap (λ (t : Bool). t && (leb 1 o && (leb o most_order && ltb m (2 ^ n)))) (lt-leb n most_planes h)))

  out_order : most_order < o → checked n o m ≡ None
  unfolding in_range
  out_order h =
      refuse
      (and_false (leb 1 n)
      (and_false (leb n most_planes) (and_false (leb 1 o) (ap (λ (t : Bool). t && ltb m (2 ^ n)) (lt-leb o most_order h)))))

  out_mask : n ≤ most_planes → 65536 ≤ m → checked n o m ≡ None
  unfolding in_range
  out_mask g h =
      let p : 2 ^ n ≤ 2 ^ most_planes = pow_mono g in
      let q : 2 ^ n ≤ m = omega arith in
      refuse
      (and_false (leb 1 n)
      (and_false (leb n most_planes) (and_false (leb 1 o) (and_false (leb o most_order) (le-ltb m (2 ^ n) q)))))

-- numbers that are read up to the cap are in range as the numbers are
checked_capped : (n o m : ℕ) → checked (min n cap) (min o cap) (min m cap) ≡ checked n o m
checked_capped n o m = by_planes (dec_lt most_planes n) (dec_lt most_order o) (dec_lt m cap)
  where
    by_planes :
        Dec (most_planes < n) → Dec (most_order < o) → Dec (m < cap) → checked (min n cap) (min o cap) (min m cap) ≡ checked n o m
    by_planes (yes h) x y = out_planes (min n cap) (min o cap) (min m cap) (omega arith) ∙ sym (out_planes n o m h)
    by_planes (no g) (yes h) y = out_order (min n cap) (min o cap) (min m cap) (omega arith) ∙ sym (out_order n o m h)
    by_planes (no g) (no h) (no k) =
        out_mask (min n cap) (min o cap) (min m cap) (omega arith) (omega arith) ∙ sym (out_mask n o m (omega arith) (omega arith))
    by_planes (no g) (no h) (yes k) =
        let a : min n cap ≡ n = omega arith in
        let b : min o cap ≡ o = omega arith in
        let c : min m cap ≡ m = omega arith in
        ap (λ (x : ℕ). checked x (min o cap) (min m cap)) a ∙ ap (λ (x : ℕ). checked n x (min m cap)) b ∙ ap (λ (x : ℕ). checked n o x) c

module _
    (a b c : List ℕ) (n o m : ℕ) (ea : is_decimal_text a ≡ true) (eb : is_decimal_text b ≡ true) (ec : is_decimal_text c ≡ true)
    (en : n ≡ min (value_of a) cap) (eo : o ≡ min (value_of b) cap) (em : m ≡ min (value_of c) cap) where
  read_three : asked (a ∷ b ∷ words c) ≡ checked n o m
  read_three =
      asked_three a b c ea eb ec
      ∙ sym (checked_capped (value_of a) (value_of b) (value_of c))
      ∙ ap (λ (x : ℕ). checked x (min (value_of b) cap) (min (value_of c) cap)) (sym en)
      ∙ ap (λ (x : ℕ). checked n x (min (value_of c) cap)) (sym eo)
      ∙ ap (λ (x : ℕ). checked n o x) (sym em)

  pub read_in : in_range n o m ≡ true → images_at n o m ≡ asked (a ∷ b ∷ words c)
  read_in e = sym (read_three ∙ ap (λ (t : Bool). cond t (images_at n o m) None) e)

  pub read_out : in_range n o m ≡ false → None ≡ asked (a ∷ b ∷ words c)
  read_out e = sym (read_three ∙ ap (λ (t : Bool). cond t (images_at n o m) None) e)

-- ---- the line

module _ (t : List ℕ) where
  pub line_none : length t ≡ 0 → 0 ≡ length_of_line t
  unfolding length_of_line
  line_none e = by (eqb (get_or t (length t - 1) 0) 10)
    where
      by : (x : Bool) → 0 ≡ cond x (length t - 1) (length t)
      by true = omega arith
      by false = omega arith

  pub line_feed : get_or t (length t - 1) 0 ≡ 10 → length t - 1 ≡ length_of_line t
  unfolding length_of_line
  line_feed e = sym (ap (λ (x : Bool). cond x (length t - 1) (length t)) (eq-eqb (get_or t (length t - 1) 0) 10 e))

  pub line_plain : (get_or t (length t - 1) 0 ≡ 10 → ⊥) → length t ≡ length_of_line t
  unfolding length_of_line
  line_plain e = sym (ap (λ (x : Bool). cond x (length t - 1) (length t)) (ne_eqb (get_or t (length t - 1) 0) 10 e))

  pub line_within : length_of_line t ≤ length t
  unfolding length_of_line
  line_within = by (eqb (get_or t (length t - 1) 0) 10)
    where
      by : (x : Bool) → cond x (length t - 1) (length t) ≤ length t
      by true = omega arith
      by false = omega arith

  pub request_long : most_text < length t → None ≡ request_of t
  unfolding request_of
  request_long h = sym (ap (λ (x : Bool). cond x (asked (words (take (length_of_line t) t))) None) (lt-leb (length t) most_text h))

  pub request_short : length t ≤ most_text → asked (words (take (length_of_line t) t)) ≡ request_of t
  unfolding request_of
  request_short h = sym (ap (λ (x : Bool). cond x (asked (words (take (length_of_line t) t))) None) (le-leb (length t) most_text h))
