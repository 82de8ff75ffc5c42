-- Parts of an area that are lent one after another, as lists: `&mut s[a..e]` comes back as `put_mid a (e - a) s ys`.
use mathlib.Core.Path.{◌≡◌, sym, ap, ◌∙◌}
use mathlib.Core.List.{List, [], ◌∷◌, ◌++◌}
use Prim.Native.Nat.{ℕ, zero, suc, ◌-◌, ◌≤◌}
use native.Mathlib.Omega.{arith}
use lib.ListN.{length, take, drop, length-append}
use lib.Seq.{length-take-le, length_front, take-nil, take-take, take_at, drop_at}
use borrow.Rule.Slice.PartMut.{put_mid, same_len_mid, mid_len, take_put}

module _ {A : Type 0} where
  -- the part that came back
  pub mid_back : (a e : ℕ) (s ys : List A) → a ≤ length s → length ys ≡ e - a → take (e - a) (drop a (put_mid a (e - a) s ys)) ≡ ys
  mid_back a e s ys h l =
      ap (take (e - a)) (drop_at (take a s) (ys ++ drop (e - a) (drop a s)) a (length-take-le a s h)) ∙ take_at ys (drop (e - a) (drop a s)) (e - a) l

  -- `&mut s[..a]`, and then the part after it
  pub front_back : (a e : ℕ) (s ys zs : List A) → length ys ≡ a → take a (put_mid a (e - a) (ys ++ drop a s) zs) ≡ ys
  front_back a e s ys zs l =
      let front : a ≤ length (ys ++ drop a s) = let n = length-append ys (drop a s) in omega arith in
      take_put a (e - a) (ys ++ drop a s) zs front ∙ take_at ys (drop a s) a l

  cut : (a b : ℕ) (s : List A) → take (b - a) (drop a s) ≡ drop a (take b s)
  cut zero b s = let e : b - 0 ≡ b = omega arith in ap (λ (k : ℕ). take k s) e
  cut (suc a) zero s = let e : 0 - suc a ≡ 0 = omega arith in ap (λ (k : ℕ). take k (drop (suc a) s)) e
  cut (suc a) (suc b) [] = take-nil (suc b - suc a)
  cut (suc a) (suc b) (x ∷ s) = let e : suc b - suc a ≡ b - a = omega arith in ap (λ (k : ℕ). take k (drop a s)) e ∙ cut a b s

  -- what lies before c is the same
  pub cut_same : (a b c : ℕ) (s t : List A) → b ≤ c → take c s ≡ take c t → take (b - a) (drop a s) ≡ take (b - a) (drop a t)
  cut_same a b c s t h e =
      cut a b s ∙ ap (drop a) (sym (take-take b c s h) ∙ ap (take b) e ∙ take-take b c t h) ∙ sym (cut a b t)

-- the two parts of a tree's area, one lent after the other
pub record Back {A : Type 0} (a e : ℕ) (s ys zs : List A) : Type 0 where
  pub long : length (put_mid a (e - a) (ys ++ drop a s) zs) ≡ length s
  pub front : take a (put_mid a (e - a) (ys ++ drop a s) zs) ≡ ys
  pub rest : take (e - a) (drop a (put_mid a (e - a) (ys ++ drop a s) zs)) ≡ zs

pub both_back :
    {A : Type 0} (a e : ℕ) (s ys zs : List A) → a ≤ e → e ≤ length s → length ys ≡ length (take a s) →
    length zs ≡ length (take (e - a) (drop a (ys ++ drop a s))) → Back a e s ys zs
both_back {A} a e s ys zs h g ly lz =
    let first : length ys ≡ a = ly ∙ length-take-le a s (omega arith) in
    let whole : length (ys ++ drop a s) ≡ length s = length_front s ys a ly in
    record {
      long = same_len_mid a (e - a) (ys ++ drop a s) zs lz ∙ whole;
      front = front_back a e s ys zs first;
      rest = mid_back a e (ys ++ drop a s) zs (omega arith) (lz ∙ mid_len a e (ys ++ drop a s) (omega arith));
    }
