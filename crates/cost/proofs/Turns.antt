-- The loop of `counts_of`: a turn a level. `full` is how many are visited whole on the level above, `under` how many of those that go on from the one
-- that is visited in part.
use Prim.Native.Nat.{ℕ, suc, ◌+◌, ◌-◌, ◌*◌, ◌/◌, ◌%◌, ◌≤◌, ◌<◌, min}
use mathlib.Core.Path.{◌≡◌, refl, sym, ap, ap₂, ◌∙◌, subst}
use mathlib.Core.List.{List, [], ◌∷◌, ◌++◌, append-nil, append_assoc}
use native.Mathlib.Nat.{mul_comm, mul_assoc, add-mul, mul-zero, suc-mul, div-add-mod'}
use native.Mathlib.Omega.{arith}
use lib.ListN.{length, take, drop, set, replicate, length-set, take-append-drop}
use lib.Seq.{take-suc-set, drop-set-lt, drop-cons}
use Rattle.sequences.specs.Allowed.{most}
use Rattle.sequences.specs.Count.{series}
use Rattle.sequences.proofs.Counting.{series_suc}
use Rattle.cost.specs.Cost.{levels, levels_of, to_eight}
use Rattle.cost.proofs.Sizes.{series_pos}

-- what is counted on the r levels ahead
abbrev pub ahead : ℕ → ℕ → ℕ → ℕ → List ℕ
ahead m r full under = levels m r (m * full + under / series m r) (under % series m r)

one_level :
    (m r full under : ℕ) →
    ahead m (suc r) full under
    ≡ (m * full + under / series m (suc r) + min 1 (under % series m (suc r)))
    ∷ ahead m r (m * full + under / series m (suc r)) (under % series m (suc r) - min 1 (under % series m (suc r)))
unfolding levels
one_level m r full under =
    let f = m * full + under / series m (suc r) in
    let rest = under % series m (suc r) in
    ap (λ (n : ℕ). (f + min 1 rest) ∷ levels m r (m * f + n / series m r) (n % series m r)) (let e : rest - 1 ≡ rest - min 1 rest = omega arith in e)

-- the level and all below it are as many as were left
visited_whole :
    (m r full under : ℕ) →
    (m * full + under / series m (suc r)) + m * (m * full + under / series m (suc r)) * series m r + under % series m (suc r)
    ≡ m * full * series m (suc r) + under
visited_whole m r full under =
    let b = series m (suc r) in
    let f = m * full + under / b in
    let s = series m r in
    let whole : f + m * f * s ≡ f * b =
    (let e : m * f * s ≡ f * (m * s) = ap (λ (n : ℕ). n * s) (mul_comm m f) ∙ mul_assoc f m s in
    let g : f * b ≡ f * suc (m * s) = ap (λ (n : ℕ). f * n) (series_suc m r) in
    let h : f * suc (m * s) ≡ f + f * (m * s) = mul_comm f (suc (m * s)) ∙ suc-mul (m * s) f ∙ (let k = mul_comm (m * s) f in omega arith) in
    omega arith)
    in
    let parts : f * b ≡ m * full * b + under / b * b = add-mul (m * full) (under / b) b in
    let d = div-add-mod' under b in
    omega arith

-- so that what is left stays within the limit
room_step :
    (m r full under cap : ℕ) → m * full * series m (suc r) + under ≤ cap →
    m * (m * full + under / series m (suc r)) * series m r + (under % series m (suc r) - min 1 (under % series m (suc r))) ≤ cap
room_step m r full under cap h = let e = visited_whole m r full under in omega arith

full_step : (m r full under cap : ℕ) → m * full * series m (suc r) + under ≤ cap → m * full + under / series m (suc r) ≤ cap
full_step m r full under cap h = let e = visited_whole m r full under in omega arith

-- after k turns
pub record Turned (m order images : ℕ) (counts : List ℕ) (k full under : ℕ) : Type 0 where
  pub turn : k ≤ order
  pub long : length counts ≡ 8
  pub counted : take k counts ++ ahead m (order - k) full under ≡ levels_of m order images
  pub zeros : drop k counts ≡ replicate (8 - k) 0
  pub room : m * full * series m (order - k) + under ≤ most

pub turned_none : (m order images : ℕ) → images ≤ most → Turned m order images (replicate 8 0) 0 0 images
unfolding levels_of
turned_none m order images h =
    let z : m * 0 ≡ 0 = mul-zero m in
    record {
      turn = omega arith;
      long = refl;
      counted =
          ap (λ (r : ℕ). ahead m r 0 images) (let e : order - 0 ≡ order = omega arith in e)
          ∙ ap (λ (n : ℕ). levels m order n (images % series m order)) (let e : m * 0 + images / series m order ≡ images / series m order = omega arith in e);
      zeros = refl;
      room =
          subst (λ (n : ℕ). n * series m (order - 0) + images ≤ most) (sym z)
          (let e : 0 * series m (order - 0) ≡ 0 = mul_comm 0 (series m (order - 0)) ∙ mul-zero (series m (order - 0)) in omega arith);
    }

-- what the sums and the cast of a turn need
pub record Fits (m order k full under block : ℕ) : Type 0 where
  pub some : 0 < block
  pub product : m * full ≤ most
  pub whole : m * full + under / block ≤ most

pub fits_turn :
    (m order images : ℕ) (counts : List ℕ) (k full under block : ℕ) → Turned m order images counts k full under → k < order →
    block ≡ series m (order - k) → Fits m order k full under block
fits_turn m order images counts k full under block t l is = by (order - (k + 1)) (omega arith)
  where
    by : (r : ℕ) → order - k ≡ suc r → Fits m order k full under block
    by r e =
        let b : block ≡ series m (suc r) = is ∙ ap (series m) e in
        let h : m * full * series m (suc r) + under ≤ most = subst (λ (n : ℕ). m * full * series m n + under ≤ most) e t.room in
        let w : m * full + under / series m (suc r) ≤ most = full_step m r full under most h in
        record {
          some = let p = series_pos m (suc r) (omega arith) in omega arith;
          product = omega arith;
          whole = subst (λ (n : ℕ). m * full + under / n ≤ most) (sym b) w;
        }

pub turned_more :
    (m order images : ℕ) (counts : List ℕ) (k full under block rest part : ℕ) → Turned m order images counts k full under → k < order → order ≤ 8 →
    block ≡ series m (order - k) → rest ≡ under % block → part ≡ min 1 rest →
    Turned m order images (set counts k (m * full + under / block + part)) (k + 1) (m * full + under / block) (rest - part)
turned_more m order images counts k full under block rest part t l few is at begun = by (order - (k + 1)) (omega arith) refl
  where
    f : ℕ
    f = m * full + under / block

    by : (r : ℕ) → order - k ≡ suc r → order - (k + 1) ≡ r → Turned m order images (set counts k (f + part)) (k + 1) f (rest - part)
    by r e e' =
        let b : block ≡ series m (suc r) = is ∙ ap (series m) e in
        let ff : f ≡ m * full + under / series m (suc r) = ap (λ (n : ℕ). m * full + under / n) b in
        let rr : rest ≡ under % series m (suc r) = at ∙ ap (λ (n : ℕ). under % n) b in
        let pp : part ≡ min 1 (under % series m (suc r)) = begun ∙ ap (λ (n : ℕ). min 1 n) rr in
        let next : k + 1 ≡ suc k = omega arith in
        let place : k < length counts = let g = t.long in omega arith in
        let level : ahead m (order - k) full under ≡ (f + part) ∷ ahead m (order - (k + 1)) f (rest - part) =
        ap (λ (n : ℕ). ahead m n full under) e ∙ one_level m r full under
        ∙ sym (ap₂ (λ (x y : ℕ). (x + y) ∷ ahead m r x (under % series m (suc r) - y)) ff pp)
        ∙ ap (λ (n : ℕ). (f + part) ∷ ahead m r f (n - part)) (sym rr)
        ∙ ap (λ (n : ℕ). (f + part) ∷ ahead m n f (rest - part)) (sym e')
        in
        record {
          turn = omega arith;
          long = length-set counts k (f + part) ∙ t.long;
          counted =
              ap (λ (n : ℕ). take n (set counts k (f + part)) ++ ahead m (order - (k + 1)) f (rest - part)) next
              ∙ ap (λ (xs : List ℕ). xs ++ ahead m (order - (k + 1)) f (rest - part)) (take-suc-set counts k (f + part) place)
              ∙ append_assoc (take k counts) ((f + part) ∷ []) (ahead m (order - (k + 1)) f (rest - part))
              ∙ ap (λ (xs : List ℕ). take k counts ++ xs) (sym level) ∙ t.counted;
          zeros = ap (λ (n : ℕ). drop n (set counts k (f + part))) next ∙ drop-set-lt (suc k) counts k (f + part) (omega arith) ∙ fewer place;
          room =
              subst (λ (n : ℕ). m * f * series m n + (rest - part) ≤ most) (sym e')
              (rw (ff, rr, pp) (room_step m r full under most (subst (λ (n : ℕ). m * full * series m n + under ≤ most) e t.room)));
        }
      where
        tail_of : (xs : List ℕ) (x : ℕ) (ys : List ℕ) (j : ℕ) → xs ≡ x ∷ ys → xs ≡ replicate (suc j) 0 → ys ≡ replicate j 0
        tail_of xs x ys j a c = ap (λ (l : List ℕ). drop 1 l) (sym a ∙ c)

        fewer : k < length counts → drop (suc k) counts ≡ replicate (8 - (k + 1)) 0
        fewer place =
            tail_of (drop k counts) _ (drop (suc k) counts) (8 - (k + 1)) (drop-cons counts k 0 place)
            (t.zeros ∙ ap (λ (n : ℕ). replicate n 0) (let z : 8 - k ≡ suc (8 - (k + 1)) = omega arith in z))

-- at the end
pub turned_all :
    (m order images : ℕ) (counts : List ℕ) (k full under : ℕ) → Turned m order images counts k full under → order ≤ k →
    counts ≡ to_eight order (levels_of m order images)
unfolding levels
turned_all m order images counts k full under t l =
    let e : k ≡ order = let a = t.turn in omega arith in
    let none : ahead m (order - k) full under ≡ [] = ap (λ (n : ℕ). ahead m n full under) (let z : order - k ≡ 0 = omega arith in z) in
    sym (take-append-drop k counts)
    ∙ ap₂ (λ (a b : List ℕ). a ++ b) (sym (append-nil (take k counts)) ∙ ap (λ (xs : List ℕ). take k counts ++ xs) (sym none) ∙ t.counted) t.zeros
    ∙ ap (λ (n : ℕ). levels_of m order images ++ replicate (8 - n) 0) e
