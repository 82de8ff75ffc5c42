-- A queue that patches are appended to, and its parts.
--     part_drop      the part from a to b is what is left of the first b without the first a
--     queue_push     a free patch marked and appended
use mathlib.Core.Path.{◌≡◌, sym, ap, ◌∙◌}
use mathlib.Core.Bool.{true}
use mathlib.Core.List.{List, [], ◌∷◌, ◌++◌}
use Prim.Native.Nat.{ℕ, zero, suc, ◌+◌, ◌-◌, ◌<◌, ◌≤◌}
use native.Mathlib.Numerals.{add-one}
use native.Mathlib.Omega.{arith}
use lib.ListN.{length, take, drop, set, length-set}
use lib.Seq.{take-nil, take-take, take-append-le, drop-append-le, drop_at, take-suc-set, length-take-le}
use Rattle.order.specs.Sort.{Below}
use Rattle.order.proofs.Laws.{below_append, below_cons, below_none}
use Rattle.planes_links.specs.Words.{part_of}
use Rattle.planes_groups.specs.Rows.{is_free_at, free_of, Queue}
use Rattle.planes_groups.proofs.Growing.{free_less}

pub part_drop : (a b : ℕ) (xs : List ℕ) → part_of xs a b ≡ drop a (take b xs)
part_drop zero b xs = ap (λ (k : ℕ). take k xs) (let e : b - 0 ≡ b = omega arith in e)
part_drop (suc a) b [] = take-nil (b - suc a) ∙ sym (ap (drop (suc a)) (take-nil b))
part_drop (suc a) zero (x ∷ xs) = ap (λ (k : ℕ). take k (drop a xs)) (let e : 0 - suc a ≡ 0 = omega arith in e)
part_drop (suc a) (suc b) (x ∷ xs) = ap (λ (k : ℕ). take k (drop a xs)) (let e : suc b - suc a ≡ b - a = omega arith in e) ∙ part_drop a b xs

-- ---- a queue whose first r are its first t and then others

module _ (q q2 new : List ℕ) (t r : ℕ) (e : take r q2 ≡ take t q ++ new) (le : t ≤ r) (len : t ≤ length q) where
  pub take_kept : (h : ℕ) → h ≤ t → take h q2 ≡ take h q
  take_kept h l =
      let n = length-take-le t q len in
      sym (take-take h r q2 (omega arith)) ∙ ap (take h) e ∙ take-append-le h (take t q) new (omega arith) ∙ take-take h t q l

  pub part_kept : (a b : ℕ) → b ≤ t → part_of q2 a b ≡ part_of q a b
  part_kept a b l = part_drop a b q2 ∙ ap (drop a) (take_kept b l) ∙ sym (part_drop a b q)

  pub part_more : (h : ℕ) → h ≤ t → part_of q2 h r ≡ part_of q h t ++ new
  part_more h l =
      let n = length-take-le t q len in
      part_drop h r q2 ∙ ap (drop h) e ∙ drop-append-le h (take t q) new (omega arith) ∙ ap (λ (x : List ℕ). x ++ new) (sym (part_drop h t q))

  pub part_new : part_of q2 t r ≡ new
  part_new = part_drop t r q2 ∙ ap (drop t) e ∙ drop_at (take t q) new t (length-take-le t q len)

-- ---- one patch more

snoc_below : (n : ℕ) (xs : List ℕ) (x : ℕ) → Below n xs → x < n → Below n (xs ++ (x ∷ []))
snoc_below n xs x b h = below_append n xs (x ∷ []) b (below_cons n x [] h (below_none n))

module _ (np mark : ℕ) (pos : 0 < mark) (col queue : List ℕ) (tail q : ℕ) (m : Queue np col queue tail) (h : q < np) (free : is_free_at col q ≡ true) where
  fewer : suc (length (free_of np (set col q mark))) ≡ length (free_of np col)
  fewer = let c = m.column in free_less mark pos np col q h (omega arith) free

  pub queue_room : tail < np
  queue_room = let f = fewer in let t = m.total in omega arith

  pub push_take : take (tail + 1) (set queue tail q) ≡ take tail queue ++ (q ∷ [])
  push_take = let r = m.room in let l = queue_room in ap (λ (k : ℕ). take k (set queue tail q)) (add-one tail) ∙ take-suc-set queue tail q (omega arith)

  pub queue_push : Queue np (set col q mark) (set queue tail q) (tail + 1)
  queue_push =
      let f = fewer in
      let t = m.total in
      record {
        column = rw (length-set col q mark) m.column;
        room = rw (length-set queue tail q) m.room;
        total = omega arith;
        below = rw push_take (snoc_below np (take tail queue) q m.below h);
      }
