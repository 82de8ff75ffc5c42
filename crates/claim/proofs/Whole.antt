-- DEMAND 3 holds of `answer_of` and of nothing else. The taps found are those of the images whose paths pass (`found_at`, `at_found`), no two of one number;
-- so the claim on the list is that of `ranked` (`ranked_listed`, `is_ranked` of `ranking`), and that on the images is that of `sequences`.
--     complete     the answer has `Complete`
--     only_one     an answer that has `Complete` has the images and the taps of `answer_of`
--     prefix       with limits a ≤ b the list for a is the first a of the list for b, with equal images and rays (document 02, note 13)
use Prim.Native.Nat.{ℕ, zero, suc, ◌+◌, ◌-◌, ◌≤◌, ◌<◌, ◌^◌}
use mathlib.Core.Path.{◌≡◌, refl, sym, ap, subst, ◌∙◌}
use mathlib.Core.Logic.{inl, inr, ⊎_elim}
use mathlib.Core.List.{List, [], ◌∷◌}
use native.Mathlib.Omega.{arith}
use native.Mathlib.Nat.{lt_of_le_of_lt}
use lib.ListN.{length, get_or, take}
use lib.Ieee.{Float}
use Rattle.sequences.specs.Allowed.{most, visited}
use Rattle.sequences.specs.Members.{IsAllowed, IsVisited}
use Rattle.sequences.proofs.Numbers.{is_visited, is_numbered, visited_alone, in_at}
use Rattle.ranking.specs.declared.Candidate.{Candidate}
use Rattle.ranking.specs.Lists.{Has}
use Rattle.ranking.specs.Candidate.{ranked, Rankable}
use Rattle.ranking.specs.Listed.{Once, Listed}
use Rattle.ranking.proofs.Laws.{ranked_listed, ranked_prefix}
use Rattle.ranking.proofs.Only.{is_ranked}
use Rattle.claim.specs.Answer.{Found, Outcome, fails, passes, tap_of, add_tap, found, Answer, answer_of, Proper}
use Rattle.claim.specs.Complete.{Passed, Complete}

-- ---- the taps found

-- c is the tap of the sequence at a place
record FoundAt (path : List ℕ → Outcome) (n : ℕ) (ss : List (List ℕ)) (c : Candidate) : Type 0 where
  place : ℕ
  there : place < length ss
  number : c.number ≡ n + place
  rays : ℕ
  what : Found
  passing : path (get_or ss place []) ≡ passes rays what
  tap : c ≡ tap_of (n + place) (get_or ss place []) what

found_at : (path : List ℕ → Outcome) (n : ℕ) (ss : List (List ℕ)) (c : Candidate) → Has c (found path n ss) → FoundAt path n ss c
unfolding found
found_at path n [] c h = absurd h
found_at path n (s ∷ ss) c h = go (path s) refl (λ i. found_at path (suc n) ss c i) h
  where
    later : FoundAt path (suc n) ss c → FoundAt path n (s ∷ ss) c
    later a =
        let k = a.there in
        let e : suc n + a.place ≡ n + suc a.place = omega arith in
        record {
          place = suc a.place;
          there = omega arith;
          number = a.number ∙ e;
          rays = a.rays;
          what = a.what;
          passing = a.passing;
          tap = a.tap ∙ ap (λ (m : ℕ). tap_of m (get_or ss a.place []) a.what) e;
        }

    go : (o : Outcome) → path s ≡ o → (Has c (found path (suc n) ss) → FoundAt path (suc n) ss c) → Has c (add_tap o n s (found path (suc n) ss)) → FoundAt path n (s ∷ ss) c
    go (fails r) e f h = later (f h)
    go (passes r w) e f h =
        ⊎_elim
        (λ q.
        let z : n ≡ n + 0 = omega arith in
        record {
          place = 0;
          there = omega arith;
          number = ap (λ (x : Candidate). x.number) q ∙ z;
          rays = r;
          what = w;
          passing = e;
          tap = q ∙ ap (λ (m : ℕ). tap_of m s w) z;
        })
        (λ i. later (f i)) h

at_found :
    (path : List ℕ → Outcome) (n : ℕ) (ss : List (List ℕ)) (i r : ℕ) (w : Found) → i < length ss → path (get_or ss i []) ≡ passes r w →
    Has (tap_of (n + i) (get_or ss i []) w) (found path n ss)
unfolding found
at_found path n [] i r w h e = absurd (omega arith)
at_found path n (s ∷ ss) zero r w h e =
    let z : n + 0 ≡ n = omega arith in
    subst (λ (o : Outcome). Has (tap_of (n + 0) s w) (add_tap o n s (found path (suc n) ss))) (sym e) (inl (ap (λ (m : ℕ). tap_of m s w) z))
at_found path n (s ∷ ss) (suc i) r w h e =
    let z : suc n + i ≡ n + suc i = omega arith in
    more (path s) (subst (λ (m : ℕ). Has (tap_of m (get_or ss i []) w) (found path (suc n) ss)) z (at_found path (suc n) ss i r w (omega arith) e))
  where
    more : (o : Outcome) → Has (tap_of (n + suc i) (get_or ss i []) w) (found path (suc n) ss) → Has (tap_of (n + suc i) (get_or ss i []) w) (add_tap o n s (found path (suc n) ss))
    more (fails q) h = h
    more (passes q v) h = inr h

pub passed_found : (path : List ℕ → Outcome) (ss : List (List ℕ)) (c : Candidate) → Has c (found path 1 ss) → Passed path ss c
passed_found path ss c h =
    let a = found_at path 1 ss c h in
    let k = a.there in
    let e = a.number in
    let p : c.number - 1 ≡ a.place = omega arith in
    record {
      sequence = get_or ss a.place [];
      image = record { low = omega arith; high = omega arith; is = ap (λ (m : ℕ). get_or ss m []) p };
      rays = a.rays;
      what = a.what;
      passing = a.passing;
      tap = a.tap ∙ ap (λ (m : ℕ). tap_of m (get_or ss a.place []) a.what) (sym e);
    }

found_passed : (path : List ℕ → Outcome) (ss : List (List ℕ)) (c : Candidate) → Passed path ss c → Has c (found path 1 ss)
found_passed path ss c p =
    let l = p.image.low in
    let h = p.image.high in
    let e : 1 + (c.number - 1) ≡ c.number = omega arith in
    let there = at_found path 1 ss (c.number - 1) p.rays p.what (omega arith) (ap path p.image.is ∙ p.passing) in
    let same : tap_of (1 + (c.number - 1)) (get_or ss (c.number - 1) []) p.what ≡ c =
    (λ i. tap_of (e i) (p.image.is i) p.what) ∙ sym p.tap in
    subst (λ (x : Candidate). Has x (found path 1 ss)) same there

-- no two taps found have one number: the numbers rise
pub found_once : (path : List ℕ → Outcome) (n : ℕ) (ss : List (List ℕ)) → Once (found path n ss)
unfolding found
found_once path n [] = tt
found_once path n (s ∷ ss) = go (path s) (found_once path (suc n) ss)
  where
    go : (o : Outcome) → Once (found path (suc n) ss) → Once (add_tap o n s (found path (suc n) ss))
    go (fails r) k = k
    go (passes r w) k = ((λ d i e. let b = (found_at path (suc n) ss d i).number in let f : n ≡ d.number = e in omega arith), k)

-- ---- the claim

number_fits : (p v : ℕ) → p < v → v ≤ most → 1 + p < 2 ^ 32
number_fits p v h k = omega arith

module _ (on : List ℕ) (order : ℕ) (speed rate : Float) (limit : ℕ) (path : List ℕ → Outcome) (small : order < 2 ^ 32)
    (proper : (s : List ℕ) (r : ℕ) (f : Found) → IsAllowed on order s → path s ≡ passes r f → Proper f) where
  pub rankable : (seen : List (List ℕ)) → IsVisited on order seen → (c : Candidate) → Has c (found path 1 seen) → Rankable c
  rankable seen v c h =
      let a = found_at path 1 seen c h in
      let s = get_or seen a.place [] in
      let ok = v.only s (in_at seen a.place a.there) in
      let f = proper s a.rays a.what ok a.passing in
      subst Rankable (sym a.tap)
      (record {
        energy_fits = f.energy_fits;
        energy_number = f.energy_number;
        delay_fits = f.delay_fits;
        delay_number = f.delay_number;
        order_small = lt_of_le_of_lt ok.few small;
        number_small = number_fits a.place (length seen) a.there v.cap;
      })

  pub complete : Complete on order speed rate limit path (answer_of on order speed rate limit path)
  complete =
      let seen = visited on order in
      let l = ranked_listed speed rate limit (found path 1 seen) (rankable seen (is_visited on order)) (found_once path 1 seen) in
      record {
        seen = seen;
        visits = is_visited on order;
        count = refl;
        numbers = is_numbered on order;
        exactly =
            (λ c. (
              (λ h. let s = (l.exactly c).0 h in record { passed = passed_found path seen c s.among; fresh = s.fresh; room = s.room }),
              (λ s. (l.exactly c).1 (record { among = found_passed path seen c s.passed; fresh = s.fresh; room = s.room })),
            ));
        once = l.once;
        best_first = l.best_first;
      }

  listed : (a : Answer) (k : Complete on order speed rate limit path a) → Listed speed rate limit (found path 1 k.seen) a.taps
  listed a k =
      record {
        exactly =
            (λ c. (
              (λ h. let s = (k.exactly c).0 h in record { among = found_passed path k.seen c s.passed; fresh = s.fresh; room = s.room }),
              (λ s. (k.exactly c).1 (record { passed = passed_found path k.seen c s.among; fresh = s.fresh; room = s.room })),
            ));
        best_first = k.best_first;
        once = k.once;
      }

  pub only_one :
      (a : Answer) → Complete on order speed rate limit path a →
      (a.images ≡ (answer_of on order speed rate limit path).images) × (a.taps ≡ (answer_of on order speed rate limit path).taps)
  only_one a k =
      let e : k.seen ≡ visited on order = visited_alone on order k.seen k.visits in (
        k.count ∙ ap length e,
        is_ranked speed rate limit (found path 1 k.seen) (rankable k.seen k.visits) (found_once path 1 k.seen) a.taps (listed a k)
            ∙ ap (λ (l : List (List ℕ)). ranked speed rate limit (found path 1 l)) e,
      )

-- ---- two limits

pub record Prefix (a : ℕ) (short long : Answer) : Type 0 where
  pub images : short.images ≡ long.images
  pub rays : short.rays ≡ long.rays
  pub taps : short.taps ≡ take a long.taps

pub prefix :
    (on : List ℕ) (order : ℕ) (speed rate : Float) (path : List ℕ → Outcome) (a b : ℕ) → a ≤ b →
    Prefix a (answer_of on order speed rate a path) (answer_of on order speed rate b path)
prefix on order speed rate path a b h = record { images = refl; rays = refl; taps = ranked_prefix speed rate (found path 1 (visited on order)) a b h }
