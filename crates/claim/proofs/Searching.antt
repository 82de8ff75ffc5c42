-- The search, visit by visit, holds what the definition says, by induction over the sequences visited: so its end is the query's answer, or refusal 7 just
-- where it applies.
--     searched_is       the search's end: the images, the rays, the first `room` candidates, and whether there are more
--     search_query      what is made of the search's end is the query's answer
--     query_complete    a query that gives an answer gives one that has `Complete`
--     images_count      the images of an answer that has `Complete`, by the document's formula
use Prim.Native.Nat.{ℕ, suc, ◌+◌, ◌-◌, ◌≤◌, ◌<◌, ◌^◌}
use mathlib.Core.Path.{◌≡◌, refl, sym, ap, subst, ◌∙◌}
use mathlib.Core.Bool.{Bool, true, false, cond, ◌||◌, or-true, or-false}
use mathlib.Core.List.{List, [], ◌∷◌, ◌++◌, foldl, append_assoc, append-nil}
use native.Mathlib.Omega.{arith}
use native.Mathlib.Numerals.{add-one}
use lib.ListN.{length, take, length-append}
use lib.Seq.{take_all, take_at}
use lib.Dec.{ltb}
use lib.Ieee.{Float}
use borrow.Author.Tests.{lt-ltb, le-ltb, ltb-false}
use Rattle.float.proofs.Numbers.{by_order}
use Rattle.sequences.specs.Allowed.{most, allowed, visited}
use Rattle.sequences.specs.Count.{firsts, images}
use Rattle.sequences.specs.Run.{run}
use Rattle.sequences.specs.Members.{IsAllowed}
use Rattle.sequences.proofs.Counting.{visited_length}
use Rattle.sequences.proofs.Running.{run_take}
use Rattle.ranking.specs.declared.Candidate.{Candidate}
use Rattle.ranking.specs.Candidate.{ranked}
use Rattle.claim.specs.Answer.{Found, Outcome, fails, passes, rays_of, tap_of, add_tap, found, rays_for, Answer, answer_of, Proper}
use Rattle.claim.specs.Complete.{Complete}
use Rattle.claim.specs.Query.{Search, search, judged, visit_path, searched, Query, refused, given, query_of, ended}
use Rattle.claim.proofs.Whole.{complete, only_one}

search_same : {n n' r r' : ℕ} {cs cs' : List Candidate} {o o' : Bool} → n ≡ n' → r ≡ r' → cs ≡ cs' → o ≡ o' → search n r cs o ≡ search n' r' cs' o'
search_same a b c d = λ i. search (a i) (b i) (c i) (d i)

-- where it ends that starts with n images, r rays, and the candidates cs
abbrev at_end : ℕ → (List ℕ → Outcome) → ℕ → ℕ → List Candidate → Bool → List (List ℕ) → Search
at_end room path n r cs o ss =
    search (n + length ss) (r + rays_for path ss) (take room (cs ++ found path (n + 1) ss)) (o || ltb room (length (cs ++ found path (n + 1) ss)))

end_none : (room : ℕ) (path : List ℕ → Outcome) (n r : ℕ) (cs : List Candidate) (o : Bool) → length cs ≤ room → search n r cs o ≡ at_end room path n r cs o []
unfolding found rays_for
end_none room path n r cs o h =
    search_same (omega arith) (omega arith) (sym (take_all room cs h) ∙ ap (take room) (sym (append-nil cs)))
    (sym (ap (λ (b : Bool). o || b) (ap (λ (l : List Candidate). ltb room (length l)) (append-nil cs) ∙ le-ltb room (length cs) h) ∙ or-false o))

module _ (room : ℕ) (path : List ℕ → Outcome) where
  one_more :
      (n r : ℕ) (cs : List Candidate) (o : Bool) (s : List ℕ) (ss : List (List ℕ)) (t : Outcome) → path s ≡ t → length cs ≤ room →
      ((m q : ℕ) (ds : List Candidate) (p : Bool) → length ds ≤ room → foldl (visit_path room path) (search m q ds p) ss ≡ at_end room path m q ds p ss) →
      foldl (visit_path room path) (judged room t (search n r cs o) s) ss ≡ at_end room path n r cs o (s ∷ ss)
  unfolding found rays_for rays_of
  one_more n r cs o s ss (fails q) e h f =
      let z : suc (n + 1) ≡ n + 1 + 1 = omega arith in
      f (n + 1) (r + q) cs o h
      ∙ search_same (omega arith) (rays q (fails q) e refl)
      (ap (λ (l : List Candidate). take room (cs ++ l)) (sym (list z)))
      (ap (λ (l : List Candidate). o || ltb room (length (cs ++ l))) (sym (list z)))
    where
      rays : (q : ℕ) (t : Outcome) → path s ≡ t → rays_of t ≡ q → r + q + rays_for path ss ≡ r + (rays_of (path s) + rays_for path ss)
      rays q t e g = let k : rays_of (path s) ≡ q = ap rays_of e ∙ g in omega arith

      list : suc (n + 1) ≡ n + 1 + 1 → add_tap (path s) (n + 1) s (found path (suc (n + 1)) ss) ≡ found path (n + 1 + 1) ss
      list z = ap (λ (t : Outcome). add_tap t (n + 1) s (found path (suc (n + 1)) ss)) e ∙ ap (λ (m : ℕ). found path m ss) z
  one_more n r cs o s ss (passes q w) e h f =
      by_order room (length cs) full (λ l. more l (f (n + 1) (r + q) (cs ++ tap_of (n + 1) s w ∷ []) o (simp length-append (omega arith))))
    where
      z : suc (n + 1) ≡ n + 1 + 1
      z = omega arith

      c : Candidate
      c = tap_of (n + 1) s w

      rays : r + q + rays_for path ss ≡ r + (rays_of (path s) + rays_for path ss)
      rays = let k : rays_of (path s) ≡ q = ap rays_of e in omega arith

      list : add_tap (path s) (n + 1) s (found path (suc (n + 1)) ss) ≡ tap_of (n + 1) s w ∷ found path (n + 1 + 1) ss
      list = ap (λ (t : Outcome). add_tap t (n + 1) s (found path (suc (n + 1)) ss)) e ∙ ap (λ (m : ℕ). tap_of (n + 1) s w ∷ found path m ss) z

      full :
          room ≤ length cs →
          foldl (visit_path room path) (judged room (passes q w) (search n r cs o) s) ss ≡ at_end room path n r cs o (s ∷ ss)
      full g =
          let len : length cs ≡ room = omega arith in
          let b : ltb (length cs) room ≡ false = le-ltb (length cs) room g in
          ap (λ (t : Bool). foldl (visit_path room path) (search (n + 1) (r + q) (cond t (cs ++ tap_of (n + 1) s w ∷ []) cs) (cond t o true)) ss) b
          ∙ f (n + 1) (r + q) cs true h
          ∙ search_same (omega arith) rays
          (take_at cs (found path (n + 1 + 1) ss) room len ∙ sym (take_at cs (add_tap (path s) (n + 1) s (found path (suc (n + 1)) ss)) room len))
          (sym (ap (λ (l : List Candidate). o || ltb room (length (cs ++ l))) list ∙ ap (λ (t : Bool). o || t) (lt-ltb room (length (cs ++ tap_of (n + 1) s w ∷ found path (n + 1 + 1) ss)) (simp length-append (omega arith))) ∙ or-true o))

      more :
          length cs < room →
          foldl (visit_path room path) (search (n + 1) (r + q) (cs ++ tap_of (n + 1) s w ∷ []) o) ss ≡ at_end room path (n + 1) (r + q) (cs ++ tap_of (n + 1) s w ∷ []) o ss →
          foldl (visit_path room path) (judged room (passes q w) (search n r cs o) s) ss ≡ at_end room path n r cs o (s ∷ ss)
      more g k =
          let b : ltb (length cs) room ≡ true = lt-ltb (length cs) room g in
          let l : (cs ++ tap_of (n + 1) s w ∷ []) ++ found path (n + 1 + 1) ss ≡ cs ++ add_tap (path s) (n + 1) s (found path (suc (n + 1)) ss) =
          append_assoc cs (tap_of (n + 1) s w ∷ []) (found path (n + 1 + 1) ss) ∙ ap (λ (u : List Candidate). cs ++ u) (sym list) in
          ap (λ (t : Bool). foldl (visit_path room path) (search (n + 1) (r + q) (cond t (cs ++ tap_of (n + 1) s w ∷ []) cs) (cond t o true)) ss) b
          ∙ k
          ∙ search_same (omega arith) rays (ap (take room) l) (ap (λ (u : List Candidate). o || ltb room (length u)) l)

  pub visits_end :
      (ss : List (List ℕ)) (n r : ℕ) (cs : List Candidate) (o : Bool) → length cs ≤ room →
      foldl (visit_path room path) (search n r cs o) ss ≡ at_end room path n r cs o ss
  unfolding visit_path
  visits_end [] n r cs o h = end_none room path n r cs o h
  visits_end (s ∷ ss) n r cs o h = one_more n r cs o s ss (path s) refl h (λ m q ds p k. visits_end ss m q ds p k)

  counts : (w : Search) (s : List ℕ) → (visit_path room path w s).images ≡ suc w.images
  unfolding visit_path
  counts w s = go (path s)
    where
      go : (t : Outcome) → (judged room t w s).images ≡ suc w.images
      go (fails q) = add-one w.images
      go (passes q f) = add-one w.images

  -- up to any limit
  run_end :
      (limit : ℕ) (qs : List (List ℕ)) →
      run (λ (w : Search). w.images) (visit_path room path) limit (search 0 0 [] false) qs
      ≡ search (length (take limit qs)) (rays_for path (take limit qs)) (take room (found path 1 (take limit qs))) (ltb room (length (found path 1 (take limit qs))))
  run_end limit qs =
      let z : limit - 0 ≡ limit = omega arith in
      run_take (λ (w : Search). w.images) (visit_path room path) limit counts (search 0 0 [] false) qs
      ∙ ap (λ (k : ℕ). foldl (visit_path room path) (search 0 0 [] false) (take k qs)) z
      ∙ visits_end (take limit qs) 0 0 [] false (omega arith)
      ∙ search_same (let a : 0 + length (take limit qs) ≡ length (take limit qs) = omega arith in a) (let a : 0 + rays_for path (take limit qs) ≡ rays_for path (take limit qs) = omega arith in a) refl refl

pub searched_is :
    (on : List ℕ) (order room : ℕ) (path : List ℕ → Outcome) →
    searched on order room path
    ≡ search (length (visited on order)) (rays_for path (visited on order)) (take room (found path 1 (visited on order))) (ltb room (length (found path 1 (visited on order))))
searched_is on order room path = run_end room path most (allowed on order)

-- by what the search holds
end_query :
    (speed rate : Float) (limit room n r : ℕ) (cs : List Candidate) →
    ended speed rate limit (search n r (take room cs) (ltb room (length cs)))
    ≡ elim (ltb room (length cs)) as (λ _. Query) [ true ↦ refused 7 | false ↦ given (record { images = n; rays = r; taps = ranked speed rate limit cs }) ]
unfolding ended
end_query speed rate limit room n r cs = go (ltb room (length cs)) refl
  where
    go :
        (b : Bool) → ltb room (length cs) ≡ b →
        ◌≡◌ {A = Query} (elim b [ true ↦ refused 7 | false ↦ given (record { images = n; rays = r; taps = ranked speed rate limit (take room cs) }) ])
        (elim b [ true ↦ refused 7 | false ↦ given (record { images = n; rays = r; taps = ranked speed rate limit cs }) ])
    go true e = refl
    go false e = ap (λ (l : List Candidate). given (record { images = n; rays = r; taps = ranked speed rate limit l })) (take_all room cs (ltb-false room (length cs) e))

pub search_query :
    (on : List ℕ) (order : ℕ) (speed rate : Float) (limit room : ℕ) (path : List ℕ → Outcome) →
    ended speed rate limit (searched on order room path) ≡ query_of on order speed rate limit room path
unfolding query_of
search_query on order speed rate limit room path =
    ap (ended speed rate limit) (searched_is on order room path)
    ∙ end_query speed rate limit room (length (visited on order)) (rays_for path (visited on order)) (found path 1 (visited on order))

module _ (on : List ℕ) (order : ℕ) (speed rate : Float) (limit : ℕ) (path : List ℕ → Outcome) (small : order < 2 ^ 32)
    (proper : (s : List ℕ) (r : ℕ) (f : Found) → IsAllowed on order s → path s ≡ passes r f → Proper f) where
  pub query_complete : (room : ℕ) (a : Answer) → query_of on order speed rate limit room path ≡ given a → Complete on order speed rate limit path a
  unfolding query_of
  query_complete room a e = go (ltb room (length (found path 1 (visited on order)))) e
    where
      go :
          (b : Bool) → elim b as (λ _. Query) [ true ↦ refused 7 | false ↦ given (answer_of on order speed rate limit path) ] ≡ given a →
          Complete on order speed rate limit path a
      go true e = absurd (let z : ◌≡◌ {A = ℕ} 0 1 = cc in omega arith)
      go false e = let z : answer_of on order speed rate limit path ≡ a = cc in subst (Complete on order speed rate limit path) z (complete on order speed rate limit path small proper)

  pub images_count : (a : Answer) → Complete on order speed rate limit path a → a.images ≡ images (length on) (firsts on) order
  images_count a k = (only_one on order speed rate limit path small proper a k).0 ∙ visited_length on order
