-- The answer says what a reader believes: the figures of `cost_of` are those of the images that are visited, in every scene with those numbers.
use Prim.Native.Nat.{ℕ, zero, suc, ◌+◌, ◌-◌, ◌*◌, ◌/◌, ◌%◌, ◌≤◌, ◌<◌, min}
use mathlib.Core.Path.{◌≡◌, refl, sym, ap, ap₂, ◌∙◌, subst}
use mathlib.Core.Bool.{Bool, true, false, ◌&&◌, true≢false}
use mathlib.Core.List.{List}
use native.Mathlib.Omega.{arith}
use borrow.Author.Tests.{leb-true}
use lib.Dec.{leb}
use lib.ListN.{length, get_or, replicate, length-append, length-replicate}
use Rattle.std.proofs.Common.{Result, Ok, Err}
use Rattle.refusals.specs.declared.Refusal.{Refusal}
use Rattle.laws.proofs.Bools.{both}
use Rattle.sequences.specs.Allowed.{visited, most, most_order, most_planes}
use Rattle.sequences.specs.Count.{series, firsts, images}
use Rattle.sequences.proofs.Counting.{count_law}
use Rattle.scene.specs.Limits.{most_crossings, most_triples}
use Rattle.scene.specs.Areas.{work_words}
use Rattle.cost.specs.Cost.{levels, levels_of, counts_by_order, to_eight, rays_over, within, takes, turned_away, figures_of, cost_of}
use Rattle.cost.specs.Forecast.{of_length, Counts, Forecast}
use Rattle.cost.specs.declared.Cost.{Cost}
use Rattle.cost.proofs.Counted.{counts_are}
use Rattle.cost.proofs.Sums.{Summed, summed, padded_at, visited_few}

-- ---- what is not turned away

within_both : (x most : ℕ) → within x most ≡ true → (1 ≤ x) × (x ≤ most)
unfolding within
within_both x most e = let b = both (leb 1 x) (leb x most) e in (leb-true 1 x b.one, leb-true x most b.two)

pub record Taken (limit planes first order triples : ℕ) : Type 0 where
  pub crossed : limit ≤ 32
  pub some : 1 ≤ planes
  pub few : planes ≤ 256
  pub deep : 1 ≤ order
  pub shallow : order ≤ 8
  pub firsts : first ≤ planes
  pub scene : triples ≤ 4096

pub taken : (limit planes first order triples : ℕ) → takes limit planes first order triples ≡ true → Taken limit planes first order triples
unfolding takes
taken limit planes first order triples e =
    let l = both (within limit most_crossings) (within planes most_planes && (within order most_order && (leb first planes && leb triples most_triples))) e in
    let a = both (within planes most_planes) (within order most_order && (leb first planes && leb triples most_triples)) l.two in
    let b = both (within order most_order) (leb first planes && leb triples most_triples) a.two in
    let d = both (leb first planes) (leb triples most_triples) b.two in
    let p = within_both planes most_planes a.one in
    let o = within_both order most_order b.one in
    record {
      crossed = (within_both limit most_crossings l.one).1;
      some = p.0;
      few = p.1;
      deep = o.0;
      shallow = o.1;
      firsts = leb-true first planes d.one;
      scene = leb-true triples most_triples d.two;
    }

-- ---- the answers

pub accepted :
    (limit planes first order triples : ℕ) → takes limit planes first order triples ≡ true →
    cost_of limit planes first order triples ≡ Ok (figures_of limit planes first order triples)
unfolding cost_of
accepted limit planes first order triples e = rw e

pub refused :
    (limit planes first order triples : ℕ) → takes limit planes first order triples ≡ false →
    cost_of limit planes first order triples ≡ Err turned_away
unfolding cost_of
refused limit planes first order triples e = rw e

-- figures are answered where nothing is turned away, and are those of the definition
figures_in : Cost → Result Cost Refusal → Cost
figures_in z (Ok a) = a
figures_in z (Err e) = z

answers : Result Cost Refusal → Bool
answers (Ok a) = true
answers (Err e) = false

pub figured :
    (limit planes first order triples : ℕ) (cost : Cost) → cost_of limit planes first order triples ≡ Ok cost →
    (takes limit planes first order triples ≡ true) × (figures_of limit planes first order triples ≡ cost)
unfolding figures_in answers
figured limit planes first order triples cost e = go (takes limit planes first order triples) refl
  where
    go : (b : Bool) → takes limit planes first order triples ≡ b → (takes limit planes first order triples ≡ true) × (figures_of limit planes first order triples ≡ cost)
    go true f = (f, ap (figures_in cost) (sym (accepted limit planes first order triples f) ∙ e))
    go false f = absurd (true≢false (ap answers (sym e ∙ refused limit planes first order triples f)))

-- ---- eight of them

levels_length : (m r full rest : ℕ) → length (levels m r full rest) ≡ r
unfolding levels
levels_length m zero full rest = refl
levels_length m (suc r) full rest = ap suc (levels_length m r _ _)

eight_length : (m order i : ℕ) → order ≤ 8 → length (to_eight order (levels_of m order i)) ≡ 8
unfolding levels_of
eight_length m order i h =
    let a = levels_length m order (i / series m order) (i % series m order) in
    let none : List ℕ = replicate (8 - order) 0 in
    let b : length none ≡ 8 - order = length-replicate (8 - order) 0 in
    length-append (levels_of m order i) none ∙ (let e : length (levels_of m order i) + length none ≡ 8 = omega arith in e)

each_is : (on : List ℕ) (order k : ℕ) → get_or (to_eight order (counts_by_order (length on) (firsts on) order)) k 0 ≡ of_length (suc k) (visited on order)
each_is on order k = padded_at (counts_by_order (length on) (firsts on) order) (most_order - order) k ∙ sym (counts_are on order k)

eight_sums : (limit : ℕ) (on : List ℕ) (order : ℕ) → order ≤ 8 → Summed limit (to_eight order (counts_by_order (length on) (firsts on) order)) (visited on order)
eight_sums limit on order h =
    let n : length (to_eight order (counts_by_order (length on) (firsts on) order)) ≡ 8 = eight_length (length on - 1) order (images (length on) (firsts on) order) h in
    summed limit (to_eight order (counts_by_order (length on) (firsts on) order)) (visited on order) (λ k l. each_is on order k)
    (λ q i. let f = visited_few on order h q i in (f.0, subst (λ (k : ℕ). length q < 1 + k) (sym n) f.1))

counts_true :
    (limit planes first order triples : ℕ) → takes limit planes first order triples ≡ true → (on : List ℕ) → length on ≡ planes → firsts on ≡ first →
    Counts limit triples (visited on order) (figures_of limit planes first order triples)
counts_true limit planes first order triples ok on hn he =
    let s : Summed limit (to_eight order (counts_by_order planes first order)) (visited on order) =
    subst (λ (n : ℕ). Summed limit (to_eight order (counts_by_order n first order)) (visited on order)) hn
    (subst (λ (e : ℕ). Summed limit (to_eight order (counts_by_order (length on) e order)) (visited on order)) he
    (eight_sums limit on order (taken limit planes first order triples ok).shallow))
    in
    let many : images planes first order ≡ length (visited on order) = sym (count_law on planes first order hn he) in
    record {
      each = λ k l. ap₂ (λ (n e : ℕ). get_or (to_eight order (counts_by_order n e order)) k 0) (sym hn) (sym he) ∙ each_is on order k;
      sum = s.sum;
      candidates = many;
      rays = s.rays;
      words = ap (work_words triples) many;
    }

pub forecast : (limit planes first order triples : ℕ) (r : Result Cost Refusal) → r ≡ cost_of limit planes first order triples → Forecast limit planes first order triples r
forecast limit planes first order triples r e =
    record {
      answer = e;
      counts = λ cost is on hn he.
          let f = figured limit planes first order triples cost (sym e ∙ is) in
          subst (Counts limit triples (visited on order)) f.1 (counts_true limit planes first order triples f.0 on hn he);
    }

-- figures that the functions of the crate give, from numbers that are as wide as the call's
pub told :
    (limit planes first order triples : ℕ) → takes limit planes first order triples ≡ true →
    (wide_limit wide_planes wide_first seen : ℕ) (counts : List ℕ) (rays words : ℕ) → wide_limit ≡ limit → wide_planes ≡ planes → wide_first ≡ first →
    seen ≡ min most (wide_first * series (wide_planes - 1) order) → counts ≡ to_eight order (levels_of (wide_planes - 1) order seen) →
    rays ≡ rays_over wide_limit 1 counts → words ≡ work_words triples seen →
    Forecast limit planes first order triples (Ok (record { counts = counts; candidates = seen; rays = rays; words = words }))
told limit planes first order triples ok wide_limit wide_planes wide_first seen counts rays words hl hp hf hs hc hr hw =
    let seen_is : seen ≡ images planes first order = hs ∙ ap₂ (λ (n e : ℕ). min most (e * series (n - 1) order)) hp hf in
    let counts_is : counts ≡ to_eight order (counts_by_order planes first order) = hc ∙ ap₂ (λ (n i : ℕ). to_eight order (levels_of (n - 1) order i)) hp seen_is in
    let rays_is : rays ≡ rays_over limit 1 (to_eight order (counts_by_order planes first order)) = hr ∙ ap₂ (λ (k : ℕ) (ks : List ℕ). rays_over k 1 ks) hl counts_is in
    let words_is : words ≡ work_words triples (images planes first order) = hw ∙ ap (work_words triples) seen_is in
    forecast limit planes first order triples _ (rw (accepted limit planes first order triples ok, counts_is, seen_is, rays_is, words_is))

-- and the refusal
pub turned :
    (limit planes first order triples : ℕ) → takes limit planes first order triples ≡ false →
    Forecast limit planes first order triples (Err turned_away)
turned limit planes first order triples ok = forecast limit planes first order triples _ (sym (refused limit planes first order triples ok))
