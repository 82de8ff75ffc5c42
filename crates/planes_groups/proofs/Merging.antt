-- The groups that the code makes are the definition's: `merged_is`, `alone_is`.
use mathlib.Core.Path.{◌≡◌, refl, sym, ap, ◌∙◌}
use mathlib.Core.Bool.{Bool, true, false, cond, not, ◌&&◌}
use mathlib.Core.List.{List, [], ◌∷◌, map}
use Prim.Native.Nat.{ℕ, zero, suc, ◌<◌}
use lib.Dec.{eqb, ltb}
use lib.Ieee.{Float, lt}
use Rattle.float.specs.Literals.{zero32}
use Rattle.order.specs.Sort.{sort_by, Below}
use Rattle.order.specs.Runs.{any_by, up_to}
use Rattle.order.proofs.Laws.{below_head, below_tail}
use Rattle.order.proofs.Positions.{Under, under_up_to}
use Rattle.planes_patches.specs.Lists.{filter_by}
use Rattle.planes_patches.specs.Triangles.{triangles_in}
use Rattle.planes_patches.specs.Patch.{patch_at}
use Rattle.planes_patches.specs.Rows.{tris_in, patches_in}
use Rattle.planes_links.specs.Words.{row_in}
use Rattle.planes_links.proofs.Filters.{filter_under}
use Rattle.planes_groups.specs.Settings.{Settings}
use Rattle.planes_groups.specs.Groups.{seeds_of, runs_of, is_adjacent, takes, grown_of, groups_from, groups_of}
use Rattle.planes_groups.specs.Rows.{seed_key_in, takes_in}
use Rattle.planes_groups.proofs.Grouping.{from_skip, from_start}
use Rattle.planes_groups.proofs.Reading.{under_filter, sorted_positions, patches_length, takes_is, seeds_are}

-- ---- two tests that agree on the patches there are

module _ (np : ℕ) (adj : ℕ → ℕ → Bool) (fit fit2 : ℕ → Bool) (same : (q : ℕ) → q < np → fit q ≡ fit2 q) where
  grown_cong : (n : ℕ) (queue free : List ℕ) → Under np free → grown_of n adj fit queue free ≡ grown_of n adj fit2 queue free
  unfolding grown_of
  grown_cong zero queue free u = refl
  grown_cong (suc n) [] free u = refl
  grown_cong (suc n) (p ∷ queue) free u =
      let new : filter_by (λ q. adj p q && fit q) free ≡ filter_by (λ q. adj p q && fit2 q) free = filter_under (λ q. adj p q && fit q) (λ q. adj p q && fit2 q) np free u (λ q h. ap (λ (b : Bool). adj p q && b) (same q h)) in
      let left : filter_by (λ q. not (adj p q && fit q)) free ≡ filter_by (λ q. not (adj p q && fit2 q)) free = filter_under (λ q. not (adj p q && fit q)) (λ q. not (adj p q && fit2 q)) np free u (λ q h. ap (λ (b : Bool). not (adj p q && b)) (same q h)) in
      rw (new, left, grown_cong n _ _ (under_filter (λ q. not (adj p q && fit2 q)) np free u))

grown_under : (np : ℕ) (adj : ℕ → ℕ → Bool) (fit : ℕ → Bool) (n : ℕ) (queue free : List ℕ) → Under np free → Under np (grown_of n adj fit queue free).1
unfolding grown_of
grown_under np adj fit zero queue free u = u
grown_under np adj fit (suc n) [] free u = u
grown_under np adj fit (suc n) (p ∷ queue) free u =
    grown_under np adj fit n _ (filter_by (λ q. not (adj p q && fit q)) free) (under_filter (λ q. not (adj p q && fit q)) np free u)

module _ (np : ℕ) (adj fit fit2 : ℕ → ℕ → Bool) (same : (a b : ℕ) → a < np → b < np → fit a b ≡ fit2 a b) where
  groups_cong : (seeds free : List ℕ) → Below np seeds → Under np free → groups_from np adj fit seeds free ≡ groups_from np adj fit2 seeds free
  unfolding groups_from
  groups_cong [] free b u = refl
  groups_cong (s ∷ seeds) free b u =
      let hs = below_head np s seeds b in
      let rest : (l : List ℕ) → Under np l → groups_from np adj fit seeds l ≡ groups_from np adj fit2 seeds l = λ l v. groups_cong seeds l (below_tail np s seeds b) v in
      go (any_by (eqb s) free) refl hs rest
    where
      go : (t : Bool) → any_by (eqb s) free ≡ t → s < np → ((l : List ℕ) → Under np l → groups_from np adj fit seeds l ≡ groups_from np adj fit2 seeds l) → groups_from np adj fit (s ∷ seeds) free ≡ groups_from np adj fit2 (s ∷ seeds) free
      go false e hs rest = from_skip np adj fit s seeds free e ∙ rest free u ∙ sym (from_skip np adj fit2 s seeds free e)
      go true e hs rest =
          let left = filter_by (λ q. not (eqb s q)) free in
          let v = under_filter (λ q. not (eqb s q)) np free u in
          let g = grown_cong np adj (fit s) (fit2 s) (λ q h. same s q hs h) np (s ∷ []) left v in
          from_start np adj fit s seeds free e
          ∙ ap (λ (l : List (List ℕ)). (grown_of np adj (fit s) (s ∷ []) left).0 ∷ l) (rest (grown_of np adj (fit s) (s ∷ []) left).1 (grown_under np adj (fit s) np (s ∷ []) left v))
          ∙ ap (λ (x : List ℕ × List ℕ). x.0 ∷ groups_from np adj fit2 seeds x.1) g
          ∙ sym (from_start np adj fit2 s seeds free e)

-- ---- the definition

module _ (s : Settings) (area : List Float) (handles : List ℕ) (n m : ℕ) (rows : List Float) (of : List ℕ) (np : ℕ) (sorted starts : List ℕ) (on : Bool) (least most : Float)
    (eo : s.merge_on ≡ on) (ec : s.merge_cos ≡ least) (em : s.merge_offset ≡ most) (is : (p : ℕ) → p < np → row_in sorted starts p ≡ tris_in of m p)
    (order : List ℕ) (seeds : order ≡ sort_by (seed_key_in rows sorted starts) (up_to np)) (groups : List (List ℕ)) where
  seeds_is : order ≡ seeds_of (patches_in rows of m np)
  seeds_is = seeds ∙ seeds_are rows of m np sorted starts is

  -- the definition, by whether patches are merged
  abbrev adjacency : ℕ → ℕ → Bool
  adjacency = is_adjacent (runs_of (triangles_in area handles n m) (patches_in rows of m np))

  abbrev fits : ℕ → ℕ → Bool
  fits a b = takes s (triangles_in area handles n m) (patch_at (patches_in rows of m np) a) (patch_at (patches_in rows of m np) b)

  by_merging : groups_of s (triangles_in area handles n m) (patches_in rows of m np)
      ≡ cond (on && lt zero32 most && ltb 1 np) (groups_from np adjacency fits (seeds_of (patches_in rows of m np)) (up_to np)) (map (λ p. p ∷ []) (seeds_of (patches_in rows of m np)))
  unfolding groups_of
  by_merging =
      let l = patches_length rows of m np in
      ap (λ (k : ℕ). cond (s.merge_on && lt zero32 s.merge_offset && ltb 1 k) (groups_from k adjacency fits (seeds_of (patches_in rows of m np)) (up_to k)) (map (λ p. p ∷ []) (seeds_of (patches_in rows of m np)))) l
      ∙ ap (λ (b : Bool). cond (b && lt zero32 s.merge_offset && ltb 1 np) (groups_from np adjacency fits (seeds_of (patches_in rows of m np)) (up_to np)) (map (λ p. p ∷ []) (seeds_of (patches_in rows of m np)))) eo
      ∙ ap (λ (x : Float). cond (on && lt zero32 x && ltb 1 np) (groups_from np adjacency fits (seeds_of (patches_in rows of m np)) (up_to np)) (map (λ p. p ∷ []) (seeds_of (patches_in rows of m np)))) em

  pub merged_is : on && lt zero32 most && ltb 1 np ≡ true → groups ≡ groups_from np adjacency (takes_in area handles n rows sorted starts least most) order (up_to np)
      → groups ≡ groups_of s (triangles_in area handles n m) (patches_in rows of m np)
  merged_is t g =
      g ∙ groups_cong np adjacency (takes_in area handles n rows sorted starts least most) fits (takes_is s area handles n m rows of np sorted starts least most ec em is) order (up_to np)
      (sorted_positions (seed_key_in rows sorted starts) np order seeds) (under_up_to np)
      ∙ ap (λ (l : List ℕ). groups_from np adjacency fits l (up_to np)) seeds_is
      ∙ sym (by_merging ∙ ap (λ (b : Bool). cond b (groups_from np adjacency fits (seeds_of (patches_in rows of m np)) (up_to np)) (map (λ p. p ∷ []) (seeds_of (patches_in rows of m np)))) t)

  pub alone_is : on && lt zero32 most && ltb 1 np ≡ false → groups ≡ map (λ p. p ∷ []) order → groups ≡ groups_of s (triangles_in area handles n m) (patches_in rows of m np)
  alone_is t g =
      g ∙ ap (map (λ (p : ℕ). p ∷ [])) seeds_is
      ∙ sym (by_merging ∙ ap (λ (b : Bool). cond b (groups_from np adjacency fits (seeds_of (patches_in rows of m np)) (up_to np)) (map (λ p. p ∷ []) (seeds_of (patches_in rows of m np)))) t)
