-- The candidates that the search finds can be sent, where the settings are within their limits.
--     path_sound         a path that passes gives a sound tap
--     rows_sendable      rows of a search's end can be sent, where the paths that pass give sound taps
--     search_sendable    so can those of the search over real paths
use Prim.Native.Nat.{ℕ, zero, suc, ◌-◌, ◌*◌, ◌≤◌, ◌<◌}
use mathlib.Core.Path.{◌≡◌, refl, sym, ap, subst, ◌∙◌}
use mathlib.Core.Bool.{Bool, true, false, not}
use mathlib.Core.List.{List, [], ◌∷◌}
use native.Mathlib.Nat.{mul-pos, zero-lt-suc, zero-mul, le_trans}
use native.Mathlib.Omega.{arith}
use lib.ListN.{length, get_or, take}
use lib.Dec.{T, lt→ltb}
use lib.Ieee.{Float, nan, inf, fin, binary32, up, down, lt, fits, of_bits}
use lib.Ieee.Fits.{up_pos}
use lib.Ieee.Positive.{positive}
use Rattle.float.specs.Literals.{zero32}
use Rattle.float.specs.Compare.{is_finite}
use Rattle.vector.specs.declared.Vec3.{Vec3}
use Rattle.geometry.specs.declared.Triangle.{Triangle}
use Rattle.tree_build.specs.Tree.{Tree}
use Rattle.scene.specs.declared.Settings.{Settings}
use Rattle.scene.specs.Limits.{rates_of, model_numbers_of}
use Rattle.mirror.specs.Plane.{Plane}
use Rattle.sequences.specs.Allowed.{visited}
use Rattle.sequences.specs.Members.{IsAllowed, IsVisited}
use Rattle.sequences.proofs.Numbers.{is_visited, in_at}
use Rattle.packet.specs.Limits.{most_order}
use Rattle.ranking.specs.declared.Candidate.{Candidate}
use Rattle.ranking.specs.Lists.{Has}
use Rattle.ranking.specs.Listed.{Once}
use Rattle.ranking.specs.Rows.{candidates_in}
use Rattle.ranking.proofs.Members.{has_take}
use Rattle.paths.specs.declared.PathCandidate.{PathCandidate}
use Rattle.paths.specs.declared.Fate.{Fate}
use Rattle.paths.specs.declared.Fate.TheVariants.{TooFar, NotCrossed, OffSurface, TooLong, Faded, Blocked, Faint, Passed}
use Rattle.paths.specs.Path.{path_of}
use Rattle.paths.specs.Numbers.{Numbers, ModelFits}
use Rattle.paths.proofs.Numbers.{path_numbers, gains_finite}
use Rattle.paths.proofs.Finite.{path_finite}
use Rattle.claim.specs.Answer.{Found, Outcome, fails, passes, found}
use Rattle.claim.specs.Answer as claimed
use Rattle.claim.specs.Complete as complete
use Rattle.claim.specs.Query.{Search, search, searched}
use Rattle.claim.proofs.Whole.{passed_found, found_once}
use Rattle.claim.proofs.Searching.{searched_is}
use Rattle.search.specs.Outcome.{found_of, by_fate, outcome_of, outcomes_of}
use Rattle.search.proofs.Answers.{never}
use Rattle.taps.specs.Sendable.{Plain, Level, Sound, Placed, Sendable}

-- ---- a path

positive_finite : (x : Float) → T (positive x) → T (is_finite x)
unfolding is_finite
positive_finite nan h = absurd h
positive_finite (inf s) h = absurd h
positive_finite (fin s m e) h = tt

positive_above : (x : Float) → T (positive x) → T (lt zero32 x)
unfolding lt of_bits
positive_above nan h = absurd h
positive_above (inf s) h = absurd h
positive_above (fin true zero e) h = absurd h
positive_above (fin true (suc m) e) h = absurd h
positive_above (fin false zero e) h = absurd h
positive_above (fin false (suc m) e) h =
    let p : 0 < suc m * up e = mul-pos (zero-lt-suc m) (up_pos e) in
    let z = zero-mul (down e) in
    lt→ltb (0 * 1 * down e) (suc m * up e * 1) (omega arith)

plain : (x : Float) → T (fits binary32 x) → T (is_finite x) → Plain x
plain x h f = record { held = h; finite = f }

level : (x : Float) → T (fits binary32 x) → T (is_finite x) → T (not (lt x zero32)) → Level x
level x h f b = record { plain = plain x h f; not_below = b }

pub sound_of : (c : PathCandidate) → Numbers c → T (is_finite c.energy) → (n : ℕ) (s : List ℕ) → Sound (claimed.tap_of n s (found_of c))
sound_of c k finite n s =
    let h = k.gains_fit in
    let f = gains_finite c.gains (subst (λ (x : Float). T (is_finite x)) k.energy_is finite) in
    let b = k.gains_not_below in
    let d = k.direction_fits in
    let e = k.direction_finite in
    record {
      x = plain c.direction.x d.hx e.fx;
      y = plain c.direction.y d.hy e.fy;
      z = plain c.direction.z d.hz e.fz;
      delay = plain c.delay k.delay_fits (positive_finite c.delay k.delay_positive);
      delay_above = positive_above c.delay k.delay_positive;
      gains = record {
        l0 = level c.gains.b0 h.h0 f.f0 b.p0;
        l1 = level c.gains.b1 h.h1 f.f1 b.p1;
        l2 = level c.gains.b2 h.h2 f.f2 b.p2;
        l3 = level c.gains.b3 h.h3 f.f3 b.p3;
        l4 = level c.gains.b4 h.h4 f.f4 b.p4;
        l5 = level c.gains.b5 h.h5 f.f5 b.p5;
        l6 = level c.gains.b6 h.h6 f.f6 b.p6;
        l7 = level c.gains.b7 h.h7 f.f7 b.p7;
      };
      energy_is = k.energy_is;
      energy_above = k.energy_above;
    }

abbrev what_of : Found → Outcome → Found
what_of d (fails r) = d
what_of d (passes r f) = f

by_fate_lem :
    (o : Fate) (q r : ℕ) (f : Found) (n : ℕ) (s : List ℕ) → ((c : PathCandidate) → o ≡ Passed c → Numbers c) → ((c : PathCandidate) → o ≡ Passed c → T (is_finite c.energy)) →
    by_fate o q ≡ passes r f → Sound (claimed.tap_of n s f)
by_fate_lem TooFar q r f n s k h e = never q r f e
by_fate_lem NotCrossed q r f n s k h e = never q r f e
by_fate_lem OffSurface q r f n s k h e = never q r f e
by_fate_lem TooLong q r f n s k h e = never q r f e
by_fate_lem Faded q r f n s k h e = never q r f e
by_fate_lem Blocked q r f n s k h e = never q r f e
by_fate_lem Faint q r f n s k h e = never q r f e
by_fate_lem (Passed c) q r f n s k h e = subst (λ (g : Found). Sound (claimed.tap_of n s g)) (ap (what_of f) e) (sound_of c (k c refl) (h c refl) n s)

module _ (s : Settings) (planes : List Plane) (tri : ℕ → Triangle) (t : Tree) (materials : List Float) (source listener : Vec3)
    (within : T (rates_of s.max_reflection_distance s.temperature_celsius s.sample_rate)) (model : T (model_numbers_of s.distance_model)) (fit : ModelFits s.distance_model) where
  pub path_sound :
      (seq : List ℕ) (n r : ℕ) (f : Found) → 0 < length seq → length seq ≤ most_order → outcomes_of s planes tri t materials source listener seq ≡ passes r f → Sound (claimed.tap_of n seq f)
  unfolding outcome_of path_of
  path_sound seq n r f some few e =
      by_fate_lem (path_of s planes tri t materials source listener seq).fate (path_of s planes tri t materials source listener seq).rays r f n seq
      (path_numbers s.crossing_limit s.probe_radius s planes tri t materials source listener seq within some)
      (path_finite s.crossing_limit s.probe_radius s planes tri t materials source listener seq within model fit some few) e

-- ---- the rows

once_take : (n : ℕ) (cs : List Candidate) → Once cs → Once (take n cs)
once_take zero cs o = tt
once_take (suc n) [] o = tt
once_take (suc n) (c ∷ cs) o = ((λ d h e. o.0 d (has_take d n cs h) e), once_take n cs o.1)

module _ (on : List ℕ) (order : ℕ) (path : List ℕ → Outcome) (small : order ≤ most_order)
    (sound : (s : List ℕ) (n r : ℕ) (f : Found) → IsAllowed on order s → path s ≡ passes r f → Sound (claimed.tap_of n s f)) where
  module _ (seen : List (List ℕ)) (v : IsVisited on order seen) where
    allowed_at : (c : Candidate) (p : complete.Passed path seen c) → IsAllowed on order p.sequence
    allowed_at c p =
        let l = p.image.low in
        let h = p.image.high in
        subst (IsAllowed on order) p.image.is (v.only (get_or seen (c.number - 1) []) (in_at seen (c.number - 1) (omega arith)))

    found_sound : (c : Candidate) → complete.Passed path seen c → Sound c
    found_sound c p = subst Sound (sym p.tap) (sound p.sequence c.number p.rays p.what (allowed_at c p) p.passing)

    found_placed : (c : Candidate) → complete.Passed path seen c → Placed (length seen) c
    found_placed c p =
        let a = allowed_at c p in
        let e : c.order ≡ length p.sequence = ap (λ (d : Candidate). d.order) p.tap in
        let some = a.some in
        let few = a.few in
        record { order_some = omega arith; order_most = omega arith; number_some = p.image.low; number_most = p.image.high }

    pub found_sendable : (room : ℕ) → Sendable (length seen) (take room (found path 1 seen))
    found_sendable room =
        let cs = found path 1 seen in
        let passed : (c : Candidate) → Has c (take room cs) → complete.Passed path seen c = λ c h. passed_found path seen c (has_take c room cs h) in
        record {
          few = v.cap;
          sound = (λ c h. found_sound c (passed c h));
          placed = (λ c h. found_placed c (passed c h));
          once = once_take room cs (found_once path 1 seen);
        }

  pub rows_sendable :
      (room n : ℕ) (fs : List Float) (ws : List ℕ) (m r : ℕ) (o : Bool) → search m r (candidates_in n fs ws) o ≡ searched on order room path →
      Sendable m (candidates_in n fs ws)
  rows_sendable room n fs ws m r o e =
      let f = e ∙ searched_is on order room path in
      let a : m ≡ length (visited on order) = ap (λ (w : Search). w.images) f in
      let b : candidates_in n fs ws ≡ take room (found path 1 (visited on order)) = ap (λ (w : Search). w.taps) f in
      subst (λ (k : ℕ). Sendable k (candidates_in n fs ws)) (sym a)
      (subst (Sendable (length (visited on order))) (sym b) (found_sendable (visited on order) (is_visited on order) room))

module _ (s : Settings) (planes : List Plane) (tri : ℕ → Triangle) (t : Tree) (materials : List Float) (source listener : Vec3)
    (within : T (rates_of s.max_reflection_distance s.temperature_celsius s.sample_rate)) (model : T (model_numbers_of s.distance_model)) (fit : ModelFits s.distance_model) where
  pub search_sendable :
      (on : List ℕ) (order room n : ℕ) (fs : List Float) (ws : List ℕ) (m r : ℕ) (o : Bool) → order ≤ most_order →
      search m r (candidates_in n fs ws) o ≡ searched on order room (outcomes_of s planes tri t materials source listener) → Sendable m (candidates_in n fs ws)
  search_sendable on order room n fs ws m r o small e =
      rows_sendable on order (outcomes_of s planes tri t materials source listener) small
      (λ seq k q f a p. path_sound s planes tri t materials source listener within model fit seq k q f a.some (le_trans a.few small) p) room n fs ws m r o e
