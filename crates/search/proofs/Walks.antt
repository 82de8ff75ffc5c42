-- The parts of the search run over their sequences: nothing, one plane more, all planes, a visit and what goes on from it.
-- Each law puts two runs together by the laws of the fold; the proof of the recursion cites them.
use Prim.Native.Nat.{ℕ, ◌+◌, ◌-◌, ◌*◌, ◌≤◌, ◌<◌}
use mathlib.Core.Path.{◌≡◌, refl, sym, ap, subst, ◌∙◌}
use mathlib.Core.Bool.{true, false, not}
use mathlib.Core.List.{List, [], ◌∷◌, ◌++◌, foldl-append}
use native.Mathlib.Omega.{arith}
use native.Mathlib.Numerals.{add-one}
use lib.Dec.{eqb}
use lib.Ieee.{Float, lt}
use lib.ListN.{length, get_or, take, set, length-set}
use lib.Seq.{take-suc-set, take-take, take-set-le, get_or-set_same, get_or-set_other}
use Rattle.float.proofs.Numbers.{by_order}
use Rattle.vector.specs.declared.Vec3.{Vec3}
use Rattle.mirror.specs.Plane.{nth_plane}
use Rattle.mirror.specs.Mirror.{mirror_of}
use Rattle.bounces.specs.Areas.{max_order, point_floats, point_in}
use Rattle.search.proofs.Points.{points_put, length_put, put_same}
use Rattle.sequences.specs.Allowed.{upto, may, below, at}
use Rattle.sequences.specs.Run.{step}
use Rattle.sequences.proofs.Running.{step_under, run_full}
use Rattle.sequences.proofs.Walks.{upto_more, below_all}
use Rattle.claim.specs.Query.{Search, visit_path}
use Rattle.search.specs.declared.Task.{Task}
use Rattle.search.specs.declared.Tally.{Tally}
use Rattle.paths.proofs.Laws.{path_far, path_lost}
use Rattle.claim.specs.Answer.{fails}
use Rattle.search.specs.Outcome.{outcome_of}
use Rattle.search.proofs.Laws.{on_length, planes_length, judged_lost, square_far}
use Rattle.search.specs.Contract.{SearchAreas, State, state, point_put, square_of, Beyond, Lost, planes_of, firsts_of, path_in, run_in, Sound, SearchReady, Visitable, held_in, Walked, Visited, with_nodes, Skips}

abbrev count : Search → ℕ
count w = w.images

module _ (S : SearchAreas) (q : Task) where
  -- ---- the state

  module _ (d p : ℕ) (seq seq₁ : List ℕ) (images images₁ : List Float) (t : Tally) (seq_is : seq₁ ≡ set seq d p)
      (images_are : images₁ ≡ point_put images (point_floats * (d + 1)) (mirror_of (nth_plane (planes_of S q) p) (point_in images d))) where
    pub sound_push : d < 8 → p < S.count → Sound S q d (state seq images t) → Sound S q (d + 1) (state seq₁ images₁ t)
    sound_push h l k = record {
      seq_room = ap length seq_is ∙ length-set seq d p ∙ k.seq_room;
      images_room = ap length images_are ∙ length_put images (point_floats * (d + 1)) (mirror_of (nth_plane (planes_of S q) p) (point_in images d)) ∙ k.images_room;
      planes = rw seq_is (λ j i. put j i);
      are =
          rw (seq_is, images_are)
          (points_put (planes_of S q) q.source seq images d p (omega (arith, k.seq_room)) (omega (arith, k.images_room)) k.are);
      few = k.few;
      cost = k.cost;
    }
      where
        put : (j : ℕ) → j < d + 1 → get_or (set seq d p) j 0 < S.count
        put j i =
            by_order d j
            (λ e.
            let z : j ≡ d = omega arith in
            let g : get_or (set seq d p) d 0 ≡ p = get_or-set_same seq d p 0 (omega (arith, k.seq_room)) in
            rw (z, g) l)
            (λ e.
            let g : get_or (set seq d p) j 0 ≡ get_or seq j 0 = get_or-set_other seq d j p 0 (λ z. omega arith) in
            rw g (k.planes j e))

    pub visitable_push :
        (fs : List Float) (ws : List ℕ) → SearchReady S q d (state seq images t) fs ws → p < S.count → t.nodes < q.limit →
        Visitable S q (d + 1) (state seq₁ images₁ t) fs ws
    visitable_push fs ws r l room = record {
      some = omega arith;
      within = omega (arith, r.deep, r.within);
      under = omega (arith, room, r.bound);
      crossings = r.crossings;
      far = r.far;
      lent = r.lent;
      room = r.room;
      sound = sound_push (omega (arith, r.deep, r.within)) l r.sound;
    }

  pub sound_visit :
      (d : ℕ) (seq : List ℕ) (images : List Float) (s r : Tally) (fs fs' : List Float) (ws ws' : List ℕ) → Visited S q d seq s fs ws r fs' ws' →
      Sound S q d (state seq images s) → Sound S q d (state seq images r)
  sound_visit d seq images s r fs fs' ws ws' v k = record {
    seq_room = k.seq_room;
    images_room = k.images_room;
    planes = k.planes;
    are = k.are;
    few = v.few;
    cost = let a = v.cost in let b = v.counted in let e = k.cost in omega arith;
  }

  pub sound_count : (d n : ℕ) (seq : List ℕ) (images : List Float) (t : Tally) → t.nodes ≤ n → Sound S q d (state seq images t) → Sound S q d (state seq images (with_nodes t n))
  sound_count d n seq images t h k = record {
    seq_room = k.seq_room;
    images_room = k.images_room;
    planes = k.planes;
    are = k.are;
    few = k.few;
    cost = let e = k.cost in omega arith;
  }

  pub sound_less : (d : ℕ) (r : State) → Sound S q (d + 1) r → Sound S q d r
  sound_less d r k = record {
    seq_room = k.seq_room;
    images_room = k.images_room;
    planes = λ j i. k.planes j (omega arith);
    are = λ j i. k.are j (omega arith);
    few = k.few;
    cost = k.cost;
  }

  pub ready_same :
      (d d' : ℕ) (s s' : State) (fs fs' : List Float) (ws ws' : List ℕ) → SearchReady S q d s fs ws → d' < q.order → length fs' ≡ length fs →
      length ws' ≡ length ws → Sound S q d' s' → SearchReady S q d' s' fs' ws'
  ready_same d d' s s' fs fs' ws ws' k h e f g = record {
    deep = h;
    within = k.within;
    small = k.small;
    bound = k.bound;
    crossings = k.crossings;
    far = k.far;
    lent = k.lent;
    room = record { few = k.room.few; floats = rw e k.room.floats; words = rw f k.room.words };
    sound = g;
  }

  pub firsts_length : length (firsts_of S q) ≡ S.count
  firsts_length = on_length (planes_of S q) q.source ∙ planes_length S.floats S.words S.members S.edges S.count

  -- ---- the runs

  abbrev on : List ℕ
  on = firsts_of S q

  module _ (d : ℕ) where
    pub walked_full :
        (qs : List (List ℕ)) (s : State) (fs : List Float) (ws : List ℕ) → q.limit ≤ s.nodes → Sound S q d s → Walked S q d qs s fs ws s fs ws
    walked_full qs s fs ws h k = record {
      ran = λ tri t e. sym (run_full count (visit_path q.room (path_in S q tri t)) q.limit (held_in s fs ws) qs h);
      stays = refl;
      sound = k;
    }

    pub walked_none : (s : State) (fs : List Float) (ws : List ℕ) → Sound S q d s → Walked S q d [] s fs ws s fs ws
    walked_none s fs ws k = record { ran = λ tri t e. refl; stays = refl; sound = k }

    -- one plane more
    pub walked_more :
        (k p : ℕ) {s s₁ s₂ : State} {fs fs₁ fs₂ : List Float} {ws ws₁ ws₂ : List ℕ} →
        Walked S q d (upto (at on k (take d s.seq)) p) s fs ws s₁ fs₁ ws₁ → Walked S q d (at on k (take d s₁.seq) p) s₁ fs₁ ws₁ s₂ fs₂ ws₂ →
        Walked S q d (upto (at on k (take d s.seq)) (p + 1)) s fs ws s₂ fs₂ ws₂
    walked_more k p {s} {s₁} {s₂} {fs} {fs₁} {fs₂} {ws} {ws₁} {ws₂} v w =
        rw (upto_more (at on k (take d s.seq)) p)
        (record {
          ran =
              λ tri t e.
              subst (λ (r : List ℕ). held_in s₂ fs₂ ws₂ ≡ run_in S q tri t (held_in s₁ fs₁ ws₁) (at on k r p)) v.stays (w.ran tri t e)
              ∙ ap (λ (u : Search). run_in S q tri t u (at on k (take d s.seq) p)) (v.ran tri t e)
              ∙ sym (foldl-append (step count (visit_path q.room (path_in S q tri t)) q.limit) (held_in s fs ws) (upto (at on k (take d s.seq)) p) (at on k (take d s.seq) p));
          stays = w.stays ∙ v.stays;
          sound = w.sound;
        })

    -- all planes
    pub walked_all :
        (p : ℕ) {s s₁ : State} {fs fs₁ : List Float} {ws ws₁ : List ℕ} → d < q.order → p ≡ length on →
        Walked S q d (upto (at on (q.order - (d + 1)) (take d s.seq)) p) s fs ws s₁ fs₁ ws₁ →
        Walked S q d (below on (q.order - d) (take d s.seq)) s fs ws s₁ fs₁ ws₁
    walked_all p {s} h e v = rw (below_all on (take d s.seq) q.order d h, ← e) v

    -- a plane that may not stand there
    pub walked_not :
        (k p : ℕ) (s : State) (fs : List Float) (ws : List ℕ) → may on (take d s.seq) p ≡ false → Sound S q d s →
        Walked S q d (at on k (take d s.seq) p) s fs ws s fs ws
    walked_not k p s fs ws e h = rw (e, at) (walked_none s fs ws h)

    -- a visit, and what goes on from it
    pub walked_visit :
        (k p : ℕ) (seq seq₁ : List ℕ) (images images₁ : List Float) (s v : Tally) (r : State) (fs fs₁ fs₂ : List Float) (ws ws₁ ws₂ : List ℕ) →
        s.nodes < q.limit → d < 8 → length seq ≡ max_order → may on (take d seq) p ≡ true → seq₁ ≡ set seq d p →
        Visited S q (d + 1) seq₁ s fs ws v fs₁ ws₁ →
        Walked S q (d + 1) (below on k (take (d + 1) seq₁)) (state seq₁ images₁ v) fs₁ ws₁ r fs₂ ws₂ →
        Walked S q d (at on k (take d seq) p) (state seq images s) fs ws r fs₂ ws₂
    walked_visit k p seq seq₁ images images₁ s v r fs fs₁ fs₂ ws ws₁ ws₂ room deep wide ok put seen w =
        let n : List ℕ = take d seq ++ p ∷ [] in
        let long : d < length seq = omega (arith, wide) in
        let e : take (d + 1) (set seq d p) ≡ n = rw add-one (take-suc-set seq d p long) in
        let e₁ : take (d + 1) seq₁ ≡ n = ap (take (d + 1)) put ∙ e in
        rw (ok, at)
        (record {
          ran =
              λ tri t h.
              w.ran tri t h
              ∙ ap (λ (x : List ℕ). run_in S q tri t (held_in (state seq₁ images₁ v) fs₁ ws₁) (below on k x)) e₁
              ∙ ap (λ (x : Search). run_in S q tri t x (below on k n))
              (seen.seen tri t h
              ∙ ap (visit_path q.room (path_in S q tri t) (held_in (state seq images s) fs ws)) e₁
              ∙ sym (step_under count (visit_path q.room (path_in S q tri t)) q.limit (held_in (state seq images s) fs ws) n room));
          stays =
              sym (take-take d (d + 1) r.seq (omega arith))
              ∙ ap (take d) (w.stays ∙ e₁)
              ∙ ap (take d) (sym e)
              ∙ take-take d (d + 1) (set seq d p) (omega arith)
              ∙ take-set-le d seq d p (omega arith);
          sound = sound_less d r w.sound;
        })

    -- the same where nothing goes on
    pub walked_last :
        (k p : ℕ) (seq seq₁ : List ℕ) (images images₁ : List Float) (s v : Tally) (fs fs₁ : List Float) (ws ws₁ : List ℕ) →
        s.nodes < q.limit → d < 8 → length seq ≡ max_order → may on (take d seq) p ≡ true → seq₁ ≡ set seq d p →
        Visited S q (d + 1) seq₁ s fs ws v fs₁ ws₁ → Sound S q (d + 1) (state seq₁ images₁ v) → k ≡ 0 →
        Walked S q d (at on k (take d seq) p) (state seq images s) fs ws (state seq₁ images₁ v) fs₁ ws₁
    unfolding below
    walked_last k p seq seq₁ images images₁ s v fs fs₁ ws ws₁ room deep wide ok put seen h z =
        walked_visit k p seq seq₁ images images₁ s v (state seq₁ images₁ v) fs fs₁ fs₁ ws ws₁ ws₁ room deep wide ok put seen
        (rw z (record { ran = λ tri t e. refl; stays = refl; sound = h }))

    -- ---- images that are only counted

    -- one too far
    pub visited_far :
        (seq : List ℕ) (images : List Float) (t : Tally) (fs : List Float) (ws : List ℕ) → d ≤ max_order → Sound S q d (state seq images t) →
        Beyond q.settings.max_reflection_distance q.beyond → lt q.beyond (square_of q.listener (point_in images d)) ≡ true →
        Visited S q d seq t fs ws (with_nodes t (t.nodes + 1)) fs ws
    unfolding visit_path outcome_of
    visited_far seq images t fs ws h k b far = record {
      counted = refl;
      cost = omega arith;
      few = k.few;
      seen =
          λ tri tr e.
          judged_lost q.room t.found t.nodes t.rays fs ws (not (eqb t.over 0)) (take d seq) _
          (sym (ap outcome_of
          (path_far q.settings (planes_of S q) tri tr S.materials q.source q.listener seq (point_in images) d (omega (arith, h, k.seq_room)) k.are
          (square_far q.settings.max_reflection_distance q.beyond q.listener (point_in images d) b far))));
    }

    -- one whose bounces are not all made
    pub visited_lost :
        (seq : List ℕ) (images : List Float) (t : Tally) (fs : List Float) (ws : List ℕ) → d ≤ max_order → Sound S q d (state seq images t) →
        Lost S.columns S.n S.floats S.words S.members S.edges S.count seq images d q.listener →
        Visited S q d seq t fs ws (with_nodes t (t.nodes + 1)) fs ws
    unfolding visit_path outcome_of
    visited_lost seq images t fs ws h k lost = record {
      counted = refl;
      cost = omega arith;
      few = k.few;
      seen =
          λ tri tr e.
          judged_lost q.room t.found t.nodes t.rays fs ws (not (eqb t.over 0)) (take d seq) _
          (path_lost q.settings (planes_of S q) tri tr S.materials q.source q.listener seq (point_in images) d (omega (arith, h, k.seq_room)) k.are
          outcome_of (fails 0) refl refl refl (lost tri q.settings.reflection_edge_fade e.planes));
    }

  -- at the last place: nothing is stored, since a run does not read the sequence and the images that the search holds
  module _ (d : ℕ) (seq : List ℕ) (images : List Float) where
    abbrev more : ℕ
    more = q.order - (d + 1)

    walked_far :
        (p : ℕ) (t : Tally) (fs : List Float) (ws : List ℕ) → SearchReady S q d (state seq images t) fs ws → d + 1 ≡ q.order → p < S.count →
        t.nodes < q.limit → may on (take d seq) p ≡ true →
        lt q.beyond (square_of q.listener (mirror_of (nth_plane (planes_of S q) p) (point_in images d))) ≡ true →
        Walked S q d (at on more (take d seq) p) (state seq images t) fs ws (state seq images (with_nodes t (t.nodes + 1))) fs ws
    walked_far p t fs ws r last l room ok far =
        let seq₁ : List ℕ = set seq d p in
        let images₁ : List Float = point_put images (point_floats * (d + 1)) (mirror_of (nth_plane (planes_of S q) p) (point_in images d)) in
        let deep : d < 8 = omega (arith, r.deep, r.within) in
        let k : Sound S q (d + 1) (state seq₁ images₁ t) = sound_push d p seq seq₁ images images₁ t refl refl deep l r.sound in
        let is : point_in images₁ (d + 1) ≡ mirror_of (nth_plane (planes_of S q) p) (point_in images d) =
        put_same images (point_floats * (d + 1)) (mirror_of (nth_plane (planes_of S q) p) (point_in images d)) (omega (arith, deep, r.sound.images_room)) in
        let v : Visited S q (d + 1) seq₁ t fs ws (with_nodes t (t.nodes + 1)) fs ws =
        visited_far (d + 1) seq₁ images₁ t fs ws (omega (arith, deep)) k r.far (ap (λ (x : Vec3). lt q.beyond (square_of q.listener x)) is ∙ far) in
        let w : Walked S q d (at on more (take d seq) p) (state seq images t) fs ws (state seq₁ images₁ (with_nodes t (t.nodes + 1))) fs ws =
        walked_last d more p seq seq₁ images images₁ t (with_nodes t (t.nodes + 1)) fs fs ws ws room deep r.sound.seq_room ok refl v
        (sound_visit (d + 1) seq₁ images₁ t (with_nodes t (t.nodes + 1)) fs fs ws ws v k) (omega (arith, last)) in
        record { ran = w.ran; stays = refl; sound = sound_count d (t.nodes + 1) seq images t (omega arith) r.sound }

    pub skips_none : (p : ℕ) (t : Tally) → Skips S q d seq images p t p t
    skips_none p t = record { walked = λ s₀ fs₀ ws₀ fs ws r last w. w }

    skips_step :
        (p : ℕ) (t : Tally) (p₁ : ℕ) (t₁ t₂ : Tally) → Skips S q d seq images p t p₁ t₁ →
        ((fs : List Float) (ws : List ℕ) → SearchReady S q d (state seq images t₁) fs ws → d + 1 ≡ q.order →
        Walked S q d (at on more (take d seq) p₁) (state seq images t₁) fs ws (state seq images t₂) fs ws) →
        Skips S q d seq images p t (p₁ + 1) t₂
    skips_step p t p₁ t₁ t₂ k one = record {
      walked =
          λ s₀ fs₀ ws₀ fs ws r last w.
          let v : Walked S q d (upto (at on more (take d s₀.seq)) p₁) s₀ fs₀ ws₀ (state seq images t₁) fs ws = k.walked s₀ fs₀ ws₀ fs ws r last w in
          walked_more d more p₁ v
          (one fs ws (ready_same d d (state seq images t) (state seq images t₁) fs fs ws ws r r.deep refl refl v.sound) last);
    }

    module _ (p : ℕ) (t : Tally) (p₁ : ℕ) (t₁ : Tally) (k : Skips S q d seq images p t p₁ t₁) where
      pub skips_full : q.limit ≤ t₁.nodes → Skips S q d seq images p t (p₁ + 1) t₁
      skips_full h = skips_step p t p₁ t₁ t₁ k (λ fs ws r last. walked_full d (at on more (take d seq) p₁) (state seq images t₁) fs ws h r.sound)

      pub skips_not : may on (take d seq) p₁ ≡ false → Skips S q d seq images p t (p₁ + 1) t₁
      skips_not e = skips_step p t p₁ t₁ t₁ k (λ fs ws r last. walked_not d more p₁ (state seq images t₁) fs ws e r.sound)

      pub skips_far :
          p₁ < S.count → t₁.nodes < q.limit → may on (take d seq) p₁ ≡ true →
          lt q.beyond (square_of q.listener (mirror_of (nth_plane (planes_of S q) p₁) (point_in images d))) ≡ true →
          Skips S q d seq images p t (p₁ + 1) (with_nodes t₁ (t₁.nodes + 1))
      skips_far l room ok far = skips_step p t p₁ t₁ (with_nodes t₁ (t₁.nodes + 1)) k (λ fs ws r last. walked_far p₁ t₁ fs ws r last l room ok far)
