-- `tree_trace::order_at` meets its contract: `in_turn` of the entries into the two boxes that it reads, which are those of `slab_of`.
use mathlib.Core.Path.{◌≡◌, ap, ◌∙◌}
use mathlib.Core.Bool.{false}
use lib.Ieee.{Float, lt}
use Rattle.std.specs.Prelude.{Option}
use Prim.Native.Nat.{ℕ}
use Rattle.geometry.specs.declared.Aabb.{Aabb}
use Rattle.geometry.specs.Slab.{slab_of}
use Rattle.tree_build.specs.Areas.{box_at_of}
use Rattle.tree_trace.proofs.Slopes.{past_is, cut_is}
use Rattle.tree_trace.proofs.order_at.Goals as goal

pub returns-then-way : goal.returns-then-way
returns-then-way c =
    let a = c.args in
    let p = c.requires.way_value in
    let in-box : Aabb → Option Float = λ b. slab_of b a.way.ray a.t in
    let entry : ℕ → Option Float = λ i. in-box (box_at_of a.padded.now i) in
    let left : lt a.t a.way.ray.min_distance ≡ false → c.past.result ≡ entry a.l =
    λ h. c.past.ensures ∙ past_is c.box_at-p.result a.way a.t p h c.slab-a.result c.slab-a.ensures ∙ ap in-box c.box_at-p.ensures in
    let right : lt a.t a.way.ray.min_distance ≡ false → c.past-then-way.result ≡ entry a.r =
    λ h. c.past-then-way.ensures ∙ past_is c.box_at-q.result a.way a.t p h c.slab-b.result c.slab-b.ensures ∙ ap in-box c.box_at-q.ensures in
    let told = c.in_turn.ensures in record {
      list = λ h. rw (left h, right h) at told.list;
      entered = λ h. told.entered entry (left h) (right h);
      within = told.within;
    }

pub returns : goal.returns
returns c =
    let a = c.args in
    let p = c.requires.way_value in
    let in-box : Aabb → Option Float = λ b. slab_of b a.way.ray a.t in
    let entry : ℕ → Option Float = λ i. in-box (box_at_of a.padded.now i) in
    let left : lt a.t a.way.ray.min_distance ≡ false → c.slab-a.result ≡ entry a.l =
    λ h. cut_is c.box_at-p.result a.way a.t p h c.slab-a.result c.slab-a.ensures c.if-way.false ∙ ap in-box c.box_at-p.ensures in
    let right : lt a.t a.way.ray.min_distance ≡ false → c.slab-b.result ≡ entry a.r =
    λ h. cut_is c.box_at-q.result a.way a.t p h c.slab-b.result c.slab-b.ensures c.if-way.false ∙ ap in-box c.box_at-q.ensures in
    let told = c.in_turn-2.ensures in record {
      list = λ h. rw (left h, right h) at told.list;
      entered = λ h. told.entered entry (left h) (right h);
      within = told.within;
    }
