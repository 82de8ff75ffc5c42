-- `search::next_near` meets its contract: each turn runs over one plane more, by the laws of `proofs/Walks.antt`.
use mathlib.Core.Path.{◌≡◌, sym, ap, subst, ◌∙◌}
use native.Mathlib.Omega.{arith}
use lib.Ieee.{lt}
use Rattle.vector.specs.declared.Vec3.{Vec3}
use Rattle.mirror.specs.Plane.{nth_plane}
use Rattle.mirror.specs.Mirror.{mirror_of}
use Rattle.mirror.specs.Rows.{planes_in}
use Rattle.bounces.specs.Areas.{point_in}
use Rattle.search.specs.Contract.{search_areas, square_of, Skips}
use Rattle.search.proofs.Walks as law
use Rattle.search.proofs.next_near.Goals as goal

pub overflow_mul-depth : goal.overflow_mul-depth
overflow_mul-depth c = omega (arith, c.requires.depth_in_bounds.1, c.well_formed)

pub vec_in-image-requires : goal.vec_in-image-requires
vec_in-image-requires c = omega (arith, c.requires.depth_in_bounds.1)

pub loop-p-init : goal.loop-p-init
loop-p-init c = let a = c.args in
    (c.requires.depth_in_bounds.2, omega arith, λ b materials. law.skips_none (search_areas b materials a.planes.now) a.q a.depth a.seq.now a.images.now a.from a.t)

pub loop-p-preserved-then-q-s : goal.loop-p-preserved-then-q-s
loop-p-preserved-then-q-s c = let a = c.args in (
  omega (arith, c.loop-p-test.true),
  omega (arith, c.loop-p.invariant.1),
  λ b materials. law.skips_full (search_areas b materials a.planes.now) a.q a.depth a.seq.now a.images.now a.from a.t c.loop-p.p c.loop-p.s
      (c.loop-p.invariant.2 b materials) c.if-q-s.true,
)

pub may-requires : goal.may-requires
may-requires c = record {
  depth_in_bounds = (omega (arith, c.requires.depth_in_bounds.0), c.loop-p-test.true);
  count_in_bounds = (c.requires.count_in_bounds.0, c.requires.count_in_bounds.1);
}

pub next_image-next-requires : goal.next_image-next-requires
next_image-next-requires c =
    (omega (arith, c.loop-p-test.true, c.requires.count_in_bounds.0), omega (arith, c.loop-p-test.true, c.requires.count_in_bounds.1))

pub passed_over-s-requires : goal.passed_over-s-requires
passed_over-s-requires c = omega (arith, c.if-q-s.false, c.requires.depth_in_bounds.3)

pub loop-p-preserved-then-far : goal.loop-p-preserved-then-far
loop-p-preserved-then-far c =
    let a = c.args in (
      omega (arith, c.loop-p-test.true),
      omega (arith, c.loop-p.invariant.1),
      λ b materials.
          let is : c.next_image-next.result ≡ mirror_of (nth_plane (planes_in a.planes.now.floats.now a.planes.now.words.now c.args.planes.now.members.now c.args.planes.now.edges.now a.planes.now.count) c.loop-p.p) (point_in a.images.now a.depth) =
          c.next_image-next.ensures c.args.planes.now.members.now c.args.planes.now.edges.now a.planes.now.count c.loop-p-test.true ∙ ap (mirror_of (nth_plane (planes_in a.planes.now.floats.now a.planes.now.words.now c.args.planes.now.members.now c.args.planes.now.edges.now a.planes.now.count) c.loop-p.p)) c.vec_in-image.ensures in
          rw c.passed_over-s.ensures
          (law.skips_far (search_areas b materials a.planes.now) a.q a.depth a.seq.now a.images.now a.from a.t c.loop-p.p c.loop-p.s (c.loop-p.invariant.2 b materials) c.loop-p-test.true
          c.if-q-s.false (sym (c.may.ensures c.args.planes.now.members.now c.args.planes.now.edges.now) ∙ c.if-may.true)
          (ap (λ (v : Vec3). lt a.q.beyond (square_of a.q.listener v)) (sym is) ∙ sym c.far.ensures ∙ c.if-far.true)),
    )

pub returns-then-may : goal.returns-then-may
returns-then-may c = λ b materials. record { from = c.loop-p.invariant.1; within = c.loop-p.invariant.0; next = λ h. (c.if-q-s.false, sym (c.may.ensures c.args.planes.now.members.now c.args.planes.now.edges.now) ∙ c.if-may.true); skips = c.loop-p.invariant.2 b materials }

pub loop-p-preserved : goal.loop-p-preserved
loop-p-preserved c = let a = c.args in (
  omega (arith, c.loop-p-test.true),
  omega (arith, c.loop-p.invariant.1),
  λ b materials. law.skips_not (search_areas b materials a.planes.now) a.q a.depth a.seq.now a.images.now a.from a.t c.loop-p.p
      c.loop-p.s (c.loop-p.invariant.2 b materials) (sym (c.may.ensures c.args.planes.now.members.now c.args.planes.now.edges.now) ∙ c.if-may.false),
)

pub returns : goal.returns
returns c = λ b materials.
    let a = c.args in
    let e : c.loop-p.p ≡ a.planes.now.count = omega (arith, c.loop-p-test.false, c.loop-p.invariant.0) in record {
      from = c.requires.depth_in_bounds.2;
      within = omega arith;
      next = λ h. absurd (let none : ⊥ = omega (arith, h) in none);
      skips = subst (λ x. Skips (search_areas b materials a.planes.now) a.q a.depth a.seq.now a.images.now a.from a.t x c.loop-p.s) e (c.loop-p.invariant.2 b materials);
    }

pub far-requires : goal.far-requires
far-requires c = tt
