-- `paths::validate_image_path` meets its contract: the images that it is given are those of the sequence's beginnings.
use native.Mathlib.Omega.{arith}
use lib.ListN.{get_or}
use lib.Seq.{slice_empty}
use Rattle.mirror.specs.Plane.{no_point}
use Rattle.mirror.specs.Rows.{planes_in}
use Rattle.paths.proofs.Laws.{path_near, path_far}
use Rattle.paths.proofs.validate_image_path.Goals as goal

pub bounds-images-order : goal.bounds-images-order
bounds-images-order c = omega (arith, c.requires.order_nonzero)

pub back-trail-requires : goal.back-trail-requires
back-trail-requires c = record {
  planes_lent = c.requires.scene_lent.planes;
  k_le_order = (omega arith, c.requires.order_nonzero.1);
  by_index = c.requires.by_index;
  going = c.no_bounces.ensures.0;
}

pub judge-requires : goal.judge-requires
judge-requires c =
    let h = c.requires in record {
      traceable = h.scene_lent.traceable;
      order_nonzero = (h.order_nonzero.0, h.order_nonzero.1, h.order_nonzero.3);
      going = c.back-trail.ensures.going_2;
    }

pub returns-then-distance3-s : goal.returns-then-distance3-s
returns-then-distance3-s c =
    let a = c.args in
    let planes = planes_in a.planes.now.floats.now a.planes.now.words.now a.planes.now.members.now a.planes.now.edges.now a.planes.now.count in record {
      by_index_3 = λ tri t h.
          rw (c.judge.ensures.by_index tri t h.tree, rw (c.no_bounces.ensures.1, slice_empty a.order c.no_bounces.result.points, slice_empty a.order c.no_bounces.result.tris) at (c.back-trail.ensures.by_index_2 tri h.planes))
          (path_near a.s planes tri t a.materials.now a.source a.listener a.seq (λ j. get_or a.images j no_point) a.order (omega (arith, c.requires.order_nonzero)) c.requires.by_index_2 (rw c.distance3.ensures at c.if-distance3-s.true));
      rays_bound = c.judge.ensures.rays_bound;
    }

pub returns : goal.returns
returns c =
    let a = c.args in
    let planes = planes_in a.planes.now.floats.now a.planes.now.words.now a.planes.now.members.now a.planes.now.edges.now a.planes.now.count in record {
      by_index_3 = λ tri t h. rw c.counted.ensures (path_far a.s planes tri t a.materials.now a.source a.listener a.seq (λ j. get_or a.images j no_point) a.order (omega (arith, c.requires.order_nonzero)) c.requires.by_index_2 (rw c.distance3.ensures at c.if-distance3-s.false));
      rays_bound = rw c.counted.ensures (omega arith);
    }

pub distance3-requires : goal.distance3-requires
distance3-requires c = tt

pub no_bounces-requires : goal.no_bounces-requires
no_bounces-requires c = tt

pub counted-requires : goal.counted-requires
counted-requires c = tt
