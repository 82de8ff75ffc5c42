-- `bounces::put` meets its contract: a store in each array.
use mathlib.Core.Path.{refl}
use native.Mathlib.Omega.{arith}
use lib.ListN.{length-set}
use Rattle.mirror.specs.Plane.{no_point}
use Rattle.bounces.proofs.Laws.{slice_put}
use Rattle.bounces.proofs.put.Goals as goal

pub returns : goal.returns
returns c =
    let going = c.requires.1 in
    let a = c.args in record {
      going = (
        record {
          points_room = simp length-set going.points_room;
          tris_room = simp length-set going.tris_room;
        },
        refl,
      );
      by_index = λ m h f. slice_put a.t.points a.q no_point a.k m h (omega (arith, going.points_room));
      by_index_2 = λ m h f. slice_put a.t.tris a.i 0 a.k m h (omega (arith, going.tris_room));
    }
