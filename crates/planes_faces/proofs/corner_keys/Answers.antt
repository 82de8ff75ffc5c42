-- `planes_faces::corner_keys` meets its contract: three calls, each of which leaves what stands before its own keys.
use mathlib.Core.Path.{◌∙◌}
use Rattle.planes_faces.proofs.Corners.{corners_all_lem}
use Rattle.planes_faces.proofs.corner_keys.Goals as goal

pub returns : goal.returns
returns c =
    let g = c.args in let all = corners_all_lem g.triangles.now g.n g.scale g.keys.now g.low_keys.now c.point_keys.new.keys c.point_keys.new.low_keys c.point_keys-2.new.keys c.point_keys-2.new.low_keys c.point_keys-3.new.keys
    c.point_keys-3.new.low_keys
    (c.point_keys-3.auto.low_keys ∙ c.point_keys-2.auto.low_keys ∙ c.point_keys.auto.low_keys ∙ c.requires.low_keys_len) (c.point_keys.ensures.by_index, (c.point_keys.ensures.by_index_2, (c.point_keys.ensures.by_index_3, c.point_keys.ensures.by_index_4))) (c.point_keys-2.ensures.by_index, (c.point_keys-2.ensures.by_index_2, (c.point_keys-2.ensures.by_index_3, c.point_keys-2.ensures.by_index_4))) (c.point_keys-3.ensures.by_index, (c.point_keys-3.ensures.by_index_2, (c.point_keys-3.ensures.by_index_3, c.point_keys-3.ensures.by_index_4))) in record {
      below = all.0;
      by_index = all.1.0;
      by_index_2 = all.1.1.0;
      by_index_3 = all.1.1.1;
    }
