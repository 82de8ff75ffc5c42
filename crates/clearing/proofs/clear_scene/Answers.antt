-- `clearing::clear_scene` meets its contract: area by area, by those of `wipe` and `wipe` (`zero_of`).
use lib.ListN.{length}
use Rattle.laws.proofs.Lists.{zero_of}
use Rattle.float.specs.Literals.{zero32}
use Rattle.clearing.proofs.clear_scene.Goals as goal

pub returns : goal.returns
returns c =
    record {
      triangles_zero = zero_of zero32 (length c.args.triangles.now) _ c.wipe.ensures;
      handles_zero = zero_of 0 (length c.args.handles.now) _ c.wipe-2.ensures;
      tree_zero = zero_of zero32 (length c.args.tree.now) _ c.wipe-3.ensures;
      nodes_zero = zero_of 0 (length c.args.nodes.now) _ c.wipe-4.ensures;
      leaf_order_zero = zero_of 0 (length c.args.leaf_order.now) _ c.wipe-5.ensures;
    }
