-- `scene_bvh::clear_from` meets its contract: the part cleared and put back (`cleared_is`).
use Prim.Native.Nat.{◌-◌}
use lib.ListN.{length}
use borrow.Rule.Slice.PartMut.{same_len_mid}
use Rattle.scene_bvh.proofs.Handles.{cleared_is}
use Rattle.scene_bvh.proofs.clear_from.Goals as goal

pub shape_of-handles : goal.shape_of-handles
shape_of-handles c = let a = c.args in same_len_mid a.m (length a.handles.now - a.m) a.handles.now c.fill.new.self c.fill.auto.self

pub returns : goal.returns
returns c = let a = c.args in cleared_is a.m a.handles.now c.fill.new.self (c.fill.ensures.after (λ y e. e))
