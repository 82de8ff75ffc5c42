-- `sequences::expand_images` and `sequences::node`: the measure is the order less the depth; the loop's invariant is that the planes passed were run over.
use Rattle.std.proofs.Common.{length, ◌-◌, ◌≡◌, ◌+◌, ◌*◌, ◌≤◌, take}
use Rattle.sequences.specs.Allowed.{upto, at}
use Rattle.sequences.specs.Contract.{Walked}
use Rattle.sequences.proofs.+expand_images_node.Given as goal

abbrev pub decreases-expand_images : goal.decreases-expand_images
decreases-expand_images l = 2 * (l.order - l.depth)

abbrev pub decreases-node : goal.decreases-node
decreases-node l = 2 * (l.order - l.depth) - 1

abbrev pub invariant-expand_images-loop-p : goal.invariant-expand_images-loop-p
invariant-expand_images-loop-p l =
    (l.p ≤ length l.on)
    × (length l.area ≡ length l.initial.area)
    × Walked l.limit l.depth (upto (at l.on (l.order - (l.depth + 1)) (take l.depth l.initial.s.seq)) l.p) l.initial.s.nodes l.initial.s.seq l.initial.area l.s.nodes l.s.seq l.area

abbrev pub decreases-expand_images-loop-p : goal.decreases-expand_images-loop-p
decreases-expand_images-loop-p l = length l.on - l.p
