-- `exports::biv_trace_early_reflections` meets its contract: a curve that is not known is refused at once; else by that of `query`, with settings and
-- positions read from arrays.
use mathlib.Core.Path.{refl}
use native.Mathlib.Omega.{arith}
use Rattle.exports.proofs.Answers.{apart, called}
use Rattle.exports.proofs.biv_trace_early_reflections.Goals as goal

pub returns-then-counts-gt-LAST_CURVE : goal.returns-then-counts-gt-LAST_CURVE
returns-then-counts-gt-LAST_CURVE c =
    record {
      called = λ h. absurd (apart _ 1 _ h c.if-counts-gt-LAST_CURVE.true (omega arith));
      refused = λ h. record { answer = refl; counts = refl; output = refl; areas = refl };
    }

-- the areas keep their lengths, as they do in `query`
pub shape_of-triangles : goal.shape_of-triangles
shape_of-triangles c =
    c.trace_early_reflections-a.auto.triangles

pub shape_of-handles : goal.shape_of-handles
shape_of-handles c =
    c.trace_early_reflections-a.auto.handles

pub shape_of-tree : goal.shape_of-tree
shape_of-tree c =
    c.trace_early_reflections-a.auto.tree

pub shape_of-nodes : goal.shape_of-nodes
shape_of-nodes c =
    c.trace_early_reflections-a.auto.nodes

pub shape_of-leaf_order : goal.shape_of-leaf_order
shape_of-leaf_order c =
    c.trace_early_reflections-a.auto.leaf_order

pub shape_of-keys : goal.shape_of-keys
shape_of-keys c =
    c.trace_early_reflections-a.auto.keys

pub shape_of-low_keys : goal.shape_of-low_keys
shape_of-low_keys c =
    c.trace_early_reflections-a.auto.low_keys

pub shape_of-words : goal.shape_of-words
shape_of-words c =
    c.trace_early_reflections-a.auto.words

pub shape_of-scratch : goal.shape_of-scratch
shape_of-scratch c =
    c.trace_early_reflections-a.auto.scratch

pub shape_of-index : goal.shape_of-index
shape_of-index c =
    c.trace_early_reflections-a.auto.index

pub shape_of-numbers : goal.shape_of-numbers
shape_of-numbers c =
    c.trace_early_reflections-a.auto.numbers

pub shape_of-adjacency : goal.shape_of-adjacency
shape_of-adjacency c =
    c.trace_early_reflections-a.auto.adjacency

pub shape_of-queue : goal.shape_of-queue
shape_of-queue c =
    c.trace_early_reflections-a.auto.queue

pub shape_of-offsets : goal.shape_of-offsets
shape_of-offsets c =
    c.trace_early_reflections-a.auto.offsets

pub shape_of-floats : goal.shape_of-floats
shape_of-floats c =
    c.trace_early_reflections-a.auto.floats

pub shape_of-plane_triangles : goal.shape_of-plane_triangles
shape_of-plane_triangles c =
    c.trace_early_reflections-a.auto.plane_triangles

pub shape_of-plane_floats : goal.shape_of-plane_floats
shape_of-plane_floats c =
    c.trace_early_reflections-a.auto.plane_floats

pub shape_of-plane_words : goal.shape_of-plane_words
shape_of-plane_words c =
    c.trace_early_reflections-a.auto.plane_words

pub shape_of-plane_edges : goal.shape_of-plane_edges
shape_of-plane_edges c =
    c.trace_early_reflections-a.auto.plane_edges

pub shape_of-out : goal.shape_of-out
shape_of-out c =
    c.trace_early_reflections-a.auto.out

pub returns : goal.returns
returns c =
    record {
      called = λ h.
          called _ _ _ _ _ _ _ _ _ _ _ _ _ _ _ c.settings_from-s.ensures c.point_from-from.ensures c.point_from-to.ensures
          c.put_answer.ensures c.trace_early_reflections-a.ensures;
      refused = λ h. absurd (apart _ _ 1 c.if-counts-gt-LAST_CURVE.false h (omega arith));
    }

pub trace_early_reflections-a-requires : goal.trace_early_reflections-a-requires
trace_early_reflections-a-requires c = tt

pub put_answer-requires : goal.put_answer-requires
put_answer-requires c = tt
