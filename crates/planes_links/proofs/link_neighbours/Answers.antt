-- `planes_links::link_neighbours` meets its contract: the loop keeps that what is there, and what the rest will add, is the whole.
use mathlib.Core.Path.{◌≡◌, refl, ◌∙◌}
use Prim.Native.Nat.{◌+◌, ◌-◌}
use native.Mathlib.Omega.{arith}
use Rattle.planes_links.proofs.Linking.{next_more, next_done}
use Rattle.planes_links.proofs.link_neighbours.Goals as goal

pub loop-i-init : goal.loop-i-init
loop-i-init c = (omega arith, omega arith, refl, (λ a b h. refl))

pub push-k-requires : goal.push-k-requires
push-k-requires c = record {
  k_in_bounds = omega (arith, c.loop-i.invariant.2);
  p_lt_most_rows = omega arith;
  q_lt_most_triangles = omega arith;
}

pub push-k-requires-in-loop-i : goal.push-k-requires-in-loop-i
push-k-requires-in-loop-i c = record {
  k_in_bounds = omega (arith, c.loop-i.invariant.2, c.push-k.auto.words, c.push-k.ensures.value);
  p_lt_most_rows = omega arith;
  q_lt_most_triangles = omega arith;
}

pub loop-i-preserved : goal.loop-i-preserved
loop-i-preserved c = let up : c.loop-i.i - 1 + 1 ≡ c.loop-i.i = omega arith in let same : c.loop-i.i + 1 - 1 ≡ c.loop-i.i - 1 + 1 = omega arith in (
  omega (arith, c.push-k.ensures.value, c.push-k-in-loop-i.ensures.value),
  omega (arith, c.push-k.ensures.value, c.push-k-in-loop-i.ensures.value),
  c.push-k-in-loop-i.auto.words ∙ c.push-k.auto.words ∙ c.loop-i.invariant.2,
  rw same (next_more c.args.row.now c.args.words.now c.args.from c.loop-i.words c.push-k.new.words c.push-k-in-loop-i.new.words c.loop-i.k c.push-k.result c.push-k-in-loop-i.result (c.loop-i.i - 1)
      (omega arith) (rw up (c.push-k.ensures.result_after)) (rw up (c.push-k-in-loop-i.ensures.result_after)) c.loop-i.invariant.3),
)

pub shape_of-words : goal.shape_of-words
shape_of-words c = c.loop-i.invariant.2

pub returns : goal.returns
returns c = record {
  upper_bound = omega arith;
  by_index = next_done c.args.row.now c.args.words.now c.args.from c.loop-i.words c.loop-i.k (c.loop-i.i - 1) (omega arith) c.loop-i.invariant.3;
}
