-- `tree_trace::trace` meets its contract, by recursion on the fuel: a leaf, or the children in turn (`trace_node` of `Laws.antt`). The first
-- child's box was tested with this very distance; the second one's is tested again.
use mathlib.Core.Path.{◌≡◌, sym, ap, ◌∙◌}
use mathlib.Core.Bool.{not}
use mathlib.Core.List.{[], ◌∷◌}
use Prim.Native.Nat.{ℕ, ◌-◌}
use native.Mathlib.Omega.{arith}
use lib.ListN.{length}
use Rattle.geometry.specs.Slab.{slab_of}
use Rattle.tree_build.specs.declared.Links.{Links}
use Rattle.tree_build.specs.Areas.{box_at_of, links_at_of, tree_at_of}
use Rattle.tree_trace.specs.declared.Closest.{Closest}
use Rattle.tree_trace.specs.Trace.{trace_tree}
use Rattle.tree_trace.proofs.Laws as law
use Rattle.tree_trace.proofs.Since.{ahead_since, test_since}
use Rattle.tree_trace.proofs.+trace.Goals as goal

pub returns-then-fuel-eq0 : goal.returns-then-fuel-eq0
returns-then-fuel-eq0 t c = let a = c.args in
    λ tri h ahead hit. law.trace_none slab_of tri a.way.ray a.bvh.now.padded.now a.bvh.now.nodes.now a.bvh.now.leaf_order.now a.fuel a.i a.best c.if-fuel-eq0.true

pub order_at-requires-clause-l_in_bounds : goal.order_at-requires-clause-l_in_bounds
order_at-requires-clause-l_in_bounds t c = let a = c.args in
    let H = c.requires.held in
    let e = c.links_at-k.ensures in
    let none : (links_at_of a.bvh.now.nodes.now a.i).len ≡ 0 = sym (ap (λ (k : Links). k.len) e) ∙ c.if-k-eq0.true in
    let ch = law.children a.bvh.now.nodes.now a.bvh.now.count a.i (length a.bvh.now.leaf_order.now) H.sound c.requires.i_lt_count none in
    let el = ap (λ (k : Links). k.left) e in
    let er = ap (λ (k : Links). k.right) e in
    let boxes = H.boxes_room in
    (omega arith, omega arith)

pub trace-requires : goal.trace-requires
trace-requires t c = let a = c.args in
    let H = c.requires.held in
    let e = c.links_at-k.ensures in
    let none : (links_at_of a.bvh.now.nodes.now a.i).len ≡ 0 = sym (ap (λ (k : Links). k.len) e) ∙ c.if-k-eq0.true in
    let ch = law.children a.bvh.now.nodes.now a.bvh.now.count a.i (length a.bvh.now.leaf_order.now) H.sound c.requires.i_lt_count none in
    let el = ap (λ (k : Links). k.left) e in
    let er = ap (λ (k : Links). k.right) e in
    let z = c.if-fuel-eq0.false in
    (omega arith, (H, (c.in-One.ensures.within a.bvh.now.count (omega arith) (omega arith), c.requires.way_value)))

pub trace-one-requires : goal.trace-one-requires
trace-one-requires t c = let a = c.args in
    let H = c.requires.held in
    let e = c.links_at-k.ensures in
    let none : (links_at_of a.bvh.now.nodes.now a.i).len ≡ 0 = sym (ap (λ (k : Links). k.len) e) ∙ c.if-k-eq0.true in
    let ch = law.children a.bvh.now.nodes.now a.bvh.now.count a.i (length a.bvh.now.leaf_order.now) H.sound c.requires.i_lt_count none in
    let el = ap (λ (k : Links). k.left) e in
    let er = ap (λ (k : Links). k.right) e in
    let z = c.if-fuel-eq0.false in
    (omega arith, (H, ((c.in-Both.ensures.within a.bvh.now.count (omega arith) (omega arith)).0, c.requires.way_value)))

pub trace-requires-in-Both : goal.trace-requires-in-Both
trace-requires-in-Both t c = let a = c.args in
    let H = c.requires.held in
    let e = c.links_at-k.ensures in
    let none : (links_at_of a.bvh.now.nodes.now a.i).len ≡ 0 = sym (ap (λ (k : Links). k.len) e) ∙ c.if-k-eq0.true in
    let ch = law.children a.bvh.now.nodes.now a.bvh.now.count a.i (length a.bvh.now.leaf_order.now) H.sound c.requires.i_lt_count none in
    let el = ap (λ (k : Links). k.left) e in
    let er = ap (λ (k : Links). k.right) e in
    let z = c.if-fuel-eq0.false in
    (omega arith, (H, ((c.in-Both.ensures.within a.bvh.now.count (omega arith) (omega arith)).1, c.requires.way_value)))

pub returns-in-Neither : goal.returns-in-Neither
returns-in-Neither t c = let a = c.args in
    let e = c.links_at-k.ensures in
    let none : (links_at_of a.bvh.now.nodes.now a.i).len ≡ 0 = sym (ap (λ (k : Links). k.len) e) ∙ c.if-k-eq0.true in
    λ tri h ahead hit.
    law.trace_node slab_of tri a.way.ray a.bvh.now.padded.now a.bvh.now.nodes.now a.bvh.now.leaf_order.now a.fuel a.i a.best c.if-fuel-eq0.false hit none [] (rw e at (c.in-Neither.ensures.list ahead))

pub returns-in-One : goal.returns-in-One
returns-in-One t c = let a = c.args in
    let e = c.links_at-k.ensures in
    let none : (links_at_of a.bvh.now.nodes.now a.i).len ≡ 0 = sym (ap (λ (k : Links). k.len) e) ∙ c.if-k-eq0.true in
    λ tri h ahead hit.
    let whole = law.trace_node slab_of tri a.way.ray a.bvh.now.padded.now a.bvh.now.nodes.now a.bvh.now.leaf_order.now a.fuel a.i a.best c.if-fuel-eq0.false hit none (c.in-One.only ∷ []) (rw e at (c.in-One.ensures.list ahead)) in
    c.trace.ensures tri h ahead (c.in-One.ensures.entered ahead) ∙ whole

pub returns-then-one-far : goal.returns-then-one-far
returns-then-one-far t c = let a = c.args in
    let e = c.links_at-k.ensures in
    let none : (links_at_of a.bvh.now.nodes.now a.i).len ≡ 0 = sym (ap (λ (k : Links). k.len) e) ∙ c.if-k-eq0.true in
    λ tri h ahead hit.
    let on : ℕ → Closest → Closest = λ j. trace_tree slab_of tri a.way.ray (tree_at_of a.bvh.now.padded.now a.bvh.now.nodes.now a.bvh.now.leaf_order.now (a.fuel - 1) j) in
    let w = c.in-Both in
    let one = c.trace-one.result in
    let whole = law.trace_node slab_of tri a.way.ray a.bvh.now.padded.now a.bvh.now.nodes.now a.bvh.now.leaf_order.now a.fuel a.i a.best c.if-fuel-eq0.false hit none (w.first ∷ w.second ∷ []) (rw e at (w.ensures.list ahead)) in
    let in-both = w.ensures.entered ahead in
    let found = c.trace-one.ensures tri h ahead in-both.0 in
    let box = box_at_of a.bvh.now.padded.now w.second in
    let test = test_since tri a.way.ray (tree_at_of a.bvh.now.padded.now a.bvh.now.nodes.now a.bvh.now.leaf_order.now (a.fuel - 1) w.first) a.best one found ahead box w.far in-both.1 in
    law.trace_miss slab_of tri a.way.ray a.bvh.now.padded.now a.bvh.now.nodes.now a.bvh.now.leaf_order.now (a.fuel - 1) w.second one (test ∙ ap not c.if-one-far.true)
    ∙ ap (λ (x : Closest). on w.second x) found ∙ whole

pub returns-else-one-far : goal.returns-else-one-far
returns-else-one-far t c = let a = c.args in
    let e = c.links_at-k.ensures in
    let none : (links_at_of a.bvh.now.nodes.now a.i).len ≡ 0 = sym (ap (λ (k : Links). k.len) e) ∙ c.if-k-eq0.true in
    λ tri h ahead hit.
    let on : ℕ → Closest → Closest = λ j. trace_tree slab_of tri a.way.ray (tree_at_of a.bvh.now.padded.now a.bvh.now.nodes.now a.bvh.now.leaf_order.now (a.fuel - 1) j) in
    let w = c.in-Both in
    let one = c.trace-one.result in
    let whole = law.trace_node slab_of tri a.way.ray a.bvh.now.padded.now a.bvh.now.nodes.now a.bvh.now.leaf_order.now a.fuel a.i a.best c.if-fuel-eq0.false hit none (w.first ∷ w.second ∷ []) (rw e at (w.ensures.list ahead)) in
    let in-both = w.ensures.entered ahead in
    let found = c.trace-one.ensures tri h ahead in-both.0 in
    let box = box_at_of a.bvh.now.padded.now w.second in
    let below = tree_at_of a.bvh.now.padded.now a.bvh.now.nodes.now a.bvh.now.leaf_order.now (a.fuel - 1) w.first in
    let test = test_since tri a.way.ray below a.best one found ahead box w.far in-both.1 in
    let later = ahead_since tri a.way.ray below a.best one found ahead in
    c.trace-in-Both.ensures tri h later (test ∙ ap not c.if-one-far.false) ∙ ap (λ (x : Closest). on w.second x) found ∙ whole

pub visit_leaf-requires : goal.visit_leaf-requires
visit_leaf-requires t c = let a = c.args in
    let H = c.requires.held in
    let e = c.links_at-k.ensures in
    let some : (links_at_of a.bvh.now.nodes.now a.i).len ≡ 0 → ⊥ = rw e at c.if-k-eq0.false in
    (H.rows_room, rw e (law.triangles a.bvh.now.nodes.now a.bvh.now.count a.i (length a.bvh.now.leaf_order.now) H.sound c.requires.i_lt_count some))

pub returns : goal.returns
returns t c = let a = c.args in
    let e = c.links_at-k.ensures in
    let some : (links_at_of a.bvh.now.nodes.now a.i).len ≡ 0 → ⊥ = rw e at c.if-k-eq0.false in
    λ tri h ahead hit. rw e at (c.visit_leaf.ensures tri h) ∙ law.trace_leaf slab_of tri a.way.ray a.bvh.now.padded.now a.bvh.now.nodes.now a.bvh.now.leaf_order.now a.fuel a.i a.best c.if-fuel-eq0.false hit some
