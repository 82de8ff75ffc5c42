-- `cost::query_cost` meets its contract: the figures one by one, and then what they say (`forecast`).
use mathlib.Core.Path.{sym, ap, ◌∙◌, refl}
use Prim.Native.Nat.{min}
use native.Mathlib.Omega.{arith}
use Rattle.sequences.specs.Allowed.{most}
use Rattle.cost.proofs.Forecasts.{taken, told, turned}
use Rattle.cost.proofs.query_cost.Goals as goal

pub overflow_sub-m : goal.overflow_sub-m
overflow_sub-m c =
    let a = c.args in
    let t = taken a.crossing_limit a.planes a.first a.order a.triples
    (sym c.takes.ensures ∙ c.if-not-takes.false) in
    let h = t.some in omega arith

pub allowed-all-requires : goal.allowed-all-requires
allowed-all-requires c =
    let a = c.args in
    let t = taken a.crossing_limit a.planes a.first a.order a.triples
    (sym c.takes.ensures ∙ c.if-not-takes.false) in
    (omega (arith, t.few, t.some), omega (arith, t.few, t.firsts), t.shallow)

pub counts_of-counts-requires : goal.counts_of-counts-requires
counts_of-counts-requires c =
    let a = c.args in
    let t = taken a.crossing_limit a.planes a.first a.order a.triples
    (sym c.takes.ensures ∙ c.if-not-takes.false) in
    (omega (arith, t.few, t.some), t.shallow, c.visited-images.ensures.1)

pub rays_of-rays-requires : goal.rays_of-rays-requires
rays_of-rays-requires c =
    let a = c.args in
    let t = taken a.crossing_limit a.planes a.first a.order a.triples
    (sym c.takes.ensures ∙ c.if-not-takes.false) in
    let h = t.crossed in omega arith

pub words_of-words-requires : goal.words_of-words-requires
words_of-words-requires c =
    let a = c.args in
    let t = taken a.crossing_limit a.planes a.first a.order a.triples
    (sym c.takes.ensures ∙ c.if-not-takes.false) in
    (t.scene, c.visited-images.ensures.1)

pub overflow_cast-result : goal.overflow_cast-result
overflow_cast-result c = let h = c.visited-images.ensures.1 in omega arith

pub returns : goal.returns
returns c =
    let a = c.args in
    told a.crossing_limit a.planes a.first a.order a.triples
    (sym c.takes.ensures ∙ c.if-not-takes.false)
    a.crossing_limit a.planes a.first
    c.visited-images.result c.counts_of-counts.result c.rays_of-rays.result c.words_of-words.result
    refl refl refl
    (c.visited-images.ensures.0 ∙ ap (min most) c.allowed-all.ensures)
    c.counts_of-counts.ensures c.rays_of-rays.ensures c.words_of-words.ensures

pub returns-then-not-takes : goal.returns-then-not-takes
returns-then-not-takes c =
    let a = c.args in
    turned a.crossing_limit a.planes a.first a.order a.triples
    (sym c.takes.ensures ∙ c.if-not-takes.true)

pub takes-requires : goal.takes-requires
takes-requires c = tt

pub visited-images-requires : goal.visited-images-requires
visited-images-requires c = tt
