-- `planes_groups::merge` meets its contract: adjacency, and the groups that grow over it.
use mathlib.Core.Path.{sym, ap, ◌∙◌}
use mathlib.Core.Bool.{Bool}
use mathlib.Core.List.{◌++◌}
use Prim.Native.Nat.{ℕ, ◌*◌}
use native.Mathlib.Omega.{arith}
use lib.ListN.{length, take, drop}
use lib.Seq.{length-take-le, length_front}
use Rattle.planes_links.specs.Links.{is_joined}
use Rattle.planes_groups.specs.Groups.{groups_from}
use Rattle.planes_groups.specs.Rows.{takes_in, free_of}
use Rattle.planes_groups.proofs.Reading.{table_is, queue_none, free_all, rows_adjacent}
use Rattle.planes_groups.proofs.merge.Goals as goal

pub overflow_cast-np : goal.overflow_cast-np
overflow_cast-np c = omega (arith, c.requires.m_le_most_triangles.2)

pub overflow_mul-m : goal.overflow_mul-m
overflow_mul-m c = omega (arith, c.requires.m_le_most_triangles.0)

pub slice_bounds-adjacency-end : goal.slice_bounds-adjacency-end
slice_bounds-adjacency-end c = c.requires.m_in_bounds_3.0

pub slice_bounds-adjacency-end-2 : goal.slice_bounds-adjacency-end-2
slice_bounds-adjacency-end-2 c = sym (length-take-le (3 * c.args.m) c.args.queue.now c.requires.m_in_bounds_3.0)

pub adjacency-requires : goal.adjacency-requires
adjacency-requires c =
    let s = c.requires.m_le_most_triangles in
    let d = c.requires.n_in_bounds_2 in
    let w = c.requires.m_in_bounds in
    let r = c.requires.m_in_bounds_2 in
    let v = c.requires.m_in_bounds_3 in record {
      np_le_most_triangles = s.2;
      m_le_most_triangles = s.0;
      m_le_n = s.1;
      n_in_bounds = d.0;
      numbers = d.1;
      vertices_le_most_rows = d.2;
      m_in_bounds = s.3;
      vsorted_len = length-take-le (3 * c.args.m) c.args.queue.now v.0;
      vertices_in_bounds = v.1;
      m_in_bounds_2 = w.0;
      m_in_bounds_3 = w.1;
      m_in_bounds_4 = r.0;
      np_in_bounds = r.1;
    }

pub grow_groups-requires : goal.grow_groups-requires
grow_groups-requires c =
    let a = c.args in
    let w = c.requires.np_in_bounds_3 in
    let e = c.fill.ensures.after (λ y e. e) in
    let room = length_front a.queue.now c.adjacency.new.vsorted (3 * a.m) c.adjacency.auto.vsorted in record {
      n_in_bounds = c.requires.n_in_bounds;
      np_in_bounds = c.requires.np_in_bounds;
      table = c.requires.table;
      np_le_most_triangles = c.requires.m_le_most_triangles.2;
      table_2 = table_is a.np a.np a.np c.adjacency.new.sorted c.adjacency.new.starts (is_joined a.numbers.now a.n a.vertices a.of.now a.m a.np) c.adjacency.ensures.row_bounds (omega (arith, c.adjacency.auto.starts, c.requires.m_in_bounds_2.1)) c.adjacency.ensures.by_index (omega arith);
      np_in_bounds_2 = c.requires.np_in_bounds_2;
      queue = rw e (queue_none a.np (length a.assigned.now) (c.adjacency.new.vsorted ++ drop (3 * a.m) a.queue.now) w.0 (omega (arith, room, w.1)));
      np_in_bounds_3 = omega (arith, c.adjacency.auto.vstarts, w.2);
    }

pub shape_of-words : goal.shape_of-words
shape_of-words c = c.adjacency.auto.words

pub shape_of-scratch : goal.shape_of-scratch
shape_of-scratch c = c.adjacency.auto.scratch

pub shape_of-asorted : goal.shape_of-asorted
shape_of-asorted c = c.adjacency.auto.sorted

pub shape_of-astarts : goal.shape_of-astarts
shape_of-astarts c = c.adjacency.auto.starts

pub shape_of-assigned : goal.shape_of-assigned
shape_of-assigned c = c.grow_groups.auto.assigned ∙ c.fill.auto.self

pub shape_of-queue : goal.shape_of-queue
shape_of-queue c =
    let a = c.args in
    c.grow_groups.auto.queue ∙ length_front a.queue.now c.adjacency.new.vsorted (3 * a.m) c.adjacency.auto.vsorted

pub shape_of-offsets : goal.shape_of-offsets
shape_of-offsets c = c.grow_groups.auto.offsets
    ∙ c.adjacency.auto.vstarts

pub returns : goal.returns
returns c =
    let a = c.args in
    let e = c.fill.ensures.after (λ y e. e) in
    let f : ℕ → ℕ → Bool = takes_in a.triangles.now a.handles.now a.n a.rows.now a.tsorted.now a.tstarts.now a.least a.most in record {
      upper_bound = c.grow_groups.ensures.upper_bound;
      grouped = c.grow_groups.ensures.grouped;
      by_index = λ adj same.
          c.grow_groups.ensures.by_index adj (rows_adjacent a.np c.adjacency.new.sorted c.adjacency.new.starts (is_joined a.numbers.now a.n a.vertices a.of.now a.m a.np) adj c.adjacency.ensures.by_index same)
          ∙ ap (groups_from a.np adj f (take a.np a.order.now)) (ap (free_of a.np) e ∙ free_all a.np (length a.assigned.now) c.requires.np_in_bounds_3.0);
    }
