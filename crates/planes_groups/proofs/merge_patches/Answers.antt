-- `planes_groups::merge_patches` meets its contract: the rows of patches, the seeds, and the groups (`merged_is`, `alone_is`).
use mathlib.Core.Path.{refl, sym, ◌∙◌}
use native.Mathlib.Omega.{arith}
use lib.ListN.{take}
use Rattle.planes_patches.specs.Triangles.{triangles_in}
use Rattle.planes_patches.specs.Rows.{patches_in}
use Rattle.planes_groups.specs.Groups.{is_adjacent, runs_of}
use Rattle.planes_groups.specs.Rows.{groups_in, seed_key_in}
use Rattle.planes_groups.proofs.Reading.{table_tris, sorted_positions}
use Rattle.planes_groups.proofs.Joining.{joined_adjacent}
use Rattle.planes_groups.proofs.Merging.{merged_is, alone_is}
use Rattle.planes_groups.proofs.merge_patches.Goals as goal

pub overflow_cast-np : goal.overflow_cast-np
overflow_cast-np c =
    omega (arith, c.requires.m_le_most_triangles.0, c.requires.m_le_most_triangles.3)

pub patch_rows-requires : goal.patch_rows-requires
patch_rows-requires c =
    let s = c.requires.m_le_most_triangles in record {
      m_le_most_triangles = s.0;
      np_le_most_triangles = omega (arith, s.0, s.3);
      m_in_bounds = s.2;
      m_in_bounds_2 = omega (arith, c.requires.m_in_bounds.1);
      m_in_bounds_3 = omega (arith, c.requires.m_in_bounds.2);
      m_in_bounds_4 = c.requires.m_in_bounds_2.0;
      np_in_bounds = omega (arith, c.requires.m_in_bounds_2.1, s.3);
    }

pub seeds-requires : goal.seeds-requires
seeds-requires c =
    let s = c.requires.m_le_most_triangles in record {
      np_le_most_triangles = omega (arith, s.0, s.3);
      np_in_bounds = c.requires.np_in_bounds;
      table = table_tris c.args.np c.args.m 4096 c.args.of.now c.patch_rows.new.sorted c.patch_rows.new.starts c.patch_rows.ensures.row_bounds (omega (arith, c.patch_rows.auto.starts, c.requires.m_in_bounds_2.1, c.requires.m_le_most_triangles.3)) c.patch_rows.ensures.by_index s.0;
      np_in_bounds_2 = omega
          (arith, c.requires.m_in_bounds.0, s.3);
      np_in_bounds_3 = omega (arith, c.requires.m_in_bounds.1, s.3, c.patch_rows.auto.words);
      np_in_bounds_4 = omega (arith, c.requires.m_in_bounds.2, s.3, c.patch_rows.auto.scratch);
      np_in_bounds_5 = omega (arith, c.requires.m_in_bounds_4.0, s.3);
    }

pub merge-requires : goal.merge-requires
merge-requires c =
    let s = c.requires.m_le_most_triangles in
    let w = c.requires.m_in_bounds in
    let r = c.requires.m_in_bounds_3 in
    let q = c.requires.m_in_bounds_5 in record {
      n_in_bounds = c.requires.n_in_bounds;
      np_in_bounds = c.requires.np_in_bounds;
      table = table_tris c.args.np c.args.m c.args.n c.args.of.now c.patch_rows.new.sorted c.patch_rows.new.starts c.patch_rows.ensures.row_bounds (omega (arith, c.patch_rows.auto.starts, c.requires.m_in_bounds_2.1, c.requires.m_le_most_triangles.3)) c.patch_rows.ensures.by_index s.1;
      m_le_most_triangles = (s.0, s.1, omega (arith, s.0, s.3), s.2);
      n_in_bounds_2 = c.requires.n_in_bounds_2;
      np_in_bounds_2 = (omega (arith, c.seeds.auto.order, c.requires.m_in_bounds_4.0, s.3), sorted_positions (seed_key_in c.args.rows.now c.patch_rows.new.sorted c.patch_rows.new.starts) c.args.np (take c.args.np c.seeds.new.order) c.seeds.ensures);
      m_in_bounds = (omega (arith, w.1, c.patch_rows.auto.words, c.seeds.auto.words), omega (arith, w.2, c.patch_rows.auto.scratch, c.seeds.auto.scratch));
      m_in_bounds_2 = (r.0, omega (arith, r.1, s.3));
      np_in_bounds_3 = (omega (arith, c.requires.m_in_bounds_4.1, s.3), omega (arith, q.0, s.3), omega (arith, q.1, s.3));
      m_in_bounds_3 = (q.0, q.2);
    }

pub shape_of-keys-then-is_merging : goal.shape_of-keys-then-is_merging
shape_of-keys-then-is_merging c = c.seeds.auto.keys

pub shape_of-words-then-is_merging : goal.shape_of-words-then-is_merging
shape_of-words-then-is_merging c = c.merge.auto.words
    ∙ c.seeds.auto.words
    ∙ c.patch_rows.auto.words

pub shape_of-scratch-then-is_merging : goal.shape_of-scratch-then-is_merging
shape_of-scratch-then-is_merging c = c.merge.auto.scratch
    ∙ c.seeds.auto.scratch
    ∙ c.patch_rows.auto.scratch

pub shape_of-tsorted-then-is_merging : goal.shape_of-tsorted-then-is_merging
shape_of-tsorted-then-is_merging c = c.patch_rows.auto.sorted

pub shape_of-tstarts-then-is_merging : goal.shape_of-tstarts-then-is_merging
shape_of-tstarts-then-is_merging c = c.patch_rows.auto.starts

pub shape_of-asorted-then-is_merging : goal.shape_of-asorted-then-is_merging
shape_of-asorted-then-is_merging c = c.merge.auto.asorted

pub shape_of-astarts-then-is_merging : goal.shape_of-astarts-then-is_merging
shape_of-astarts-then-is_merging c = c.merge.auto.astarts

pub shape_of-order-then-is_merging : goal.shape_of-order-then-is_merging
shape_of-order-then-is_merging c = c.seeds.auto.order

pub shape_of-assigned-then-is_merging : goal.shape_of-assigned-then-is_merging
shape_of-assigned-then-is_merging c = c.merge.auto.assigned

pub shape_of-queue-then-is_merging : goal.shape_of-queue-then-is_merging
shape_of-queue-then-is_merging c = c.merge.auto.queue

pub shape_of-offsets-then-is_merging : goal.shape_of-offsets-then-is_merging
shape_of-offsets-then-is_merging c = c.merge.auto.offsets

pub returns-then-is_merging : goal.returns-then-is_merging
returns-then-is_merging c =
    let same-length-4 = c.patch_rows.auto.sorted in
    let same-length-6 = c.merge.auto.asorted in
    let same-length-9 = c.merge.auto.assigned in
    let same-length-3 = c.merge.auto.scratch
    ∙ c.seeds.auto.scratch
    ∙ c.patch_rows.auto.scratch in
    let same-length-7 = c.merge.auto.astarts in
    let same-length-5 = c.patch_rows.auto.starts in
    let same-length-8 = c.seeds.auto.order in
    let same-length-2 = c.merge.auto.words
    ∙ c.seeds.auto.words
    ∙ c.patch_rows.auto.words in
    let same_length = c.seeds.auto.keys in
    let a = c.args in
    let s0 = c.requires.m_le_most_triangles in
    let d = c.requires.n_in_bounds_2 in record {
      upper_bound = c.merge.ensures.upper_bound;
      grouped = c.merge.ensures.grouped;
      result_after = λ s eo ec em.
          merged_is s a.triangles.now a.handles.now a.n a.m a.rows.now a.of.now a.np c.patch_rows.new.sorted c.patch_rows.new.starts a.on a.least a.most eo ec em c.patch_rows.ensures.by_index (take a.np c.seeds.new.order) c.seeds.ensures
          (groups_in c.merge.new.queue c.merge.new.offsets c.merge.result) (sym
          c.is_merging.ensures
          ∙ c.if-is_merging.true)
          (c.merge.ensures.by_index (is_adjacent (runs_of (triangles_in a.triangles.now a.handles.now a.n a.m) (patches_in a.rows.now a.of.now a.m a.np)))
          (λ p q hp hq. joined_adjacent a.triangles.now a.handles.now a.n a.m a.rows.now a.of.now a.np a.numbers.now a.vertices c.requires.numbered d.1 s0.2 (omega (arith, s0.0, s0.3)) p q));
      rest = (same_length, same-length-2, same-length-3, same-length-4, same-length-5, same-length-6, same-length-7, same-length-8, same-length-9);
    }

pub each_alone-requires : goal.each_alone-requires
each_alone-requires c =
    let s = c.requires.m_le_most_triangles in record {
      np_le_most_triangles = omega (arith, s.0, s.3);
      np_in_bounds = (omega (arith, c.seeds.auto.order, c.requires.m_in_bounds_4.0, s.3), sorted_positions (seed_key_in c.args.rows.now c.patch_rows.new.sorted c.patch_rows.new.starts) c.args.np (take c.args.np c.seeds.new.order) c.seeds.ensures);
      np_in_bounds_2 = omega
          (arith, c.requires.m_in_bounds_5.0, s.3);
      np_in_bounds_3 = omega (arith, c.requires.m_in_bounds_5.1, s.3);
    }

pub shape_of-keys : goal.shape_of-keys
shape_of-keys c = c.seeds.auto.keys

pub shape_of-words : goal.shape_of-words
shape_of-words c = c.seeds.auto.words
    ∙ c.patch_rows.auto.words

pub shape_of-scratch : goal.shape_of-scratch
shape_of-scratch c = c.seeds.auto.scratch
    ∙ c.patch_rows.auto.scratch

pub shape_of-tsorted : goal.shape_of-tsorted
shape_of-tsorted c = c.patch_rows.auto.sorted

pub shape_of-tstarts : goal.shape_of-tstarts
shape_of-tstarts c = c.patch_rows.auto.starts

pub shape_of-order : goal.shape_of-order
shape_of-order c = c.seeds.auto.order

pub shape_of-queue : goal.shape_of-queue
shape_of-queue c = c.each_alone.auto.queue

pub shape_of-offsets : goal.shape_of-offsets
shape_of-offsets c = c.each_alone.auto.offsets

pub returns : goal.returns
returns c =
    let same-length-16 = c.patch_rows.auto.starts in
    let same-length-17 = c.seeds.auto.order in
    let same-length-14 = c.seeds.auto.scratch
    ∙ c.patch_rows.auto.scratch in
    let same-length-12 = c.seeds.auto.keys in
    let same-length-13 = c.seeds.auto.words
    ∙ c.patch_rows.auto.words in
    let same-length-15 = c.patch_rows.auto.sorted in
    let a = c.args in record {
      upper_bound = omega arith;
      grouped = c.each_alone.ensures.grouped;
      result_after = λ s eo ec em.
          alone_is s a.triangles.now a.handles.now a.n a.m a.rows.now a.of.now a.np c.patch_rows.new.sorted c.patch_rows.new.starts a.on a.least a.most eo ec em c.patch_rows.ensures.by_index (take a.np c.seeds.new.order) c.seeds.ensures
          (groups_in c.each_alone.new.queue c.each_alone.new.offsets a.np) (sym c.is_merging.ensures ∙ c.if-is_merging.false)
          c.each_alone.ensures.np_after;
      rest = (same-length-12, same-length-13, same-length-14, same-length-15, same-length-16, refl, refl, same-length-17, refl);
    }

pub is_merging-requires : goal.is_merging-requires
is_merging-requires c = tt
