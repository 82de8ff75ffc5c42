-- `planes::group_planes` meets its contract: the groups of step 4, and a plane for each.
use lib.ListN.{length}
use mathlib.Core.Path.{refl, ap, ◌∙◌}
use mathlib.Core.List.{map}
use native.Mathlib.Omega.{arith}
use Rattle.planes_faces.specs.Key.{vertex_key}
use Rattle.planes_patches.specs.Triangles.{triangles_in}
use Rattle.planes_patches.specs.Rows.{patches_in}
use Rattle.planes_patches.proofs.Turns.{patches_length}
use Rattle.planes_fit.specs.Fit.{plane_of_group}
use Rattle.planes_fit.proofs.Partition.{grouped}
use Rattle.planes.specs.Build.{group_planes_of}
use Rattle.planes.proofs.Steps.{merge_settings, numbered_fewer, vertex_numbers}
use Rattle.planes.proofs.group_planes.Goals as goal

pub overflow_mul-n : goal.overflow_mul-n
overflow_mul-n c = omega (arith, c.requires.triangles_lent.few)

pub merge_patches-ng-requires : goal.merge_patches-ng-requires
merge_patches-ng-requires c =
    let t = c.requires.triangles_lent in let q = c.requires.np_le_m in let v = c.requires.n_in_bounds in let g = c.requires.group_room in let a = c.args in record {
      n_in_bounds = (t.columns, t.named);
      m_le_most_triangles = (omega (arith, t.few, t.some), t.some, q.2, q.0);
      np_in_bounds = q.1;
      n_in_bounds_2 = (v.0, vertex_numbers vertex_key a.triangles.now a.n a.m a.numbers.now t.some v.1, omega (arith, t.few));
      numbered = numbered_fewer vertex_key a.triangles.now a.n a.m a.numbers.now t.some v.1;
      m_in_bounds = (omega (arith, g.keys_room, t.some), omega (arith, g.words_room, t.some), omega (arith, g.scratch_room, t.some));
      m_in_bounds_2 = (omega (arith, g.index_room, t.some), omega (arith, g.next_room, t.some));
      m_in_bounds_3 = (omega (arith, g.adjacency_room, t.some), omega (arith, g.plane_triangles_room, t.some));
      m_in_bounds_4 = (omega (arith, g.first_room, t.some), omega (arith, g.plane_words_room, t.some));
      m_in_bounds_5 = (omega (arith, g.queue_room, t.some), omega (arith, g.offsets_room, t.some), g.offsets_room);
    }

pub group_planes-requires : goal.group_planes-requires
group_planes-requires c =
    let t = c.requires.triangles_lent in let q = c.requires.np_le_m in let g = c.requires.group_room in let a = c.args in let r = c.merge_patches-ng.ensures in
    let ng = c.merge_patches-ng.result in
    let few = r.upper_bound in
    let is = r.result_after (merge_settings a.on a.least a.most) refl refl refl in
    let ends = r.grouped.ends ng (omega arith) in record {
      n_in_bounds = (t.columns, t.named, q.1);
      m_le_n = (t.some, omega (arith, t.few, t.some), q.2);
      grouped = (
        grouped c.merge_patches-ng.new.queue c.merge_patches-ng.new.offsets a.np ng
            (merge_settings a.on a.least a.most) (triangles_in a.triangles.now a.handles.now a.n a.m) (patches_in a.plane_floats.now a.of.now
            a.m a.np) (patches_length a.plane_floats.now a.of.now a.m a.np) is (omega (
              arith,
              few,
              q.0,
              t.some,
              c.merge_patches-ng.auto.offsets,
              g.offsets_room,
            )) (omega (
              arith,
              ends,
              q.0,
              t.some,
              c.merge_patches-ng.auto.queue,
              g.queue_room,
            )),
        omega (arith, few, q.0, t.some, t.few),
      );
      np_in_bounds = (
        omega (
          arith,
          c.merge_patches-ng.auto.tsorted,
          g.index_room,
          q.0,
          t.some,
        ),
        omega (
          arith,
          c.merge_patches-ng.auto.order,
          g.first_room,
          t.some,
        ),
      );
      m_in_bounds = (
        omega (
          arith,
          c.merge_patches-ng.auto.words,
          g.words_room,
          t.some,
        ),
        omega (
          arith,
          c.merge_patches-ng.auto.scratch,
          g.scratch_room,
          t.some,
        ),
      );
      m_in_bounds_2 = (
        omega (
          arith,
          c.merge_patches-ng.auto.astarts,
          g.plane_triangles_room,
          t.some,
        ),
        omega (
          arith,
          c.merge_patches-ng.auto.tstarts,
          g.next_room,
          few,
          q.0,
          t.some,
        ),
      );
      ng_in_bounds = (
        omega (arith, g.floats_room, few, q.0, t.some),
        omega (
          arith,
          c.merge_patches-ng.auto.asorted,
          g.adjacency_room,
          few,
          q.0,
          t.some,
        ),
      );
    }

pub shape_of-keys : goal.shape_of-keys
shape_of-keys c = c.merge_patches-ng.auto.keys

pub shape_of-words : goal.shape_of-words
shape_of-words c =
    ◌∙◌ {b = length c.merge_patches-ng.new.words} c.group_planes.auto.words c.merge_patches-ng.auto.words

pub shape_of-scratch : goal.shape_of-scratch
shape_of-scratch c =
    ◌∙◌ {b = length c.merge_patches-ng.new.scratch} c.group_planes.auto.scratch c.merge_patches-ng.auto.scratch

pub shape_of-index : goal.shape_of-index
shape_of-index c =
    ◌∙◌ {b = length c.merge_patches-ng.new.tsorted} c.group_planes.auto.group_of c.merge_patches-ng.auto.tsorted

pub shape_of-next : goal.shape_of-next
shape_of-next c =
    ◌∙◌ {b = length c.merge_patches-ng.new.tstarts} c.group_planes.auto.mstarts c.merge_patches-ng.auto.tstarts

pub shape_of-adjacency : goal.shape_of-adjacency
shape_of-adjacency c =
    ◌∙◌ {b = length c.merge_patches-ng.new.asorted} c.group_planes.auto.group_words c.merge_patches-ng.auto.asorted

pub shape_of-plane_triangles : goal.shape_of-plane_triangles
shape_of-plane_triangles c =
    ◌∙◌ {b = length c.merge_patches-ng.new.astarts} c.group_planes.auto.plane_triangles c.merge_patches-ng.auto.astarts

pub shape_of-first : goal.shape_of-first
shape_of-first c =
    ◌∙◌ {b = length c.merge_patches-ng.new.order} c.group_planes.auto.plane_of c.merge_patches-ng.auto.order

pub shape_of-plane_words : goal.shape_of-plane_words
shape_of-plane_words c = c.merge_patches-ng.auto.assigned

pub shape_of-queue : goal.shape_of-queue
shape_of-queue c = c.merge_patches-ng.auto.queue

pub shape_of-offsets : goal.shape_of-offsets
shape_of-offsets c = c.merge_patches-ng.auto.offsets

pub shape_of-floats : goal.shape_of-floats
shape_of-floats c = c.group_planes.auto.group_floats

pub returns : goal.returns
unfolding group_planes_of
returns c =
    let t = c.requires.triangles_lent in let q = c.requires.np_le_m in let g = c.requires.group_room in let a = c.args in let r = c.merge_patches-ng.ensures in let f = c.group_planes.ensures in
    let few = r.upper_bound in record {
      result_after = λ s on least most. f.ng_after ∙ ap (map (plane_of_group (triangles_in a.triangles.now a.handles.now a.n a.m) (patches_in a.plane_floats.now a.of.now a.m a.np))) (r.result_after s on least most);
      group_planes = record {
        few = omega (arith, few, q.0);
        held = f.planes_held;
        tris = f.by_index;
        numbered = omega (
          arith,
          c.group_planes.auto.plane_of,
          c.merge_patches-ng.auto.order,
          g.first_room,
          t.some,
        );
      };
    }
