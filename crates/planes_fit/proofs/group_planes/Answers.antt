-- `planes_fit::group_planes` meets its contract: patches and triangles are numbered, the triangles sorted by plane, and the rows stored (`planes_are`).
use mathlib.Core.Path.{◌∙◌, ◌≡◌}
use Prim.Native.Nat.{◌<◌, ℕ}
use native.Mathlib.Omega.{arith}
use Rattle.planes_patches.specs.Rows.{tris_in}
use Rattle.planes_fit.specs.Rows.{group_in}
use Rattle.planes_fit.proofs.Naming.{planes_numbered}
use Rattle.planes_fit.proofs.Planes.{planes_are, planes_held_lem, run_is, runs_are, tris_is}
use Rattle.planes_fit.proofs.group_planes.Goals as goal

pub name_groups-requires : goal.name_groups-requires
name_groups-requires c = record {
  grouped = c.requires.grouped.0;
  np_in_bounds = c.requires.np_in_bounds.0;
  ng_le_most_triangles = c.requires.grouped.1;
}

pub name_planes-requires : goal.name_planes-requires
name_planes-requires c = record {
  m_in_bounds = c.requires.m_le_n.2;
  m_in_bounds_2 = c.requires.np_in_bounds.1;
}

pub patch_rows-requires : goal.patch_rows-requires
patch_rows-requires c =
    let k = c.name_planes.auto.plane_of in record {
      m_le_most_triangles = c.requires.m_le_n.1;
      np_le_most_triangles = c.requires.grouped.1;
      m_in_bounds = omega (arith, k, c.requires.np_in_bounds.1);
      m_in_bounds_2 = c.requires.m_in_bounds.0;
      m_in_bounds_3 = c.requires.m_in_bounds.1;
      m_in_bounds_4 = c.requires.m_in_bounds_2.0;
      np_in_bounds = c.requires.m_in_bounds_2.1;
    }

pub put_planes-requires : goal.put_planes-requires
put_planes-requires c =
    let p = c.requires in
    let k = c.patch_rows.auto.sorted in record {
      n_in_bounds = p.n_in_bounds;
      grouped = p.grouped.0;
      runs = runs_are c.name_planes.new.plane_of c.patch_rows.new.sorted c.patch_rows.new.starts
          c.unpack.new.words c.args.m c.args.n c.args.ng c.patch_rows.ensures.row_bounds c.patch_rows.ensures.by_index c.unpack.ensures p.m_le_n.0 (omega (arith, p.m_in_bounds_2.1, c.patch_rows.auto.starts));
      ng_in_bounds = p.ng_in_bounds;
    }

pub shape_of-group_of : goal.shape_of-group_of
shape_of-group_of c = c.name_groups.auto.group_of

pub shape_of-words : goal.shape_of-words
shape_of-words c = c.patch_rows.auto.words

pub shape_of-scratch : goal.shape_of-scratch
shape_of-scratch c = c.patch_rows.auto.scratch

pub shape_of-plane_of : goal.shape_of-plane_of
shape_of-plane_of c = c.name_planes.auto.plane_of

pub shape_of-plane_triangles : goal.shape_of-plane_triangles
shape_of-plane_triangles c = c.unpack.auto.words ∙ c.patch_rows.auto.sorted

pub shape_of-mstarts : goal.shape_of-mstarts
shape_of-mstarts c = c.patch_rows.auto.starts

pub shape_of-group_floats : goal.shape_of-group_floats
shape_of-group_floats c = c.put_planes.auto.group_floats

pub shape_of-group_words : goal.shape_of-group_words
shape_of-group_words c = c.put_planes.auto.group_words

pub returns : goal.returns
returns c =
    let same_length = c.name_groups.auto.group_of in
    let same-length-3 = c.patch_rows.auto.scratch in
    let same-length-2 = c.patch_rows.auto.words in
    let same-length-6 = c.patch_rows.auto.starts in
    let a = c.args in
    let p = c.requires in
    let k = c.patch_rows.auto.sorted in
    let planes = c.name_planes.new.plane_of in
    let sorted = c.patch_rows.new.sorted in
    let mstarts = c.patch_rows.new.starts in
    let members = c.unpack.new.words in
    let floats = c.put_planes.new.group_floats in
    let words = c.put_planes.new.group_words in
    let groups = c.name_groups.new.group_of in
    let runs = runs_are planes sorted mstarts members a.m a.n a.ng c.patch_rows.ensures.row_bounds c.patch_rows.ensures.by_index c.unpack.ensures p.m_le_n.0 (omega (arith, p.m_in_bounds_2.1, c.patch_rows.auto.starts)) in
    let run : (g : ℕ) → g < a.ng → group_in members mstarts g ≡ tris_in planes a.m g = λ g l. run_is planes sorted mstarts members a.m a.ng g c.patch_rows.ensures.by_index c.unpack.ensures l in record {
      ng_after = planes_are a.triangles.now a.handles.now a.n a.m a.rows.now a.of.now a.np a.queue.now a.offsets.now a.ng groups planes members mstarts floats words p.grouped.0 p.grouped.1 c.name_groups.ensures.by_index c.name_planes.ensures runs run c.put_planes.ensures;
      planes_held = planes_held_lem a.triangles.now a.handles.now a.n a.m a.rows.now a.of.now a.np a.queue.now a.offsets.now a.ng groups planes members mstarts floats words p.grouped.0 p.grouped.1 c.name_groups.ensures.by_index c.name_planes.ensures runs run c.put_planes.ensures (omega
          (arith, p.ng_in_bounds.0, c.put_planes.auto.group_floats)) (omega (arith, p.ng_in_bounds.1, c.put_planes.auto.group_words));
      by_index = tris_is a.triangles.now a.handles.now a.n a.m a.rows.now a.of.now a.np a.queue.now a.offsets.now a.ng groups planes members mstarts floats words p.grouped.0 p.grouped.1 c.name_groups.ensures.by_index c.name_planes.ensures runs run c.put_planes.ensures;
      numbered = planes_numbered
          a.of.now groups planes a.m a.ng c.name_planes.ensures c.name_groups.ensures.by_index_2;
      rest = (same_length, same-length-2, same-length-3, same-length-6);
    }

pub unpack-requires : goal.unpack-requires
unpack-requires c = tt
