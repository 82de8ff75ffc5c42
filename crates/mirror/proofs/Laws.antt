-- The laws that the proofs cite: the plane at an index, the runs of a plane, and one step of each loop over them.
use mathlib.Core.Path.{◌≡◌, refl}
use mathlib.Core.Bool.{Bool, true, false, cond}
use mathlib.Core.List.{List, foldl}
use Prim.Native.Nat.{ℕ, suc, ◌+◌, ◌-◌, ◌<◌, ◌≤◌}
use native.Mathlib.Numerals.{add-one}
use native.Mathlib.Omega.{arith}
use Rattle.std.specs.Prelude.{None, Some}
use lib.Ieee.{Float}
use lib.ListN.{length, get_or, drop, drop_of_length-le}
use lib.Seq.{drop-cons}
use Rattle.order.proofs.Positions.{get_or_map_up_to}
use Rattle.vector.specs.declared.Vec3.{Vec3}
use Rattle.vector.specs.declared.Ray.{Ray}
use Rattle.geometry.specs.declared.Triangle.{Triangle}
use Rattle.geometry.specs.Intersect.{intersect_max_of}
use Rattle.geometry.specs.Contains.{contains_of, contains_point_of}
use Rattle.columns.specs.Columns.{vec_at_of, edges_at_of, dots_at_of}
use Rattle.mirror.specs.Plane.{Plane, no_plane, nth_plane}
use Rattle.mirror.specs.Border.{nearer_of, weight_of}
use Rattle.mirror.specs.Locate.{Snap, snap_of, snap_edges_of, snap_all_of, find_of, contains_in_box_of, spot_of, surface_of, weighed_of, locate_on_plane_of}
use Rattle.mirror.specs.Rows.{edge_in, edges_in, plane_in, planes_in, ReadsAs}

-- ---- the plane at an index

-- `planes[p]`
pub plane_at_lem : (floats : List Float) (words members : List ℕ) (edges : List Float) (count p : ℕ) → p < count →
    nth_plane (planes_in floats words members edges count) p ≡ plane_in floats words members edges p
unfolding nth_plane planes_in
plane_at_lem floats words members edges count p h = get_or_map_up_to (plane_in floats words members edges) count p no_plane h

-- ---- the border

module _ (edges : List Float) (p : Vec3) (first count k : ℕ) (d : Float) where
  pub border_step : k < count →
      foldl (nearer_of p) d (edges_in edges (first + k) (count - k)) ≡ foldl (nearer_of p) (nearer_of p d (edge_in edges (first + k))) (edges_in edges (first + (k + 1)) (count - (k + 1)))
  unfolding edges_in
  border_step h =
      let e : count - k ≡ suc (count - (k + 1)) = omega arith in
      let f : first + k + 1 ≡ first + (k + 1) = omega arith in
      rw (e, f)

  pub border_done : count ≤ k → foldl (nearer_of p) d (edges_in edges (first + k) (count - k)) ≡ d
  unfolding edges_in
  border_done h = let e : count - k ≡ 0 = omega arith in rw e

-- ---- the triangles

-- a triangle by what stands of it in the columns
pub snap_read : (columns : List Float) (n i : ℕ) (t : Triangle) (ray : Ray) (best : Snap) → ReadsAs columns n i t →
    snap_edges_of (vec_at_of columns n i) (edges_at_of columns n i) ray i best ≡ snap_of t ray i best
unfolding snap_edges_of snap_of intersect_max_of
snap_read columns n i t ray best h = rw (h.corner, h.edges)

pub contains_read : (columns : List Float) (n i : ℕ) (t : Triangle) (p : Vec3) → ReadsAs columns n i t →
    contains_of (vec_at_of columns n i) (edges_at_of columns n i) (dots_at_of columns n i) p ≡ contains_point_of t p
unfolding contains_point_of
contains_read columns n i t p h = rw (h.corner, h.edges, h.dots)

module _ (tri : ℕ → Triangle) (members : List ℕ) (k : ℕ) where
  pub snap_step : (ray : Ray) (best : Snap) → k < length members →
      snap_all_of tri ray (drop k members) best ≡ snap_all_of tri ray (drop (k + 1) members) (snap_of (tri (get_or members k 0)) ray (get_or members k 0) best)
  unfolding snap_all_of
  snap_step ray best h = rw (add-one, drop-cons members k 0)

  pub snap_done : (ray : Ray) (best : Snap) → length members ≤ k → snap_all_of tri ray (drop k members) best ≡ best
  unfolding snap_all_of
  snap_done ray best h = rw (drop_of_length-le members h)

  pub find_step : (p : Vec3) → k < length members →
      find_of tri p (drop k members) ≡ cond (contains_point_of (tri (get_or members k 0)) p) (Some (get_or members k 0, p)) (find_of tri p (drop (k + 1) members))
  unfolding find_of
  find_step p h = rw (add-one, drop-cons members k 0)

  pub find_done : (p : Vec3) → length members ≤ k → find_of tri p (drop k members) ≡ None
  unfolding find_of
  find_done p h = rw (drop_of_length-le members h)

-- ---- the surface

-- a point is located where it has a spot, which is then weighed
pub locate_surface :
    (tri : ℕ → Triangle) (fade : Float) (plane : Plane) (p : Vec3) →
    locate_on_plane_of tri fade plane p ≡ weighed_of (weight_of plane.border fade) (surface_of tri plane p)
unfolding locate_on_plane_of surface_of
locate_surface tri fade plane p = by (contains_in_box_of plane p) where
  by : (b : Bool) → cond b (weighed_of (weight_of plane.border fade) (spot_of tri plane p)) None ≡ weighed_of (weight_of plane.border fade) (cond b (spot_of tri plane p) None)
  by true = refl
  by false = refl
