-- The borders: the edges that no other edge of the plane's triangles lies on, in order of first meeting (document 01; the Rust's map has none).
use Rattle.std.specs.Prelude.{ℕ, Bool, ◌&&◌, ◌||◌, eqb, Float, List, [], ◌∷◌, map}
use mathlib.Core.List.{flat_map}
use Rattle.std.specs.Float.{binary32}
use Rattle.std.specs.Float.Ieee.{of_bits}
use Rattle.vector.specs.declared.Vec3.{Vec3}
use Rattle.geometry.specs.declared.Triangle.{Triangle}
use Rattle.planes_faces.specs.Key.{Key, same_key, key_by}
use Rattle.planes_patches.specs.Lists.{filter_by, count_by}
use Rattle.planes_patches.specs.Triangles.{nth_triangle}
use Rattle.mirror.specs.Plane.{Edge, Plane}

-- 1e4: steps of 0.1 mm
abbrev pub edge_steps_per_metre : Float
edge_steps_per_metre = of_bits binary32 0x461c_4000

-- `key`
unfoldable pub edge_key : Vec3 → Key
edge_key p = key_by edge_steps_per_metre p

-- an edge with the keys of its ends
pub record KeyedEdge : Type 0 where
  pub edge : Edge
  pub from : Key
  pub to : Key

unfoldable pub keyed_of : Vec3 → Vec3 → KeyedEdge
keyed_of p q = record { edge = record { start = p; end = q }; from = edge_key p; to = edge_key q }

-- `[(t.a, t.b), (t.b, t.c), (t.c, t.a)]`
unfoldable pub sides_of : Triangle → List KeyedEdge
sides_of t = keyed_of t.a t.b ∷ keyed_of t.b t.c ∷ keyed_of t.c t.a ∷ []

-- the same edge, in either direction
unfoldable pub is_same_edge : KeyedEdge → KeyedEdge → Bool
is_same_edge e f =
    (same_key e.from f.from && same_key e.to f.to) || (same_key e.from f.to && same_key e.to f.from)

-- the edges used once
unfoldable pub used_once : List KeyedEdge → List KeyedEdge
used_once es = filter_by (λ e. eqb (count_by (is_same_edge e) es) 1) es

-- `boundary`
unfoldable pub border_of : List Triangle → List ℕ → List Edge
border_of ts is = map (λ (e : KeyedEdge). e.edge) (used_once (flat_map (λ i. sides_of (nth_triangle ts i)) is))

unfoldable pub bordered_of : List Triangle → Plane → Plane
bordered_of ts p =
    record { normal = p.normal; offset = p.offset; area = p.area; box = p.box; tris = p.tris; border = border_of ts p.tris; fitted = p.fitted; spread = p.spread }
