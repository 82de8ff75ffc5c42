-- What loading answered as plain numbers, and what a query is asked: whether anything is searched, to which order, and how long the list may be.
use Rattle.std.specs.Prelude.{ℕ, min, Bool, cond, not, ◌&&◌, ◌||◌, eqb, ltb}
use Rattle.float.specs.Compare.{is_finite}
use Rattle.vector.specs.declared.Vec3.{Vec3}
use Rattle.scene.specs.declared.Settings.{Settings}
use Rattle.placing.specs.Loading.{LoadSaid, Refused, Triangles}
use Rattle.bounces.specs.Areas.{max_order}
use Rattle.packet.specs.Limits.{most_taps}
use Rattle.front.specs.declared.Front.{Front}

-- the answer of loading as plain numbers
abbrev pub front_of_loaded : LoadSaid → Front
front_of_loaded (Refused k) = record { refusal = k; kept = 0; triples = 0 }
front_of_loaded (Triangles kept p triples) = record { refusal = 0; kept = kept; triples = triples }

-- one of the refusals 1 to 5, which leave the work areas as found
abbrev pub early_of : ℕ → Bool
early_of k = ltb 0 k && ltb k 6

unfoldable pub is_finite_point : Vec3 → Bool
is_finite_point v = is_finite v.x && (is_finite v.y && is_finite v.z)

-- "no triangles, `separated` or a non-finite position: no sequence is allowed"; m is the count of triangles
unfoldable pub silent_of : Bool → Vec3 → Vec3 → ℕ → Bool
silent_of separated source listener m = separated || (not (is_finite_point source) || (not (is_finite_point listener) || eqb m 0))

-- the order of the search: 0, so that no sequence is allowed, where nothing is searched
abbrev pub used_order : Bool → ℕ → ℕ
used_order silent order = cond silent 0 order

-- "order and `max_reflections` any u32 (used as at most 8 and 64)"; 1,024 since document 02, Note 7
abbrev pub order_of_search : Settings → ℕ
order_of_search st = min st.max_reflection_order max_order

abbrev pub limit_of : Settings → ℕ
limit_of st = min st.max_reflections most_taps
