-- The first match among several cells: of the first of three lists of cells that has one. So go `first_along_z`, `first_along_y` and
-- `found`.
use mathlib.Core.Path.{◌≡◌, sym, ap, ◌∙◌}
use mathlib.Core.Bool.{cond}
use mathlib.Core.List.{List, [], ◌++◌, append-nil, flat_map}
use Prim.Native.Nat.{ℕ, ◌<◌, ◌≤◌}
use lib.Dec.{ltb}
use lib.Ieee.{Float}
use borrow.Author.Tests.{lt-ltb, le-ltb}
use Rattle.order.proofs.Positions.{under_up_to}
use Rattle.vector.specs.declared.Vec3.{Vec3}
use Rattle.order.specs.Runs.{first_by, up_to}
use Rattle.planes_faces.specs.Key.{Key, same_key}
use Rattle.planes_patches.specs.Lists.{filter_by}
use Rattle.planes_patches.specs.Grid.{coplanar_at, cell_in, first_among}
use Rattle.planes_patches.proofs.Lists.{under_filter, under_flat, first_both, flat_append}

module _ (rows : List Float) (np : ℕ) (n : Vec3) (d : Float) where
  abbrev among : List Key → ℕ
  among = first_among rows np n d

  among_both : (cs ds : List Key) → among (cs ++ ds) ≡ cond (ltb (among cs) np) (among cs) (among ds)
  unfolding first_among
  among_both cs ds =
      let inside : Key → List ℕ = λ c. filter_by (λ i. same_key (cell_in rows i) c) (up_to np) in
      ap (first_by (coplanar_at rows n d) np) (flat_append inside cs ds)
      ∙ first_both (coplanar_at rows n d) np (flat_map inside cs) (flat_map inside ds)
      (under_flat np inside cs (λ c. under_filter np (λ i. same_key (cell_in rows i) c) (up_to np) (under_up_to np)))

  module _ (as' bs cs : List Key) where
    abbrev three : List Key
    three = as' ++ (bs ++ (cs ++ []))

    pub first_of_three : (r : ℕ) → r ≡ among as' → r < np → r ≡ among three
    first_of_three r e l = e ∙ sym (among_both as' (bs ++ (cs ++ [])) ∙ rw (← e, lt-ltb r np l))

    pub second_of_three : (q r : ℕ) → q ≡ among as' → np ≤ q → r ≡ among bs → r < np → r ≡ among three
    second_of_three q r f g e l =
        e ∙ sym (among_both as' (bs ++ (cs ++ [])) ∙ rw (← f, le-ltb q np g) (among_both bs (cs ++ []) ∙ rw (← e, lt-ltb r np l)))

    pub third_of_three : (q s r : ℕ) → q ≡ among as' → np ≤ q → s ≡ among bs → np ≤ s → r ≡ among cs → r ≡ among three
    third_of_three q s r f g e l h =
        h ∙ sym (among_both as' (bs ++ (cs ++ [])) ∙ rw (← f, le-ltb q np g) (among_both bs (cs ++ []) ∙ rw (← e, le-ltb s np l) (ap among (append-nil cs))))
