-- The items of views side by side: what the contracts of private functions speak of.
use Rattle.std.specs.Prelude.{◌≡◌, ℕ, pos, Option, Some, None, List, [], ◌∷◌, map, refl}
use Rattle.std.specs.List.Sorted.{IsPermutation}
use Rattle.ndarray_layout.specs.declared.Order.TheVariants.{RowMajor}
use Rattle.ndarray_layout.specs.Indices.{indices_in}
use Rattle.ndarray_layout.specs.View.{View, place_at, view_places}
use Rattle.nd_access.specs.Items.{item_at_place}
use Rattle.nd_access.specs.Written.{Maps}
use Rattle.nd_access.specs.Zipped.{pairs_of}

-- of a view beside another one, in row-major order
abbrev pub view_pairs : {T U : Type 0} → List T → View → List U → View → List (Option (T × U))
view_pairs items view others source =
    pairs_of (map (item_at_place items) (view_places RowMajor view)) (map (item_at_place others) (view_places RowMajor source))

-- calls at the items of each index of two views of one shape, each index once, in some order
pub record ZipsAt {F T U : Type 0} (call : F → T × U → T → F → Type 0) (f : F) (view : View) (others : List U) (source : View)
    (old new : List T) : Type 0 where
  pub indices : List (List ℕ)
  pub each_once : IsPermutation indices (indices_in RowMajor view.shape)
  pub run : Maps call f (map (place_at view) indices)
      (pairs_of (map (item_at_place old) (map (place_at view) indices)) (map (item_at_place others) (map (place_at source) indices)))
      old new

-- examples
abbrev two_from : ℕ → View
two_from start = record { start = start; shape = 2 ∷ []; strides = pos 0 ∷ [] }

one_item_twice : view_pairs {T = ℕ} {U = ℕ} (7 ∷ 8 ∷ []) (two_from 0) (5 ∷ 6 ∷ []) (two_from 1) ≡ Some (7, 6) ∷ Some (7, 6) ∷ []
one_item_twice = refl

none_past_the_items : view_pairs {T = ℕ} {U = ℕ} (7 ∷ []) (two_from 0) (5 ∷ []) (two_from 1) ≡ None ∷ None ∷ []
none_past_the_items = refl
