-- The part of a view that a slice picks: what the contracts of private functions speak of.
use Rattle.std.specs.Prelude.{◌≡◌, ℤ, pos, List, [], ◌∷◌, refl}
use Rattle.ndarray_layout.specs.declared.Order.TheVariants.{RowMajor}
use Rattle.ndarray_layout.specs.View.{View, view_places}
use Rattle.nd_owned.specs.declared.picked_view.PickedView.{PickedView}
use Rattle.nd_owned.specs.declared.picked_view.PickedView.TheVariants.{Line, Plane, Any}

-- the view that a part is, whatever its type
abbrev pub view_of_picked : PickedView → View
view_of_picked (Line view) = view
view_of_picked (Plane view) = view
view_of_picked (Any view) = view

-- its places, the first axis moving slowest
abbrev pub picked_places : PickedView → List ℤ
picked_places part = view_places RowMajor (view_of_picked part)

-- examples
places_of_a_line : picked_places (Line (record { start = 5; shape = 2 ∷ []; strides = pos 3 ∷ [] })) ≡ pos 5 ∷ pos 8 ∷ []
places_of_a_line = refl

no_place : picked_places (Any (record { start = 5; shape = 2 ∷ 0 ∷ []; strides = pos 3 ∷ pos 1 ∷ [] })) ≡ []
no_place = refl
