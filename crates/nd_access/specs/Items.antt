-- What a contract sees of an array: its items, and a view that has places among them.
use Rattle.std.specs.Prelude.{◌≡◌, ℕ, ℤ, pos, negsuc, Option, Some, None, if◌then◌else◌, List, [], ◌∷◌, nat_eq, slice_get, slice_index}
use Rattle.std.specs.Prelude.{map, slice_set, refl}
use Rattle.std.proofs.Common.{ap, eq-eqb}
use Rattle.std.proofs.lemmas.Bool.{both_ways}
use Rattle.std.proofs.Props.{props}
use Rattle.ndarray_layout.specs.declared.Order.TheVariants.{RowMajor}
use Rattle.ndarray_layout.specs.Bounds.{IsInBounds}
use Rattle.ndarray_layout.specs.DistinctPlaces.{HasDistinctPlaces}
use Rattle.ndarray_layout.specs.Indices.{is_index}
use Rattle.ndarray_layout.specs.Signed.{all_signed, magnitude}
use Rattle.ndarray_layout.specs.Span.{low_span}
use Rattle.ndarray_layout.specs.View.{View, IsView, LiesWithin, place_at, view_of, view_places}

-- what a contract sees of an array: the items, and the view that has places among them; items at no place are spare ones
pub record ArrayValue (T : Type 0) : Type 0 where
  pub items : List T
  pub view : View

-- each index has an item, and no two of them the same one
pub record IsOwned (count : ℕ) (view : View) : Type 0 where
  pub is_view : IsView view
  pub within : LiesWithin count view
  pub distinct : HasDistinctPlaces view

IsInBounds-prop : (count : ℕ) (place : ℤ) → IsProp (IsInBounds count place)
IsInBounds-prop count (pos n) = Prim.hlevel props
IsInBounds-prop count (negsuc n) = Prim.hlevel props

-- it has one proof at most, so it may be a ghost field
pub IsOwned-prop : (count : ℕ) (view : View) → IsProp (IsOwned count view)
IsOwned-prop count view = Prim.hlevel (props, IsInBounds-prop)

-- the view of a shape by strides whose lowest place is 0
abbrev pub view_from_0 : List ℕ → List ℕ → View
view_from_0 shape strides = view_of (low_span shape (all_signed strides)) shape strides

-- the item at a place; there is none below 0, nor past the last item
abbrev pub item_at_place : {T : Type 0} → List T → ℤ → Option T
item_at_place items (pos place) = slice_get items place
item_at_place items (negsuc below) = None

-- the items of all indices of an array, in row-major order
abbrev pub items_of : {T : Type 0} → ArrayValue T → List (Option T)
items_of array = map (item_at_place array.items) (view_places RowMajor array.view)

-- the item of an index of the shape
abbrev pub item_at : {T : Type 0} → ArrayValue T → List ℕ → Option T
item_at array index = if is_index array.view.shape index then item_at_place array.items (place_at array.view index) else None

-- the array with another item at an index of the shape
abbrev pub with_item : {T : Type 0} → ArrayValue T → List ℕ → T → ArrayValue T
with_item array index item =
    (if is_index array.view.shape index
    then record { items = slice_set array.items (magnitude (place_at array.view index)) item; view = array.view }
    else array)

-- examples
item_of_two_indices : IsOwned 2 (record { start = 0; shape = 2 ∷ []; strides = pos 0 ∷ [] }) → ⊥
item_of_two_indices owned =
    both_ways (nat_eq 0 1) refl (eq-eqb 0 1 (ap (λ index. slice_index index 0) (owned.distinct (0 ∷ []) (1 ∷ []) refl refl refl)))

abbrev back_to_front : ArrayValue ℕ
back_to_front = record { items = 7 ∷ 8 ∷ 9 ∷ []; view = record { start = 1; shape = 2 ∷ []; strides = negsuc 0 ∷ [] } }

no_item_below : item_at_place {T = ℕ} (7 ∷ 8 ∷ 9 ∷ []) (negsuc 0) ≡ None
no_item_below = refl

no_fourth_item : item_at_place {T = ℕ} (7 ∷ 8 ∷ 9 ∷ []) (pos 3) ≡ None
no_fourth_item = refl

first_is_the_second : item_at back_to_front (0 ∷ []) ≡ Some 8
first_is_the_second = refl

no_third : item_at back_to_front (2 ∷ []) ≡ None
no_third = refl

last_replaced : (with_item back_to_front (1 ∷ []) 5).items ≡ 5 ∷ 8 ∷ 9 ∷ []
last_replaced = refl
