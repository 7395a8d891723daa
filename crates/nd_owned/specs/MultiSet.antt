-- Lists of items that are to be written at slices of an array: the error of such a list, and what the writes leave.
use Rattle.std.specs.Prelude.{◌≡◌, ℕ, ℤ, pos, Bool, true, false, ◌==◌, if◌then◌else◌, Option, Some, None, MatchOption}
use Rattle.std.specs.Prelude.{List, [], ◌∷◌, length, map, slice_get, slice_index_or, unwrap_or, nat_eq, refl}
use Rattle.std.proofs.Common.{ap, eq-eqb}
use Rattle.std.proofs.Math.Nat.{not-suc-le-zero}
use Rattle.std.proofs.lemmas.Bool.{both_ways, ltb-true}
use Rattle.std.specs.List.{All, Contains, list_all}
use Rattle.std.specs.Option.{option_or}
use Rattle.std.specs.declared.vec.Vec.{Vec}
use Rattle.ndarray_layout.specs.declared.ErrorKind.{ErrorKind}
use Rattle.ndarray_layout.specs.declared.ErrorKind.TheVariants.{IncompatibleShape, OutOfBounds, Unsupported}
use Rattle.ndarray_layout.specs.declared.Fit.TheVariants.{Strict}
use Rattle.ndarray_layout.specs.declared.Order.TheVariants.{RowMajor}
use Rattle.ndarray_layout.specs.declared.SliceInfoElem.{SliceInfoElem}
use Rattle.ndarray_layout.specs.declared.SliceInfoElem.TheVariants as elem
use Rattle.ndarray_layout.specs.Intersect.{Intersect}
use Rattle.ndarray_layout.specs.IntersectingPair.{slices_fault as fault_of_slices}
use Rattle.ndarray_layout.specs.Size.{size}
use Rattle.ndarray_layout.specs.SlicedLayout.{sliced_shape}
use Rattle.ndarray_layout.specs.SlicedView.{slice_of}
use Rattle.ndarray_layout.specs.View.{View, view_places}
use Rattle.nd_lent.specs.Items.{item_at_place}
use Rattle.nd_lent.specs.Slices.{IsSharingFault}

-- a slice, and the items for its places
pub record Write (T : Type 0) : Type 0 where
  pub slice : List SliceInfoElem
  pub items : List T

-- those of a pair of vectors
abbrev pub write_of : {T A B : Type 0} → Vec SliceInfoElem A × Vec T B → Write T
write_of pair = record { slice = pair.0.items; items = pair.1.items }

-- the slices of writes
abbrev pub slices_of : {T : Type 0} → List (Write T) → List (List SliceInfoElem)
slices_of writes = map (λ write. write.slice) writes

-- the error of the first slice that doesn't fit a shape
abbrev pub slices_fault : {T : Type 0} → List ℕ → List (Write T) → Option ErrorKind
slices_fault shape writes = fault_of_slices Strict shape (slices_of writes)

-- there is an item for each index that the slice picks, and no more
abbrev pub has_count : {T : Type 0} → List ℕ → Write T → Bool
has_count shape write = length write.items == size (sliced_shape Strict write.slice shape)

-- the error of the first slice that doesn't fit, else that of a count of items that isn't its slice's
abbrev pub counts_fault : {T : Type 0} → List ℕ → List (Write T) → Option ErrorKind
counts_fault shape writes = option_or (slices_fault shape writes)
    (if list_all (has_count shape) writes then None else Some IncompatibleShape)

-- the error, or none, of writes whose slices fit: that of the slices
abbrev pub IsIntersectionFault : {T : Type 0} → List ℕ → List (Write T) → Option ErrorKind → Type 0
IsIntersectionFault shape writes fault = IsSharingFault shape (slices_of writes) fault

-- the error, or none, of a list of writes, in this order: that of the first slice that doesn't fit; IncompatibleShape for a count of items
-- that isn't
-- its slice's; Unsupported for two slices that share an index
abbrev pub IsFaultOfWrites : {T : Type 0} → List ℕ → List (Write T) → Option ErrorKind → Type 0
IsFaultOfWrites shape writes fault = MatchOption (counts_fault shape writes) (IsIntersectionFault shape writes fault)
    (λ kind. fault ≡ Some kind)

-- no list has an item, as where each slice picks nothing
abbrev pub HaveNoItems : {T : Type 0} → List (Write T) → Type 0
HaveNoItems writes = All (λ write. length write.items ≡ 0) writes

-- the places of a slice of a view, the first axis moving slowest
abbrev pub write_places : {T : Type 0} → View → Write T → List ℤ
write_places view write = view_places RowMajor (slice_of Strict write.slice view)

-- the items at the places of the slice are those given for it
abbrev pub IsWritten : {T : Type 0} → View → List T → Write T → Type 0
IsWritten view items write = map (item_at_place items) (write_places view write) ≡ map Some write.items

-- a place is none of the slice
abbrev pub Spares : {T : Type 0} → View → ℕ → Write T → Type 0
Spares view place write = Contains (write_places view write) (pos place) → ⊥

-- each place that no slice has holds the same item in both lists, and none is past the end of one alone
abbrev pub KeepsOthers : {T : Type 0} → View → List (Write T) → List T → List T → Type 0
KeepsOthers view writes old new = (place : ℕ) → All (Spares view place) writes → slice_get new place ≡ slice_get old place

-- examples
abbrev two_by_three : View
two_by_three = record { start = 0; shape = 2 ∷ 3 ∷ []; strides = pos 3 ∷ pos 1 ∷ [] }

abbrev all_of_axis : SliceInfoElem
all_of_axis = elem.Slice (pos 0) None (pos 1)

abbrev first_row : Write ℕ
first_row = record { slice = elem.Index (pos 0) ∷ all_of_axis ∷ []; items = 10 ∷ 11 ∷ 12 ∷ [] }

abbrev first_column : Write ℕ
first_column = record { slice = all_of_axis ∷ elem.Index (pos 0) ∷ []; items = 20 ∷ 21 ∷ [] }

abbrev short_column : Write ℕ
short_column = record { slice = all_of_axis ∷ elem.Index (pos 0) ∷ []; items = 20 ∷ [] }

abbrev tenth_row : Write ℕ
tenth_row = record { slice = elem.Index (pos 9) ∷ all_of_axis ∷ []; items = [] }

three_of_a_row : has_count (2 ∷ 3 ∷ []) first_row ≡ true
three_of_a_row = refl

one_of_a_column : has_count (2 ∷ 3 ∷ []) short_column ≡ false
one_of_a_column = refl

second_slice_at_fault : slices_fault (2 ∷ 3 ∷ []) (short_column ∷ tenth_row ∷ []) ≡ Some OutOfBounds
second_slice_at_fault = refl

slice_before_count : IsFaultOfWrites (2 ∷ 3 ∷ []) (short_column ∷ tenth_row ∷ []) (Some OutOfBounds)
slice_before_count = refl

count_before_intersection : IsFaultOfWrites (2 ∷ 3 ∷ []) (first_row ∷ short_column ∷ []) (Some IncompatibleShape)
count_before_intersection = refl

intersection_before_count : IsFaultOfWrites (2 ∷ 3 ∷ []) (first_row ∷ short_column ∷ []) (Some Unsupported) → ⊥
intersection_before_count fault = let same : Some Unsupported ≡ Some IncompatibleShape = fault in cc

at_the_corner : Intersect Strict (2 ∷ 3 ∷ []) first_row.slice first_column.slice
at_the_corner = (
  0 ∷ 0 ∷ [],
  refl,
  ((0, ltb-true 0 1 refl, refl), ((0, ltb-true 0 3 refl, refl), tt)),
  ((0, ltb-true 0 2 refl, refl), ((0, ltb-true 0 1 refl, refl), tt)),
)

row_and_column : IsFaultOfWrites (2 ∷ 3 ∷ []) (first_row ∷ first_column ∷ []) (Some Unsupported)
row_and_column = (refl, (0, 1, (ltb-true 0 1 refl, at_the_corner)))

row_and_column_apart : IsFaultOfWrites (2 ∷ 3 ∷ []) (first_row ∷ first_column ∷ []) None → ⊥
row_and_column_apart apart = apart 0 1 [] (ltb-true 0 1 refl) (ltb-true 1 2 refl) at_the_corner

nothing_to_write : IsFaultOfWrites {T = ℕ} (2 ∷ 3 ∷ []) [] None
nothing_to_write = λ i j d earlier below. absurd (not-suc-le-zero below)

row_written : IsWritten two_by_three (10 ∷ 11 ∷ 12 ∷ 3 ∷ 4 ∷ 5 ∷ 6 ∷ []) first_row
row_written = refl

last_item_missing : IsWritten two_by_three (10 ∷ 11 ∷ 2 ∷ 3 ∷ 4 ∷ 5 ∷ 6 ∷ []) first_row → ⊥
last_item_missing is = both_ways (nat_eq 2 12) refl (eq-eqb 2 12 (ap (λ items. unwrap_or (slice_index_or items 2 None) 0) is))

place_of_the_row : Spares two_by_three 1 first_row → ⊥
place_of_the_row spares = spares (1, ltb-true 1 3 refl, refl)

another_item : KeepsOthers {T = ℕ} two_by_three [] (7 ∷ []) (8 ∷ []) → ⊥
another_item kept = both_ways (nat_eq 8 7) refl
    (eq-eqb 8 7 (ap (λ item. unwrap_or item 0) (kept 0 (λ k d below. absurd (not-suc-le-zero below)))))
