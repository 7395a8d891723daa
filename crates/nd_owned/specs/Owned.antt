-- What an owned array has beside its items and its view: other items in place of its own, the error that hands a list back, and slices that
-- pick nothing.
pub use Rattle.nd_lent.specs.Items.{ArrayValue, IsOwned, item_at, item_at_place, with_item}
use Rattle.std.specs.Prelude.{◌≡◌, ℕ, pos, negsuc, Option, Some, None, Result, Ok, Err, List, [], ◌∷◌, length, nat_eq, refl}
use Rattle.std.proofs.Common.{eq-eqb}
use Rattle.std.proofs.Math.Dec.{lit≤}
use Rattle.std.proofs.lemmas.Bool.{both_ways}
use Rattle.std.specs.List.{refill}
use Rattle.ndarray_layout.specs.declared.ErrorKind.{ErrorKind}
use Rattle.ndarray_layout.specs.declared.LayoutError.{LayoutError}
use Rattle.ndarray_layout.specs.declared.LayoutError.TheVariants.{Shape, Memory}
use Rattle.ndarray_layout.specs.declared.Fit.TheVariants.{Strict}
use Rattle.ndarray_layout.specs.declared.SliceInfoElem.{SliceInfoElem}
use Rattle.ndarray_layout.specs.declared.SliceInfoElem.TheVariants as elem
use Rattle.ndarray_layout.specs.SliceFault.{argument_fault, out_count}
use Rattle.ndarray_layout.specs.Memory.{NeedsNoMemory}
use Rattle.ndarray_layout.specs.Size.{size}
use Rattle.ndarray_layout.specs.SlicedLayout.{sliced_shape}

-- the array with other items, cut or filled up from its own to as many
abbrev pub with_items : {T : Type 0} → ArrayValue T → List T → ArrayValue T
with_items array items = record { items = refill (length array.items) array.items items; view = array.view }

-- the fault of a shape in the error of a call that hands something back
abbrev pub shape_fault_of : {X Y : Type 0} → Result X (LayoutError × Y) → Option ErrorKind
shape_fault_of (Ok x) = None
shape_fault_of (Err (Shape kind, y)) = Some kind
shape_fault_of (Err (Memory e, y)) = None

-- a slice without fault picks nothing, and leaves no more axes than a value keeps in itself
pub record IsOfNone (shape : List ℕ) (slice : List SliceInfoElem) : Type 0 where
  pub fits : argument_fault Strict shape slice ≡ None
  pub few : NeedsNoMemory None (out_count slice)
  pub none : size (sliced_shape Strict slice shape) ≡ 0

-- examples
abbrev back_to_front : ArrayValue ℕ
back_to_front = record { items = 7 ∷ 8 ∷ 9 ∷ []; view = record { start = 1; shape = 2 ∷ []; strides = negsuc 0 ∷ [] } }

all_replaced : with_items back_to_front (4 ∷ 5 ∷ 6 ∷ []) ≡ record { items = 4 ∷ 5 ∷ 6 ∷ []; view = back_to_front.view }
all_replaced = refl

none_past_the_last : (with_items back_to_front (4 ∷ 5 ∷ 6 ∷ 0 ∷ [])).items ≡ 4 ∷ 5 ∷ 6 ∷ []
none_past_the_last = refl

own_where_there_is_no_other : (with_items back_to_front (4 ∷ [])).items ≡ 4 ∷ 8 ∷ 9 ∷ []
own_where_there_is_no_other = refl

abbrev all_of_axis : SliceInfoElem
all_of_axis = elem.Slice (pos 0) None (pos 1)

no_row : IsOfNone (2 ∷ 3 ∷ []) (elem.Slice (pos 0) (Some (pos 0)) (pos 1) ∷ all_of_axis ∷ [])
no_row = record { fits = refl; few = lit≤ tt; none = refl }

some_row : IsOfNone (2 ∷ 3 ∷ []) (elem.Index (pos 0) ∷ all_of_axis ∷ []) → ⊥
some_row is = both_ways (nat_eq 3 0) refl (eq-eqb 3 0 is.none)
