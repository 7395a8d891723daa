-- Words of private contracts alone, of the calls below `Strided::rows`: the axis of a layout that moves fastest.
use Rattle.std.specs.Prelude.{◌≡◌, ℕ, ◌-◌, ◌≤◌, ◌==◌, pos, ◌*ℤ◌, List, [], ◌∷◌, if◌then◌else◌, length, nat_eq, replicate}
use Rattle.std.specs.Prelude.{slice_index, refl}
use Rattle.std.proofs.Common.{ap, eq-eqb, sym, ◌∙◌}
use Rattle.std.proofs.Math.Dec.{lit≤}
use Rattle.std.proofs.lemmas.Bool.{both_ways}
use Rattle.nd_base.specs.declared.order.Order.{Order}
use Rattle.nd_base.specs.declared.order.Order.TheVariants.{RowMajor, ColumnMajor}
use Rattle.ndarray_layout.specs.declared.strided.rows.Fastest.{Fastest}
use Rattle.ndarray_layout.specs.declared.strided.rows.Row.{Row}
use Rattle.ndarray_layout.specs.JoinedInAll.{slower_than}
use Rattle.ndarray_layout.specs.NumberedRows.{slowest}
use Rattle.ndarray_layout.specs.Rows.{BeginsAsRow, view_rows}
use Rattle.ndarray_layout.specs.RowsLeft.{axis_view, with_item}
use Rattle.ndarray_layout.specs.View.{IsView, view_of, view_places}

-- a list with an item for each axis has this one for the axis that moves fastest in the order, and these for the others
pub record EndsIn {A : Type 0} (order : Order) (items others : List A) (item : A) : Type 0 where
  pub is : items ≡ with_item order others item

-- these items are those of the axes that move slowest
pub record IsSlowest {A : Type 0} (order : Order) (items others : List A) : Type 0 where
  pub few : length others ≤ length items
  pub is : slowest order (length others) items ≡ others

-- wherever it starts, this view is one where that of a layout is, and has its rows; it leaves the other axes, if there are any
pub record HasRows (order : Order) (lens strides : List ℕ) (axis : Fastest) : Type 0 where
  pub slower_lens : IsSlowest order lens axis.lens.now
  pub slower_strides : IsSlowest order strides axis.strides.now
  pub one_less : length axis.lens.now ≡ length lens - 1
  pub is_view : (start : ℕ) → IsView (view_of start lens strides) → IsView (axis_view order start axis)
  pub rows : (start : ℕ) → IsView (view_of start lens strides)
      → view_rows order (axis_view order start axis) ≡ view_rows order (view_of start lens strides)

-- wherever it starts, this view is one where that of a layout is, and has its places
pub record HasPlaces (order : Order) (lens strides : List ℕ) (axis : Fastest) : Type 0 where
  pub slower_lens : IsSlowest order lens axis.lens.now
  pub slower_strides : IsSlowest order strides axis.strides.now
  pub is_view : (start : ℕ) → IsView (view_of start lens strides) → IsView (axis_view order start axis)
  pub places : (start : ℕ) → IsView (view_of start lens strides)
      → view_places order (axis_view order start axis) ≡ view_places order (view_of start lens strides)

-- this axis is the n axes of a layout that move fastest, joined, of this length and stride
pub record IsOneAxis (order : Order) (lens strides : List ℕ) (count len stride : ℕ) (axis : Fastest) : Type 0 where
  pub same_len : axis.len ≡ len
  pub same_stride : axis.stride ≡ stride
  pub slower_lens : axis.lens.now ≡ slower_than order count lens
  pub slower_strides : axis.strides.now ≡ slower_than order count strides

-- wherever a layout starts, no longer row begins it
abbrev pub NoLongerRow : Order → List ℕ → List ℕ → ℕ → Type 0
NoLongerRow order lens strides len = (start : ℕ) (row : Row) → IsView (view_of start lens strides)
    → BeginsAsRow (view_places order (view_of start lens strides)) row → row.len ≤ len

-- examples
last_by_rows : EndsIn {A = ℕ} RowMajor (2 ∷ 3 ∷ 4 ∷ []) (2 ∷ 3 ∷ []) 4
last_by_rows = record { is = refl }

first_by_columns : EndsIn {A = ℕ} ColumnMajor (2 ∷ 3 ∷ 4 ∷ []) (3 ∷ 4 ∷ []) 2
first_by_columns = record { is = refl }

not_the_first_by_rows : EndsIn {A = ℕ} RowMajor (2 ∷ 3 ∷ []) (3 ∷ []) 2 → ⊥
not_the_first_by_rows ends = both_ways (nat_eq 2 3) refl (eq-eqb 2 3 (ap (λ items. slice_index items 0) ends.is))

first_two_by_rows : IsSlowest {A = ℕ} RowMajor (2 ∷ 3 ∷ 4 ∷ []) (2 ∷ 3 ∷ [])
first_two_by_rows = record { few = lit≤ tt; is = refl }

not_the_last_by_rows : IsSlowest {A = ℕ} RowMajor (2 ∷ 3 ∷ []) (3 ∷ []) → ⊥
not_the_last_by_rows slowest = both_ways (nat_eq 2 3) refl (eq-eqb 2 3 (ap (λ items. slice_index items 0) slowest.is))
