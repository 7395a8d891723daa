-- Views whose places follow one another without a gap.
use Rattle.std.specs.Prelude.{◌≡◌, ℕ, pos, negsuc, [], ◌∷◌, if◌then◌else◌, ◌==◌, map, slice_index_or, refl}
use Rattle.std.specs.List.{range_with_len}
use Rattle.std.specs.Ordering.{int_eq}
use Rattle.std.proofs.Common.{ap}
use Rattle.std.proofs.lemmas.Bool.{both_ways}
use Rattle.std.proofs.lemmas.Bool.Decides.{Decides-int_eq}
use Rattle.nd_base.specs.declared.order.Order.{Order}
use Rattle.nd_base.specs.declared.order.Order.TheVariants.{RowMajor, ColumnMajor}
use Rattle.nd_base.specs.Size.{size}
use Rattle.ndarray_layout.specs.View.{View, view_places}

-- the places in an order are the start, start + 1 and so on, as many as there are indices
abbrev pub IsStretch : Order → View → Type 0
IsStretch order view = view_places order view ≡ map pos (range_with_len view.start (size view.shape))

-- the first of these places; 0 where there is no index
abbrev pub stretch_start : View → ℕ
stretch_start view = if size view.shape == 0 then 0 else view.start

-- examples
abbrev rows : View
rows = record { start = 4; shape = 2 ∷ 3 ∷ []; strides = pos 3 ∷ pos 1 ∷ [] }

abbrev columns : View
columns = record { start = 4; shape = 2 ∷ 3 ∷ []; strides = pos 1 ∷ pos 2 ∷ [] }

abbrev backwards : View
backwards = record { start = 5; shape = 2 ∷ []; strides = negsuc 0 ∷ [] }

abbrev one_of_a_stride : View
one_of_a_stride = record { start = 4; shape = 1 ∷ []; strides = pos 9 ∷ [] }

abbrev none : View
none = record { start = 4; shape = 2 ∷ 0 ∷ []; strides = pos 7 ∷ pos 9 ∷ [] }

by_rows : IsStretch RowMajor rows
by_rows = refl

by_columns : IsStretch ColumnMajor columns
by_columns = refl

of_one : IsStretch RowMajor one_of_a_stride
of_one = refl

of_none : IsStretch RowMajor none
of_none = refl

start_of_none : stretch_start none ≡ 0
start_of_none = refl

-- rows in column-major order: the second index lies at 7, and not at 5
rows_by_columns : IsStretch ColumnMajor rows → ⊥
rows_by_columns stretch =
    let second : pos 7 ≡ pos 5 = ap (λ places. slice_index_or places 1 (pos 0)) stretch in
    both_ways (int_eq (pos 7) (pos 5)) refl ((Decides-int_eq (pos 7) (pos 5)).1 second)

-- the last place first
last_first : IsStretch RowMajor backwards → ⊥
last_first stretch =
    let second : pos 4 ≡ pos 6 = ap (λ places. slice_index_or places 1 (pos 0)) stretch in
    both_ways (int_eq (pos 4) (pos 6)) refl ((Decides-int_eq (pos 4) (pos 6)).1 second)
