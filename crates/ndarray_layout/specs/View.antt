-- A view: a shape with strides and a start, as a function from indices to places in the data.
use Rattle.std.specs.Prelude.{◌≡◌, ℕ, ◌+◌, ◌≤◌, ℤ, ◌≤ℤ◌, pos, negsuc, Option, Some, None, if◌then◌else◌, List, [], ◌∷◌, nat_eq, refl}
use Rattle.std.proofs.Common.{eq-eqb}
use Rattle.std.proofs.Math.Arith.{le→nltb}
use Rattle.std.proofs.lemmas.Bool.{both_ways}
use Rattle.nd_base.specs.declared.order.Order.{Order}
use Rattle.nd_base.specs.declared.order.Order.TheVariants.{RowMajor, ColumnMajor}
use Rattle.nd_base.specs.Indices.{is_index}
use Rattle.nd_base.specs.Signed.{all_signed}
use Rattle.nd_base.specs.Size.{limit}
use Rattle.nd_base.specs.Span.{low_span, high_span}
use Rattle.nd_base.specs.ValidLayout.{IsValidLayout}
use Rattle.nd_base.specs.Bounds.{LiesInBounds}
use Rattle.nd_base.specs.Place.{place, places}

-- a shape with strides, and the place of the first index, which is the start
pub record View : Type 0 where
  pub start : ℕ
  pub shape : List ℕ
  pub strides : List ℤ

-- the view of strides that are given as the `usize` of the same bits
abbrev pub view_of : ℕ → List ℕ → List ℕ → View
view_of start shape strides = record { start = start; shape = shape; strides = all_signed strides }

-- a place that a view may have, from 0 to the limit
abbrev pub IsPlace : ℤ → Type 0
IsPlace place = (pos 0 ≤ℤ place) × (place ≤ℤ pos limit)

-- every sum and product fits, and the places of all indices lie from 0 to the limit
pub record IsView (view : View) : Type 0 where
  pub valid : IsValidLayout view.shape view.strides
  pub low : low_span view.shape view.strides ≤ view.start
  pub high : view.start + high_span view.shape view.strides ≤ limit

-- the place of an index
abbrev pub place_at : View → List ℕ → ℤ
place_at view index = place view.start view.strides index

-- the place of a list where it is an index of the shape
abbrev pub checked_place : View → List ℕ → Option ℤ
checked_place view index = (if is_index view.shape index then Some (place_at view index) else None)

-- the places of all indices, in an order
abbrev pub view_places : Order → View → List ℤ
view_places order view = places order view.start view.shape view.strides

-- each index has its place in data of len elements
abbrev pub LiesWithin : ℕ → View → Type 0
LiesWithin len view = LiesInBounds len view.start view.shape view.strides

-- examples
crossed : view_places RowMajor (record { start = 0; shape = 3 ∷ 2 ∷ []; strides = pos 2 ∷ pos 3 ∷ [] })
    ≡ pos 0 ∷ pos 3 ∷ pos 2 ∷ pos 5 ∷ pos 4 ∷ pos 7 ∷ []
crossed = refl

both_backwards : view_places RowMajor (record { start = 5; shape = 2 ∷ 3 ∷ []; strides = negsuc 2 ∷ negsuc 0 ∷ [] })
    ≡ pos 5 ∷ pos 4 ∷ pos 3 ∷ pos 2 ∷ pos 1 ∷ pos 0 ∷ []
both_backwards = refl

both_backwards_by_columns : view_places ColumnMajor (record { start = 5; shape = 2 ∷ 3 ∷ []; strides = negsuc 2 ∷ negsuc 0 ∷ [] })
    ≡ pos 5 ∷ pos 2 ∷ pos 4 ∷ pos 1 ∷ pos 3 ∷ pos 0 ∷ []
both_backwards_by_columns = refl

within : checked_place (record { start = 3; shape = 2 ∷ []; strides = negsuc 1 ∷ [] }) (1 ∷ []) ≡ Some (pos 1)
within = refl

outside : checked_place (record { start = 3; shape = 2 ∷ []; strides = negsuc 1 ∷ [] }) (2 ∷ []) ≡ None
outside = refl

place_below_the_data : LiesWithin 4 (record { start = 0; shape = 2 ∷ []; strides = negsuc 0 ∷ [] }) → ⊥
place_below_the_data within = within (1 ∷ []) refl

before_the_data : IsPlace (negsuc 0) → ⊥
before_the_data is = is.0.le

start_too_low : IsView (record { start = 1; shape = 3 ∷ []; strides = negsuc 0 ∷ [] }) → ⊥
start_too_low view = le→nltb 1 2 view.low

one_stride_for_two_axes : IsView (record { start = 0; shape = 2 ∷ 3 ∷ []; strides = pos 1 ∷ [] }) → ⊥
one_stride_for_two_axes view = both_ways (nat_eq 2 1) refl (eq-eqb 2 1 view.valid.same_count)
