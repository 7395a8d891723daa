-- A slice of at most one element leaves at most one axis, along which there is at most one row.
use Rattle.std.proofs.Common.{◌≡◌, ℕ, zero, suc, ◌<◌, ◌≤◌, ℤ, Option, Some, None, List, [], ◌∷◌, length, take, refl, ap, subst, ◌∙◌, arith}
use Rattle.std.specs.List.{All}
use Rattle.std.proofs.lemmas.List.{length-append, take_all}
use Rattle.std.proofs.lemmas.List.Elements.{All-head, All-tail}
use Rattle.ndarray_layout.specs.declared.Fit.TheVariants.{Strict}
use Rattle.ndarray_layout.specs.declared.Order.TheVariants.{RowMajor}
use Rattle.ndarray_layout.specs.declared.Row.{Row}
use Rattle.ndarray_layout.specs.declared.SliceInfoElem.{SliceInfoElem}
use Rattle.ndarray_layout.specs.declared.SliceInfoElem.TheVariants as elem
use Rattle.ndarray_layout.specs.Memory.{NeedsNoMemory}
use Rattle.ndarray_layout.specs.Place.{places}
use Rattle.ndarray_layout.specs.Rows.{BeginsAsRow, row_places, row_view, rows_places}
use Rattle.ndarray_layout.specs.Size.{size}
use Rattle.ndarray_layout.specs.SliceFault.{in_count, out_count}
use Rattle.ndarray_layout.specs.SlicedLayout.{sliced_shape}
use Rattle.ndarray_layout.specs.View.{IsView, View, view_places}
use Rattle.ndarray_layout.proofs.Laws.Rows.{length-row_places, no_more, places-row_view}
use Rattle.ndarray_layout.proofs.Laws.View.{length-view_places}

-- ---- axes
-- how many a slice is of, and leaves
pub few_axes : (elems : List SliceInfoElem) (shape : List ℕ) → length elems ≤ 1
    → (in_count elems ≤ 1) × (out_count elems ≤ 1) × (length (sliced_shape Strict elems shape) ≤ 1)
few_axes [] shape few = (omega arith, omega arith, omega arith)
few_axes (elem.NewAxis ∷ []) shape few = (omega arith, omega arith, omega arith)
few_axes (elem.Slice start end step ∷ []) [] few = (omega arith, omega arith, omega arith)
few_axes (elem.Slice start end step ∷ []) (len ∷ shape) few = (omega arith, omega arith, omega arith)
few_axes (elem.Index index ∷ []) [] few = (omega arith, omega arith, omega arith)
few_axes (elem.Index index ∷ []) (len ∷ shape) few = (omega arith, omega arith, omega arith)
few_axes (one ∷ other ∷ elems) shape few = absurd (omega (arith, few))

pub needs_none : (count : Option ℕ) (axes : ℕ) → axes ≤ 1 → NeedsNoMemory count axes
needs_none None axes few = omega (arith, few)
needs_none (Some fixed) axes few = tt

-- ---- rows
-- a row as long as all rows together is the only one
no_other : (n : ℕ) (rows : List Row) → All (λ row. 0 < row.len) rows → All (λ row. n ≤ row.len) rows → length (rows_places rows) ≤ n
    → length rows ≤ 1
no_other n [] some long within = omega arith
no_other n (row ∷ rows) some long within =
    omega (
      arith,
      within,
      All-head (λ row. n ≤ row.len) row rows long,
      no_more rows (All-tail (λ row. 0 < row.len) row rows some),
      length-append (row_places row.start row.stride row.len) (rows_places rows),
      length-row_places row.start row.stride row.len,
    )

pub one_row : (view : View) (rows : List Row) → IsView view → rows_places rows ≡ view_places RowMajor view → All (λ row. 0 < row.len) rows
    → ((other : Row) → BeginsAsRow (view_places RowMajor view) other → All (λ row. other.len ≤ row.len) rows)
    → length view.shape ≤ 1 → length rows ≤ 1
one_row view rows v are some longest few = by view.shape view.strides refl refl
  where
    all : length rows ≤ size view.shape
    all = omega (arith, no_more rows some, ap length are, length-view_places RowMajor view)

    by : (shape : List ℕ) (strides : List ℤ) → view.shape ≡ shape → view.strides ≡ strides → length rows ≤ 1
    by [] strides same also = omega (arith, all, ap size same)
    by (zero ∷ []) strides same also = omega (arith, all, ap size same)
    by (suc n ∷ []) [] same also = absurd (omega (arith, v.valid.same_count, ap length same, ap length also))
    by (suc n ∷ []) (stride ∷ step ∷ strides) same also = absurd (omega (arith, v.valid.same_count, ap length same, ap length also))
    by (suc n ∷ []) (stride ∷ []) same also =
        let row : Row = record { start = view.start; stride = stride; len = suc n } in
        let one : IsView (row_view row) =
        subst (λ shape. IsView (record { start = view.start; shape = shape; strides = stride ∷ [] })) same
        (subst (λ strides. IsView (record { start = view.start; shape = view.shape; strides = strides })) also v) in
        let places_are : view_places RowMajor view ≡ row_places view.start stride (suc n) =
        ap (λ strides. places RowMajor view.start view.shape strides) also
        ∙ ap (λ shape. places RowMajor view.start shape (stride ∷ [])) same
        ∙ places-row_view row (omega arith) one in
        let count = length-row_places view.start stride (suc n) in
        let begins : BeginsAsRow (view_places RowMajor view) row =
        ap (take (suc n)) places_are ∙ take_all (suc n) (row_places view.start stride (suc n)) (omega (arith, count)) in
        no_other (suc n) rows some (longest row begins) (omega (arith, count, ap length are, ap length places_are))
    by (n ∷ m ∷ shape) strides same also = absurd (omega (arith, few, ap length same))
