-- A layout with its axes turned round has the places of the turned indices.
use Rattle.std.proofs.Common.{◌≡◌, ℕ, ℤ, pos, ◌+ℤ◌, List, length, reverse, arith, refl, sym, ap, ◌∙◌}
use Rattle.std.proofs.lemmas.List.{reverse-reverse, length-reverse}
use Rattle.nd_base.specs.declared.order.Order.{Order}
use Rattle.nd_base.specs.declared.order.Order.TheVariants.{RowMajor, ColumnMajor}
use Rattle.nd_base.proofs.Laws.Definitions.{as_read, indices, offset_of, place, places}
use Rattle.nd_base.proofs.Laws.Indices.{map-indices_in}
use Rattle.nd_base.proofs.Laws.IsIndex.{length_of_index}
use Rattle.nd_base.proofs.Laws.Offset.{offset_of-reverse}
use Rattle.std.proofs.lemmas.Simd.{map-map}

-- the places in an order, with the axes turned where the first moves fastest
pub places-as_read : (order : Order) (start : ℕ) (shape : List ℕ) (strides : List ℤ) → length shape ≡ length strides
    → places RowMajor start (as_read order shape) (as_read order strides) ≡ places order start shape strides
places-as_read RowMajor start shape strides e = refl
places-as_read ColumnMajor start shape strides e =
    let turned = reverse strides in
    map-indices_in RowMajor (place start turned) (λ x. place start strides (reverse x)) (reverse shape) (λ x h.
    let counts : length turned ≡ length x = omega (
      arith,
      length_of_index (reverse shape) x h,
      length-reverse shape,
      length-reverse
          strides,
    ) in
    ap (λ z. pos start +ℤ z) (sym (offset_of-reverse turned x counts) ∙ ap (λ s. offset_of s (reverse x)) (reverse-reverse strides)))
    ∙ sym (map-map (place start strides) reverse (indices (reverse shape)))
