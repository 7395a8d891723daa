-- The rows of a view from their starts, and the items of the axis that moves fastest.
use Rattle.std.proofs.Common.{◌≡◌, ◌-◌, ℕ, ℤ, pos, Bool, true, false, cond, List, [], ◌∷◌, length, map, nat_eq, get_or, refl, ap, ◌∙◌, sym}
use Rattle.std.proofs.Math.ListN.{get_or-map}
use Rattle.std.proofs.lemmas.List.{length-map}
use Rattle.ndarray_layout.specs.declared.Order.{Order}
use Rattle.ndarray_layout.specs.declared.Order.TheVariants.{RowMajor, ColumnMajor}
use Rattle.ndarray_layout.specs.declared.Row.{Row}
use Rattle.ndarray_layout.specs.Rows.{fastest_item, row_at, slower_view, view_rows}
use Rattle.ndarray_layout.specs.Signed.{signed, all_signed}
use Rattle.ndarray_layout.specs.Size.{size}
use Rattle.ndarray_layout.specs.View.{View, view_places}
use Rattle.ndarray_layout_c.specs.RowsFrom.{rows_from}

-- the stride of the axis that moves fastest
pub fastest_signed : (order : Order) (strides : List ℕ)
    → signed (fastest_item order strides 0) ≡ fastest_item order (all_signed strides) (pos 0)
fastest_signed RowMajor strides =
    sym (get_or-map signed strides (length strides - 1) 0)
    ∙ ap (λ n. get_or (all_signed strides) (n - 1) (pos 0)) (sym (length-map strides signed))
fastest_signed ColumnMajor strides = sym (get_or-map signed strides 0 0)

module _ (order : Order) (view : View) where
  abbrev from : List ℕ → List Row
  from = rows_from (fastest_item order view.strides (pos 0)) (fastest_item order view.shape 1)

  from_each : (places : List ℤ) → from (map (λ row. row.start) (map (row_at order view) places)) ≡ map (row_at order view) places
  from_each [] = refl
  from_each (place ∷ places) = ap (λ rows. row_at order view place ∷ rows) (from_each places)

  -- rows with the stride and the length of the axis that moves fastest, from where those of the view start, are those
  pub from_starts : from (map (λ row. row.start) (view_rows order view)) ≡ view_rows order view
  from_starts = by (nat_eq (size view.shape) 0)
    where
      by : (none : Bool)
          → from (map (λ row. row.start) (cond none [] (map (row_at order view) (view_places order (slower_view order view)))))
          ≡ cond none [] (map (row_at order view) (view_places order (slower_view order view)))
      by true = refl
      by false = from_each (view_places order (slower_view order view))
