-- What stands beside rows: as much as each row has places, and all of it one row after another.
use Rattle.std.proofs.Common.{◌≡◌, ℕ, ℤ, List, [], ◌∷◌, ◌++◌, Option, Some, length, map, refl, sym, ap, subst, ◌∙◌, arith}
use Rattle.std.specs.List.{AllZip, flat_map}
use Rattle.std.specs.Option.{option_map, option_zip}
use Rattle.std.specs.Prelude.{zip}
use Rattle.std.proofs.lemmas.List.{length-map, map-append}
use Rattle.std.proofs.lemmas.Simd.{length-zip2}
use Rattle.ndarray_layout.specs.declared.Row.{Row}
use Rattle.ndarray_layout.specs.Rows.{rows_places}
use Rattle.ndarray_layout.specs.Signed.{all_signed}
use Rattle.ndarray_layout.specs.View.{View, view_of}
use Rattle.ndarray_layout.proofs.Laws.Rows.{length-row_places}
use Rattle.nd_access.specs.Items.{item_at_place}
use Rattle.nd_access.specs.LentRow.{RowValue, places_of, row_items}
use Rattle.nd_access.specs.Written.{Maps}
use Rattle.nd_access.specs.Zipped.{pairs_of}
use Rattle.nd_access.proofs.Laws.PairRows.{pairs_append}
use Rattle.nd_loops.specs.Beside.{items_beside, nothing_beside}
use Rattle.nd_loops.proofs.Laws.CalledInside.{items_alone}
use Rattle.nd_loops.specs.declared.beside.Nothing.{Nothing}

-- ---- nothing
abbrev nothing : Row → Nothing
nothing row = record { row = row }

pub count_alone : (rows : List Row) → AllZip (λ row one. length (nothing_beside (places_of one.row)) ≡ row.len) rows (map nothing rows)
count_alone [] = tt
count_alone (row ∷ rows) =
    (length-map (places_of row) (λ place. Some (tt {0})) ∙ length-row_places row.start row.stride row.len, count_alone rows)

as_many_nothings : {X Y : Type 0} (xs : List X) (ys : List Y) → length xs ≡ length ys
    → map (λ x. Some (tt {0})) xs ≡ map (λ y. Some (tt {0})) ys
as_many_nothings [] [] count = refl
as_many_nothings [] (y ∷ ys) count = absurd (omega arith)
as_many_nothings (x ∷ xs) [] count = absurd (omega arith)
as_many_nothings (x ∷ xs) (y ∷ ys) count = ap (λ rest. Some (tt {0}) ∷ rest) (as_many_nothings xs ys (omega (arith, count)))

all_alone : (rows : List Row)
    → flat_map (λ one. nothing_beside (places_of one.row)) (map nothing rows) ≡ nothing_beside (rows_places rows)
all_alone [] = refl
all_alone (row ∷ rows) =
    ap (λ rest. nothing_beside (places_of row) ++ rest) (all_alone rows)
    ∙ sym (map-append (λ place. Some (tt {0})) (places_of row) (rows_places rows))

-- the items beside nothing are the items
pub items_of_alone : {T : Type 0} (items : List T) (rows : List Row)
    → map (option_map (λ one. one.0))
    (items_beside items (rows_places rows) (flat_map (λ one. nothing_beside (places_of one.row)) (map nothing rows)))
    ≡ map (item_at_place items) (rows_places rows)
items_of_alone items rows =
    ap (λ values. map (option_map (λ one. one.0)) (items_beside items (rows_places rows) values)) (all_alone rows)
    ∙ items_alone (map (item_at_place items) (rows_places rows)) (rows_places rows) (length-map (rows_places rows) (item_at_place items))

-- beside as many indices
pub values_alone : {X : Type 0} (rows : List Row) (indices : List X) → length (rows_places rows) ≡ length indices
    → flat_map (λ one. nothing_beside (places_of one.row)) (map nothing rows) ≡ map (λ index. Some (tt {0})) indices
values_alone rows indices count = all_alone rows ∙ as_many_nothings (rows_places rows) indices count

-- ---- other rows
count_of_row : {U : Type 0} (row : Row) (source : RowValue U) → row.len ≡ source.row.len → length (row_items source) ≡ row.len
count_of_row row source count =
    length-map (places_of source.row) (item_at_place source.items)
    ∙ length-row_places source.row.start source.row.stride source.row.len
    ∙ sym count

pub count_of_one : {U : Type 0} (rows : List Row) (sources : List (RowValue U))
    → AllZip (λ row source. row.len ≡ source.row.len) rows sources → AllZip (λ row one. length (row_items one) ≡ row.len) rows sources
count_of_one [] [] count = tt
count_of_one [] (source ∷ sources) count = absurd count
count_of_one (row ∷ rows) [] count = absurd count
count_of_one (row ∷ rows) (source ∷ sources) count = (count_of_row row source count.0, count_of_one rows sources count.1)

-- ---- and two of these
module _ {A B X Y : Type 0} (first : A → List (Option X)) (second : B → List (Option Y)) where
  pub count_of_two : (rows : List Row) (ones : List A) (others : List B) → AllZip (λ row one. length (first one) ≡ row.len) rows ones
      → AllZip (λ row one. length (second one) ≡ row.len) rows others
      → AllZip (λ row both. length (pairs_of (first both.0) (second both.1)) ≡ row.len) rows (zip ones others)
  count_of_two [] [] others also count = tt
  count_of_two [] (one ∷ ones) others also count = absurd also
  count_of_two (row ∷ rows) [] others also count = absurd also
  count_of_two (row ∷ rows) (one ∷ ones) [] also count = absurd count
  count_of_two (row ∷ rows) (one ∷ ones) (other ∷ others) also count = (
    length-zip2 option_zip (first one) (second other) (also.0 ∙ sym count.0) ∙ also.0,
    count_of_two rows ones others also.1 count.1,
  )

  pub all_of_two : (rows : List Row) (ones : List A) (others : List B)
      → AllZip (λ row one. length (first one) ≡ row.len) rows ones
      → AllZip (λ row one. length (second one) ≡ row.len) rows others
      → flat_map (λ both. pairs_of (first both.0) (second both.1)) (zip ones others)
      ≡ pairs_of (flat_map first ones) (flat_map second others)
  all_of_two [] [] others also count = refl
  all_of_two [] (one ∷ ones) others also count = absurd also
  all_of_two (row ∷ rows) [] others also count = absurd also
  all_of_two (row ∷ rows) (one ∷ ones) [] also count = absurd count
  all_of_two (row ∷ rows) (one ∷ ones) (other ∷ others) also count =
      ap (λ rest. pairs_of (first one) (second other) ++ rest) (all_of_two rows ones others also.1 count.1)
      ∙ sym (pairs_append (first one) (flat_map first ones) (second other) (flat_map second others) (also.0 ∙ sym count.0))

-- ---- a view, by its lists
pub view_of_lists : (view : View) {start : ℕ} {lens : List ℕ} (strides : List ℕ) → start ≡ view.start → lens ≡ view.shape
    → all_signed strides ≡ view.strides → view_of start lens strides ≡ view
view_of_lists view {lens = lens} strides begins is_shape are_strides =
    ap (λ start. view_of start lens strides) begins
    ∙ ap (λ lens. view_of view.start lens strides) is_shape
    ∙ ap (λ strides. record view { strides = strides }) are_strides

-- ---- the rows of a view, and what stands beside them
pub items_of_rows_beside : {T V : Type 0} (items : List T) {places all : List ℤ} {values beside : List (Option V)} → places ≡ all
    → values ≡ beside → items_beside items places values ≡ items_beside items all beside
items_of_rows_beside items {all = all} {values = values} are is =
    ap (λ places. items_beside items places values) are ∙ ap (items_beside items all) is

pub maps_of_rows_beside : {F T V : Type 0} {call : F → T × V → T → F → Type 0} {f : F} {places all : List ℤ} {old new : List T}
    {values beside : List (Option V)} → places ≡ all → values ≡ beside → Maps call f places (items_beside old places values) old new
    → Maps call f all (items_beside old all beside) old new
maps_of_rows_beside {call = call} {f} {all = all} {old} {new} {values} are is run =
    subst (λ beside. Maps call f all (items_beside old all beside) old new) is
    (subst (λ places. Maps call f places (items_beside old places values) old new) are run)
