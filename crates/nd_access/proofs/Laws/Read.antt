-- Items that are read by their places: which of these have marks.
use Rattle.std.proofs.Common.{◌≡◌, ℕ, ◌+◌, ◌-◌, ◌<◌, ◌≤◌, ℤ, pos, negsuc, ◌+ℤ◌, ◌*ℤ◌, Bool, true, false, Some, None, List, [], ◌∷◌}
use Rattle.std.proofs.Common.{◌++◌, length, get_or, drop, take, map, sym, ap, subst, ◌∙◌, arith}
use Rattle.std.specs.List.{All}
use Rattle.std.specs.List.Sorted.{IsPermutation}
use Rattle.std.specs.Prelude.{replicate, slice_get}
use Rattle.std.proofs.lemmas.Int.{ints}
use Rattle.std.proofs.lemmas.Grind.{flat_map-append}
use Rattle.std.proofs.lemmas.List.{get_or-map, map_push, take-append-drop}
use Rattle.std.proofs.lemmas.List.Elements.{All-drop, All-head, All-map, All-tail, All-take, All-weaker}
use Rattle.std.proofs.lemmas.List.Sorted.{All-permutation, IsPermutation-sym}
use Rattle.ndarray_layout.specs.declared.Order.{Order}
use Rattle.ndarray_layout.specs.declared.Order.TheVariants.{RowMajor}
use Rattle.ndarray_layout.specs.declared.Row.{Row}
use Rattle.ndarray_layout.specs.Bounds.{IsInBounds}
use Rattle.ndarray_layout.specs.Descends.{Descends, IsViewOf}
use Rattle.ndarray_layout.specs.Indices.{is_index, indices_in}
use Rattle.ndarray_layout.specs.Rows.{row_places, row_view, rows_places}
use Rattle.ndarray_layout.specs.View.{View, IsView, place_at, view_places}
use Rattle.ndarray_layout.proofs.Laws.Indices.{All-indices_in}
use Rattle.ndarray_layout.proofs.Laws.Rows.{get_or-row_places, length-row_places}
use Rattle.nd_access.specs.ArrayView.{HasItems}
use Rattle.nd_access.specs.Cells.{are_within, span_of}
use Rattle.nd_access.specs.Items.{item_at_place}
use Rattle.nd_access.specs.LentRow.{HasRow, is_contiguous, places_of, row_items, row_of}
use Rattle.nd_access.specs.Part.{has_mark, AreMarked}
use Rattle.nd_access.specs.Read.{AreRead, AreRowsRead, HaveMarks, IsRead, IsRowRead}
use Rattle.nd_access.proofs.Laws.BothEnds.{all_second}
use Rattle.nd_access.proofs.Laws.ItemPlaces.{are_in_bounds}
use Rattle.nd_access.proofs.Laws.Lists.{all_first}
use Rattle.nd_access.proofs.Laws.Marks.{in_bounds_marked, marked_step}
use Rattle.nd_access.proofs.Laws.OwnRows.{marked_row, places_and}
use Rattle.nd_access.proofs.Laws.RestOfRow.{row_that_is_view}
use Rattle.nd_access.proofs.Laws.RowArrays.{row_has_items}
use Rattle.nd_access.proofs.Laws.RowsLent.{contiguous_places, rows_have_items}
use Rattle.nd_access.proofs.Laws.SliceOfPart.{mark_in_bounds, span_within}

-- ---- of a view that was made of another one
pub read_step : {source : List ℕ → List ℕ} {old new : View} {marks : List Bool} {count : ℕ} → Descends source old new
    → IsRead marks count old → IsRead marks count new
read_step {marks = marks} {count} kept read = record {
  has = record { is_view = kept.is_view; within = kept.in_bounds count read.has.within };
  marked = marked_step marks kept read.marked;
}

pub read_view : {source : List ℕ → List ℕ} {old new : View} {marks : List Bool} {count : ℕ} → IsViewOf source old new
    → IsRead marks count old → IsRead marks count new
read_view {marks = marks} {count} kept read = record {
  has = record { is_view = kept.is_view; within = kept.in_bounds count read.has.within };
  marked = λ index here. let from = kept.places index here in ap (has_mark marks) from.1 ∙ read.marked _ from.0;
}

-- ---- of all items
pub all_have_marks : (count : ℕ) (places : List ℤ) → All (IsInBounds count) places → HaveMarks (replicate count true) places
all_have_marks count places within =
    All-weaker (IsInBounds count) (λ place. has_mark (replicate count true) place ≡ true) (in_bounds_marked count) places within

pub all_read : {count : ℕ} {view : View} → HasItems count view → IsRead (replicate count true) count view
all_read {count} {view} has = record {
  has = has;
  marked = λ index here. in_bounds_marked count (place_at view index) (has.within index here);
}

pub row_all_read : {count : ℕ} (row : Row) → HasRow count row → IsRowRead (replicate count true) count row
row_all_read {count} row has = record { has = has; marked = all_have_marks count (places_of row) has.within }

-- ---- of the places of a view
pub places_marked : (marks : List Bool) (order : Order) (view : View) → AreMarked marks view → HaveMarks marks (view_places order view)
places_marked marks order view marked =
    let indices = indices_in order view.shape in
    All-map (λ place. has_mark marks place ≡ true) (place_at view) indices
    (All-weaker (λ index. is_index view.shape index ≡ true) (λ index. has_mark marks (place_at view index) ≡ true) marked
    indices (All-indices_in order view.shape))

-- ---- of a row
module _ (marks : List Bool) (row : Row) (have : HaveMarks marks (places_of row)) where
  pub mark_of_coordinate : {coordinate place : ℕ} → coordinate < row.len → pos place ≡ pos row.start +ℤ (pos coordinate *ℤ row.stride)
      → get_or marks place false ≡ true
  mark_of_coordinate {coordinate} {place} below is =
      let at = get_or-row_places row.start row.stride row.len coordinate (pos 0) below in
      ap (has_mark marks) (is ∙ sym at) ∙ have coordinate (pos 0) (omega (arith, below, length-row_places row.start row.stride row.len))

pub read_of_coordinate : {T : Type 0} (items : List T) {item : T} (row : Row) {coordinate place : ℕ} → coordinate < row.len
    → pos place ≡ pos row.start +ℤ (pos coordinate *ℤ row.stride) → slice_get items place ≡ Some item
    → get_or (row_items (row_of items row)) coordinate None ≡ Some item
read_of_coordinate items row {coordinate} {place} below is got =
    let places = row_places row.start row.stride row.len in
    let under : coordinate < length places = omega (arith, below, length-row_places row.start row.stride row.len) in
    get_or-map (item_at_place items) places coordinate (pos 0) None under
    ∙ ap (item_at_place items) (get_or-row_places row.start row.stride row.len coordinate (pos 0) below ∙ sym is)
    ∙ got

-- ---- of neighbours, as a slice
pub span_read : (marks : List Bool) (start len : ℕ) → 0 < len → ((k : ℕ) → k < len → get_or marks (start + k) false ≡ true)
    → (are_within (span_of start len marks) marks ≡ true) × (start + len ≤ length marks)
span_read marks start len some each =
    let last = mark_in_bounds marks (start + (len - 1)) (each (len - 1) (omega (arith, some))) in (
      span_within start len marks (λ k at below is. subst (λ (place : ℕ). get_or marks place false ≡ true) is (each k below)),
      omega (arith, last, some),
    )

pub contiguous_read : {marks : List Bool} {count : ℕ} (row : Row) → IsRowRead marks count row → is_contiguous row ≡ true
    → (are_within (span_of row.start row.len marks) marks ≡ true) × (row.start + row.len ≤ length marks)
contiguous_read {marks} row read is =
    let by_one : Row = record { start = row.start; stride = pos 1; len = row.len } in
    let have = subst (HaveMarks marks) (contiguous_places row is) read.marked in
    span_read marks row.start row.len read.has.some (λ k below. mark_of_coordinate marks by_one have below (omega (arith, ints)))

pub backwards_read : {marks : List Bool} {count : ℕ} (row : Row) → IsRowRead marks count row → row.stride ≡ negsuc 0
    → row.len ≤ row.start + 1
    → (are_within (span_of (row.start + 1 - row.len) row.len marks) marks ≡ true) × (row.start + 1 - row.len + row.len ≤ length marks)
backwards_read {marks} row read step last =
    span_read marks (row.start + 1 - row.len) row.len read.has.some (λ k below.
    mark_of_coordinate marks row read.marked {coordinate = row.len - 1 - k} (omega (arith, below))
    (subst (λ s. pos (row.start + 1 - row.len + k) ≡ pos row.start +ℤ (pos (row.len - 1 - k) *ℤ s)) (sym step)
    (omega (arith, ints, below, last))))

-- which as a view has them at its indices
pub row_read : {marks : List Bool} {count : ℕ} (row : Row) → IsRowRead marks count row → IsRead marks count (row_view row)
row_read {marks} row read = record { has = row_has_items row read.has; marked = marked_row marks row read.marked }

-- ---- of rows, of which the first or the last is read
module _ {marks : List Bool} {count : ℕ} (rows : List Row) (read : AreRowsRead marks count rows) where
  pub first_row_read : {row : Row} {others : List Row} → rows ≡ row ∷ others → IsRowRead marks count row
  first_row_read {row} {others} is =
      let all = subst (AreRowsRead marks count) is read in
      record {
        has = All-head (HasRow count) row others all.has;
        marked = all_first (λ place. has_mark marks place ≡ true) (places_of row) (rows_places others) all.marked;
      }

  pub other_rows_read : {row : Row} {others : List Row} → rows ≡ row ∷ others → AreRowsRead marks count others
  other_rows_read {row} {others} is =
      let all = subst (AreRowsRead marks count) is read in
      record {
        has = All-tail (HasRow count) row others all.has;
        marked = all_second (λ place. has_mark marks place ≡ true) (places_of row) (rows_places others) all.marked;
      }

  pub last_row_read : (row : Row) (others : List Row) → rows ≡ others ++ row ∷ [] → IsRowRead marks count row
  last_row_read row others is =
      let all = subst (AreRowsRead marks count) is read in
      record {
        has = All-head (HasRow count) row [] (all_second (HasRow count) others (row ∷ []) all.has);
        marked = all_second (λ place. has_mark marks place ≡ true) (rows_places others) (places_of row)
            (subst (HaveMarks marks) (places_and others row) all.marked);
      }

  pub rows_before_read : (row : Row) (others : List Row) → rows ≡ others ++ row ∷ [] → AreRowsRead marks count others
  rows_before_read row others is =
      let all = subst (AreRowsRead marks count) is read in
      record {
        has = all_first (HasRow count) others (row ∷ []) all.has;
        marked = all_first (λ place. has_mark marks place ≡ true) (rows_places others) (places_of row)
            (subst (HaveMarks marks) (places_and others row) all.marked);
      }

-- rows whose places are those of a view, in some order
pub rows_of_view_read : {marks : List Bool} {count : ℕ} (view : View) (rows : List Row)
    → IsPermutation (rows_places rows) (view_places RowMajor view) → IsRead marks count view → All (λ row. 0 < row.len) rows
    → AreRowsRead marks count rows
rows_of_view_read {marks} view rows moved read some = record {
  has = rows_have_items RowMajor view rows moved read.has.is_view read.has.within some;
  marked = All-permutation (λ place. has_mark marks place ≡ true) (view_places RowMajor view) (rows_places rows)
      (IsPermutation-sym (rows_places rows) (view_places RowMajor view) moved) (places_marked marks RowMajor view read.marked);
}

-- those that are left where some are left out, from the front or at the back
module _ {marks : List Bool} {count : ℕ} (rows : List Row) (read : AreRowsRead marks count rows) (n : ℕ) where
  in_two : rows_places (take n rows) ++ rows_places (drop n rows) ≡ rows_places rows
  in_two =
      sym (flat_map-append (λ row. row_places row.start row.stride row.len) (take n rows) (drop n rows))
      ∙ ap rows_places (take-append-drop n rows)

  both : HaveMarks marks (rows_places (take n rows) ++ rows_places (drop n rows))
  both = subst (HaveMarks marks) (sym in_two) read.marked

  pub rows_read_after : {left : List Row} → left ≡ drop n rows → AreRowsRead marks count left
  rows_read_after is = subst (AreRowsRead marks count) (sym is) (record {
    has = All-drop (HasRow count) n rows read.has;
    marked = all_second (λ place. has_mark marks place ≡ true) (rows_places (take n rows)) (rows_places (drop n rows)) both;
  })

  pub rows_read_before : {left : List Row} → left ≡ take n rows → AreRowsRead marks count left
  rows_read_before is = subst (AreRowsRead marks count) (sym is) (record {
    has = All-take (HasRow count) n rows read.has;
    marked = all_first (λ place. has_mark marks place ≡ true) (rows_places (take n rows)) (rows_places (drop n rows)) both;
  })

-- ---- of the places that an iterator has still to come to
pub places_read : {marks : List Bool} {count : ℕ} (view : View) {places : List ℤ} → IsRead marks count view
    → places ≡ view_places RowMajor view → AreRead marks count places
places_read {marks} view read are = record {
  within = are_in_bounds view read.has.within are;
  marked = subst (HaveMarks marks) (sym are) (places_marked marks RowMajor view read.marked);
}

-- ---- of those in two parts, those of each
module _ {marks : List Bool} {count : ℕ} (xs ys : List ℤ) {left : List ℤ} (is : left ≡ xs ++ ys) (read : AreRead marks count left) where
  in_parts : AreRead marks count (xs ++ ys)
  in_parts = subst (AreRead marks count) is read

  pub front_read : AreRead marks count xs
  front_read = record {
    within = all_first (IsInBounds count) xs ys in_parts.within;
    marked = all_first (λ place. has_mark marks place ≡ true) xs ys in_parts.marked;
  }

  pub back_read : AreRead marks count ys
  back_read = record {
    within = all_second (IsInBounds count) xs ys in_parts.within;
    marked = all_second (λ place. has_mark marks place ≡ true) xs ys in_parts.marked;
  }

-- a place among them has a mark
pub one_read : {marks : List Bool} {count place : ℕ} → AreRead marks count (pos place ∷ []) → get_or marks place false ≡ true
one_read {marks} {place = place} read = All-head (λ place. has_mark marks place ≡ true) (pos place) [] read.marked

-- a row of them that has some, where its view is accepted
pub row_of_places_read : {marks : List Bool} {count : ℕ} (row : Row) → 0 < row.len → IsView (row_view row)
    → AreRead marks count (places_of row) → IsRowRead marks count row
row_of_places_read row some is read = record { has = row_that_is_view row some is read.within; marked = read.marked }

-- the item of the first comes before those of the others, that of the last after them
module _ {T : Type 0} (items : List T) {item : T} (place : ℕ) (got : slice_get items place ≡ Some item) where
  pub first_is : {left others : List ℤ} → left ≡ pos place ∷ others
      → map (item_at_place items) left ≡ Some item ∷ map (item_at_place items) others
  first_is {others = others} first = ap (map (item_at_place items)) first ∙ ap (λ one. one ∷ map (item_at_place items) others) got

  pub last_is : (others : List ℤ) {left : List ℤ} → left ≡ others ++ pos place ∷ []
      → map (item_at_place items) left ≡ map (item_at_place items) others ++ Some item ∷ []
  last_is others last =
      ap (map (item_at_place items)) last
      ∙ map_push (item_at_place items) others (pos place)
      ∙ ap (λ one. map (item_at_place items) others ++ one ∷ []) got
