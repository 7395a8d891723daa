-- Rows whose places a right has to itself: the first is a part, and then the right has the others.
use Rattle.std.proofs.Common.{◌≡◌, ◌≢◌, ℕ, ◌+◌, ◌<◌, ℤ, pos, ◌+ℤ◌, ◌*ℤ◌, Bool, true, false, List, [], ◌∷◌, ◌++◌, length, get_or, refl, sym}
use Rattle.std.proofs.Common.{Option, Some, None, option_map, drop, take, map, ◌-◌, inl, inr, ap, subst, ◌∙◌, arith}
use Rattle.std.specs.List.{AllPairs}
use Rattle.std.specs.Prelude.{nat_lt, slice_get}
use Rattle.std.proofs.lemmas.Bool.{and_parts, cases_lt, false≢true, ltb-true}
use Rattle.std.proofs.lemmas.Int.{ints}
use Rattle.std.proofs.lemmas.Grind.{flat_map-append}
use Rattle.std.proofs.lemmas.List.{append-nil, get_or-append-add, length-append, length-map, map-append, take-append-drop}
use Rattle.std.proofs.lemmas.Option.{none-some, same_Some, slice_get_within}
use Rattle.ndarray_layout.specs.declared.Row.{Row}
use Rattle.ndarray_layout.specs.DistinctPlaces.{HasDistinctPlaces}
use Rattle.ndarray_layout.specs.Indices.{is_index}
use Rattle.ndarray_layout.specs.Rows.{row_places, row_view, rows_places}
use Rattle.ndarray_layout.specs.View.{View, IsView, place_at}
use Rattle.ndarray_layout.proofs.Laws.Rows.{get_or-row_places, left_from, length-row_places, none_left_from, places-row_view}
use Rattle.nd_access.specs.Cells.{without}
use Rattle.nd_access.specs.Items.{ArrayValue, item_at_place, items_of}
use Rattle.nd_access.specs.Own.{AreOwn}
use Rattle.nd_access.specs.RowArray.{row_array}
use Rattle.nd_access.specs.Part.{has_mark, AreMarked, IsPart, marks_of}
use Rattle.nd_access.specs.Read.{HaveMarks}
use Rattle.nd_access.proofs.Laws.Between.{last_between}
use Rattle.nd_access.proofs.Laws.OwnPlaces.{own_first, own_second, own_swapped}
use Rattle.nd_access.proofs.Laws.Lists.{all_first, other_default, pairs_first, pairs_second, parts_apart}
use Rattle.nd_access.proofs.Laws.Marks.{mark_left, part_of_own}

-- an index of a row is a coordinate
record IsAt (row : Row) (index : List ℕ) : Type 0 where
  coordinate : ℕ
  is : index ≡ coordinate ∷ []
  below : coordinate < row.len
  at : (d : ℤ) → place_at (row_view row) index ≡ get_or (row_places row.start row.stride row.len) coordinate d

at_of : (row : Row) (index : List ℕ) → is_index (row.len ∷ []) index ≡ true → IsAt row index
at_of row [] h = absurd (false≢true h)
at_of row (i ∷ []) h =
    let below = ltb-true i row.len (and_parts (nat_lt i row.len) true h).0 in
    let alone : place_at (row_view row) (i ∷ []) ≡ pos row.start +ℤ (pos i *ℤ row.stride) = omega (arith, ints) in
    record {
      coordinate = i;
      is = refl;
      below = below;
      at = λ d. alone ∙ sym (get_or-row_places row.start row.stride row.len i d below);
    }
at_of row (i ∷ j ∷ index) h = absurd (false≢true (and_parts (nat_lt i row.len) false h).1)

-- where each place of a row has a mark, each of its indices has one there
pub marked_row : (marks : List Bool) (row : Row) → HaveMarks marks (row_places row.start row.stride row.len)
    → AreMarked marks (row_view row)
marked_row marks row have index is =
    let a = at_of row index is in
    subst (λ place. has_mark marks place ≡ true) (sym (a.at (pos 0)))
    (have a.coordinate (pos 0) (omega (arith, a.below, length-row_places row.start row.stride row.len)))

module _ (marks : List Bool) (row : Row) (rest : List ℤ) (own : AreOwn marks (row_places row.start row.stride row.len ++ rest)) where
  abbrev here : List ℤ
  here = row_places row.start row.stride row.len

  row_marked : AreMarked marks (row_view row)
  row_marked = marked_row marks row (all_first (λ place. has_mark marks place ≡ true) here rest own.marked)

  -- no two of its coordinates have one place
  apart : AllPairs (λ one other. one ≢ other) here
  apart = pairs_first (λ one other. one ≢ other) here rest own.apart

  row_distinct : HasDistinctPlaces (row_view row)
  row_distinct index other is also same =
      let a = at_of row index is in
      let b = at_of row other also in
      let places : get_or here a.coordinate (pos 0) ≡ get_or here b.coordinate (pos 0) = sym (a.at (pos 0)) ∙ same ∙ b.at (pos 0) in
      let long = length-row_places row.start row.stride row.len in
      let one : a.coordinate ≡ b.coordinate = elim (cases_lt a.coordinate b.coordinate) [
        | inl first ↦ absurd (apart a.coordinate b.coordinate (pos 0) first (omega (arith, b.below, long)) places)
        | inr later ↦ elim (cases_lt b.coordinate a.coordinate) [
          | inl second ↦ absurd (apart b.coordinate a.coordinate (pos 0) second (omega (arith, a.below, long)) (sym places))
          | inr neither ↦ omega (arith, later, neither)
        ]
      ] in
      a.is ∙ ap (λ i. i ∷ []) one ∙ sym b.is

  -- so it is a part, where it is a view
  pub row_is_part : IsView (row_view row) → IsPart marks (row_view row)
  row_is_part is = record { is_view = is; marked = row_marked; distinct = row_distinct }

  pub row_is_own : IsView (row_view row) → IsPart (marks_of (length marks) (row_view row)) (row_view row)
  row_is_own is = record { is_view = is; marked = part_of_own marks (row_view row) row_marked; distinct = row_distinct }

  -- and the others are left
  pub other_rows_are_own : AreOwn (without (marks_of (length marks) (row_view row)) marks) rest
  other_rows_are_own = record {
    marked = λ k d below.
        let at = get_or rest k d in
        mark_left marks (row_view row) row_marked at
        (subst (λ place. has_mark marks place ≡ true) (get_or-append-add here rest k d)
        (own.marked (length here + k) d (omega (arith, length-append here rest))))
        (λ index is same.
        let a = at_of row index is in
        parts_apart here rest own.apart a.coordinate d (omega (arith, a.below, length-row_places row.start row.stride row.len))
        (k, below, sym (sym (a.at d) ∙ same ∙ other_default rest k d (get_or here a.coordinate d) below)));
    apart = pairs_second (λ one other. one ≢ other) here rest own.apart;
  }

-- ---- a row that is found by its number
-- what is found is a function of an item
record IsOf {A B : Type 0} (f : A → B) (found : Option A) (y : B) : Type 0 where
  item : A
  there : Some item ≡ found
  is : y ≡ f item

is_of : {A B : Type 0} (f : A → B) (found : Option A) {y : B} → Some y ≡ option_map f found → IsOf f found y
is_of f None {y} e = absurd (none-some y (sym e))
is_of f (Some x) {y} e = record { item = x; there = refl; is = same_Some y (f x) e }

-- or there is none
none_of : {A B : Type 0} (f : A → B) (found : Option A) → None ≡ option_map f found → None ≡ found
none_of f None e = refl
none_of f (Some x) e = absurd (none-some (f x) e)

pub none_left : (rows : List Row) (number : ℕ) → None ≡ option_map row_view (slice_get rows number) → drop number rows ≡ []
none_left rows number none = none_left_from rows number (none_of row_view (slice_get rows number) none)

module _ (marks : List Bool) (rows : List Row) (number : ℕ) {row : View} (own : AreOwn marks (rows_places (drop number rows)))
    (found : Some row ≡ option_map row_view (slice_get rows number)) where
  one : IsOf row_view (slice_get rows number) row
  one = is_of row_view (slice_get rows number) found

  left : drop number rows ≡ one.item ∷ drop (number + 1) rows
  left = left_from rows number one.there

  owned : AreOwn marks (row_places one.item.start one.item.stride one.item.len ++ rows_places (drop (number + 1) rows))
  owned = subst (λ rows. AreOwn marks (rows_places rows)) left own

  pub next_below : number < length rows
  next_below = slice_get_within rows number one.item (sym one.there)

  -- it is a part, whose marks are its own
  pub next_is_part : IsView row → IsPart marks row
  next_is_part is = subst (IsPart marks) (sym one.is)
      (row_is_part marks one.item (rows_places (drop (number + 1) rows)) owned (subst IsView one.is is))

  pub next_is_own : IsView row → IsPart (marks_of (length marks) row) row
  next_is_own is = subst (λ view. IsPart (marks_of (length marks) view) view) (sym one.is)
      (row_is_own marks one.item (rows_places (drop (number + 1) rows)) owned (subst IsView one.is is))

  -- and the others are left
  pub others_left : AreOwn (without (marks_of (length marks) row) marks) (rows_places (drop (number + 1) rows))
  others_left = subst (λ view. AreOwn (without (marks_of (length marks) view) marks) (rows_places (drop (number + 1) rows))) (sym one.is)
      (other_rows_are_own marks one.item (rows_places (drop (number + 1) rows)) owned)

  pub next_comes : {T : Type 0} (items : List T) {kept : List T} {array : ArrayValue T} → array ≡ record { items = items; view = row }
      → kept ≡ items → map (row_array items) (drop number rows) ≡ array ∷ map (row_array kept) (drop (number + 1) rows)
  next_comes items {kept} {array} same stays =
      let others = drop (number + 1) rows in
      ap (map (row_array items)) left
      ∙ ap (λ view. record { items = items; view = view } ∷ map (row_array items) others) (sym one.is)
      ∙ ap (λ first. first ∷ map (row_array items) others) (sym same)
      ∙ ap (λ xs. array ∷ map (row_array xs) others) (sym stays)

-- ---- the last row, which is found by its number too
-- the places of rows and of one after them
pub places_and : (rows : List Row) (row : Row)
    → rows_places (rows ++ row ∷ []) ≡ rows_places rows ++ row_places row.start row.stride row.len
places_and rows row =
    let places = row_places row.start row.stride row.len in
    flat_map-append (λ row. row_places row.start row.stride row.len) rows (row ∷ [])
    ∙ ap (λ last. rows_places rows ++ last) (append-nil places)

module _ (marks : List Bool) (all : List Row) (begun end : ℕ) {row : View} (some : begun < end)
    (own : AreOwn marks (rows_places (drop begun (take end all))))
    (found : Some row ≡ option_map row_view (slice_get all (end - 1))) where
  abbrev before : List Row
  before = drop begun (take (end - 1) all)

  last : IsOf row_view (slice_get all (end - 1)) row
  last = is_of row_view (slice_get all (end - 1)) found

  after_others : drop begun (take end all) ≡ before ++ last.item ∷ []
  after_others = last_between all begun end some last.there

  own_last : AreOwn marks (row_places last.item.start last.item.stride last.item.len ++ rows_places before)
  own_last = own_swapped (rows_places before) (row_places last.item.start last.item.stride last.item.len)
      (subst (AreOwn marks) (ap rows_places after_others ∙ places_and before last.item) own)

  -- it is a part
  pub last_is_part : IsView row → IsPart marks row
  last_is_part is = subst (IsPart marks) (sym last.is)
      (row_is_part marks last.item (rows_places before) own_last (subst IsView last.is is))

  -- and those before it are left
  pub before_left : AreOwn (without (marks_of (length marks) row) marks) (rows_places before)
  before_left = subst (λ view. AreOwn (without (marks_of (length marks) view) marks) (rows_places before)) (sym last.is)
      (other_rows_are_own marks last.item (rows_places before) own_last)

  pub last_comes : {T : Type 0} (items : List T) {kept : List T} {array : ArrayValue T} → array ≡ record { items = items; view = row }
      → kept ≡ items → map (row_array items) (drop begun (take end all)) ≡ map (row_array kept) before ++ array ∷ []
  last_comes items {kept} {array} same stays =
      ap (map (row_array items)) after_others
      ∙ map-append (row_array items) before (last.item ∷ [])
      ∙ ap (λ view. map (row_array items) before ++ record { items = items; view = view } ∷ []) (sym last.is)
      ∙ ap (λ one. map (row_array items) before ++ one ∷ []) (sym same)
      ∙ ap (λ xs. map (row_array xs) before ++ array ∷ []) (sym stays)

-- ---- a row of places that are left
-- as a part it has the items at them
module _ {T : Type 0} (row : Row) (items : List T) (some : 0 < row.len) (is : IsView (row_view row)) {array : ArrayValue T}
    (same : array ≡ row_array items row) where
  items_of_row : items_of array ≡ map (item_at_place items) (row_places row.start row.stride row.len)
  items_of_row = ap items_of same ∙ ap (map (item_at_place items)) (places-row_view row some is)

  pub some_items : items_of array ≢ []
  some_items none =
      omega (
        arith,
        some,
        ap length (sym items_of_row ∙ none),
        length-map (row_places row.start row.stride row.len) (item_at_place items),
        length-row_places row.start row.stride row.len,
      )

  module _ (others : List ℤ) {kept : List T} {before : List (Option T)} (stays : kept ≡ items) where
    -- and the items at the others are left, after it or before it
    pub front_row_comes : before ≡ map (item_at_place items) (row_places row.start row.stride row.len ++ others)
        → before ≡ items_of array ++ map (item_at_place kept) others
    front_row_comes was =
        was
        ∙ map-append (item_at_place items) (row_places row.start row.stride row.len) others
        ∙ ap (λ first. first ++ map (item_at_place items) others) (sym items_of_row)
        ∙ ap (λ xs. items_of array ++ map (item_at_place xs) others) (sym stays)

    pub back_row_comes : before ≡ map (item_at_place items) (others ++ row_places row.start row.stride row.len)
        → before ≡ map (item_at_place kept) others ++ items_of array
    back_row_comes was =
        was
        ∙ map-append (item_at_place items) others (row_places row.start row.stride row.len)
        ∙ ap (λ last. map (item_at_place items) others ++ last) (sym items_of_row)
        ∙ ap (λ xs. map (item_at_place xs) others ++ items_of array) (sym stays)

-- ---- of some of them
-- those of rows after so many, and as many of the first
module _ {marks : List Bool} (count : ℕ) (rows : List Row) (own : AreOwn marks (rows_places rows)) where
  in_two : rows_places rows ≡ rows_places (take count rows) ++ rows_places (drop count rows)
  in_two = ap rows_places (sym (take-append-drop count rows))
      ∙ flat_map-append (λ row. row_places row.start row.stride row.len) (take count rows) (drop count rows)

  pub own_rows_dropped : AreOwn marks (rows_places (drop count rows))
  own_rows_dropped = own_second (rows_places (take count rows)) (rows_places (drop count rows)) (subst (AreOwn marks) in_two own)

  pub own_rows_taken : AreOwn marks (rows_places (take count rows))
  own_rows_taken = own_first (rows_places (take count rows)) (rows_places (drop count rows)) (subst (AreOwn marks) in_two own)
