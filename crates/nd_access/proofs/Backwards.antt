-- Rows whose items lie one just before the other: as a slice they are in the other order.
use Rattle.std.proofs.Common.{◌≡◌, ℕ, ◌+◌, ◌-◌, ◌<◌, ◌≤◌, ℤ, pos, negsuc, ◌+ℤ◌, ◌*ℤ◌, Some, None, List, length, get_or}
use Rattle.std.proofs.Common.{map, take, drop, reverse, sym, ap, subst, ◌∙◌, arith}
use Rattle.std.specs.List.{range_with_len}
use Rattle.std.specs.Prelude.{slice_get}
use Rattle.std.proofs.lemmas.Int.{ints}
use Rattle.std.proofs.lemmas.List.{get_or-map, get_or-reverse, length-map, length-reverse}
use Rattle.std.proofs.lemmas.List.FromFn.{fill_by_all, get_or-map-range_with_len, length-map-range_with_len}
use Rattle.ndarray_layout.specs.declared.Row.{Row}
use Rattle.ndarray_layout.specs.Bounds.{IsInBounds}
use Rattle.ndarray_layout.specs.Rows.{row_places}
use Rattle.ndarray_layout.proofs.Laws.Rows.{get_or-row_places, length-row_places}
use Rattle.nd_access.specs.Items.{item_at_place}
use Rattle.nd_access.specs.LentRow.{HasRow, row_items, row_of}
use Rattle.nd_access.proofs.Laws.Neighbours.{got_between}
use Rattle.nd_access.proofs.Laws.RowItems.{begins, coordinate_in_bounds}

-- ---- where such a row lies
pub record LiesBackwards (count : ℕ) (row : Row) : Type 0 where
  pub last : row.len ≤ row.start + 1
  pub first : row.start < count

not_below_0 : (count start len : ℕ) → 0 < len → IsInBounds count (pos start +ℤ (pos (len - 1) *ℤ negsuc 0)) → len ≤ start + 1
not_below_0 count start len some within = from (pos start +ℤ (pos (len - 1) *ℤ negsuc 0)) (omega (arith, ints)) within
  where
    from : (place : ℤ) → place +ℤ pos (len - 1) ≡ pos start → IsInBounds count place → len ≤ start + 1
    from (pos n) is within = omega (arith, ints, is)
    from (negsuc n) is within = absurd within

pub lies_backwards : {count : ℕ} (row : Row) → HasRow count row → row.stride ≡ negsuc 0 → LiesBackwards count row
lies_backwards {count} row has stride =
    record {
      last = not_below_0 count row.start row.len has.some
          (subst (λ s. IsInBounds count (pos row.start +ℤ (pos (row.len - 1) *ℤ s))) stride
          (coordinate_in_bounds count row.start row.stride row.len (row.len - 1) has.within (omega (arith, has.some))));
      first = begins count row.start row.stride row.len has.within has.some;
    }

-- ---- its items
one_of_them : {T : Type 0} (items : List T) (start len begin k : ℕ) → len ≤ start + 1 → begin + len ≡ start + 1 → k < len
    → get_or (reverse (map (slice_get items) (range_with_len begin len))) k None
    ≡ item_at_place items (pos start +ℤ (pos k *ℤ negsuc 0))
one_of_them items start len begin k last begins below =
    let long = length-map-range_with_len (slice_get items) begin len in
    let count : length (map (slice_get items) (range_with_len begin len)) - 1 - k ≡ len - 1 - k = omega (arith, long) in
    let at : pos (start - k) ≡ pos start +ℤ (pos k *ℤ negsuc 0) = omega (arith, ints) in
    get_or-reverse (map (slice_get items) (range_with_len begin len)) k None (omega (arith, long))
    ∙ ap (λ i. get_or (map (slice_get items) (range_with_len begin len)) i None) count
    ∙ get_or-map-range_with_len (slice_get items) begin len (len - 1 - k) (start - k) None (omega arith) (omega arith)
    ∙ ap (item_at_place items) at

pub backwards_items : {T : Type 0} (items : List T) (row : Row) (begin : ℕ) {n : ℕ} → HasRow (length items) row → row.stride ≡ negsuc 0
    → n ≡ row.len → begin + row.len ≡ row.start + 1
    → reverse (map Some (take n (drop begin items))) ≡ row_items (row_of items row)
backwards_items items row begin has step long at =
    let lies = lies_backwards row has step in
    let places = row_places row.start row.stride row.len in
    let slice = map (slice_get items) (range_with_len begin row.len) in
    let one = λ (i : ℕ). item_at_place items (pos row.start +ℤ (pos i *ℤ negsuc 0)) in
    let begins : begin + row.len ≡ row.start + 1 = at in
    ap (λ n. reverse (map Some (take n (drop begin items)))) long
    ∙ ap reverse (sym (got_between items begin row.len (omega (arith, begins, lies.first))))
    ∙ fill_by_all one (reverse slice) row.len None
    (length-reverse slice ∙ length-map-range_with_len (slice_get items) begin row.len)
    (λ k below. one_of_them items row.start row.len begin k lies.last begins below)
    ∙ sym (fill_by_all one (row_items (row_of items row)) row.len None
    (length-map places (item_at_place items) ∙ length-row_places row.start row.stride row.len)
    (λ k below.
    get_or-map (item_at_place items) places k (pos 0) None (omega (arith, below, length-row_places row.start row.stride row.len))
    ∙ ap (item_at_place items) (get_or-row_places row.start row.stride row.len k (pos 0) below
    ∙ ap (λ s. pos row.start +ℤ (pos k *ℤ s)) step)))
