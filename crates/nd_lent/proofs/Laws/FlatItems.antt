-- Laws of the items of a view whose places follow one another: the item of an index is that of its flat index, and none lies past them.
use Rattle.std.proofs.Common.{◌≡◌, ℕ, ◌+◌, ◌*◌, ◌<◌, ◌≤◌, pos, true, List, [], ◌∷◌, map, sym, ap, subst, ◌∙◌, arith}
use Rattle.std.specs.List.{Contains, range_with_len}
use Rattle.std.specs.Prelude.{None, slice_get}
use Rattle.std.proofs.lemmas.Bool.{cond-true}
use Rattle.std.proofs.lemmas.List.FromFn.{get_or-map-range_with_len, length-map-range_with_len}
use Rattle.ndarray_layout.specs.declared.Order.{Order}
use Rattle.ndarray_layout.specs.declared.Order.TheVariants.{RowMajor}
use Rattle.ndarray_layout.specs.Indices.{is_index}
use Rattle.ndarray_layout.specs.FlatIndex.{flat_index_in}
use Rattle.ndarray_layout.specs.Signed.{magnitude}
use Rattle.ndarray_layout.specs.Size.{size}
use Rattle.ndarray_layout.specs.Stretch.{IsStretch}
use Rattle.ndarray_layout.specs.View.{IsView, place_at, view_places}
use Rattle.ndarray_layout.proofs.Laws.RowMajor.{place_in_row, standard_view}
use Rattle.ndarray_layout.proofs.Laws.Stretch.{place_in_stretch}
use Rattle.nd_access.specs.Items.{ArrayValue, item_at, item_at_place}

-- an index of the shape has the item at its place
pub item_of_index : {T : Type 0} (array : ArrayValue T) (index : List ℕ) → is_index array.view.shape index ≡ true
    → item_at array index ≡ item_at_place array.items (place_at array.view index)
item_of_index array index here =
    cond-true (is_index array.view.shape index) (item_at_place array.items (place_at array.view index)) None here

-- from the start on in an order: item `start + flat index` of the list
pub item_in_stretch : {T : Type 0} (order : Order) (array : ArrayValue T) (index : List ℕ) → IsStretch order array.view
    → is_index array.view.shape index ≡ true
    → item_at array index ≡ slice_get array.items (array.view.start + flat_index_in order array.view.shape index)
item_in_stretch order array index stretch here =
    item_of_index array index here ∙ ap (item_at_place array.items) (place_in_stretch order array.view index stretch here)

-- of a picture of h rows of w, one after another from the first item on, the item of row r and column c is item `r * w + c`
pub item_in_row : {T : Type 0} (h w r c : ℕ) (array : ArrayValue T) → IsView array.view → array.view ≡ standard_view RowMajor (h ∷ w ∷ [])
    → is_index (h ∷ w ∷ []) (r ∷ c ∷ []) ≡ true → item_at array (r ∷ c ∷ []) ≡ slice_get array.items (r * w + c)
item_in_row h w r c array v is here =
    item_of_index array (r ∷ c ∷ []) (subst (λ shape. is_index shape (r ∷ c ∷ []) ≡ true) (sym (ap (λ view. view.shape) is)) here)
    ∙ ap (item_at_place array.items) (place_in_row h w r c v is here)

-- no index has a place past them, nor before the first
pub place_within_stretch : {T : Type 0} (order : Order) (array : ArrayValue T) (place : ℕ) → IsStretch order array.view
    → Contains (view_places order array.view) (pos place)
    → (array.view.start ≤ place) × (place < array.view.start + size array.view.shape)
place_within_stretch order array place stretch here =
    let numbers = range_with_len array.view.start (size array.view.shape) in
    let found : Contains (map pos numbers) (pos place) = subst (λ places. Contains places (pos place)) stretch here in
    let many = length-map-range_with_len pos array.view.start (size array.view.shape) in
    let below : found.0 < size array.view.shape = omega (arith, found.1, many) in
    let is : array.view.start + found.0 ≡ place =
    ap magnitude (sym (get_or-map-range_with_len pos array.view.start (size array.view.shape) found.0 (array.view.start + found.0)
    (pos place) below (omega arith)) ∙ found.2) in
    (omega (arith, is), omega (arith, is, below))
