-- Views of some coordinates of an axis: those that come one after another are apart, as are the views at the coordinates themselves.
use Rattle.std.proofs.Common.{◌≡◌, ℕ, ◌+◌, ◌-◌, ◌<◌, ◌≤◌, Bool, true, Option, Some, None, List, get_or, length, ap, sym, subst, ◌∙◌, arith}
use Rattle.std.specs.List.{All}
use Rattle.std.specs.Prelude.{cond, nat_lt, remove, slice_get, slice_index}
use Rattle.std.proofs.lemmas.Bool.{and_from, lt-ltb}
use Rattle.std.proofs.lemmas.List.Edits.{get_or-insert_at, length-remove}
use Rattle.std.proofs.lemmas.Option.{get_or_from_slice_get}
use Rattle.ndarray_layout.specs.declared.ErrorKind.TheVariants.{OutOfBounds}
use Rattle.ndarray_layout.specs.CollapsedView.{collapse_fault}
use Rattle.ndarray_layout.specs.Descends.{Descends}
use Rattle.ndarray_layout.specs.DistinctPlaces.{HasDistinctPlaces}
use Rattle.ndarray_layout.specs.IndexedView.{index_source, indexed_of}
use Rattle.ndarray_layout.specs.Indices.{is_index}
use Rattle.ndarray_layout.specs.Memory.{NeedsNoMemory}
use Rattle.ndarray_layout.specs.SharePlace.{SharePlace}
use Rattle.ndarray_layout.specs.View.{IsView, View}
use Rattle.ndarray_layout.proofs.Laws.IndexedView.{Descends-indexed_of}
use Rattle.ndarray_layout.proofs.Laws.IsIndex.{length_of_index}
use Rattle.nd_access.specs.Part.{IsPart}
use Rattle.nd_access.specs.Read.{IsRead}
use Rattle.nd_access.proofs.Laws.Marks.{part_descendant}
use Rattle.nd_access.proofs.Laws.Read.{read_step}
use Rattle.nd_lent.specs.AlongAxis.{views_along}
use Rattle.nd_lent.specs.private.OwnedViews.{OwnsEach}
use Rattle.nd_lent.proofs.MadeByNumber.{all_made, made, pairs_made}

-- the coordinates of the sources of a view's indices lie from one up to another
abbrev pub LieBetween : (source : List ℕ → List ℕ) (part : View) (axis from to : ℕ) → Type 0
LieBetween source part axis from to = (index : List ℕ) → is_index part.shape index ≡ true
    → (from ≤ slice_index (source index) axis) × (slice_index (source index) axis < to)

-- of those that come one after another, of coordinates of their own, each is read, or is a part that shares no place with another
module _ {view : View} (axis : ℕ) (at : ℕ → View) (count : ℕ) (source : ℕ → List ℕ → List ℕ)
    (kept : (k : ℕ) → k < count → Descends (source k) view (at k)) where
  pub read_made : {marks : List Bool} {items : ℕ} → IsRead marks items view → All (IsRead marks items) (made at count)
  read_made {marks} {items} read = all_made at count (IsRead marks items) (λ k below. read_step (kept k below) read)

  module _ (from : ℕ → ℕ) (rises : (j k : ℕ) → j ≤ k → from j ≤ from k)
      (lie : (k : ℕ) → k < count → LieBetween (source k) (at k) axis (from k) (from (k + 1))) where
    apart : HasDistinctPlaces view → (j k : ℕ) → j < k → k < count → SharePlace (at j) (at k) → ⊥
    apart distinct j k before below share =
        let early : j < count = omega (arith, before, below) in
        let first = (kept j early).places share.0 share.1 in
        let second = (kept k below).places (share.2).0 (share.2).1 in
        let equal = distinct (source j share.0) (source k (share.2).0) first.0 second.0 (sym first.1 ∙ (share.2).2 ∙ second.1) in
        let coordinate = ap (λ (index : List ℕ). slice_index index axis) equal in
        let here = lie j early share.0 share.1 in
        let there = lie k below (share.2).0 (share.2).1 in
        omega (arith, here.1, there.0, coordinate, rises (j + 1) k (omega (arith, before)))

    pub own_made : {marks : List Bool} → IsPart marks view → OwnsEach marks (made at count)
    own_made {marks} part = record {
      parts = all_made at count (IsPart marks) (λ k below. part_descendant marks (kept k below) part);
      apart = pairs_made at count (λ one other. SharePlace one other → ⊥) (apart part.distinct);
    }

-- ---- a coordinate of an axis may be taken
pub no_fault_at : (shape : List ℕ) (axis index : ℕ) → axis < length shape → index < get_or shape axis 0
    → collapse_fault shape axis index ≡ None
no_fault_at shape axis index there below =
    ap (λ here. cond here None (Some OutOfBounds))
    (and_from (nat_lt axis (length shape)) (nat_lt index (get_or shape axis 0)) (lt-ltb axis (length shape) there)
    (lt-ltb index (get_or shape axis 0) below))

-- and as many axes are left
pub needs_none : (ndim : Option ℕ) (shape : List ℕ) (axis : ℕ) → axis < length shape → NeedsNoMemory ndim (length (remove shape axis))
    → NeedsNoMemory ndim (length shape - 1)
needs_none ndim shape axis there = subst (NeedsNoMemory ndim) (let one = length-remove shape axis there in omega (arith, one))

-- the length of an axis, as it is read
pub length_read : (shape : List ℕ) (axis : ℕ) {len : ℕ} → slice_get shape axis ≡ Some len → len ≡ get_or shape axis 0
length_read shape axis {len} there = sym (get_or_from_slice_get shape axis len 0 there)

-- ---- the views at all coordinates
-- each index without the axis stands for one with that coordinate
pub lie_at : (view : View) (axis index : ℕ) → axis < length view.shape
    → LieBetween (index_source axis index) (indexed_of axis index view) axis index (index + 1)
lie_at view axis index there coordinates here =
    let many = length_of_index (remove view.shape axis) coordinates here in
    let same = get_or-insert_at coordinates axis index 0 (omega (arith, there, many, length-remove view.shape axis there)) in
    (omega (arith, same), omega (arith, same))

module _ {view : View} (axis : ℕ) (is : IsView view) (there : axis < length view.shape) where
  abbrev at : ℕ → View
  at index = indexed_of axis index view

  kept_at : (index : ℕ) → index < slice_index view.shape axis → Descends (index_source axis index) view (at index)
  kept_at index below = Descends-indexed_of axis index view is (no_fault_at view.shape axis index there below)

  pub along_read : {marks : List Bool} {items : ℕ} → IsRead marks items view → {views : List View} → views ≡ views_along axis view
      → All (IsRead marks items) views
  along_read {marks} {items} read are =
      subst (All (IsRead marks items)) (sym are) (read_made axis at (slice_index view.shape axis) (index_source axis) kept_at read)

  pub along_own : {marks : List Bool} → IsPart marks view → {views : List View} → views ≡ views_along axis view → OwnsEach marks views
  along_own {marks} part are = subst (OwnsEach marks) (sym are)
      (own_made axis at (slice_index view.shape axis) (index_source axis) kept_at (λ k. k) (λ j k ordered. ordered)
      (λ k below. lie_at view axis k there) part)
