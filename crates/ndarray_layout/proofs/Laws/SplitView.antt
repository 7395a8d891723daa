-- Laws of the two parts of a view that is split along an axis: each index of the view is of one of them, and they lie apart.
use Rattle.std.proofs.Common.{◌≡◌, ◌⊎◌, ℕ, ◌+◌, ◌-◌, ◌<◌, ◌≤◌, ℤ, pos, ◌*ℤ◌, true, cond, None, Some, List, length}
use Rattle.std.proofs.Common.{get_or, set, ap, subst, ◌∙◌, inl, inr, arith}
use Rattle.std.specs.Prelude.{◌&&◌, nat_le, nat_lt}
use Rattle.std.proofs.lemmas.Bool.{and_from, and_parts, cases_lt, le-leb, leb-true, lt-ltb, ltb-true}
use Rattle.std.proofs.lemmas.List.{get_or-set_same, length-set, set-get_or, set-set}
use Rattle.nd_base.specs.declared.error.ErrorKind.TheVariants.{OutOfBounds}
use Rattle.nd_base.proofs.Laws.Coordinates.{is_index-set}
use Rattle.nd_base.proofs.Laws.Definitions.{is_index}
use Rattle.nd_base.proofs.Laws.IsIndex.{coordinate_of_index, length_of_index}
use Rattle.nd_base.proofs.Laws.Signed.{magnitude_from}
use Rattle.ndarray_layout.specs.Descends.{Descends}
use Rattle.ndarray_layout.specs.DistinctPlaces.{HasDistinctPlaces}
use Rattle.ndarray_layout.specs.SharePlace.{SharePlace}
use Rattle.ndarray_layout.specs.SplitView.{split_fault, first_part_of, second_start, second_part_of, second_source}
use Rattle.ndarray_layout.specs.View.{View, IsPlace, IsView}
use Rattle.ndarray_layout.proofs.AxisByAxis.{first_coordinates, range_cases, range_of, range_start}
use Rattle.ndarray_layout.proofs.OneAxis.{HasAxis, set_axis}
use Rattle.ndarray_layout.proofs.Passed.{passed}
use Rattle.ndarray_layout.proofs.Laws.KeepsPlaces.{Descends-told}
use Rattle.ndarray_layout.proofs.Laws.Sources.{Descends-from_start, Descends-own_sources, HasOwnSources, start_within}

-- where a split has no fault, there is the axis, and no more coordinates are asked for than it has
pub cut_of_no_fault : (shape : List ℕ) (axis index : ℕ) → split_fault shape axis index ≡ None
    → (axis < length shape) × (index ≤ get_or shape axis 0)
cut_of_no_fault shape axis index none =
    let parts = and_parts (nat_lt axis (length shape)) (nat_le index (get_or shape axis 0))
    (passed OutOfBounds (nat_lt axis (length shape) && nat_le index (get_or shape axis 0)) none) in
    (ltb-true axis (length shape) parts.0, leb-true index (get_or shape axis 0) parts.1)

pub no_fault_of_cut : (shape : List ℕ) (axis index : ℕ) → axis < length shape → index ≤ get_or shape axis 0
    → split_fault shape axis index ≡ None
no_fault_of_cut shape axis index there within =
    ap (λ here. cond here None (Some OutOfBounds))
    (and_from (nat_lt axis (length shape)) (nat_le index (get_or shape axis 0)) (lt-ltb axis (length shape) there)
    (le-leb index (get_or shape axis 0) within))

module _ (axis index : ℕ) (view : View) (v : IsView view) (none : split_fault view.shape axis index ≡ None) where
  abbrev len : ℕ
  len = get_or view.shape axis 0

  abbrev stride : ℤ
  stride = get_or view.strides axis (pos 0)

  there : axis < length view.shape
  there = (cut_of_no_fault view.shape axis index none).0

  within : index ≤ len
  within = (cut_of_no_fault view.shape axis index none).1

  has : HasAxis view.shape view.strides axis
  has = record { counts = v.valid.same_count; there = there }

  -- ---- the first part
  first : HasOwnSources (λ coordinates. set coordinates axis (get_or coordinates axis 0)) view.shape view.strides (pos 0)
      (set view.shape axis index) view.strides
  first = rw (set-get_or view.strides axis (pos 0)) at (set_axis view.shape view.strides axis has
      (first_coordinates len index stride within) (λ i j below also same. same))

  pub Descends-first_part_of : Descends (λ coordinates. coordinates) view (first_part_of axis index view)
  Descends-first_part_of = Descends-told (Descends-from_start v first) (λ coordinates here. set-get_or coordinates axis 0)

  -- ---- the second part
  second : HasOwnSources (λ coordinates. set coordinates axis (range_start index len + get_or coordinates axis 0)) view.shape view.strides
      (pos (range_start index len) *ℤ stride) (set view.shape axis (len - index)) view.strides
  second = rw (set-get_or view.strides axis (pos 0)) at (set_axis view.shape view.strides axis has
      (range_of len index len stride within (omega arith)) (λ i j below also same. omega arith))

  pub second_start_within : IsPlace (second_start axis index view)
  second_start_within = start_within v second.sources

  pub start-second_part_of : pos (second_part_of axis index view).start ≡ second_start axis index view
  start-second_part_of = magnitude_from (second_start axis index view) second_start_within.0

  -- a coordinate of an axis of another length
  coordinate : (count : ℕ) (coordinates : List ℕ) → is_index (set view.shape axis count) coordinates ≡ true
      → get_or coordinates axis 0 < count
  coordinate count coordinates here = subst (λ n. get_or coordinates axis 0 < n) (get_or-set_same view.shape axis count 0 there)
      (coordinate_of_index (set view.shape axis count) coordinates axis here (omega (arith, length-set view.shape axis count, there)))

  pub Descends-second_part_of : Descends (second_source axis index) view (second_part_of axis index view)
  Descends-second_part_of = Descends-told (Descends-own_sources v second start-second_part_of) (λ coordinates here.
      let below = coordinate (len - index) coordinates here in
      elim (range_cases index len) [
        | inl some ↦ ap (λ from. set coordinates axis (from + get_or coordinates axis 0)) some.1
        | inr none ↦ absurd (omega (arith, none.0))
      ])

  -- ---- both parts
  -- no index of one has the place of an index of the other, where no two indices of the view share a place
  pub parts_are_apart : HasDistinctPlaces view → SharePlace (first_part_of axis index view) (second_part_of axis index view) → ⊥
  parts_are_apart distinct (coordinates, here, (others, also, same)) =
      let low = coordinate index coordinates here in
      let stays = Descends-second_part_of.places others also in
      let one = distinct coordinates (second_source axis index others) (Descends-first_part_of.places coordinates here).0 stays.0
      (same ∙ stays.1) in
      let count = length_of_index (set view.shape axis (len - index)) others also in
      let far = ap (λ full. get_or full axis 0) one ∙ get_or-set_same others axis (index + get_or others axis 0) 0
      (omega (arith, count, length-set view.shape axis (len - index), there)) in
      absurd (omega (arith, low, far))

  -- each index of the view is an index of the first part, or one of the second part stands for it
  pub index_of_a_part : (coordinates : List ℕ) → is_index view.shape coordinates ≡ true
      → (is_index (first_part_of axis index view).shape coordinates ≡ true)
      ⊎ ((other : List ℕ) × (is_index (second_part_of axis index view).shape other ≡ true) × (second_source axis index other ≡ coordinates))
  index_of_a_part coordinates here =
      let i = get_or coordinates axis 0 in
      let below = coordinate_of_index view.shape coordinates axis here there in
      let count = length_of_index view.shape coordinates here in
      elim (cases_lt i index) [
        | inl first ↦ inl (rw (set-get_or coordinates axis 0) at (is_index-set view.shape coordinates here axis index i there first))
        | inr second ↦
            let other = set coordinates axis (i - index) in
            let moved : index + get_or other axis 0 ≡ i =
            ap (λ n. index + n) (get_or-set_same coordinates axis (i - index) 0 (omega (arith, there))) ∙ omega arith in
            inr (
              other,
              is_index-set view.shape coordinates here axis (len - index) (i - index) there (omega arith),
              set-set coordinates axis (i - index) (index + get_or other axis 0) ∙ ap (set coordinates axis) moved
                  ∙ set-get_or coordinates axis 0,
            )
      ]
