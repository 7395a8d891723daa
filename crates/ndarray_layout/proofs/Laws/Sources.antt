-- Laws of layouts whose indices lie where indices of another layout do, their sources: what each step from view to view proves of
-- itself, and what follows. The reach is read off the indices. So that an empty shape has some too, a length of 0 counts as 1 there,
-- as in spans.
use Rattle.std.proofs.Common.{◌≡◌, ℕ, zero, suc, ◌+◌, ◌*◌, ◌<◌, ◌≤◌, ℤ, pos, negsuc, ◌+ℤ◌, true, false, List, [], ◌∷◌, length, map}
use Rattle.std.proofs.Common.{Bool, cond, get_or, replicate, refl, sym, ap, subst, ◌∙◌, arith, inl, inr}
use Rattle.std.specs.Prelude.{max}
use Rattle.std.specs.Cmp.Lexicographic.{bytes_decides}
use Rattle.std.specs.List.{All, Contains}
use Rattle.std.proofs.lemmas.Bool.{cases_eq, ne_eqb, or_from}
use Rattle.std.proofs.lemmas.Cmp.{nat_list_eq_equiv}
use Rattle.std.proofs.lemmas.Int.{ints}
use Rattle.std.proofs.lemmas.List.{get_or-map, length-map, length-replicate}
use Rattle.std.proofs.lemmas.List.Elements.{All-contains}
use Rattle.std.proofs.lemmas.Map.Made.{IsDistinct-from_AllPairs, is_member-Decides, length-le_from_is_member}
use Rattle.nd_base.specs.declared.order.Order.TheVariants.{RowMajor}
use Rattle.nd_base.proofs.Laws.Coordinates.{is_index_of_larger}
use Rattle.nd_base.proofs.Laws.Definitions.{indices_in, is_empty, is_index, limit, nonzero_size, offset_of, reach_down}
use Rattle.nd_base.proofs.Laws.Definitions.{high_span, low_span, magnitude, reach, reach_up, size, sum_over_axes}
use Rattle.nd_base.proofs.Laws.Indices.{All-indices_in, AllPairs-indices_in, Contains-indices_in, length-indices_in}
use Rattle.nd_base.proofs.Laws.IsIndex.{is_index-zeros}
use Rattle.nd_base.proofs.Laws.NonzeroSize.{nonzero_size_of_nonempty, nonzero_size_of_other, nonzero_size_of_zero}
use Rattle.nd_base.proofs.Laws.Offset.{offset_of-zeros}
use Rattle.nd_base.proofs.Laws.Flipped.{greatest_offset, least_offset}
use Rattle.nd_base.proofs.Laws.Span.{low_high_span}
use Rattle.ndarray_layout.specs.BlocksView.{strides_of_blocks}
use Rattle.ndarray_layout.specs.Descends.{Descends, IsViewOf}
use Rattle.ndarray_layout.specs.KeepsPlaces.{KeepsPlaces}
use Rattle.ndarray_layout.specs.View.{View, IsPlace, IsView}
use Rattle.ndarray_layout.proofs.Laws.KeepsPlaces.{Descends-kept, IsViewOf-kept}
use Rattle.ndarray_layout.proofs.Laws.View.{view_place}

-- ---- lengths of 0 as lengths of 1
-- a shape with this length in place of each that is less
abbrev pub at_least : ℕ → List ℕ → List ℕ
at_least least shape = map (max least) shape

pub at_least_none : (shape : List ℕ) → at_least 0 shape ≡ shape
at_least_none [] = refl
at_least_none (len ∷ shape) =
    let none : max 0 len ≡ len = omega arith in
    ap (λ n. n ∷ at_least 0 shape) none ∙ ap (λ rest. len ∷ rest) (at_least_none shape)

some-at_least : (shape : List ℕ) → is_empty (at_least 1 shape) ≡ false
some-at_least [] = refl
some-at_least (len ∷ shape) = or_from _ (is_empty (at_least 1 shape)) (ne_eqb (max 1 len) 0 (λ e. omega arith)) (some-at_least shape)

size-at_least : (shape : List ℕ) → nonzero_size (at_least 1 shape) ≡ nonzero_size shape
size-at_least [] = refl
size-at_least (len ∷ shape) =
    let rest = nonzero_size (at_least 1 shape) in
    let whole : nonzero_size (at_least 1 (len ∷ shape)) ≡ max 1 len * rest =
    nonzero_size_of_other (max 1 len) (at_least 1 shape) (λ e. omega arith) in
    elim (cases_eq len 0) [
      | inl none ↦
          let one : max 1 len ≡ 1 = omega arith in
          omega (arith, whole, ap (λ n. n * rest) one, size-at_least shape, nonzero_size_of_zero len shape none)
      | inr some ↦
          let same : max 1 len ≡ len = omega arith in
          whole ∙ ap (λ n. n * rest) same ∙ ap (λ n. len * n) (size-at_least shape) ∙ sym (nonzero_size_of_other len shape some)
    ]

sum-at_least : (f : ℕ → ℤ → ℕ) → ((len : ℕ) (stride : ℤ) → f (max 1 len) stride ≡ f len stride) → (shape : List ℕ) (strides : List ℤ)
    → sum_over_axes f (at_least 1 shape) strides ≡ sum_over_axes f shape strides
sum-at_least f same [] strides = refl
sum-at_least f same (len ∷ shape) [] = refl
sum-at_least f same (len ∷ shape) (stride ∷ strides) = omega (arith, same len stride, sum-at_least f same shape strides)

reach-at_least : (len : ℕ) (stride : ℤ) → reach (max 1 len) stride ≡ reach len stride
reach-at_least len stride = ap (λ n. n * magnitude stride) (omega arith)

pub down-at_least : (len : ℕ) (stride : ℤ) → reach_down (max 1 len) stride ≡ reach_down len stride
down-at_least len (pos s) = refl
down-at_least len (negsuc s) = reach-at_least len (negsuc s)

pub up-at_least : (len : ℕ) (stride : ℤ) → reach_up (max 1 len) stride ≡ reach_up len stride
up-at_least len (pos s) = reach-at_least len (pos s)
up-at_least len (negsuc s) = refl

pub is_index-at_least : (shape index : List ℕ) → is_index shape index ≡ true → is_index (at_least 1 shape) index ≡ true
is_index-at_least shape index here =
    is_index_of_larger shape (at_least 1 shape) index (length-map shape (max 1))
    (λ axis h. omega (arith, get_or-map (max 1) shape axis 0 0 h)) here

-- ---- views
abbrev pub filled : View → View
filled view = record { start = view.start; shape = at_least 1 view.shape; strides = view.strides }

-- a view reaches as far so
pub filled-IsView : {view : View} → IsView view → IsView (filled view)
filled-IsView {view} v = record {
  valid = record {
    same_count = length-map view.shape (max 1) ∙ v.valid.same_count;
    size_fits = omega (arith, size-at_least view.shape, v.valid.size_fits);
    span_fits = omega (arith, sum-at_least reach reach-at_least view.shape view.strides, v.valid.span_fits);
  };
  low = omega (arith, sum-at_least reach_down down-at_least view.shape view.strides, v.low);
  high = omega (arith, sum-at_least reach_up up-at_least view.shape view.strides, v.high);
}

IsView-filled : {view : View} → IsView (filled view) → IsView view
IsView-filled {view} v = record {
  valid = record {
    same_count = sym (length-map view.shape (max 1)) ∙ v.valid.same_count;
    size_fits = omega (arith, size-at_least view.shape, v.valid.size_fits);
    span_fits = omega (arith, sum-at_least reach reach-at_least view.shape view.strides, v.valid.span_fits);
  };
  low = omega (arith, sum-at_least reach_down down-at_least view.shape view.strides, v.low);
  high = omega (arith, sum-at_least reach_up up-at_least view.shape view.strides, v.high);
}

-- a layout with an index, whose indices lie where indices of a view do, is a view: so do the lowest and the highest
pub IsView-from_places : (source : List ℕ → List ℕ) {view new : View} → IsView view → length new.shape ≡ length new.strides
    → nonzero_size new.shape ≤ limit → is_empty new.shape ≡ false → KeepsPlaces source view new → IsView new
IsView-from_places source {view} {new} v counts fits some keeps =
    let least = least_offset new.shape new.strides counts some in
    let greatest = greatest_offset new.shape new.strides counts some in
    let first = keeps least.0 least.1 in
    let last = keeps greatest.0 greatest.1 in
    let lowest = view_place (source least.0) v first.0 in
    let highest = view_place (source greatest.0) v last.0 in
    let low : low_span new.shape new.strides ≤ new.start = omega (arith, ints, first.1, least.2, lowest.0) in
    let high : new.start + high_span new.shape new.strides ≤ limit = omega (arith, ints, last.1, greatest.2, highest.1) in
    record {
      valid = record { same_count = counts; size_fits = fits; span_fits = omega (arith, low_high_span new.shape new.strides, low, high) };
      low = low;
      high = high;
    }

-- so is one with none, if they do where lengths of 0 count as 1
pub IsView-from_filled : (source : List ℕ → List ℕ) {view new : View} → IsView view → length new.shape ≡ length new.strides
    → nonzero_size new.shape ≤ limit → KeepsPlaces source (filled view) (filled new) → IsView new
IsView-from_filled source {new = new} v counts fits keeps =
    IsView-filled (IsView-from_places source (filled-IsView v) (length-map new.shape (max 1) ∙ counts)
    (omega (arith, size-at_least new.shape)) (some-at_least new.shape) keeps)

-- along strides of 0 all indices lie where the first does
offset_along_zeros : (n : ℕ) (index : List ℕ) → offset_of (replicate n (pos 0)) index ≡ pos 0
offset_along_zeros n [] = refl
offset_along_zeros zero (i ∷ index) = refl
offset_along_zeros (suc n) (i ∷ index) = omega (arith, ints, offset_along_zeros n index)

IsView-along_zeros : {view : View} (shape : List ℕ) → IsView view → nonzero_size shape ≤ limit
    → IsView (record { start = view.start; shape = shape; strides = replicate (length shape) (pos 0) })
IsView-along_zeros {view} shape v fits =
    let old = at_least 1 view.shape in
    let zeros : List ℕ = replicate (length old) 0 in
    IsView-from_filled (λ index. zeros) v (sym (length-replicate {A = ℤ} (length shape) (pos 0))) fits (λ index here. (
      is_index-zeros old (some-at_least view.shape),
      omega (arith, ints, offset_along_zeros (length shape) index, offset_of-zeros view.strides (length old)),
    ))

-- so is one whose strides are 0 where it has no index
pub IsView-where_some : (source : List ℕ → List ℕ) {view : View} (shape : List ℕ) (strides : List ℤ) → IsView view
    → (is_empty shape ≡ false → length shape ≡ length strides) → nonzero_size shape ≤ limit
    → KeepsPlaces source view (record { start = view.start; shape = shape; strides = strides_of_blocks shape strides })
    → IsView (record { start = view.start; shape = shape; strides = strides_of_blocks shape strides })
IsView-where_some source {view} shape strides v counts fits = by (is_empty shape) refl
  where
    of : Bool → View
    of none = record { start = view.start; shape = shape; strides = cond none (replicate (length shape) (pos 0)) strides }

    by : (none : Bool) → is_empty shape ≡ none → KeepsPlaces source view (of none) → IsView (of none)
    by true e keeps = IsView-along_zeros shape v fits
    by false e keeps = IsView-from_places source v (counts e) fits e keeps

-- ---- sources in another layout
-- each index of a layout lies where an index of an older one does, its source, where the first indices are so far apart; also where
-- lengths of 0 count as 1
pub record HasSources (source : List ℕ → List ℕ) (old : List ℕ) (old_strides : List ℤ) (moved : ℤ) (new : List ℕ) (strides : List ℤ)
    : Type 0 where
  pub counts : length new ≡ length strides
  pub within : (least : ℕ) (index : List ℕ) → least ≤ 1 → is_index (at_least least new) index ≡ true
      → is_index (at_least least old) (source index) ≡ true
  pub offset : (index : List ℕ) → is_index (at_least 1 new) index ≡ true
      → offset_of old_strides (source index) ≡ moved +ℤ offset_of strides index

-- different indices have different sources
abbrev pub AreSourcesApart : (List ℕ → List ℕ) → List ℕ → Type 0
AreSourcesApart source new = (index other : List ℕ) → is_index (at_least 1 new) index ≡ true → is_index (at_least 1 new) other ≡ true
    → source index ≡ source other → index ≡ other

pub record HasOwnSources (source : List ℕ → List ℕ) (old : List ℕ) (old_strides : List ℤ) (moved : ℤ) (new : List ℕ) (strides : List ℤ)
    : Type 0 where
  pub sources : HasSources source old old_strides moved new strides
  pub apart : AreSourcesApart source new

-- then there are no more of them
no_more : (source : List ℕ → List ℕ) (old new : List ℕ)
    → ((index : List ℕ) → is_index new index ≡ true → is_index old (source index) ≡ true)
    → ((index other : List ℕ) → is_index new index ≡ true → is_index new other ≡ true → source index ≡ source other → index ≡ other)
    → size new ≤ size old
no_more source old new within apart =
    let all = indices_in RowMajor new in
    let sources = map source all in
    let sources_apart = λ (i j : ℕ) (d : List ℕ) (earlier : i < j) (below : j < length sources).
    let late : j < length all = omega (arith, length-map all source) in
    let early : i < length all = omega arith in
    λ (same : get_or sources i d ≡ get_or sources j d). AllPairs-indices_in RowMajor new i j [] earlier late
    (apart (get_or all i []) (get_or all j []) (All-indices_in RowMajor new i [] early) (All-indices_in RowMajor new j [] late)
    (sym (get_or-map source all i [] d early) ∙ same ∙ get_or-map source all j [] d late)) in
    let there : All (Contains (indices_in RowMajor old)) sources = λ k d h.
    let below : k < length all = omega (arith, length-map all source) in
    subst (Contains (indices_in RowMajor old)) (sym (get_or-map source all k [] d below))
    (Contains-indices_in RowMajor old (source (get_or all k [])) (within (get_or all k []) (All-indices_in RowMajor new k [] below))) in
    let few = length-le_from_is_member nat_list_eq_equiv sources (indices_in RowMajor old)
    (IsDistinct-from_AllPairs bytes_decides sources sources_apart)
    (λ q member. (is_member-Decides bytes_decides (indices_in RowMajor old) q).1
    (All-contains (Contains (indices_in RowMajor old)) sources q there ((is_member-Decides bytes_decides sources q).0 member))) in
    omega (arith, few, length-map all source, length-indices_in RowMajor new, length-indices_in RowMajor old)

pub nonzero_size-apart : (source : List ℕ → List ℕ) (old new : List ℕ)
    → ((index : List ℕ) → is_index (at_least 1 new) index ≡ true → is_index (at_least 1 old) (source index) ≡ true)
    → AreSourcesApart source new → nonzero_size new ≤ nonzero_size old
nonzero_size-apart source old new within apart =
    omega (
      arith,
      no_more source (at_least 1 old) (at_least 1 new) within apart,
      nonzero_size_of_nonempty (at_least 1 old) (some-at_least old),
      nonzero_size_of_nonempty (at_least 1 new) (some-at_least new),
      size-at_least old,
      size-at_least new,
    )

-- ---- of a view
module _ {source : List ℕ → List ℕ} {view : View} {moved : ℤ} {new : List ℕ} {strides : List ℤ} (v : IsView view)
    (is : HasSources source view.shape view.strides moved new strides) where
  -- the first index has a place
  pub start_within : IsPlace (pos view.start +ℤ moved)
  start_within =
      let zeros : List ℕ = replicate (length (at_least 1 new)) 0 in
      let here = is_index-zeros (at_least 1 new) (some-at_least new) in
      let there = view_place (source zeros) (filled-IsView v) (is.within 1 zeros (omega arith) here) in
      let lies = is.offset zeros here in
      let first = offset_of-zeros strides (length (at_least 1 new)) in
      (omega (arith, ints, there.0, lies, first), omega (arith, ints, there.1, lies, first))

  -- from there on it is a view of the same data, where its size fits
  module _ {start : ℕ} (begins : pos start ≡ pos view.start +ℤ moved) where
    abbrev made : View
    made = record { start = start; shape = new; strides = strides }

    keeps : KeepsPlaces source view made
    keeps index here = (
      subst (λ shape. is_index shape (source index) ≡ true) (at_least_none view.shape)
          (is.within 0 index (omega arith) (subst (λ shape. is_index shape index ≡ true) (sym (at_least_none new)) here)),
      omega (arith, ints, begins, is.offset index (is_index-at_least new index here)),
    )

    is_view : nonzero_size new ≤ limit → IsView made
    is_view fits = IsView-from_filled source v is.counts fits
        (λ index here. (is.within 1 index (omega arith) here, omega (arith, ints, begins, is.offset index here)))

    pub IsViewOf-sources : nonzero_size new ≤ limit → IsViewOf source view made
    IsViewOf-sources fits = IsViewOf-kept (is_view fits) keeps

-- which descends from the view where different indices have different sources
pub Descends-own_sources : {source : List ℕ → List ℕ} {view : View} {moved : ℤ} {new : List ℕ} {strides : List ℤ} {start : ℕ} → IsView view
    → HasOwnSources source view.shape view.strides moved new strides → pos start ≡ pos view.start +ℤ moved
    → Descends source view (record { start = start; shape = new; strides = strides })
Descends-own_sources {source} {view} {new = new} v own begins =
    let few = nonzero_size-apart source view.shape new (λ index. own.sources.within 1 index (omega arith)) own.apart in
    let of_view = IsViewOf-sources v own.sources begins (omega (arith, few, v.valid.size_fits)) in
    Descends-kept of_view.is_view of_view.places
    (λ index other here there. own.apart index other (is_index-at_least new index here) (is_index-at_least new other there))

-- so too where it begins as the view does
pub Descends-from_start : {source : List ℕ → List ℕ} {view : View} {new : List ℕ} {strides : List ℤ} → IsView view
    → HasOwnSources source view.shape view.strides (pos 0) new strides
    → Descends source view (record { start = view.start; shape = new; strides = strides })
Descends-from_start v own = Descends-own_sources v own (omega (arith, ints))
