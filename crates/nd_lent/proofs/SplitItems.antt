-- A view over the items from one on: each place is that much lower.
use Rattle.std.proofs.Common.{◌≡◌, ℕ, ◌+◌, ◌-◌, ◌*◌, ◌<◌, ◌≤◌, ℤ, pos, negsuc, ◌+ℤ◌, ◌≤ℤ◌, ◌<ℤ◌, true, false, None}
use Rattle.std.proofs.Common.{List, []}
use Rattle.std.proofs.Common.{◌∷◌, length, take, drop, min, refl, sym, ap, subst, ◌∙◌, arith, eq-eqb}
use Prim.Native.Nat.{zero, suc}
use Rattle.std.specs.Prelude.{slice_get, IfOk, Result, Ok, Err}
use Rattle.std.proofs.lemmas.Bool.{le-ltb}
use Rattle.std.proofs.lemmas.Int.{ints}
use Rattle.ndarray_layout.specs.declared.CanIndexCheckMode.TheVariants.{ReadOnly}
use Rattle.ndarray_layout.specs.Acceptance.{size_fault}
use Rattle.ndarray_layout.specs.AcceptanceFrom.{acceptance_from}
use Rattle.ndarray_layout.specs.Bounds.{IsInBounds}
use Rattle.ndarray_layout.specs.DistinctPlaces.{HasDistinctPlaces}
use Rattle.ndarray_layout.specs.Indices.{is_index}
use Rattle.ndarray_layout.specs.Size.{is_empty, limit, nonzero_size}
use Rattle.ndarray_layout.specs.Span.{low_span, span}
use Rattle.ndarray_layout.specs.View.{View, IsView, LiesWithin, place_at}
use Rattle.ndarray_layout.proofs.Laws.AcceptanceFrom.{read_by_indices}
use Rattle.ndarray_layout.proofs.Laws.Bounds.{in_bounds_from}
use Rattle.ndarray_layout.proofs.Laws.Definitions.{IsValidLayout, place}
use Rattle.ndarray_layout.proofs.Laws.Flipped.{least_offset}
use Rattle.ndarray_layout.proofs.Laws.IsIndex.{nonempty_from_index}
use Rattle.ndarray_layout.proofs.Laws.Offset.{offset_bounds}
use Rattle.ndarray_layout.specs.Descends.{Descends}
use Rattle.nd_access.specs.Items.{ArrayValue, IsOwned, item_at_place}
use Rattle.nd_lent.proofs.Laws.OwnedViews.{owned_descendant}
use Rattle.nd_lent.specs.SplitItems.{IsMoved, ShowsPartOf, highest, lowest}

-- a view has no fault apart from the data
pub sized_view : (shape : List ℕ) (strides : List ℤ) → IsValidLayout shape strides → size_fault 1 shape strides ≡ None
sized_view shape strides valid =
    rw (
      eq-eqb (length shape) (length strides) valid.same_count,
      le-ltb limit (nonzero_size shape) valid.size_fits,
      le-ltb limit (span shape strides) valid.span_fits,
      le-ltb limit (span shape strides * 1) (omega (arith, valid.span_fits)),
    ) refl

-- ---- places
between : (len : ℕ) (z : ℤ) → IsInBounds len z → (pos 0 ≤ℤ z) × (z <ℤ pos len)
between len (pos n) h = (omega (arith, ints), omega (arith, ints))
between len (negsuc n) h = absurd h

pub place_moved : {by : ℕ} {old new : View} → IsMoved by old new → (index : List ℕ) → place_at old index ≡ pos by +ℤ place_at new index
place_moved {by} {old} {new} moved index =
    let same : place_at new index ≡ place new.start old.strides index = ap (λ strides. place new.start strides index) moved.strides in
    omega (arith, ints, same, moved.start)

-- no place is above the highest one
pub below_highest : {count : ℕ} {view : View} → IsView view → highest view < count → LiesWithin count view
below_highest {count} {view} v high index here =
    let bounds = offset_bounds view.shape view.strides index here v.valid.same_count in
    let low = v.low in
    in_bounds_from count (place_at view index) (omega (arith, ints, bounds.0, low)) (omega (arith, ints, bounds.1, high))

-- moved down by no more than its lowest place, a view is accepted over the items that are left
pub accepted_moved : (by len : ℕ) {start : ℕ} {view : View} → IsView view → is_empty view.shape ≡ false → LiesWithin (by + len) view
    → view.start ≡ by + start → low_span view.shape view.strides ≤ start
    → acceptance_from start 1 len ReadOnly view.shape view.strides ≡ None
accepted_moved by len {start} {view} v some within moved low =
    (read_by_indices start 1 len view.shape view.strides some).1 (
      sized_view view.shape view.strides v.valid,
      λ index here.
          let bounds = offset_bounds view.shape view.strides index here v.valid.same_count in
          let there = between (by + len) (place_at view index) (within index here) in
          let high = v.high in
          in_bounds_from (min len (limit + 1)) (place start view.strides index)
          (omega (arith, ints, bounds.0, low))
          (omega (arith, ints, bounds.1, there.1, high, moved)),
    )

pub distinct_moved : {by : ℕ} {old new : View} → IsMoved by old new → HasDistinctPlaces old → HasDistinctPlaces new
distinct_moved {by} {old} {new} moved distinct index other here there same =
    distinct index other (subst (λ shape. is_index shape index ≡ true) moved.shape here)
    (subst (λ shape. is_index shape other ≡ true) moved.shape there)
    (place_moved moved index ∙ ap (λ z. pos by +ℤ z) same ∙ sym (place_moved moved other))

-- what a success brings of its value
pub if_ok : {X E : Type 0} (result : Result X E) {P Q : X → Type 0} → ((x : X) → P x → Q x) → IfOk result P → IfOk result Q
if_ok (Ok x) brings known = brings x known
if_ok (Err e) brings known = tt

-- some item is at the lowest place
pub lowest_within : {count : ℕ} {view : View} → IsView view → is_empty view.shape ≡ false → LiesWithin count view → lowest view < count
lowest_within {count} {view} v some within =
    let least = least_offset view.shape view.strides v.valid.same_count some in
    let there = between count (place_at view least.0) (within least.0 least.1) in
    omega (arith, ints, there.1, least.2)

pub none_owned : {source : List ℕ → List ℕ} {count : ℕ} {old new : View} (len : ℕ) → Descends source old new → IsOwned count old
    → is_empty new.shape ≡ true → IsOwned len new
none_owned {count = count} {new = new} len kept owned none = record {
  is_view = kept.is_view;
  within = λ index here. let wrong : true ≡ false = sym none ∙ nonempty_from_index new.shape index here in cc;
  distinct = kept.distinct owned.distinct;
}

pub all_owned : {source : List ℕ → List ℕ} {count : ℕ} {old new : View} → Descends source old new → IsOwned count old
    → IsOwned (count - 0) new
all_owned {count = count} {new = new} kept owned =
    let same : count ≡ count - 0 = omega arith in
    subst (λ n. IsOwned n new) same (owned_descendant count kept owned)

pub lower_owned : {source : List ℕ → List ℕ} {count : ℕ} {old new : View} (cut : ℕ) → Descends source old new → IsOwned count old
    → highest new < cut → IsOwned cut new
lower_owned cut kept owned below = record {
  is_view = kept.is_view;
  within = below_highest kept.is_view below;
  distinct = kept.distinct owned.distinct;
}

pub upper_owned : {source : List ℕ → List ℕ} {count : ℕ} {old part new : View} (by len : ℕ) → Descends source old part → IsOwned count old
    → IsMoved by part new → IsView new → LiesWithin len new → IsOwned len new
upper_owned by len kept owned moved view within = record {
  is_view = view;
  within = within;
  distinct = distinct_moved moved (kept.distinct owned.distinct);
}

-- ---- items
slice_get_take : {X : Type 0} (xs : List X) (n k : ℕ) → k < n → slice_get (take n xs) k ≡ slice_get xs k
slice_get_take xs zero k below = absurd (omega arith)
slice_get_take [] (suc n) k below = refl
slice_get_take (x ∷ xs) (suc n) zero below = refl
slice_get_take (x ∷ xs) (suc n) (suc k) below = slice_get_take xs n k (omega arith)

slice_get_drop : {X : Type 0} (xs : List X) (n k j : ℕ) → j ≡ n + k → slice_get (drop n xs) k ≡ slice_get xs j
slice_get_drop xs zero k j same =
    let equal : k ≡ j = omega (arith, same) in
    ap (slice_get xs) equal
slice_get_drop [] (suc n) k j same = refl
slice_get_drop (x ∷ xs) (suc n) k zero same = absurd (omega (arith, same))
slice_get_drop (x ∷ xs) (suc n) k (suc j) same = slice_get_drop xs n k j (omega (arith, same))

item_of_lower : {X : Type 0} (xs : List X) (cut : ℕ) (z w : ℤ) → IsInBounds cut z → w ≡ pos 0 +ℤ z
    → item_at_place (take cut xs) z ≡ item_at_place xs w
item_of_lower xs cut (pos k) (pos j) below same =
    let equal : k ≡ j = omega (arith, ints, same) in
    slice_get_take xs cut k below ∙ ap (slice_get xs) equal
item_of_lower xs cut (pos k) (negsuc j) below same = absurd (omega (arith, ints, same))
item_of_lower xs cut (negsuc k) w below same = absurd below

item_of_upper : {X : Type 0} (xs : List X) (cut len : ℕ) (z w : ℤ) → IsInBounds len z → w ≡ pos cut +ℤ z
    → item_at_place (drop cut xs) z ≡ item_at_place xs w
item_of_upper xs cut len (pos k) (pos j) below same =
    let equal : j ≡ cut + k = omega (arith, ints, same) in
    slice_get_drop xs cut k j equal
item_of_upper xs cut len (pos k) (negsuc j) below same = absurd (omega (arith, ints, same))
item_of_upper xs cut len (negsuc k) w below same = absurd below

-- a part, and what it is made of
pub record IsPartOf {T : Type 0} (by len : ℕ) (source : List ℕ → List ℕ) (whole : ArrayValue T) (split new : View)
    (part : ArrayValue T) : Type 0 where
  pub kept : Descends source whole.view split
  pub moved : IsMoved by split new
  pub owned : IsOwned len new
  pub view : part.view ≡ new

module _ {T : Type 0} {by len : ℕ} {source : List ℕ → List ℕ} {whole part : ArrayValue T} {split new : View}
    (made : IsPartOf by len source whole split new part) where
  shown : ((z w : ℤ) → IsInBounds len z → w ≡ pos by +ℤ z → item_at_place part.items z ≡ item_at_place whole.items w)
      → ShowsPartOf source whole part
  shown same index here =
      let there : is_index new.shape index ≡ true = subst (λ view. is_index view.shape index ≡ true) made.view here in
      let kept = made.kept.places index (subst (λ shape. is_index shape index ≡ true) made.moved.shape there) in
      let place : place_at part.view index ≡ place_at new index = ap (λ view. place_at view index) made.view in
      let items = same (place_at new index) (place_at whole.view (source index)) (made.owned.within index there)
      (sym kept.1 ∙ place_moved made.moved index) in
      (kept.0, rw (here, kept.0) (ap (item_at_place part.items) place ∙ items))

  pub lower_shown : by ≡ 0 → part.items ≡ take len whole.items → ShowsPartOf source whole part
  lower_shown none items = shown (λ z w below same.
      ap (λ xs. item_at_place xs z) items ∙ item_of_lower whole.items len z w below (same ∙ ap (λ n. pos n +ℤ z) none))

  pub upper_shown : part.items ≡ drop by whole.items → ShowsPartOf source whole part
  upper_shown items = shown (λ z w below same. ap (λ xs. item_at_place xs z) items ∙ item_of_upper whole.items by len z w below same)
