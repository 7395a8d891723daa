-- Laws of layouts that are accepted from a start.
use Rattle.std.proofs.Common.{◌≡◌, ◌↔◌, ℕ, ◌+◌, ◌<◌, ◌≤◌, ℤ, pos, negsuc, ◌≤ℤ◌, ◌<ℤ◌, Bool, true, false, cond, Option, Some, None, List}
use Rattle.std.proofs.Common.{length, min, refl, ap, sym, ◌∙◌, arith}
use Rattle.std.specs.Prelude.{nat_le, nat_lt, not, ◌||◌, ◌&&◌}
use Rattle.std.specs.Option.{option_or}
use Rattle.std.proofs.lemmas.Bool.{cond-false, le-ltb, leb-false, lt-leb, ltb-false, or_parts}
use Rattle.std.proofs.lemmas.Grind.{common_steps}
use Rattle.std.proofs.lemmas.Int.{ints}
use Rattle.nd_base.specs.declared.error.ErrorKind.{ErrorKind}
use Rattle.nd_base.specs.declared.error.ErrorKind.TheVariants.{OutOfBounds, Unsupported}
use Rattle.nd_base.proofs.Laws.Definitions.{IsInBounds, LiesInBounds, is_empty, limit, low_span, high_span, place, span, IsValidLayout}
use Rattle.nd_base.proofs.Laws.Bounds.{in_bounds_from}
use Rattle.nd_base.proofs.Laws.IsIndex.{nonempty_from_index}
use Rattle.nd_base.proofs.Laws.Offset.{offset_bounds}
use Rattle.nd_base.proofs.Laws.Span.{low_high_span}
use Rattle.nd_base.proofs.Laws.Flipped.{least_offset, greatest_offset}
use Rattle.nd_shape.specs.Acceptance.{acceptance, leaves_data, may_share, size_fault}
use Rattle.nd_shape.specs.NoAlias.{satisfies_no_alias_rule}
use Rattle.nd_shape.specs.declared.acceptance.CanIndexCheckMode.{CanIndexCheckMode}
use Rattle.nd_shape.specs.declared.acceptance.CanIndexCheckMode.TheVariants.{OwnedMutable, ReadOnly}
use Rattle.nd_shape.proofs.Laws.Acceptance.{sized_valid}
use Rattle.nd_shape.proofs.Laws.DistinctOffsets.{distinct_without_overlap}
use Rattle.ndarray_layout.specs.AcceptanceFrom.{acceptance_from, leaves_data_from}
use Rattle.ndarray_layout.specs.DistinctPlaces.{HasDistinctPlaces}
use Rattle.ndarray_layout.specs.View.{IsView}
use Rattle.ndarray_layout.proofs.FromStart.{accepted, read_shares}
use Rattle.ndarray_layout.proofs.Laws.DistinctPlaces.{distinct_from_offsets}

-- ---- a layout that stays within the data from its start
record Stays (start len : ℕ) (shape : List ℕ) (strides : List ℤ) : Type 0 where
  low : low_span shape strides ≤ start
  high : start + high_span shape strides ≤ limit
  end : is_empty shape ≡ false → start + high_span shape strides < len

neither : {x y : Bool} → x ≡ false → y ≡ false → (x || y) ≡ false
neither {x} {y} p q = rw p q

-- between its lowest and its highest place a layout lies within the data
stays_below : (start : ℕ) (shape : List ℕ) (strides : List ℤ) (len : ℕ) → length shape ≡ length strides
    → low_span shape strides ≤ start → start + high_span shape strides < len → LiesInBounds len start shape strides
stays_below start shape strides len counts low high index here =
    let bounds = offset_bounds shape strides index here counts in
    in_bounds_from len (place start strides index)
    (omega (arith, ints, bounds.0))
    (omega (arith, ints, bounds.1))

module _ (start len : ℕ) (shape : List ℕ) (strides : List ℤ) where
  stays : leaves_data_from start len shape strides ≡ false → Stays start len shape strides
  stays h =
      let highest = start + high_span shape strides in
      let past = cond (is_empty shape) (nat_lt len highest) (nat_le len highest) in
      let parts = or_parts (nat_lt start (low_span shape strides)) _ h in
      let above = or_parts (nat_lt limit highest) past parts.1 in
      record {
        low = ltb-false start (low_span shape strides) parts.0;
        high = ltb-false limit highest above.0;
        end = λ some. leb-false len highest (sym (cond-false (is_empty shape) (nat_lt len highest) (nat_le len highest) some) ∙ above.1);
      }

  -- each of its indices has its place in the data
  stays_in_bounds : length shape ≡ length strides → Stays start len shape strides → LiesInBounds len start shape strides
  stays_in_bounds counts s index here =
      stays_below start shape strides len counts s.low (s.end (nonempty_from_index shape index here)) index here

  -- it is a view
  stays_is_view : IsValidLayout shape strides → Stays start len shape strides
      → IsView (record { start = start; shape = shape; strides = strides })
  stays_is_view valid s = record { valid = valid; low = s.low; high = s.high }

  -- and the test finds nothing
  stays_passes : Stays start len shape strides → start + high_span shape strides ≤ len → leaves_data_from start len shape strides ≡ false
  stays_passes s whole =
      let highest = start + high_span shape strides in
      neither
      (le-ltb start (low_span shape strides) s.low)
      (neither (le-ltb limit highest s.high) (past (is_empty shape) refl))
    where
      past : (none : Bool) → is_empty shape ≡ none
          → cond none (nat_lt len (start + high_span shape strides)) (nat_le len (start + high_span shape strides)) ≡ false
      past true e = le-ltb len (start + high_span shape strides) whole
      past false e = lt-leb len (start + high_span shape strides) (s.end e)

-- ---- a layout that is accepted from a start
module _ (start elem_size len : ℕ) (mode : CanIndexCheckMode) (shape : List ℕ) (strides : List ℤ)
    (h : acceptance_from start elem_size len mode shape strides ≡ None) where
  -- it has no fault apart from the data
  pub placed_sized : size_fault elem_size shape strides ≡ None
  placed_sized = grind (arith, common_steps)

  -- so every sum on it fits
  pub placed_valid : IsValidLayout shape strides
  placed_valid = sized_valid elem_size shape strides placed_sized

  placed_stays : leaves_data_from start len shape strides ≡ false
  placed_stays = grind (arith, common_steps)

  -- it is a view
  pub placed_is_view : IsView (record { start = start; shape = shape; strides = strides })
  placed_is_view = stays_is_view start len shape strides placed_valid (stays start len shape strides placed_stays)

  -- whose indices all lie within the data
  pub placed_in_bounds : LiesInBounds len start shape strides
  placed_in_bounds = stays_in_bounds start len shape strides placed_valid.same_count (stays start len shape strides placed_stays)

-- of a layout accepted to be written, no two indices lie at one place
pub placed_distinct : (start elem_size len : ℕ) (shape : List ℕ) (strides : List ℤ)
    → acceptance_from start elem_size len OwnedMutable shape strides ≡ None
    → HasDistinctPlaces (record { start = start; shape = shape; strides = strides })
placed_distinct start elem_size len shape strides h =
    let apart : (not (is_empty shape) && not (satisfies_no_alias_rule shape strides)) ≡ false = grind (arith, common_steps) in
    distinct_from_offsets start shape strides
    (distinct_without_overlap shape strides (placed_valid start elem_size len OwnedMutable shape strides h).same_count apart)

-- ---- the lowest start
-- with its lowest place at 0, a layout leaves the data where its span does
leaves_from_lowest : (len : ℕ) (shape : List ℕ) (strides : List ℤ) → span shape strides ≤ limit
    → leaves_data_from (low_span shape strides) len shape strides ≡ leaves_data len shape strides
leaves_from_lowest len shape strides fits =
    let low = low_span shape strides in
    rw (low_high_span shape strides, le-ltb low low (omega arith), le-ltb limit (span shape strides) fits) refl

-- so the acceptance of a layout is the one from the lowest start that it can have
pub acceptance_from_lowest : (elem_size len : ℕ) (mode : CanIndexCheckMode) (shape : List ℕ) (strides : List ℤ)
    → acceptance_from (low_span shape strides) elem_size len mode shape strides ≡ acceptance elem_size len mode shape strides
acceptance_from_lowest elem_size len mode shape strides = by (size_fault elem_size shape strides) refl
  where
    rest : Bool → Option ErrorKind
    rest leaves = cond leaves (Some OutOfBounds) (cond (may_share mode shape strides) (Some Unsupported) None)

    by : (fault : Option ErrorKind) → size_fault elem_size shape strides ≡ fault
        → option_or fault (rest (leaves_data_from (low_span shape strides) len shape strides))
        ≡ option_or fault (rest (leaves_data len shape strides))
    by (Some kind) e = refl
    by None e = ap rest (leaves_from_lowest len shape strides (sized_valid elem_size shape strides e).span_fits)

-- ---- acceptance by indices
bounds_of_place : (len : ℕ) (z : ℤ) → IsInBounds len z → (pos 0 ≤ℤ z) × (z <ℤ pos len)
bounds_of_place len (pos n) h = (omega (arith, ints), omega (arith, ints))
bounds_of_place len (negsuc n) h = absurd h

module _ (start elem_size len : ℕ) (shape : List ℕ) (strides : List ℤ) (some : is_empty shape ≡ false) where
  reads : size_fault elem_size shape strides ≡ None → LiesInBounds (min len (limit + 1)) start shape strides
      → acceptance_from start elem_size len ReadOnly shape strides ≡ None
  reads sized in_bounds =
      let counts = (sized_valid elem_size shape strides sized).same_count in
      let least = least_offset shape strides counts some in
      let greatest = greatest_offset shape strides counts some in
      let low = bounds_of_place (min len (limit + 1)) (place start strides least.0) (in_bounds least.0 least.1) in
      let high = bounds_of_place (min len (limit + 1)) (place start strides greatest.0) (in_bounds greatest.0 greatest.1) in
      let end : start + high_span shape strides < min len (limit + 1) = omega (arith, ints, high.1, greatest.2) in
      let s : Stays start len shape strides = record {
        low = omega (arith, ints, low.0, least.2);
        high = omega (arith, end);
        end = λ none. omega (arith, end);
      } in
      sym (accepted start elem_size len ReadOnly shape strides (sym sized) (stays_passes start len shape strides s (omega (arith, end)))
      (read_shares (is_empty shape) (satisfies_no_alias_rule shape strides)))

  read_in_bounds : acceptance_from start elem_size len ReadOnly shape strides ≡ None
      → LiesInBounds (min len (limit + 1)) start shape strides
  read_in_bounds h =
      let s = stays start len shape strides (placed_stays start elem_size len ReadOnly shape strides h) in
      stays_below start shape strides (min len (limit + 1)) (placed_valid start elem_size len ReadOnly shape strides h).same_count
      s.low (omega (arith, s.high, s.end some))

  -- a layout with an index is accepted to be read exactly where it has no fault apart from the data and each index lies at one of
  -- the elements; of more elements than there are places, only those count that have one
  pub read_by_indices : (acceptance_from start elem_size len ReadOnly shape strides ≡ None)
      ↔ ((size_fault elem_size shape strides ≡ None) × LiesInBounds (min len (limit + 1)) start shape strides)
  read_by_indices =
      (λ h. (placed_sized start elem_size len ReadOnly shape strides h, read_in_bounds h), λ both. reads both.0 both.1)
