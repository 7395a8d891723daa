-- Which slices and indices fit an axis, and which fault any other has.
use Rattle.std.specs.Prelude.{◌≡◌, ℕ, ℤ, pos, negsuc, Bool, true, false, IsTrue, IsFalse, not, ◌&&◌, ◌==◌, Option, Some, None}
use Rattle.std.specs.Prelude.{if◌then◌else◌, refl}
use Rattle.std.proofs.lemmas.Bool.{false≢true, true≢false}
use Rattle.nd_base.specs.declared.error.ErrorKind.{ErrorKind}
use Rattle.nd_base.specs.declared.error.ErrorKind.TheVariants.{OutOfBounds, Unsupported}
use Rattle.nd_base.specs.Signed.{magnitude}
use Rattle.nd_slice.specs.declared.fit.Fit.{Fit}
use Rattle.nd_slice.specs.declared.fit.Fit.TheVariants.{Strict, Clamp}
use Rattle.nd_slice.specs.declared.slice.Slice.{Slice}
use Rattle.nd_slice.specs.SliceBounds.{slice_with, meaning, is_bound, is_coordinate, start_meaning, end_meaning}

-- both ends of the range of a slice are bounds of an axis of length len: numbers from 0 to len
abbrev pub is_within : Fit → ℕ → Slice → Bool
is_within fit len slice = is_bound len (start_meaning fit len slice) && is_bound len (end_meaning fit len slice)

-- a slice fits an axis of length len: both ends of its range are bounds of the axis, and its step is not 0
pub record SliceFits (fit : Fit) (len : ℕ) (slice : Slice) : Type 0 where
  pub start_within : IsTrue (is_bound len (start_meaning fit len slice))
  pub end_within : IsTrue (is_bound len (end_meaning fit len slice))
  pub step_moves : IsFalse (magnitude slice.step == 0)

-- an index means a coordinate of an axis of length len: a number from 0 to len - 1
abbrev pub IndexFits : ℕ → ℤ → Type 0
IndexFits len index = IsTrue (is_coordinate len (meaning len index))

-- the fault of a slice on an axis of length len, if any: an end that is no bound of the axis, then a step of 0
abbrev pub slice_fault : Fit → ℕ → Slice → Option ErrorKind
slice_fault fit len slice =
    if not (is_within fit len slice) then Some OutOfBounds else if magnitude slice.step == 0 then Some Unsupported else None

-- the fault of an index on an axis of length len, if any
abbrev pub index_fault : ℕ → ℤ → Option ErrorKind
index_fault len index = if is_coordinate len (meaning len index) then None else Some OutOfBounds

-- examples
whole_axis_within : is_within Strict 4 (slice_with (pos 0) None (pos 1)) ≡ true
whole_axis_within = refl

past_the_end_not_within : is_within Strict 4 (slice_with (pos 5) None (pos 1)) ≡ false
past_the_end_not_within = refl

back_by_two_fits : SliceFits Strict 4 (slice_with (pos 1) None (negsuc 1))
back_by_two_fits = record { start_within = refl; end_within = refl; step_moves = refl }

past_the_end_fits_not : SliceFits Strict 4 (slice_with (pos 5) None (pos 1)) → ⊥
past_the_end_fits_not fits = false≢true fits.start_within

zero_step_fits_not : SliceFits Clamp 4 (slice_with (pos 5) None (pos 0)) → ⊥
zero_step_fits_not fits = true≢false fits.step_moves

first_from_the_end_fits : IndexFits 4 (negsuc 3)
first_from_the_end_fits = refl

length_fits_not : IndexFits 4 (pos 4) → ⊥
length_fits_not fits = false≢true fits

last_index : index_fault 4 (negsuc 0) ≡ None
last_index = refl

index_of_the_length : index_fault 4 (pos 4) ≡ Some OutOfBounds
index_of_the_length = refl

past_the_end : slice_fault Strict 4 (slice_with (pos 5) (Some (pos 2)) (pos 1)) ≡ Some OutOfBounds
past_the_end = refl

zero_step : slice_fault Strict 4 (slice_with (pos 0) (Some (pos 0)) (pos 0)) ≡ Some Unsupported
zero_step = refl

range_before_step : slice_fault Strict 4 (slice_with (pos 9) (Some (pos 0)) (pos 0)) ≡ Some OutOfBounds
range_before_step = refl

clamped : slice_fault Clamp 4 (slice_with (pos 5) (Some (pos 2)) (pos 1)) ≡ None
clamped = refl

clamped_zero_step : slice_fault Clamp 4 (slice_with (pos 9) None (pos 0)) ≡ Some Unsupported
clamped_zero_step = refl
