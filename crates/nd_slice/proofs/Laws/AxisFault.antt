-- What no fault means: a slice that fits, and an index that is a coordinate.
use Rattle.std.proofs.Common.{◌<◌, ◌≤◌, pos, negsuc, true, false, refl, pos_of_ne-zero, ◌≡◌, ℕ, ℤ, IsTrue, Bool, ◌==◌, not, if◌then◌else◌}
use Rattle.std.proofs.Common.{Some, None}
use Rattle.std.proofs.lemmas.Bool.{and_parts, eqb-false, leb-true, ltb-true}
use Rattle.nd_base.specs.declared.error.ErrorKind.TheVariants.{OutOfBounds, Unsupported}
use Rattle.nd_slice.proofs.Definitions.{Fit, IndexFits, Slice, SliceFits, end_meaning, index_fault, is_bound, is_coordinate, is_within}
use Rattle.nd_slice.proofs.Definitions.{magnitude, meaning, slice_fault, start_meaning}

neither : (within zero_step : Bool) → (if not within then Some OutOfBounds else if zero_step then Some Unsupported else None) ≡ None
    → (within ≡ true) × (zero_step ≡ false)
neither true true none = absurd (cc)
neither true false none = (refl, refl)
neither false zero_step none = absurd (cc)

-- a slice without fault fits
pub fits_of_no_fault : (fit : Fit) (len : ℕ) (slice : Slice) → slice_fault fit len slice ≡ None → SliceFits fit len slice
fits_of_no_fault fit len slice none =
    let parts = neither (is_within fit len slice) (magnitude slice.step == 0) none in
    let bounds = and_parts (is_bound len (start_meaning fit len slice)) (is_bound len (end_meaning fit len slice)) parts.0 in
    record { start_within = bounds.0; end_within = bounds.1; step_moves = parts.1 }

-- a slice that fits has no fault
pub no_fault_of_fits : (fit : Fit) (len : ℕ) (slice : Slice) → SliceFits fit len slice → slice_fault fit len slice ≡ None
no_fault_of_fits fit len slice fits = rw (fits.start_within, fits.end_within, fits.step_moves) refl

-- the step of a slice that fits moves
pub step_moves : (fit : Fit) (len : ℕ) (slice : Slice) → SliceFits fit len slice → 0 < magnitude slice.step
step_moves fit len slice fits = pos_of_ne-zero (eqb-false (magnitude slice.step) 0 fits.step_moves)

bound_below : (len : ℕ) (bound : ℤ) → IsTrue (is_bound len bound) → magnitude bound ≤ len
bound_below len (pos bound) within = leb-true bound len within
bound_below len (negsuc bound) within = absurd (cc)

-- it stops at the end of the axis or before
pub end_below : (fit : Fit) (len : ℕ) (slice : Slice) → SliceFits fit len slice → magnitude (end_meaning fit len slice) ≤ len
end_below fit len slice fits = bound_below len (end_meaning fit len slice) fits.end_within

-- and begins there or before
pub start_below : (fit : Fit) (len : ℕ) (slice : Slice) → SliceFits fit len slice → magnitude (start_meaning fit len slice) ≤ len
start_below fit len slice fits = bound_below len (start_meaning fit len slice) fits.start_within

coordinate_is : (coordinate : Bool) → (if coordinate then None else Some OutOfBounds) ≡ None → coordinate ≡ true
coordinate_is true none = refl
coordinate_is false none = absurd (cc)

-- an index without fault means a coordinate
pub index_fits_of_no_fault : (len : ℕ) (index : ℤ) → index_fault len index ≡ None → IndexFits len index
index_fits_of_no_fault len index none = coordinate_is (is_coordinate len (meaning len index)) none

coordinate_at : (len : ℕ) (coordinate : ℤ) → IsTrue (is_coordinate len coordinate)
    → (coordinate ≡ pos (magnitude coordinate)) × (magnitude coordinate < len)
coordinate_at len (pos coordinate) is = (refl, ltb-true coordinate len is)
coordinate_at len (negsuc coordinate) is = absurd (cc)

-- the coordinate that an index means is on the axis
pub coordinate_below : (len : ℕ) (index : ℤ) → IndexFits len index
    → (meaning len index ≡ pos (magnitude (meaning len index))) × (magnitude (meaning len index) < len)
coordinate_below len index fits = coordinate_at len (meaning len index) fits
