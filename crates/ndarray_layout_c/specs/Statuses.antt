-- The status of a call: 0, the number of a fault's kind, or that of a bad argument or of an allocation that failed.
use Rattle.std.specs.Prelude.{◌≡◌, ℤ, pos, Bool, true, false, Option, Some, None, if◌then◌else◌, refl}
use Rattle.ndarray_layout.specs.declared.ErrorKind.{ErrorKind}
use Rattle.ndarray_layout.specs.declared.ErrorKind.TheVariants.{IncompatibleShape, IncompatibleLayout, RangeLimited}
use Rattle.ndarray_layout.specs.declared.ErrorKind.TheVariants.{OutOfBounds, Unsupported, Overflow}

-- the status of success
abbrev pub ok : ℤ
ok = pos 0

-- the status of a number without a meaning, or of a list of the wrong length
abbrev pub bad_argument : ℤ
bad_argument = pos 7

-- the status of an allocation that failed
abbrev pub out_of_memory : ℤ
out_of_memory = pos 8

-- the number of a kind
abbrev pub number_of : ErrorKind → ℤ
number_of IncompatibleShape = pos 1
number_of IncompatibleLayout = pos 2
number_of RangeLimited = pos 3
number_of OutOfBounds = pos 4
number_of Unsupported = pos 5
number_of Overflow = pos 6

-- the number of a fault, or 0 where there is none
abbrev pub status_of : Option ErrorKind → ℤ
status_of None = ok
status_of (Some kind) = number_of kind

-- the status of a call: whether an argument has no meaning, then the fault of those that have one
abbrev pub status_where : Bool → Option ErrorKind → ℤ
status_where is_bad fault = if is_bad then bad_argument else status_of fault

-- the status of a call that learns last how long a list has to be: where there is no fault, whether one is of another count
abbrev pub status_until : Bool → Option ErrorKind → Bool → ℤ
status_until is_bad (Some kind) is_other = if is_bad then bad_argument else number_of kind
status_until is_bad None is_other = if is_bad then bad_argument else if is_other then bad_argument else ok

-- examples
success : status_where false None ≡ ok
success = refl

bounds : status_where false (Some OutOfBounds) ≡ pos 4
bounds = refl

bad_argument_first : status_where true (Some OutOfBounds) ≡ bad_argument
bad_argument_first = refl

count_last : status_until false (Some OutOfBounds) true ≡ pos 4
count_last = refl

another_count : status_until false None true ≡ bad_argument
another_count = refl
