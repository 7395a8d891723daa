-- What an index and the bounds of a slice mean on an axis.
use Rattle.std.specs.Prelude.{◌≡◌, ℕ, zero, min, ℤ, pos, negsuc, ◌+ℤ◌, ◌-◌, Bool, true, false, nat_le, nat_lt, Option, Some, None, refl}
use Rattle.std.specs.Option.{option_map_or}
use Rattle.nd_base.specs.Size.{limit}
use Rattle.nd_slice.specs.declared.fit.Fit.{Fit}
use Rattle.nd_slice.specs.declared.fit.Fit.TheVariants.{Strict, Clamp}
use Rattle.nd_slice.specs.declared.slice.Slice.{Slice}

-- the number that a bound or an index means on an axis of length len: a negative one counts from the end, and -1 is the last coordinate
abbrev pub meaning : ℕ → ℤ → ℤ
meaning len (pos bound) = pos bound
meaning len (negsuc bound) = pos len +ℤ negsuc bound

-- a number from 0 to len, where a range may begin or end
abbrev pub is_bound : ℕ → ℤ → Bool
is_bound len (pos bound) = nat_le bound len
is_bound len (negsuc bound) = false

-- a number from 0 to len - 1, where a coordinate is
abbrev pub is_coordinate : ℕ → ℤ → Bool
is_coordinate len (pos index) = nat_lt index len
is_coordinate len (negsuc index) = false

-- the slice of a range with a step
abbrev pub slice_with : ℤ → Option ℤ → ℤ → Slice
slice_with start end step = record { start = start; end = end; step = step }

-- the number from 0 to len that is nearest to a number
abbrev pub nearest : ℕ → ℤ → ℤ
nearest len (pos number) = pos (min number len)
nearest len (negsuc number) = pos 0

-- the number that a bound of a range means: under Clamp one that is not from 0 to len is moved to the nearest that is
abbrev pub bound_meaning : Fit → ℕ → ℤ → ℤ
bound_meaning Strict len bound = meaning len bound
bound_meaning Clamp len bound = nearest len (meaning len bound)

-- where the range of a slice begins
abbrev pub start_meaning : Fit → ℕ → Slice → ℤ
start_meaning fit len slice = bound_meaning fit len slice.start

-- the number that the range of a slice stops before: the length of the axis where it has no end
abbrev pub end_meaning : Fit → ℕ → Slice → ℤ
end_meaning fit len slice = option_map_or (bound_meaning fit len) slice.end (pos len)

-- the number that a range stops before where its last coordinate is given: none after -1, the last coordinate of the axis
abbrev pub end_after : ℤ → Option ℤ
end_after (negsuc zero) = None
end_after last = Some (last +ℤ pos 1)

-- a bound that is counted from the first coordinate: at most the greatest isize, as is each length
abbrev pub usize_bound : ℕ → ℤ
usize_bound number = pos (min number limit)

-- the last coordinate of a range that includes it: below the greatest isize, as each coordinate is
abbrev pub last_bound : ℤ → ℤ
last_bound (pos last) = pos (min last (limit - 1))
last_bound (negsuc last) = negsuc last

-- examples
last_coordinate : meaning 4 (negsuc 0) ≡ pos 3
last_coordinate = refl

before_the_first : meaning 4 (negsuc 4) ≡ negsuc 0
before_the_first = refl

length_is_a_bound : is_bound 4 (pos 4) ≡ true
length_is_a_bound = refl

length_is_no_coordinate : is_coordinate 4 (pos 4) ≡ false
length_is_no_coordinate = refl

no_bound_before_the_first : is_bound 4 (negsuc 0) ≡ false
no_bound_before_the_first = refl

nearest_to_nine : nearest 4 (pos 9) ≡ pos 4
nearest_to_nine = refl

bound_kept : bound_meaning Strict 4 (negsuc 8) ≡ negsuc 4
bound_kept = refl

bound_moved : bound_meaning Clamp 4 (negsuc 8) ≡ pos 0
bound_moved = refl

start_from_the_end : start_meaning Strict 4 (slice_with (negsuc 2) None (pos 1)) ≡ pos 1
start_from_the_end = refl

no_end_is_the_length : end_meaning Strict 4 (slice_with (negsuc 2) None (pos 1)) ≡ pos 4
no_end_is_the_length = refl

last_of_the_axis : end_after (negsuc 0) ≡ None
last_of_the_axis = refl

last_but_one : end_after (negsuc 1) ≡ Some (negsuc 0)
last_but_one = refl

counted_from_the_front : end_after (pos 4) ≡ Some (pos 5)
counted_from_the_front = refl

small_bound : usize_bound 4 ≡ pos 4
small_bound = refl

past_the_greatest : usize_bound 18446744073709551615 ≡ pos limit
past_the_greatest = refl

greatest_last : last_bound (pos limit) ≡ pos 9223372036854775806
greatest_last = refl

last_from_the_end : last_bound (negsuc 0) ≡ negsuc 0
last_from_the_end = refl
