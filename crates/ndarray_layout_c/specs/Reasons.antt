-- Why a call returns its error, as C reads it: its status, the number of the rule that is broken, and the numbers of that rule.
use Rattle.std.specs.Prelude.{◌≡◌, ℕ, ℤ, pos, refl}
use Rattle.ndarray_layout.specs.declared.ErrorKind.TheVariants.{OutOfBounds}
use Rattle.ndarray_layout_c.specs.declared.reasons.Reason.{Reason}
use Rattle.ndarray_layout_c.specs.Statuses.{number_of, ok}

-- the number of the rule that is broken: a list is of another count than there are axes
abbrev pub count_rule : ℤ
count_rule = pos 1

-- the number of the rule that is broken: an index is no coordinate of its axis
abbrev pub index_rule : ℤ
index_rule = pos 2

-- the number of the rule that is broken: a bound of a range means no number from 0 to the length of its axis
abbrev pub bound_rule : ℤ
bound_rule = pos 3

-- the number of the rule that is broken: a step is 0
abbrev pub step_rule : ℤ
step_rule = pos 4

-- the number of the rule that is broken: the product of the lengths that are not 0 is past the limit
abbrev pub size_rule : ℤ
size_rule = pos 5

-- the number of the rule that is broken: the span is past the limit
abbrev pub span_rule : ℤ
span_rule = pos 6

-- the number of the rule that is broken: the span in bytes is past the limit
abbrev pub bytes_rule : ℤ
bytes_rule = pos 7

-- the number of the rule that is broken: the lowest place is below 0
abbrev pub lowest_rule : ℤ
lowest_rule = pos 8

-- the number of the rule that is broken: the highest place is past the limit
abbrev pub highest_rule : ℤ
highest_rule = pos 9

-- the number of the rule that is broken: the highest place is past the buffer
abbrev pub length_rule : ℤ
length_rule = pos 10

-- the number of the rule that is broken: the no-alias rule is broken at an axis
abbrev pub alias_rule : ℤ
alias_rule = pos 11

-- the number of the rule that is broken: a new shape has another size
abbrev pub other_size_rule : ℤ
other_size_rule = pos 12

-- the number of the rule that is broken: the strides can't be read along a new shape
abbrev pub copy_rule : ℤ
copy_rule = pos 13

-- the number of the rule that is broken: an axis isn't listed
abbrev pub missing_rule : ℤ
missing_rule = pos 14

-- the number of the rule that is broken: a coordinate of an index is none of its axis
abbrev pub coordinate_rule : ℤ
coordinate_rule = pos 15

-- the number of the rule that is broken: two lengths of an axis have none in common
abbrev pub common_rule : ℤ
common_rule = pos 16

-- the number of the rule that is broken: a length is neither 1 nor that of the axis that it is broadcast to
abbrev pub stretch_rule : ℤ
stretch_rule = pos 17

-- the number of the rule that is broken: a length of a block is 0
abbrev pub empty_rule : ℤ
empty_rule = pos 18

-- the number of the rule that is broken: there is no such axis
abbrev pub axis_rule : ℤ
axis_rule = pos 19

-- the number of the rule that is broken: an axis is merged into itself
abbrev pub same_axis_rule : ℤ
same_axis_rule = pos 20

-- the number of the rule that is broken: a split lies past the end of its axis
abbrev pub split_rule : ℤ
split_rule = pos 21

-- the number of the list that breaks a rule: the strides
abbrev pub strides_list : ℤ
strides_list = pos 1

-- the number of the list that breaks a rule: the elements of a slice, but for new axes
abbrev pub slice_list : ℤ
slice_list = pos 2

-- the number of the list that breaks a rule: the coordinates of an index
abbrev pub index_list : ℤ
index_list = pos 3

-- the number of the list that breaks a rule: the axes in their new order
abbrev pub axes_list : ℤ
axes_list = pos 4

-- the number of the list that breaks a rule: the shape that a layout is broadcast to
abbrev pub target_list : ℤ
target_list = pos 5

-- the number of the list that breaks a rule: the lengths of a window
abbrev pub window_list : ℤ
window_list = pos 6

-- the number of the list that breaks a rule: the lengths of a chunk
abbrev pub chunk_list : ℤ
chunk_list = pos 7

-- no rule is broken
abbrev pub no_reason : Reason
no_reason = record { status = ok; rule = pos 0; list = pos 0; unit = pos 0; axis = 0; number = pos 0; size = 0; other = 0 }

-- a rule is broken at an axis; places, spans and strides count elements
abbrev pub of_axis : ℤ → ℤ → ℕ → ℤ → ℕ → ℕ → Reason
of_axis status rule axis number size other =
    record { status = status; rule = rule; list = pos 0; unit = pos 0; axis = axis; number = number; size = size; other = other }

-- a list breaks a rule, at an axis where it is a length of it
abbrev pub of_list : ℤ → ℤ → ℤ → ℕ → ℕ → ℕ → Reason
of_list status rule list axis size other =
    record { status = status; rule = rule; list = list; unit = pos 0; axis = axis; number = pos 0; size = size; other = other }

-- examples
index_past_the_third_axis : of_axis (number_of OutOfBounds) index_rule 2 (pos 9) 5 0
    ≡ record { status = pos 4; rule = pos 2; list = pos 0; unit = pos 0; axis = 2; number = pos 9; size = 5; other = 0 }
index_past_the_third_axis = refl

two_coordinates_for_three_axes : of_list (number_of OutOfBounds) count_rule index_list 0 2 3
    ≡ record { status = pos 4; rule = pos 1; list = pos 3; unit = pos 0; axis = 0; number = pos 0; size = 2; other = 3 }
two_coordinates_for_three_axes = refl
