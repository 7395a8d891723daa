-- How slices are written.
use Rattle.std.specs.Prelude.{◌≡◌, ℕ, zero, suc, ℤ, pos, negsuc, Option, Some, None, List, [], ◌++◌, codes, refl}
use Rattle.std.specs.Option.{option_map_or}
use Rattle.std.specs.Fmt.{digits, signed_decimal}
use Rattle.nd_slice.specs.declared.slice.Slice.{Slice}

-- the text of a start: nothing for 0
abbrev pub start_text : ℤ → List ℕ
start_text (pos zero) = []
start_text start = signed_decimal start

-- the text of an end: nothing where there is none
abbrev pub end_text : Option ℤ → List ℕ
end_text end = option_map_or signed_decimal end []

-- the text of a step: nothing for 1
abbrev pub step_text : ℤ → List ℕ
step_text (pos (suc zero)) = []
step_text step = codes ";" ++ signed_decimal step

-- the text of a slice
abbrev pub slice_text : Slice → List ℕ
slice_text slice = start_text slice.start ++ codes ".." ++ end_text slice.end ++ step_text slice.step

-- examples
whole_axis : slice_text (record { start = pos 0; end = None; step = pos 1 }) ≡ codes ".."
whole_axis = refl

all_three : slice_text (record { start = negsuc 2; end = Some (negsuc 0); step = pos 2 }) ≡ codes "-3..-1;2"
unfolding digits
all_three = refl

end_of_zero : slice_text (record { start = pos 0; end = Some (pos 0); step = pos 1 }) ≡ codes "..0"
unfolding digits
end_of_zero = refl

step_of_zero : slice_text (record { start = pos 9; end = None; step = pos 0 }) ≡ codes "9..;0"
unfolding digits
step_of_zero = refl
