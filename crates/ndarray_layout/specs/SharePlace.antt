-- Views with a place in common.
use Rattle.std.specs.Prelude.{◌≡◌, ℕ, pos, negsuc, true, false, List, [], ◌∷◌, refl}
use Rattle.std.specs.Ordering.{int_eq}
use Rattle.std.proofs.lemmas.Bool.{both_ways}
use Rattle.std.proofs.lemmas.Bool.Decides.{Decides-int_eq}
use Rattle.nd_base.specs.Indices.{is_index}
use Rattle.ndarray_layout.specs.View.{View, place_at}

-- an index of one view and an index of the other lie at one place
abbrev pub SharePlace : View → View → Type 0
SharePlace one other =
    (index : List ℕ) × (is_index one.shape index ≡ true)
    × ((at : List ℕ) × (is_index other.shape at ≡ true) × (place_at one index ≡ place_at other at))

-- examples
abbrev first_row : View
first_row = record { start = 0; shape = 3 ∷ []; strides = pos 1 ∷ [] }

abbrev last_column_back : View
last_column_back = record { start = 5; shape = 2 ∷ []; strides = negsuc 2 ∷ [] }

abbrev element_four : View
element_four = record { start = 4; shape = []; strides = [] }

abbrev element_five : View
element_five = record { start = 5; shape = []; strides = [] }

row_and_column : SharePlace first_row last_column_back
row_and_column = (2 ∷ [], refl, (1 ∷ [], refl, refl))

two_elements : SharePlace element_four element_five → ⊥
two_elements ([], is, ([], also, same)) = both_ways (int_eq (pos 4) (pos 5)) refl ((Decides-int_eq (pos 4) (pos 5)).1 same)
two_elements (i ∷ index, is, share) = both_ways false refl is
two_elements ([], is, (i ∷ index, also, same)) = both_ways false refl also
