-- Where the picks of a slice lie, in elements of the data.
use Rattle.std.specs.Prelude.{◌≡◌, ℕ, ℤ, pos, negsuc, ◌*ℤ◌, nat_le, if◌then◌else◌, List, [], ◌∷◌, refl}

-- the stride of an axis of count picks that lie step coordinates of an axis of a stride apart; at most one pick needs none
abbrev pub picked_stride : ℕ → ℤ → ℤ → ℤ
picked_stride count stride step = if nat_le count 1 then pos 0 else stride *ℤ step

-- how far the first of some picks lies from the first coordinate of their axis, with the stride of that; 0 where nothing is picked
abbrev pub first_offset : List ℕ → ℤ → ℤ
first_offset [] stride = pos 0
first_offset (pick ∷ others) stride = pos pick *ℤ stride

-- examples
two_coordinates_back : picked_stride 2 (pos 3) (negsuc 1) ≡ negsuc 5
two_coordinates_back = refl

lone_coordinate : picked_stride 1 (pos 3) (negsuc 1) ≡ pos 0
lone_coordinate = refl

nothing_picked : first_offset [] (pos 3) ≡ pos 0
nothing_picked = refl

third_coordinate_first : first_offset (2 ∷ 0 ∷ []) (pos 3) ≡ pos 6
third_coordinate_first = refl
