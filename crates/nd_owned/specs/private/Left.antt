-- Items that are taken out of a list one after another: what the contracts of private functions speak of.
use Rattle.std.specs.Prelude.{◌≡◌, ℕ, ℤ, pos, negsuc, Option, Some, None, List, [], ◌∷◌, slice_index_or, refl}

-- the item that is left at a place; none where it was taken, nor below 0, nor past the last place
abbrev pub left_at : {T : Type 0} → List (Option T) → ℤ → Option T
left_at left (pos place) = slice_index_or left place None
left_at left (negsuc below) = None

-- examples
one_left : left_at {T = ℕ} (Some 7 ∷ None ∷ []) (pos 0) ≡ Some 7
one_left = refl

one_taken : left_at {T = ℕ} (Some 7 ∷ None ∷ []) (pos 1) ≡ None
one_taken = refl

none_past_the_last : left_at {T = ℕ} (Some 7 ∷ None ∷ []) (pos 2) ≡ None
none_past_the_last = refl

none_below : left_at {T = ℕ} (Some 7 ∷ None ∷ []) (negsuc 0) ≡ None
none_below = refl
