-- Lists that have an item for each axis, with the axes in another order.
use Rattle.std.specs.List.{list_all, list_any, position_or_len}
use Rattle.std.specs.Prelude.{◌≡◌, ℕ, Bool, true, false, ◌&&◌, ◌==◌, List, [], ◌∷◌, length, map, slice_index_or, refl}
use Rattle.nd_base.specs.declared.axis.Axis.{Axis}
use Rattle.nd_base.specs.Indices.{below}

-- the numbers of axes
abbrev pub axis_numbers : List Axis → List ℕ
axis_numbers axes = map (λ axis. axis.0) axes

-- the items of a list in the order of these axes
abbrev pub reordered : {X : Type 0} → X → List ℕ → List X → List X
reordered otherwise axes items = map (λ axis. slice_index_or items axis otherwise) axes

-- a list of n axes has each axis below n, and so each of them once
abbrev pub is_axis_order : ℕ → List ℕ → Bool
is_axis_order n axes = length axes == n && list_all (λ axis. list_any (λ other. axis == other) axes) (below n)

-- the order that takes each axis back to where it stood
abbrev pub inverse_order : List ℕ → List ℕ
inverse_order axes = map (λ axis. position_or_len (λ other. axis == other) axes) (below (length axes))

-- examples
last_axis_first : reordered {X = ℕ} 0 (2 ∷ 0 ∷ 1 ∷ []) (7 ∷ 8 ∷ 9 ∷ []) ≡ 9 ∷ 7 ∷ 8 ∷ []
last_axis_first = refl

back_again : inverse_order (2 ∷ 0 ∷ 1 ∷ []) ≡ 1 ∷ 2 ∷ 0 ∷ []
back_again = refl

as_it_was : reordered {X = ℕ} 0 (1 ∷ 2 ∷ 0 ∷ []) (9 ∷ 7 ∷ 8 ∷ []) ≡ 7 ∷ 8 ∷ 9 ∷ []
as_it_was = refl

each_once : is_axis_order 3 (2 ∷ 0 ∷ 1 ∷ []) ≡ true
each_once = refl

one_axis_twice : is_axis_order 2 (1 ∷ 1 ∷ []) ≡ false
one_axis_twice = refl

one_axis_too_few : is_axis_order 2 (0 ∷ []) ≡ false
one_axis_too_few = refl

one_axis_too_many : is_axis_order 2 (0 ∷ 1 ∷ 0 ∷ []) ≡ false
one_axis_too_many = refl

axis_that_is_not_there : is_axis_order 2 (0 ∷ 2 ∷ []) ≡ false
axis_that_is_not_there = refl

no_axes : is_axis_order 0 [] ≡ true
no_axes = refl
