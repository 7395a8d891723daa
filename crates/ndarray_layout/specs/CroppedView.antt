-- What a range of coordinates on each axis makes of a view, and which ranges a shape has.
use Rattle.std.specs.Prelude.{◌≡◌, ℕ, ℤ, pos, negsuc, ◌+ℤ◌, nat_lt, if◌then◌else◌, List, [], ◌∷◌, refl}
use Rattle.std.proofs.Math.Arith.{le→nltb}
use Rattle.std.proofs.Math.Dec.{lit≤}
use Rattle.nd_base.specs.Elementwise.{elementwise, sums, differences, DifferencesFit}
use Rattle.nd_base.specs.Offset.{offset_of}
use Rattle.nd_base.specs.Signed.{magnitude}
use Rattle.ndarray_layout.specs.View.{View}

-- there is a start and an end for each axis, no start is greater than its end, and no end is greater than the length
pub record RangesFit (shape starts ends : List ℕ) : Type 0 where
  pub in_order : DifferencesFit ends starts
  pub within : DifferencesFit shape ends

-- the starts on the axes that have a coordinate left, and 0 on the others
abbrev pub moved_starts : List ℕ → List ℕ → List ℕ
moved_starts = elementwise (λ start end. if nat_lt start end then start else 0)

-- the place of the first index that is left
abbrev pub cropped_start : List ℕ → List ℕ → View → ℤ
cropped_start starts ends view = pos view.start +ℤ offset_of view.strides (moved_starts starts ends)

-- a view with the coordinates from each start to the end beside it: the strides stay
abbrev pub cropped_of : List ℕ → List ℕ → View → View
cropped_of starts ends view = record {
  start = magnitude (cropped_start starts ends view);
  shape = differences ends starts;
  strides = view.strides;
}

-- which index of the view an index that is left stands for: each coordinate lies that much further on
abbrev pub crop_source : List ℕ → List ℕ → List ℕ
crop_source starts coordinates = sums coordinates starts

-- examples
inner : cropped_of (1 ∷ 1 ∷ []) (3 ∷ 2 ∷ []) (record { start = 2; shape = 4 ∷ 3 ∷ []; strides = pos 3 ∷ negsuc 0 ∷ [] })
    ≡ record { start = 4; shape = 2 ∷ 1 ∷ []; strides = pos 3 ∷ negsuc 0 ∷ [] }
inner = refl

no_columns : cropped_of (1 ∷ 3 ∷ []) (3 ∷ 3 ∷ []) (record { start = 2; shape = 4 ∷ 3 ∷ []; strides = pos 3 ∷ negsuc 0 ∷ [] })
    ≡ record { start = 5; shape = 2 ∷ 0 ∷ []; strides = pos 3 ∷ negsuc 0 ∷ [] }
no_columns = refl

source_of_the_first : crop_source (1 ∷ 2 ∷ []) (0 ∷ 0 ∷ []) ≡ 1 ∷ 2 ∷ []
source_of_the_first = refl

whole : RangesFit (2 ∷ 3 ∷ []) (0 ∷ 0 ∷ []) (2 ∷ 3 ∷ [])
whole = record { in_order = (lit≤ tt, (lit≤ tt, tt)); within = (lit≤ tt, (lit≤ tt, tt)) }

past_the_last : RangesFit (2 ∷ 3 ∷ []) (0 ∷ 0 ∷ []) (2 ∷ 4 ∷ []) → ⊥
past_the_last fit = le→nltb 3 4 fit.within.1.0

backwards : RangesFit (2 ∷ 3 ∷ []) (0 ∷ 2 ∷ []) (2 ∷ 1 ∷ []) → ⊥
backwards fit = le→nltb 1 2 fit.in_order.1.0

one_range_for_two_axes : RangesFit (2 ∷ 3 ∷ []) (0 ∷ []) (2 ∷ []) → ⊥
one_range_for_two_axes fit = fit.within.1
