-- The range of an axis in which the picks of a slice argument lie.
use Rattle.std.specs.Prelude.{◌≡◌, ℕ, ◌+◌, ◌%◌, ◌<◌, ◌≤◌, min, max, pos, negsuc, None, Some, List, [], ◌∷◌, length}
use Rattle.std.specs.Prelude.{slice_index_or, unwrap_or, refl}
use Rattle.std.specs.List.{All, fold, reduce}
use Rattle.std.proofs.Math.Arith.{le→nltb}
use Rattle.nd_slice.specs.declared.fit.Fit.{Fit}
use Rattle.nd_slice.specs.declared.fit.Fit.TheVariants.{Strict, Clamp}
use Rattle.nd_slice.specs.declared.elem.SliceInfoElem.{SliceInfoElem}
use Rattle.nd_slice.specs.declared.elem.SliceInfoElem.TheVariants as elem
use Rattle.nd_slice.specs.AxisElems.{axis_elems}
use Rattle.nd_slice.specs.ElemRange.{elem_range}
use Rattle.nd_slice.specs.Intersect.{elem_picks}

-- the least of some numbers; where there are none, a given one
abbrev pub least_of : ℕ → List ℕ → ℕ
least_of other numbers = unwrap_or (reduce min numbers) other

-- the number after the greatest of them, and not less than a given one
abbrev pub end_of : ℕ → List ℕ → ℕ
end_of low numbers = fold (λ end number. max end (number + 1)) low numbers

-- the least coordinate that an element picks of an axis of length len; where it picks none, the start of its range
abbrev pub least_pick : Fit → ℕ → SliceInfoElem → ℕ
least_pick fit len elem = least_of (elem_range fit len elem).0 (elem_picks fit len elem)

-- and the coordinate after the greatest
abbrev pub end_of_picks : Fit → ℕ → SliceInfoElem → ℕ
end_of_picks fit len elem = end_of (least_pick fit len elem) (elem_picks fit len elem)

-- each coordinate that it picks leaves the remainder of the least one, divided by a number
abbrev pub HasRemainder : ℕ → Fit → ℕ → SliceInfoElem → Type 0
HasRemainder by fit len elem = All (λ pick. pick % by ≡ least_pick fit len elem % by) (elem_picks fit len elem)

-- the element for an axis, with the length of the axis
abbrev pub elem_on : List ℕ → ℕ → List SliceInfoElem → ℕ × SliceInfoElem
elem_on shape axis elems = slice_index_or (axis_elems shape elems) axis (0, elem.NewAxis)

-- the least coordinate that is picked of an axis of a shape
abbrev pub start_on : Fit → List ℕ → ℕ → List SliceInfoElem → ℕ
start_on fit shape axis elems = least_pick fit (elem_on shape axis elems).0 (elem_on shape axis elems).1

-- and the one after the greatest
abbrev pub end_on : Fit → List ℕ → ℕ → List SliceInfoElem → ℕ
end_on fit shape axis elems = end_of_picks fit (elem_on shape axis elems).0 (elem_on shape axis elems).1

-- each coordinate that is picked of an axis leaves the same remainder
abbrev pub HasRemainderOn : ℕ → Fit → List ℕ → ℕ → List SliceInfoElem → Type 0
HasRemainderOn by fit shape axis elems = HasRemainder by fit (elem_on shape axis elems).0 (elem_on shape axis elems).1

-- the picks of the one lie on an axis before those of the other
pub record IsPast (fit : Fit) (shape : List ℕ) (axis : ℕ) (one other : List SliceInfoElem) : Type 0 where
  pub there : axis < length shape
  pub past : end_on fit shape axis one ≤ start_on fit shape axis other

-- examples
abbrev last_row : List SliceInfoElem
last_row = elem.Index (negsuc 0) ∷ elem.NewAxis ∷ elem.Slice (pos 1) (Some (pos 3)) (negsuc 0) ∷ []

row_begins : start_on Strict (4 ∷ 5 ∷ []) 0 last_row ≡ 3
row_begins = refl

row_ends : end_on Strict (4 ∷ 5 ∷ []) 0 last_row ≡ 4
row_ends = refl

columns_begin : start_on Strict (4 ∷ 5 ∷ []) 1 last_row ≡ 1
columns_begin = refl

columns_end : end_on Clamp (4 ∷ 2 ∷ []) 1 last_row ≡ 2
columns_end = refl

abbrev every_fourth : List SliceInfoElem
every_fourth = elem.Slice (pos 1) None (pos 4) ∷ elem.Slice (pos 3) (Some (pos 1)) (pos 1) ∷ []

ends_after_the_last_pick : end_on Strict (8 ∷ 5 ∷ []) 0 every_fourth ≡ 6
ends_after_the_last_pick = refl

ends_where_it_begins : (start_on Strict (8 ∷ 5 ∷ []) 1 every_fourth ≡ 3) × (end_on Strict (8 ∷ 5 ∷ []) 1 every_fourth ≡ 3)
ends_where_it_begins = (refl, refl)

not_past_itself : IsPast Strict (4 ∷ 5 ∷ []) 0 last_row last_row → ⊥
not_past_itself is = le→nltb 3 4 is.past
