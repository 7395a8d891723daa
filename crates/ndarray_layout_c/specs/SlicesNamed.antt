-- What many slices mean, of which C gives all elements one after another and how many each has; and which two of them intersect.
use Rattle.std.specs.Prelude.{◌≡◌, ℕ, ◌+◌, ℤ, pos, Option, Some, None, if◌then◌else◌, List, [], ◌∷◌, take, drop, slice_index, refl}
use Rattle.std.specs.Ordering.{int_eq}
use Rattle.ndarray_layout.specs.declared.SliceInfoElem.{SliceInfoElem}
use Rattle.ndarray_layout_c.specs.Elements.{elems_named}
use Rattle.ndarray_layout_c.specs.declared.elements.RawElem.{RawElem}

-- these counts, added
abbrev pub total : List ℕ → ℕ
total [] = 0
total (count ∷ counts) = count + total counts

-- a list in slices one after another, of these counts
abbrev pub cut_by : {A : Type 0} → List ℕ → List A → List (List A)
cut_by [] items = []
cut_by (count ∷ counts) items = take count items ∷ cut_by counts (drop count items)

-- the meanings of the elements, in slices of these counts
abbrev pub slices_named : List ℕ → List RawElem → List (List SliceInfoElem)
slices_named counts raws = cut_by counts (elems_named raws)

-- the two positions that a call wrote, where its answer is 1
abbrev pub pair_found : ℤ → List ℕ → Option (ℕ × ℕ)
pair_found answer pair = if int_eq answer (pos 1) then Some (slice_index pair 0, slice_index pair 1) else None

-- examples
three_slices : cut_by {A = ℕ} (2 ∷ 0 ∷ 1 ∷ []) (5 ∷ 6 ∷ 7 ∷ []) ≡ (5 ∷ 6 ∷ []) ∷ [] ∷ (7 ∷ []) ∷ []
three_slices = refl

three_counts : total (2 ∷ 0 ∷ 1 ∷ []) ≡ 3
three_counts = refl

second_and_fourth : pair_found (pos 1) (1 ∷ 3 ∷ []) ≡ Some (1, 3)
second_and_fourth = refl

no_two : pair_found (pos 0) (1 ∷ 3 ∷ []) ≡ None
no_two = refl
