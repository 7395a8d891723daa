-- Where the axes of a layout, as they are read in an order, can't be iterated over as one axis. All lists are in the order of reading,
-- so that the axis read first is the slowest.
use Rattle.std.specs.Prelude.{◌≡◌, ℕ, ◌*◌, ◌==◌, ◌&&◌, Bool, true, false, not, nat_lt, ℤ, pos, ◌*ℤ◌, if◌then◌else◌, Option, Some, None}
use Rattle.std.specs.Prelude.{List, [], ◌∷◌, ◌++◌, map, refl}
use Rattle.std.specs.List.{list_any}
use Rattle.std.specs.Ordering.{int_eq}
use Rattle.nd_base.specs.Size.{size}

-- the length and the stride of the first axis that has more than one coordinate
abbrev pub first_longer : List ℕ → List ℤ → Option (ℕ × ℤ)
first_longer [] strides = None
first_longer (len ∷ lens) [] = None
first_longer (len ∷ lens) (stride ∷ strides) = (if nat_lt 1 len then Some (len, stride) else first_longer lens strides)

-- the stride of an axis isn't the whole of the next longer one: its length times its stride
abbrev pub is_loose : ℤ → Option (ℕ × ℤ) → Bool
is_loose stride None = false
is_loose stride (Some next) = not (int_eq stride (pos next.0 *ℤ next.1))

-- where two longer axes that follow one another can't be iterated over as one, the product of all lengths read before the later one
abbrev pub loose_joints : List ℕ → List ℤ → List ℕ
loose_joints [] strides = []
loose_joints (len ∷ lens) [] = []
loose_joints (len ∷ lens) (stride ∷ strides) =
    (if nat_lt 1 len && is_loose stride (first_longer lens strides) then len ∷ [] else [])
    ++ map (λ joint. len * joint) (loose_joints lens strides)

-- the products of the first lengths, of none of them up to all
abbrev pub cumulative_products : List ℕ → List ℕ
cumulative_products [] = 1 ∷ []
cumulative_products (len ∷ lens) = 1 ∷ map (λ product. len * product) (cumulative_products lens)

-- a loose joint lies within the new shape, and between none of its axes
abbrev pub is_bad_joint : List ℕ → ℕ → Bool
is_bad_joint to joint = nat_lt joint (size to) && not (list_any (λ product. product == joint) (cumulative_products to))

-- some loose joint lies within the new shape, and between none of its axes
abbrev pub has_bad_joint : List ℕ → List ℤ → List ℕ → Bool
has_bad_joint from strides to = list_any (is_bad_joint to) (loose_joints from strides)

-- examples
rows_with_gaps : loose_joints (4 ∷ 4 ∷ []) (pos 8 ∷ pos 1 ∷ []) ≡ 4 ∷ []
rows_with_gaps = refl

past_an_axis_of_one : loose_joints (1 ∷ 2 ∷ 1 ∷ 3 ∷ 5 ∷ []) (pos 6 ∷ pos 15 ∷ pos 9 ∷ pos 6 ∷ pos 1 ∷ []) ≡ 2 ∷ 6 ∷ []
past_an_axis_of_one = refl

rows_without_gaps : loose_joints (2 ∷ 3 ∷ []) (pos 3 ∷ pos 1 ∷ []) ≡ []
rows_without_gaps = refl

products_of_three : cumulative_products (2 ∷ 1 ∷ 4 ∷ []) ≡ 1 ∷ 2 ∷ 2 ∷ 8 ∷ []
products_of_three = refl

rows_cut_in_halves : has_bad_joint (4 ∷ 4 ∷ []) (pos 8 ∷ pos 1 ∷ []) (2 ∷ 2 ∷ 2 ∷ 2 ∷ []) ≡ false
rows_cut_in_halves = refl

across_rows : has_bad_joint (4 ∷ 4 ∷ []) (pos 8 ∷ pos 1 ∷ []) (2 ∷ 1 ∷ 4 ∷ 2 ∷ []) ≡ true
across_rows = refl

past_the_joint : has_bad_joint (4 ∷ 4 ∷ []) (pos 8 ∷ pos 1 ∷ []) (3 ∷ 5 ∷ []) ≡ true
past_the_joint = refl
