-- Slices in groups, of which no two share an index.
use Rattle.std.specs.Prelude.{◌≡◌, ◌≢◌, ◌⊎◌, ℕ, ◌+◌, ◌%◌, ◌<◌, ◌≤◌, None, List, [], length, map, slice_index_or}
use Rattle.std.specs.List.{AllPairs}
use Rattle.nd_slice.specs.declared.fit.Fit.{Fit}
use Rattle.nd_slice.specs.declared.elem.SliceInfoElem.{SliceInfoElem}
use Rattle.nd_slice.specs.declared.slices_in_groups.Grouped.{Grouped}
use Rattle.nd_slice.specs.IntersectingPair.{AreApart}
use Rattle.nd_slice.specs.RangesApart.{HasRemainderOn, end_on, start_on}
use Rattle.nd_slice.specs.SliceFault.{argument_fault}

-- a slice with its position in the list that it is of
abbrev pub named : Grouped → ℕ × List SliceInfoElem
named item = (item.position, item.elems.now)

-- the same with its group: what it keeps on another axis
abbrev pub kept : Grouped → ℕ × (ℕ × List SliceInfoElem)
kept item = (item.group, named item)

-- it fits a shape
abbrev pub HasNoFault : Fit → List ℕ → Grouped → Type 0
HasNoFault fit shape item = argument_fault fit shape item.elems.now ≡ None

-- slices of different groups share no index
abbrev pub AreApartAcross : Fit → List ℕ → List Grouped → Type 0
AreApartAcross fit shape =
    AllPairs (λ one other. one.group ≢ other.group → AreApart fit shape one.elems.now other.elems.now)

-- the axis is there, and the range is that of the slice, or alone the remainder, divided by a number, that is of all its picks
pub record IsOnAxis (fit : Fit) (shape : List ℕ) (axis by : ℕ) (item : Grouped) : Type 0 where
  pub there : axis < length shape
  pub range : by ≡ 0 → (item.start ≡ start_on fit shape axis item.elems.now) × (item.end ≡ end_on fit shape axis item.elems.now)
  pub remainder : 0 < by → HasRemainderOn by fit shape axis item.elems.now
      × (item.start ≡ start_on fit shape axis item.elems.now % by) × (item.end ≡ item.start + 1)

-- the number of the group of the item at a position
abbrev pub group_at : List Grouped → ℕ → ℕ
group_at items position = slice_index_or (map (λ item. item.group) items) position 0

-- where its range begins
abbrev pub start_at : List Grouped → ℕ → ℕ
start_at items position = slice_index_or (map (λ item. item.start) items) position 0

-- the number that its range stops before
abbrev pub end_at : List Grouped → ℕ → ℕ
end_at items position = slice_index_or (map (λ item. item.end) items) position 0

-- the groups stand one after another
pub record AreInGroups (items : List Grouped) : Type 0 where
  pub in_order : (i j : ℕ) → i < j → j < length items → group_at items i ≤ group_at items j

-- they do, and in each of them the slices stand by where they begin
pub record AreSorted (items : List Grouped) : Type 0 where
  pub in_order : (i j : ℕ) → i < j → j < length items
      → (group_at items i < group_at items j) ⊎ ((group_at items i ≡ group_at items j) × (start_at items i ≤ start_at items j))

-- two slices are in different groups only where they were before, or where the first ends before the second begins
pub record IsCut (items cut : List Grouped) : Type 0 where
  pub parted : (i j : ℕ) → i < j → j < length items → group_at cut i ≢ group_at cut j
      → (group_at items i ≢ group_at items j) ⊎ (end_at items i ≤ start_at items j)

-- the slice of the item at a position
abbrev pub elems_at : List Grouped → ℕ → List SliceInfoElem
elems_at items position = slice_index_or (map (λ item. item.elems.now) items) position []
