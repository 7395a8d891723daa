-- Some elements of a slice, and the right to read and write them.
use lib.Dec.{T}
use Prim.Native.Nat.{zero, suc}
use Rattle.std.specs.Prelude.{◌≡◌, refl, ℕ, Bool, true, false, ◌&&◌, not, List, [], ◌∷◌, length}
use base.Fraction.{full_share}
use base.Stored.{coded_list}
use base.Fml.{Lft, GName, Fml, ftrue, ffalse, fsep, feq, fobs, fbor}
use types.SemTy.{SemTy, Body}
use denote.Memory.{mem}
use denote.RattleType.{RattleType}
use denote.RawPtr.{Ptr, block_ptr, block_of, count_of, lies_at, ◌+ₚ◌}
use denote.Sharing.{nothing, said, beside, within}
use denote.Slice.{room}
use denote.Struct.Lending.{lent_at}

-- what is owned of the element at an address: the element, or nothing
abbrev pub cell_if : (V : RattleType) → Ptr → Bool → V.Denot → Fml
cell_if V at true item = lies_at V full_share at item
cell_if V at false item = ftrue

-- the elements that are marked, of as many side by side as there are marks
abbrev pub cells_where : (V : RattleType) → Ptr → List Bool → List V.Denot → Fml
cells_where V at [] [] = ftrue
cells_where V at [] (item ∷ items) = ffalse
cells_where V at (mine ∷ marks) [] = ffalse
cells_where V at (mine ∷ marks) (item ∷ items) = fsep (cell_if V at mine item) (cells_where V (at +ₚ (mem V).size) marks items)

-- the same as a type of values in memory, whose values are lists
abbrev pub CellsWhere : RattleType → Ptr → List Bool → SemTy
CellsWhere V first marks =
    record { rep = List V.Denot; coded = coded_list V.coded; size = 0; own_at = λ items _ _. cells_where V first marks items }

-- what is known of them: where they lie, how many they are, and that all of them fit into memory
abbrev pub known : (V : RattleType) → Ptr → List Bool → List V.Denot → Fml
known V first marks items = fsep (feq Ptr first (block_ptr (block_of first) (count_of first)))
    (fsep (feq ℕ (length items) (length marks)) (room V (length items)))

-- a `&mut` to them, as one to a slice is
abbrev pub holds_cells : Lft → (V : RattleType) → GName → Ptr → List Bool → List V.Denot → Fml
holds_cells κ V name first marks items = fsep (known V first marks items)
    (fsep (fobs name ((coded_list V.coded).code items)) (fbor κ (Body (CellsWhere V first marks) 0 0 name)))

-- what a `&` to the right holds of the element at an address: a `&` to it, or nothing
abbrev pub lent_if : (V : RattleType) → Ptr → Bool → V.Denot → Lft → Fml
lent_if V at true item = lent_at V at item
lent_if V at false item = nothing

-- a `&` to each element that has a mark
abbrev pub lent_where : (V : RattleType) → Ptr → List Bool → List V.Denot → Lft → Fml
lent_where V at [] items = nothing
lent_where V at (mine ∷ marks) [] = nothing
lent_where V at (mine ∷ marks) (item ∷ items) = beside (lent_if V at mine item) (lent_where V (at +ₚ (mem V).size) marks items)

-- what a `&` to the right holds: a `&` to each element that has a mark, for as long as both are borrowed
abbrev pub shows_cells : Lft → (V : RattleType) → Ptr → List Bool → List V.Denot → Lft → Fml
shows_cells κ V first marks items = beside (said (known V first marks items)) (within κ (lent_where V first marks items))

-- marks stand only where others stand too
abbrev pub are_within : List Bool → List Bool → Bool
are_within [] [] = true
are_within [] (m ∷ marks) = false
are_within (c ∷ chosen) [] = false
are_within (true ∷ chosen) (m ∷ marks) = m && are_within chosen marks
are_within (false ∷ chosen) (m ∷ marks) = are_within chosen marks

-- the marks that others leave
abbrev pub without : List Bool → List Bool → List Bool
without [] marks = []
without (c ∷ chosen) [] = []
without (c ∷ chosen) (m ∷ marks) = (m && not c) ∷ without chosen marks

-- where a mark stands the item of one list, else that of another
abbrev pub chosen_of : {T : Type 0} → List Bool → List T → List T → List T
chosen_of [] items others = []
chosen_of (c ∷ chosen) [] others = []
chosen_of (c ∷ chosen) (item ∷ items) [] = []
chosen_of (true ∷ chosen) (item ∷ items) (other ∷ others) = item ∷ chosen_of chosen items others
chosen_of (false ∷ chosen) (item ∷ items) (other ∷ others) = other ∷ chosen_of chosen items others

-- marks at a stretch alone: so many from a place on, of as many as others
abbrev pub span_of : ℕ → ℕ → List Bool → List Bool
span_of start len [] = []
span_of (suc start) len (m ∷ marks) = false ∷ span_of start len marks
span_of zero (suc len) (m ∷ marks) = true ∷ span_of zero len marks
span_of zero zero (m ∷ marks) = false ∷ span_of zero zero marks

-- a list with some items written over its own, from a place on
abbrev pub written_at : {T : Type 0} → ℕ → List T → List T → List T
written_at start items [] = []
written_at (suc start) items (own ∷ others) = own ∷ written_at start items others
written_at zero [] (own ∷ others) = own ∷ others
written_at zero (item ∷ items) (own ∷ others) = item ∷ written_at zero items others

-- examples
first_alone : T (are_within (true ∷ false ∷ []) (true ∷ true ∷ []))
first_alone = tt

none_there : T (are_within (false ∷ true ∷ []) (true ∷ false ∷ [])) → ⊥
none_there h = h

too_few : T (are_within (true ∷ []) (true ∷ true ∷ [])) → ⊥
too_few h = h

second_is_left : without (true ∷ false ∷ false ∷ []) (true ∷ true ∷ false ∷ []) ≡ false ∷ true ∷ false ∷ []
second_is_left = refl

first_of_one : chosen_of {T = ℕ} (true ∷ false ∷ false ∷ []) (1 ∷ 2 ∷ 3 ∷ []) (7 ∷ 8 ∷ 9 ∷ []) ≡ 1 ∷ 8 ∷ 9 ∷ []
first_of_one = refl

two_from_one : span_of 1 2 (true ∷ true ∷ false ∷ true ∷ []) ≡ false ∷ true ∷ true ∷ false ∷ []
two_from_one = refl

over_the_middle : written_at {T = ℕ} 1 (1 ∷ []) (7 ∷ 8 ∷ 9 ∷ []) ≡ 7 ∷ 1 ∷ 9 ∷ []
over_the_middle = refl
