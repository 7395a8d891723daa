-- Calls of a closure at one item after another: what each was made at, and what it left or returned.
use Rattle.std.specs.Prelude.{◌≡◌, ℕ, ◌+◌, pos, Option, Some, None, List, [], ◌∷◌, map, zip, nat_eq, refl}
use Rattle.std.proofs.Common.{eq-eqb}
use Rattle.std.proofs.lemmas.Bool.{both_ways}
use Rattle.std.specs.Borrow.{MutBor}
use Rattle.std.specs.Fn.{CalledAtMut, Mut, Takes}
use Rattle.std.specs.Iterator.{CallableAtEachTurn, YieldsFirstBy}
use Rattle.std.specs.List.{FoldsTo}
use Rattle.ndarray_layout.specs.declared.Fit.TheVariants.{Strict}
use Rattle.ndarray_layout.specs.declared.Order.{Order}
use Rattle.ndarray_layout.specs.declared.Order.TheVariants.{RowMajor}
use Rattle.ndarray_layout.specs.declared.SliceInfoElem.{SliceInfoElem}
use Rattle.ndarray_layout.specs.declared.SliceInfoElem.TheVariants as elem
use Rattle.ndarray_layout.specs.Indices.{indices_in}
use Rattle.ndarray_layout.specs.SlicedView.{slice_of}
use Rattle.nd_access.specs.Items.{ArrayValue, item_at}

-- a call at an item makes another one; none is made where an item is missing
abbrev pub Makes : {F X Y : Type 0} → (F → X → Y → F → Type 0) → F → Option X × Option Y → F → Type 0
Makes call before (Some x, Some y) after = call before x y after
Makes call before (Some x, None) after = ⊥
Makes call before (None, y) after = ⊥

-- calls in turn, each as the one before left the closure, make these items, each of the one at its position in the other list
pub record CallsMake {F X Y : Type 0} (call : F → X → Y → F → Type 0) (f : F) (given : List (Option X))
    (made : List (Option Y)) : Type 0 where
  pub last : F
  pub calls : FoldsTo (Makes call) f (zip given made) last

-- the items of all indices, in an order of these
abbrev pub ordered_items : {T : Type 0} → Order → ArrayValue T → List (Option T)
ordered_items order array = map (item_at array) (indices_in order array.view.shape)

-- and in row-major order
abbrev pub row_major_items : {T : Type 0} → ArrayValue T → List (Option T)
row_major_items array = ordered_items RowMajor array

-- each call of f at a `&mut` leaves there what h gives, and leaves f as it was
abbrev pub ActsAsAtMut : {F T R : Type 0} → Mut F (MutBor T × Unit {0}) (R × (MutBor T × Unit {0})) → F → (T → T) → Type 0
ActsAsAtMut {F} {T} {R} g f h = (x : T) (r : R) (f' : F) (x' : T) → CalledAtMut g f x r f' x' → (f' ≡ f) × (x' ≡ h x)

-- of the items that are left the first is given, and the others are left; there is none where none is left
abbrev pub gives : {T : Type 0} → List (Option T) → Option T → List (Option T) → Type 0
gives = YieldsFirstBy (λ item. Some item) (λ left. left)

-- f may be called at a `&mut` to x
abbrev pub TakesAtMut : {F T R : Type 0} → Mut F (MutBor T × Unit {0}) (R × (MutBor T × Unit {0})) → F → T → Type 0
TakesAtMut {F} {T} g f x = (item : MutBor T) → item.now ≡ x → Takes g f (item, tt)

-- f, which returns nothing, may be called at a `&mut` to each of these items in turn, as the calls before left it
abbrev pub CallableOnEachMut : {F T : Type 0} → Mut F (MutBor T × Unit {0}) (Unit {0} × (MutBor T × Unit {0})) → List (Option T) → F
    → Type 0
CallableOnEachMut {T = T} g items f = CallableAtEachTurn gives (λ p x q. (y : T) × CalledAtMut g p x tt q y) (TakesAtMut g) items f

-- the part of an array that a slice argument picks
abbrev pub part_of : {T : Type 0} → List SliceInfoElem → ArrayValue T → ArrayValue T
part_of slice array = record { items = array.items; view = slice_of Strict slice array.view }

-- examples: a call that adds what it counts, from 5 on
abbrev counts : ℕ → ℕ → ℕ → ℕ → Type 0
counts before x y after = (y ≡ x + before) × (after ≡ before + 1)

two_calls : CallsMake counts 5 (Some 10 ∷ Some 20 ∷ []) (Some 15 ∷ Some 26 ∷ [])
two_calls = record { last = 7; calls = (6, (refl, refl), (7, (refl, refl), refl)) }

other_order : CallsMake counts 5 (Some 10 ∷ Some 20 ∷ []) (Some 16 ∷ Some 25 ∷ []) → ⊥
other_order run = both_ways (nat_eq 16 15) refl (eq-eqb 16 15 run.calls.1.0)

none_made : CallsMake counts 5 (Some 10 ∷ []) (None ∷ []) → ⊥
none_made run = run.calls.1

abbrev row_of_three : ArrayValue ℕ
row_of_three = record { items = 7 ∷ 8 ∷ 9 ∷ []; view = record { start = 0; shape = 3 ∷ []; strides = pos 1 ∷ [] } }

all_in_order : row_major_items row_of_three ≡ Some 7 ∷ Some 8 ∷ Some 9 ∷ []
all_in_order = refl

last_two : row_major_items (part_of (elem.Slice (pos 1) None (pos 1) ∷ []) row_of_three) ≡ Some 8 ∷ Some 9 ∷ []
last_two = refl
