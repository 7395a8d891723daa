-- Calls of a closure at the items of an array and at what stands beside each, as the item of another array: each at a `&mut` to the first.
use Rattle.std.specs.Prelude.{◌≡◌, ℕ, pos, Option, Some, None, List, [], ◌∷◌, refl}
use Rattle.std.specs.Borrow.{Bor, MutBor}
use Rattle.std.specs.Fn.{Called, Mut, Takes}
use Rattle.std.specs.Iterator.{CallableAtEachTurn}
use Rattle.std.specs.Option.{option_map, option_zip}
use Rattle.std.specs.Simd.Lanes.{zip2}
use Rattle.nd_access.specs.Items.{ArrayValue, item_at}
use Rattle.nd_access.specs.Mapped.{gives, row_major_items}

-- items side by side, each pair there where both are
abbrev pub pairs_of : {X Y : Type 0} → List (Option X) → List (Option Y) → List (Option (X × Y))
pairs_of xs ys = zip2 option_zip xs ys

-- those of the same index of two arrays of one shape, in row-major order
abbrev pub row_major_pairs : {T U : Type 0} → ArrayValue T → ArrayValue U → List (Option (T × U))
row_major_pairs array other = pairs_of (row_major_items array) (row_major_items other)

-- what h makes of the items of an index in both
abbrev pub zipped_at : {T U : Type 0} → (T → U → T) → ArrayValue T → ArrayValue U → List ℕ → Option T
zipped_at h array other index = option_map (λ pair. h pair.0 pair.1) (option_zip (item_at array index) (item_at other index))

-- what stands beside an item is shown to a closure after it; `value` reads off what it is
module _ {F T A V : Type 0} (value : A → V) (g : Mut F (MutBor T × A) (Unit {0} × (MutBor T × Unit {0}))) where
  -- a call of f at a `&mut` to an item and at what stands beside it may leave f' and x'
  pub record CalledBeside (f : F) (given : T × V) (x' : T) (f' : F) : Type 0 where
    pub shown : MutBor T
    pub beside : A
    pub shows : (shown.now ≡ given.0) × (value beside ≡ given.1)
    pub left : MutBor T
    pub called : Called g f (shown, beside) (tt, (left, tt)) f'
    pub leaves : left.now ≡ x'

  -- f may be called at an item and what stands beside it
  abbrev pub TakesBeside : F → T × V → Type 0
  TakesBeside f given = (item : MutBor T) (beside : A) → item.now ≡ given.0 → value beside ≡ given.1 → Takes g f (item, beside)

  -- and at each of these in turn, as the calls before left it
  abbrev pub CallableBesideEach : List (Option (T × V)) → F → Type 0
  CallableBesideEach given f =
      CallableAtEachTurn gives (λ p one q. (y : T) × CalledBeside p one y q) TakesBeside given f

  -- each call of f leaves what h gives of the item and of what stands beside it, and leaves f as it was
  abbrev pub ActsBeside : F → (T × V → T) → Type 0
  ActsBeside f h = (given : T × V) (f' : F) (x' : T) → CalledBeside f given x' f' → (f' ≡ f) × (x' ≡ h given)

-- one item stands beside it
abbrev pub one_beside : {U : Type 0} → Bor U × Unit {0} → U
one_beside shown = shown.0.now

module _ {F T U : Type 0} (g : Mut F (MutBor T × (Bor U × Unit {0})) (Unit {0} × (MutBor T × Unit {0}))) where
  -- a call of f at a `&mut` to the first of a pair and a `&` to the second may leave f' and x'
  abbrev pub CalledAtPair : F → T × U → T → F → Type 0
  CalledAtPair = CalledBeside one_beside g

  -- f may be called at a pair
  abbrev pub TakesPair : F → T × U → Type 0
  TakesPair = TakesBeside one_beside g

  -- and at each of these pairs in turn, as the calls before left it
  abbrev pub CallableOnEachPair : List (Option (T × U)) → F → Type 0
  CallableOnEachPair = CallableBesideEach one_beside g

  -- each call of f leaves what h gives of both, and leaves f as it was
  abbrev pub ActsAsAtPair : F → (T → U → T) → Type 0
  ActsAsAtPair f h = (x : T) (u : U) (f' : F) (x' : T) → CalledAtPair f (x, u) x' f' → (f' ≡ f) × (x' ≡ h x u)

-- examples
both_or_none : pairs_of {X = ℕ} {Y = ℕ} (Some 7 ∷ None ∷ Some 9 ∷ []) (Some 1 ∷ Some 2 ∷ None ∷ []) ≡ Some (7, 1) ∷ None ∷ None ∷ []
both_or_none = refl

abbrev row : List ℕ → ArrayValue ℕ
row items = record { items = items; view = record { start = 0; shape = 2 ∷ []; strides = pos 1 ∷ [] } }

second_of_two : zipped_at (λ x u. u) (row (7 ∷ 8 ∷ [])) (row (5 ∷ 6 ∷ [])) (1 ∷ []) ≡ Some 6
second_of_two = refl

none_past_the_end : zipped_at (λ x u. u) (row (7 ∷ 8 ∷ [])) (row (5 ∷ 6 ∷ [])) (2 ∷ []) ≡ None
none_past_the_end = refl
