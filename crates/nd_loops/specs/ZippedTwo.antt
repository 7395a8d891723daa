-- Calls of a closure at the items of three arrays, side by side: each at a `&mut` to the first and a `&` to both others.
use Rattle.std.specs.Prelude.{◌≡◌, ℕ, pos, Option, Some, None, List, [], ◌∷◌, refl}
use Rattle.std.specs.Borrow.{Bor, MutBor}
use Rattle.std.specs.Fn.{Mut}
use Rattle.std.specs.Option.{option_map, option_zip}
use Rattle.nd_access.specs.Items.{ArrayValue, item_at}
use Rattle.nd_access.specs.Mapped.{row_major_items}
use Rattle.nd_access.specs.Zipped.{CallableBesideEach, CalledBeside, TakesBeside, pairs_of}

-- items side by side in three lists, each with the pair of both others, there where all are
abbrev pub triples_of : {X Y Z : Type 0} → List (Option X) → List (Option Y) → List (Option Z) → List (Option (X × (Y × Z)))
triples_of xs ys zs = pairs_of xs (pairs_of ys zs)

-- those of the same index of three arrays of one shape, in row-major order
abbrev pub row_major_triples : {T U V : Type 0} → ArrayValue T → ArrayValue U → ArrayValue V → List (Option (T × (U × V)))
row_major_triples array other third = triples_of (row_major_items array) (row_major_items other) (row_major_items third)

-- those of an index
abbrev pub triple_at : {T U V : Type 0} → ArrayValue T → ArrayValue U → ArrayValue V → List ℕ → Option (T × (U × V))
triple_at array other third index = option_zip (item_at array index) (option_zip (item_at other index) (item_at third index))

-- what h makes of the items of an index in all three
abbrev pub zipped_two_at : {T U V : Type 0} → (T → U → V → T) → ArrayValue T → ArrayValue U → ArrayValue V → List ℕ → Option T
zipped_two_at h array other third index =
    option_map (λ triple. h triple.0 triple.1.0 triple.1.1) (triple_at array other third index)

-- two items stand beside it
abbrev pub two_beside : {U V : Type 0} → Bor U × (Bor V × Unit {0}) → U × V
two_beside shown = (shown.0.now, shown.1.0.now)

module _ {F T U V : Type 0} (g : Mut F (MutBor T × (Bor U × (Bor V × Unit {0}))) (Unit {0} × (MutBor T × Unit {0}))) where
  -- a call of f at a `&mut` to the first of a triple and a `&` to both others may leave f' and x'
  abbrev pub CalledAtTriple : F → T × (U × V) → T → F → Type 0
  CalledAtTriple = CalledBeside two_beside g

  -- f may be called at a triple
  abbrev pub TakesTriple : F → T × (U × V) → Type 0
  TakesTriple = TakesBeside two_beside g

  -- and at each of these triples in turn, as the calls before left it
  abbrev pub CallableOnEachTriple : List (Option (T × (U × V))) → F → Type 0
  CallableOnEachTriple = CallableBesideEach two_beside g

  -- each call of f leaves what h gives of all three, and leaves f as it was
  abbrev pub ActsAsAtTriple : F → (T → U → V → T) → Type 0
  ActsAsAtTriple f h = (x : T) (u : U) (v : V) (f' : F) (x' : T) → CalledAtTriple f (x, (u, v)) x' f' → (f' ≡ f) × (x' ≡ h x u v)

-- examples
all_or_none : triples_of {X = ℕ} {Y = ℕ} {Z = ℕ} (Some 7 ∷ Some 8 ∷ []) (Some 1 ∷ Some 2 ∷ []) (Some 3 ∷ None ∷ [])
    ≡ Some (7, (1, 3)) ∷ None ∷ []
all_or_none = refl

abbrev row : List ℕ → ArrayValue ℕ
row items = record { items = items; view = record { start = 0; shape = 2 ∷ []; strides = pos 1 ∷ [] } }

third_of_three : zipped_two_at (λ x u v. v) (row (7 ∷ 8 ∷ [])) (row (5 ∷ 6 ∷ [])) (row (3 ∷ 4 ∷ [])) (1 ∷ []) ≡ Some 4
third_of_three = refl

none_where_one_is_missing : zipped_two_at (λ x u v. v) (row (7 ∷ 8 ∷ [])) (row (5 ∷ 6 ∷ [])) (row (3 ∷ [])) (1 ∷ []) ≡ None
none_where_one_is_missing = refl
