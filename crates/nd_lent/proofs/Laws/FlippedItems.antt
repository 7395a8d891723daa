-- Laws of items that a loop of swaps flips along an axis: each index before the middle is swapped with the one as far from the other end.
use Rattle.std.proofs.Common.{◌≡◌, ◌≢◌, ◌⊎◌, ℕ, suc, ◌-◌, ◌/◌, ◌<◌, ◌≤◌, true, None, List, [], ◌∷◌, length}
use Rattle.std.proofs.Common.{get_or, set, refl, sym}
use Rattle.std.proofs.Common.{ap, subst, ◌∙◌, inl, inr, arith}
use Rattle.std.specs.List.{AllPairs, Contains}
use Rattle.std.proofs.lemmas.Bool.{cases_lt}
use Rattle.std.proofs.lemmas.List.{get_or-set_same, length-set, set-get_or, set-set}
use Rattle.std.proofs.lemmas.List.Edits.{length-swap}
use Rattle.std.proofs.lemmas.List.Elements.{All-contains}
use Rattle.ndarray_layout.specs.declared.Order.TheVariants.{RowMajor}
use Rattle.ndarray_layout.specs.Indices.{indices_in, is_index}
use Rattle.ndarray_layout.specs.InvertedView.{invert_source}
use Rattle.ndarray_layout.specs.Signed.{magnitude}
use Rattle.ndarray_layout.specs.SplitView.{split_fault}
use Rattle.ndarray_layout.specs.View.{View, IsView, place_at}
use Rattle.ndarray_layout.proofs.Laws.Indices.{AllPairs-indices_in, Contains-indices_in, is_index-from_Contains}
use Rattle.ndarray_layout.proofs.Laws.InvertedView.{Descends-inverted_of}
use Rattle.ndarray_layout.proofs.Laws.Coordinates.{is_index-set}
use Rattle.ndarray_layout.proofs.Laws.IsIndex.{coordinate_of_index, length_of_index}
use Rattle.ndarray_layout.proofs.Laws.SplitView.{Descends-first_part_of, no_fault_of_cut}
use Rattle.nd_lent.proofs.Laws.Listed.{first_or_rest}
use Rattle.nd_access.proofs.Laws.Lists.{pairs_head, pairs_tail}
use Rattle.nd_lent.proofs.Laws.SwappedItems.{after, first_swapped, is_after, others_kept, second_swapped, spare_kept}
use Rattle.nd_access.specs.HasItems.{HasItemsOf, KeepsSpare, with_swapped}
use Rattle.nd_access.specs.Items.{ArrayValue, IsOwned, item_at}

-- ---- a loop of swaps
-- an index waits for its swap: it is one of those that are left, or what such is turned to
abbrev pub Waits : (List ℕ → List ℕ) → List (List ℕ) → List ℕ → Type 0
Waits turn left index = (one : List ℕ) × Contains left one × ((index ≡ one) ⊎ (index ≡ turn one))

-- those that are left and what they are turned to are indices, each another one
pub record AreTurned (turn : List ℕ → List ℕ) (shape : List ℕ) (left : List (List ℕ)) : Type 0 where
  pub indices : (one : List ℕ) → Contains left one → (is_index shape one ≡ true) × (is_index shape (turn one) ≡ true)
  pub back : (one : List ℕ) → Contains left one → turn (turn one) ≡ one
  pub apart : (one other : List ℕ) → Contains left one → Contains left other → one ≢ turn other
  pub once : AllPairs (λ one other. one ≢ other) left

-- each index has the item of the one that it is turned to, but for those that wait
pub record IsFlippedBut {T : Type 0} (turn : List ℕ → List ℕ) (left : List (List ℕ)) (old now : ArrayValue T) : Type 0 where
  pub view : now.view ≡ old.view
  pub count : length now.items ≡ length old.items
  pub items : (index : List ℕ) → is_index old.view.shape index ≡ true
      → (Waits turn left index × (item_at now index ≡ item_at old index))
      ⊎ ((Waits turn left index → ⊥) × (item_at now index ≡ item_at old (turn index)))
  pub spare : KeepsSpare old now
  pub turned : AreTurned turn old.view.shape left

one_more : {X : Type 0} (x : X) (xs : List X) (y : X) → Contains xs y → Contains (x ∷ xs) y
one_more x xs y (k, below, is) = (suc k, omega (arith, below), is)

-- the next one is an index
pub coordinate_of_next : {turn : List ℕ → List ℕ} {shape one : List ℕ} {left now : List (List ℕ)} (axis : ℕ) → AreTurned turn shape now
    → now ≡ one ∷ left → axis < length shape → get_or one axis 0 < get_or shape axis 0
coordinate_of_next {shape = shape} {one = one} axis are next there =
    coordinate_of_index shape one axis (are.indices one (subst (λ waiting. Contains waiting one) (sym next) (0, omega arith, refl))).0 there

module _ (turn : List ℕ → List ℕ) (shape one : List ℕ) (left : List (List ℕ)) (are : AreTurned turn shape (one ∷ left)) where
  this : Contains (one ∷ left) one
  this = (0, omega arith, refl)

  later : (other : List ℕ) → Contains left other → Contains (one ∷ left) other
  later other = one_more one left other

  rest : AreTurned turn shape left
  rest = record {
    indices = λ other among. are.indices other (later other among);
    back = λ other among. are.back other (later other among);
    apart = λ other more among also. are.apart other more (later other among) (later more also);
    once = pairs_tail (λ first second. first ≢ second) one left are.once;
  }

  differs : (other : List ℕ) → Contains left other → one ≢ other
  differs other among =
      All-contains (λ second. one ≢ second) left other (pairs_head (λ first second. first ≢ second) one left are.once) among

  -- after its swap neither waits
  swapped : (index : List ℕ) → (index ≡ one) ⊎ (index ≡ turn one) → Waits turn left index → ⊥
  swapped index (inl is) (other, among, inl same) = differs other among (sym is ∙ same)
  swapped index (inl is) (other, among, inr same) = are.apart one other this (later other among) (sym is ∙ same)
  swapped index (inr is) (other, among, inl same) = are.apart other one (later other among) this (sym same ∙ is)
  swapped index (inr is) (other, among, inr same) =
      differs other among (sym (are.back one this) ∙ ap turn (sym is ∙ same) ∙ are.back other (later other among))

module _ {T : Type 0} (turn : List ℕ → List ℕ) (view : View) (before items : List T) (one : List ℕ) (left : List (List ℕ))
    (owned : IsOwned (length before) view)
    (so_far : IsFlippedBut turn (one ∷ left) (record { items = before; view = view }) (record { items = items; view = view })) where
  abbrev old : ArrayValue T
  old = record { items = before; view = view }

  abbrev now : ArrayValue T
  now = record { items = items; view = view }

  are : AreTurned turn view.shape (one ∷ left)
  are = so_far.turned

  own : IsOwned (length items) view
  own = subst (λ (n : ℕ). IsOwned n view) (sym so_far.count) owned

  first : Contains (one ∷ left) one
  first = this turn view.shape one left are

  here : is_index view.shape one ≡ true
  here = (are.indices one first).0

  also : is_index view.shape (turn one) ≡ true
  also = (are.indices one first).1

  abbrev next : ArrayValue T
  next = after now one (turn one) own here also

  -- what waits has its item
  as_before : (index : List ℕ) → is_index view.shape index ≡ true → Waits turn (one ∷ left) index → item_at now index ≡ item_at old index
  as_before index is waits = elim (so_far.items index is) [
    | inl still ↦ still.1
    | inr done ↦ absurd (done.0 waits)
  ]

  flipped : (index : List ℕ) → (index ≡ one) ⊎ (index ≡ turn one) → item_at next index ≡ item_at old (turn index)
  flipped index (inl is) =
      ap (item_at next) is
      ∙ first_swapped now one (turn one) own here also (λ same. are.apart one one first first (sym same))
      ∙ as_before (turn one) also (one, first, inr refl)
      ∙ ap (λ other. item_at old (turn other)) (sym is)
  flipped index (inr is) =
      ap (item_at next) is
      ∙ second_swapped now one (turn one) own here also
      ∙ as_before one here (one, first, inl refl)
      ∙ ap (item_at old) (sym (ap turn is ∙ are.back one first))

  still_waits : (index : List ℕ) → is_index view.shape index ≡ true → Waits turn (one ∷ left) index → item_at now index ≡ item_at old index
      → (Waits turn left index × (item_at next index ≡ item_at old index))
      ⊎ ((Waits turn left index → ⊥) × (item_at next index ≡ item_at old (turn index)))
  still_waits index is (other, among, way) same = elim (first_or_rest one left other among) [
    | inl it ↦
        let own_way : (index ≡ one) ⊎ (index ≡ turn one) = subst (λ o. (index ≡ o) ⊎ (index ≡ turn o)) (sym it) way in
        inr (swapped turn view.shape one left are index own_way, flipped index own_way)
    | inr later ↦ inl (
      (other, later, way),
      others_kept now one (turn one) own here also index is
          (λ e. swapped turn view.shape one left are index (inl e) (other, later, way))
          (λ e. swapped turn view.shape one left are index (inr e) (other, later, way)) ∙ same,
    )
  ]

  one_swapped : IsFlippedBut turn left old (with_swapped now one (turn one))
  one_swapped = subst (IsFlippedBut turn left old) (sym (is_after now one (turn one) own here also)) (record {
    view = refl;
    count = length-swap items (magnitude (place_at view one)) (magnitude (place_at view (turn one))) ∙ so_far.count;
    items = λ index is. elim (so_far.items index is) [
      | inl waits ↦ still_waits index is waits.0 waits.1
      | inr done ↦ inr (
        λ waits. done.0 (waits.0, one_more one left waits.0 waits.1, waits.2),
        others_kept now one (turn one) own here also index is (λ e. done.0 (one, first, inl e)) (λ e. done.0 (one, first, inr e))
            ∙ done.1,
      )
    ];
    spare = λ place none. spare_kept now one (turn one) own here also place none ∙ so_far.spare place none;
    turned = rest turn view.shape one left are;
  })

-- one more is swapped
pub one_flipped : {T : Type 0} (turn : List ℕ → List ℕ) (old now new : ArrayValue T) (one : List ℕ) (left : List (List ℕ))
    → IsOwned (length old.items) old.view → IsFlippedBut turn (one ∷ left) old now → new ≡ with_swapped now one (turn one)
    → IsFlippedBut turn left old new
one_flipped turn old now new one left owned so_far made =
    let same : now ≡ record { items = now.items; view = old.view } = ap (λ view. record { items = now.items; view = view }) so_far.view in
    subst (IsFlippedBut turn left old) (sym (made ∙ ap (λ array. with_swapped array one (turn one)) same))
    (one_swapped turn old.view old.items now.items one left owned (subst (IsFlippedBut turn (one ∷ left) old) same so_far))

-- in the end none waits
pub all_flipped : {T : Type 0} (turn : List ℕ → List ℕ) (old now : ArrayValue T) → IsFlippedBut turn [] old now
    → HasItemsOf (λ index. item_at old (turn index)) old now
all_flipped turn old now so_far = record {
  view = so_far.view;
  items = λ index here. elim (so_far.items index here) [
    | inl waits ↦ absurd (omega (arith, (waits.0).1))
    | inr done ↦ done.1
  ];
  spare = so_far.spare;
}

-- ---- along an axis
module _ (axis : ℕ) (view : View) (is : IsView view) (there : axis < length view.shape) where
  abbrev len : ℕ
  len = get_or view.shape axis 0

  abbrev across : List ℕ → List ℕ
  across = invert_source axis view.shape

  -- the indices before the middle
  abbrev pub half : List ℕ
  half = set view.shape axis (len / 2)

  none : split_fault view.shape axis (len / 2) ≡ None
  none = no_fault_of_cut view.shape axis (len / 2) there (omega arith)

  across_within : (index : List ℕ) → is_index view.shape index ≡ true → is_index view.shape (across index) ≡ true
  across_within index here = ((Descends-inverted_of axis view is there).places index here).0

  across_at : (index : List ℕ) → is_index view.shape index ≡ true → get_or (across index) axis 0 ≡ len - 1 - get_or index axis 0
  across_at index here =
      get_or-set_same index axis (len - 1 - get_or index axis 0) 0 (omega (arith, length_of_index view.shape index here, there))

  across_back : (index : List ℕ) → is_index view.shape index ≡ true → across (across index) ≡ index
  across_back index here =
      let same : len - 1 - get_or (across index) axis 0 ≡ get_or index axis 0 =
      omega (arith, across_at index here, coordinate_of_index view.shape index axis here there) in
      set-set index axis (len - 1 - get_or index axis 0) (len - 1 - get_or (across index) axis 0) ∙ ap (set index axis) same
      ∙ set-get_or index axis 0

  in_half : (index : List ℕ) → is_index view.shape index ≡ true → get_or index axis 0 < len / 2
      → Contains (indices_in RowMajor half) index
  in_half index here below = Contains-indices_in RowMajor half index
      (rw (set-get_or index axis 0) at (is_index-set view.shape index here axis (len / 2) (get_or index axis 0) there below))

  of_half : (index : List ℕ) → Contains (indices_in RowMajor half) index
      → (is_index view.shape index ≡ true) × (get_or index axis 0 < len / 2)
  of_half index among =
      let here = is_index-from_Contains RowMajor half index among in (
        ((Descends-first_part_of axis (len / 2) view is none).places index here).0,
        omega (
          arith,
          coordinate_of_index half index axis here (omega (arith, length-set view.shape axis (len / 2), there)),
          get_or-set_same view.shape axis (len / 2) 0 there,
        ),
      )

  halves_turned : AreTurned across view.shape (indices_in RowMajor half)
  halves_turned = record {
    indices = λ one among. let here = (of_half one among).0 in (here, across_within one here);
    back = λ one among. across_back one (of_half one among).0;
    apart = λ one other among also same.
        let first = of_half one among in
        let second = of_half other also in
        absurd (omega (arith, first.1, second.1, across_at other second.0, ap (λ index. get_or index axis 0) same));
    once = AllPairs-indices_in RowMajor half;
  }

  -- in the middle
  middle_stays : (index : List ℕ) → is_index view.shape index ≡ true → len / 2 ≤ get_or index axis 0
      → len / 2 ≤ len - 1 - get_or index axis 0
      → across index ≡ index
  middle_stays index here low high =
      let same : len - 1 - get_or index axis 0 ≡ get_or index axis 0 =
      omega (arith, coordinate_of_index view.shape index axis here there) in
      ap (set index axis) same ∙ set-get_or index axis 0

  middle_done : (index : List ℕ) → is_index view.shape index ≡ true → len / 2 ≤ get_or index axis 0
      → len / 2 ≤ len - 1 - get_or index axis 0
      → Waits across (indices_in RowMajor half) index → ⊥
  middle_done index here low high (one, among, inl same) =
      let below = (of_half one among).1 in
      absurd (omega (arith, below, ap (λ i. get_or i axis 0) same))
  middle_done index here low high (one, among, inr same) =
      let first = of_half one among in
      absurd (omega (
        arith,
        first.1,
        ap (λ i. get_or i axis 0) same,
        across_at one first.0,
        coordinate_of_index view.shape one axis first.0 there,
      ))

  -- at first all wait but the middle
  pub none_flipped : {T : Type 0} (items : List T) (left : List (List ℕ)) → left ≡ indices_in RowMajor half
      → IsFlippedBut across left (record { items = items; view = view }) (record { items = items; view = view })
  none_flipped items left all = subst (λ waiting. IsFlippedBut across waiting (record { items = items; view = view })
      (record { items = items; view = view })) (sym all) (record {
        view = refl;
        count = refl;
        items = λ index here. elim (cases_lt (get_or index axis 0) (len / 2)) [
          | inl below ↦ inl ((index, in_half index here below, inl refl), refl)
          | inr low ↦ elim (cases_lt (len - 1 - get_or index axis 0) (len / 2)) [
            | inl below ↦ inl (
              (
                across index,
                in_half (across index) (across_within index here) (omega (arith, across_at index here, below)),
                inr (sym (across_back index here)),
              ),
              refl,
            )
            | inr high ↦ inr (
              middle_done index here low high,
              ap (item_at (record { items = items; view = view })) (sym (middle_stays index here low high)),
            )
          ]
        ];
        spare = λ place free. refl;
        turned = halves_turned;
      })
