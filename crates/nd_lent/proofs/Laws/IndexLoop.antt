-- Laws of an array whose indices a loop writes one after another, each with the item that is given for it.
use Rattle.std.proofs.Common.{◌≡◌, ◌≢◌, ◌⊎◌, ℕ, ℤ, pos, negsuc, true, Some, List, [], ◌∷◌, length}
use Rattle.std.proofs.Common.{refl, sym, ap, subst, ◌∙◌, arith, inl, inr}
use Rattle.std.specs.List.{Contains}
use Rattle.std.specs.Ordering.{int_eq}
use Rattle.std.proofs.lemmas.Bool.{cases_Bool, false≢true}
use Rattle.std.proofs.lemmas.Bool.Decides.{Decides-int_eq}
use Rattle.ndarray_layout.specs.declared.Order.TheVariants.{RowMajor}
use Rattle.ndarray_layout.specs.Bounds.{IsInBounds}
use Rattle.ndarray_layout.specs.Indices.{indices_in, is_index}
use Rattle.ndarray_layout.specs.Signed.{magnitude}
use Rattle.ndarray_layout.specs.View.{View, place_at, view_places}
use Rattle.ndarray_layout.proofs.Laws.Indices.{Contains-indices_in}
use Rattle.ndarray_layout.proofs.Laws.Lists.{Contains-map}
use Rattle.nd_lent.proofs.Laws.Listed.{first_or_rest}
use Rattle.nd_access.proofs.Laws.Lists.{set_other}
use Rattle.nd_lent.proofs.Laws.PutBack.{length-with_item}
use Rattle.nd_lent.proofs.Laws.Written.{kept, replaced}
use Rattle.nd_access.specs.HasItems.{HasItemsOf, KeepsSpare}
use Rattle.nd_access.specs.Items.{ArrayValue, IsOwned, item_at, with_item}

view-with_item : {T : Type 0} (array : ArrayValue T) (index : List ℕ) (item : T) → (with_item array index item).view ≡ array.view
view-with_item array index item = elim (cases_Bool (is_index array.view.shape index)) [
  | inl here ↦ rw here refl
  | inr none ↦ rw none refl
]

place_of : (count : ℕ) (z : ℤ) → IsInBounds count z → z ≡ pos (magnitude z)
place_of count (pos k) below = refl
place_of count (negsuc k) below = absurd below

-- an item that no index has is unchanged
spare_stays : {T : Type 0} (array : ArrayValue T) (index : List ℕ) (item : T) → IsOwned (length array.items) array.view
    → KeepsSpare array (with_item array index item)
spare_stays array index item owned place none = elim (cases_Bool (is_index array.view.shape index)) [
  | inl here ↦
      let z = place_at array.view index in
      rw here (set_other array.items (magnitude z) item place (λ same.
      none (subst (Contains (view_places RowMajor array.view))
      (place_of (length array.items) z (owned.within index here) ∙ ap pos (sym same))
      (Contains-map (place_at array.view) (indices_in RowMajor array.view.shape)
      (Contains-indices_in RowMajor array.view.shape index here)))))
  | inr none ↦ rw none refl
]

-- two indices of an array are one or not
same_or_not : {T : Type 0} (array : ArrayValue T) (index other : List ℕ) → IsOwned (length array.items) array.view
    → is_index array.view.shape index ≡ true → is_index array.view.shape other ≡ true → (other ≡ index) ⊎ (other ≢ index)
same_or_not array index other owned here there =
    let one = place_at array.view other in
    let two = place_at array.view index in
    elim (cases_Bool (int_eq one two)) [
      | inl same ↦ inl (owned.distinct other index there here ((Decides-int_eq one two).0 same))
      | inr apart ↦ inr (λ same. false≢true (sym apart ∙ (Decides-int_eq one two).1 (ap (place_at array.view) same)))
    ]

-- each index but those that are left has the item that is given for it
pub record IsWrittenBut {T : Type 0} (given : List ℕ → T) (left : List (List ℕ)) (before now : ArrayValue T) : Type 0 where
  pub view : now.view ≡ before.view
  pub count : length now.items ≡ length before.items
  pub items : (index : List ℕ) → is_index before.view.shape index ≡ true → Contains left index ⊎ (item_at now index ≡ Some (given index))
  pub spare : KeepsSpare before now

module _ {T : Type 0} (given : List ℕ → T) where
  -- at first none
  pub none_written : (array : ArrayValue T) (left : List (List ℕ)) → left ≡ indices_in RowMajor array.view.shape
      → IsWrittenBut given left array array
  none_written array left all = record {
    view = refl;
    count = refl;
    items = λ index here.
        inl (subst (λ indices. Contains indices index) (sym all) (Contains-indices_in RowMajor array.view.shape index here));
    spare = λ place none. refl;
  }

  -- then one more
  more_written : (view : View) (before items : List T) (index : List ℕ) (left : List (List ℕ)) → IsOwned (length before) view
      → is_index view.shape index ≡ true
      → IsWrittenBut given (index ∷ left) (record { items = before; view = view }) (record { items = items; view = view })
      → IsWrittenBut given left (record { items = before; view = view })
      (with_item (record { items = items; view = view }) index (given index))
  more_written view before items index left owned is_one so_far =
      let now : ArrayValue T = record { items = items; view = view } in
      let item = given index in
      let own : IsOwned (length items) view = subst (λ (n : ℕ). IsOwned n view) (sym so_far.count) owned in
      record {
        view = view-with_item now index item;
        count = length-with_item now index item ∙ so_far.count;
        items = λ other here. elim (same_or_not now index other own is_one here) [
          | inl same ↦ inr (subst (λ it. item_at (with_item now index item) it ≡ Some (given it)) (sym same)
              (replaced now index item own is_one))
          | inr apart ↦ elim (so_far.items other here) [
            | inl listed ↦ elim (first_or_rest index left other listed) [
              | inl same ↦ absurd (apart (sym same))
              | inr later ↦ inl later
            ]
            | inr is ↦ inr (kept now index other item own apart ∙ is)
          ]
        ];
        spare = λ place none. spare_stays now index item own place none ∙ so_far.spare place none;
      }

  pub one_written : (before now after : ArrayValue T) (index : List ℕ) (left : List (List ℕ))
      → IsOwned (length before.items) before.view → is_index before.view.shape index ≡ true → IsWrittenBut given (index ∷ left) before now
      → after ≡ with_item now index (given index)
      → IsWrittenBut given left before after
  one_written before now after index left owned is_one so_far written =
      let same : now ≡ record { items = now.items; view = before.view } =
      ap (λ view. record { items = now.items; view = view }) so_far.view in
      subst (IsWrittenBut given left before) (sym (written ∙ ap (λ array. with_item array index (given index)) same))
      (more_written before.view before.items now.items index left owned is_one
      (subst (IsWrittenBut given (index ∷ left) before) same so_far))

  -- in the end all
  pub all_written : (before now : ArrayValue T) → IsWrittenBut given [] before now → HasItemsOf (λ index. Some (given index)) before now
  all_written before now so_far = record {
    view = so_far.view;
    items = λ index here. elim (so_far.items index here) [
      | inl (k, below, same) ↦ absurd (omega (arith, below))
      | inr is ↦ is
    ];
    spare = so_far.spare;
  }
