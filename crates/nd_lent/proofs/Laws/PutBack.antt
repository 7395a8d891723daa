-- Laws of a part that is put back: the items are those of the part at its places, and the others elsewhere. So what two parts wrote that
-- share no place is one write after the other.
use Rattle.std.proofs.Common.{◌≡◌, ◌≢◌, ℕ, zero, suc, ◌<◌, ℤ, pos, negsuc, Bool, true, false, Some, List, [], ◌∷◌, length, get_or, set}
use Rattle.std.proofs.Common.{refl, sym, ap, subst, ◌∙◌, arith, inl, inr}
use Rattle.std.specs.Prelude.{Option, slice_get}
use Rattle.std.proofs.lemmas.Bool.{cases_Bool, false≢true}
use Rattle.std.proofs.lemmas.List.{length-set}
use Rattle.ndarray_layout.specs.Bounds.{IsInBounds}
use Rattle.ndarray_layout.specs.Indices.{is_index}
use Rattle.ndarray_layout.specs.SharePlace.{SharePlace}
use Rattle.ndarray_layout.specs.Signed.{magnitude}
use Rattle.ndarray_layout.specs.View.{View, LiesWithin, place_at}
use Rattle.nd_access.specs.Cells.{chosen_of}
use Rattle.nd_access.specs.Items.{ArrayValue, IsOwned, item_at_place, with_item}
use Rattle.nd_access.specs.Part.{marks_of}
use Rattle.nd_access.proofs.Laws.Lists.{set_other}
use Rattle.nd_access.proofs.Laws.Marks.{marked, marked_at, marks-length}

-- ---- lists
-- at a mark the item of the one list
pub chosen_there : {T : Type 0} (marks : List Bool) (ours others : List T) (k : ℕ) → length ours ≡ length marks
    → length others ≡ length marks → get_or marks k false ≡ true → slice_get (chosen_of marks ours others) k ≡ slice_get ours k
chosen_there [] ours others k e f h = absurd (false≢true h)
chosen_there (m ∷ marks) [] others k e f h = absurd (let no : ⊥ = omega (arith, e) in no)
chosen_there (m ∷ marks) (x ∷ ours) [] k e f h = absurd (let no : ⊥ = omega (arith, f) in no)
chosen_there (true ∷ marks) (x ∷ ours) (y ∷ others) zero e f h = refl
chosen_there (false ∷ marks) (x ∷ ours) (y ∷ others) zero e f h = absurd (false≢true h)
chosen_there (true ∷ marks) (x ∷ ours) (y ∷ others) (suc k) e f h =
    chosen_there marks ours others k (omega (arith, e)) (omega (arith, f)) h
chosen_there (false ∷ marks) (x ∷ ours) (y ∷ others) (suc k) e f h =
    chosen_there marks ours others k (omega (arith, e)) (omega (arith, f)) h

-- elsewhere that of the other
pub chosen_elsewhere : {T : Type 0} (marks : List Bool) (ours others : List T) (k : ℕ) → length ours ≡ length marks
    → length others ≡ length marks → get_or marks k false ≡ false → slice_get (chosen_of marks ours others) k ≡ slice_get others k
chosen_elsewhere [] ours [] k e f h = refl
chosen_elsewhere [] ours (y ∷ others) k e f h = absurd (let no : ⊥ = omega (arith, f) in no)
chosen_elsewhere (m ∷ marks) [] others k e f h = absurd (let no : ⊥ = omega (arith, e) in no)
chosen_elsewhere (m ∷ marks) (x ∷ ours) [] k e f h = absurd (let no : ⊥ = omega (arith, f) in no)
chosen_elsewhere (true ∷ marks) (x ∷ ours) (y ∷ others) zero e f h = absurd (false≢true (sym h))
chosen_elsewhere (false ∷ marks) (x ∷ ours) (y ∷ others) zero e f h = refl
chosen_elsewhere (true ∷ marks) (x ∷ ours) (y ∷ others) (suc k) e f h =
    chosen_elsewhere marks ours others k (omega (arith, e)) (omega (arith, f)) h
chosen_elsewhere (false ∷ marks) (x ∷ ours) (y ∷ others) (suc k) e f h =
    chosen_elsewhere marks ours others k (omega (arith, e)) (omega (arith, f)) h

-- two lists have the same items where marks stand
abbrev pub AreSameAt : {T : Type 0} → List Bool → List T → List T → Type 0
AreSameAt marks ours others = (k : ℕ) → get_or marks k false ≡ true → slice_get ours k ≡ slice_get others k

item_of_some : {T : Type 0} (x y : T) → Some x ≡ Some y → x ≡ y
item_of_some x y same = ap (λ item. Rattle.std.specs.Prelude.unwrap_or item x) same

-- then nothing changes
pub chosen_same : {T : Type 0} (marks : List Bool) (ours others : List T) → length ours ≡ length marks → length others ≡ length marks
    → AreSameAt marks ours others → chosen_of marks ours others ≡ others
chosen_same [] ours [] e f same = refl
chosen_same [] ours (y ∷ others) e f same = absurd (let no : ⊥ = omega (arith, f) in no)
chosen_same (m ∷ marks) [] others e f same = absurd (let no : ⊥ = omega (arith, e) in no)
chosen_same (m ∷ marks) (x ∷ ours) [] e f same = absurd (let no : ⊥ = omega (arith, f) in no)
chosen_same (true ∷ marks) (x ∷ ours) (y ∷ others) e f same =
    ap (λ z. z ∷ chosen_of marks ours others) (item_of_some x y (same 0 refl))
    ∙ ap (λ rest. y ∷ rest) (chosen_same marks ours others (omega (arith, e)) (omega (arith, f)) (λ k h. same (suc k) h))
chosen_same (false ∷ marks) (x ∷ ours) (y ∷ others) e f same =
    ap (λ rest. y ∷ rest) (chosen_same marks ours others (omega (arith, e)) (omega (arith, f)) (λ k h. same (suc k) h))

-- and an item that was written at a mark is written
pub chosen_set : {T : Type 0} (marks : List Bool) (ours others : List T) (place : ℕ) (item : T) → length ours ≡ length marks
    → length others ≡ length marks → get_or marks place false ≡ true → AreSameAt marks ours others
    → chosen_of marks (set ours place item) others ≡ set others place item
chosen_set [] ours others place item e f h same = absurd (false≢true h)
chosen_set (m ∷ marks) [] others place item e f h same = absurd (let no : ⊥ = omega (arith, e) in no)
chosen_set (m ∷ marks) (x ∷ ours) [] place item e f h same = absurd (let no : ⊥ = omega (arith, f) in no)
chosen_set (true ∷ marks) (x ∷ ours) (y ∷ others) zero item e f h same =
    ap (λ rest. item ∷ rest) (chosen_same marks ours others (omega (arith, e)) (omega (arith, f)) (λ k g. same (suc k) g))
chosen_set (false ∷ marks) (x ∷ ours) (y ∷ others) zero item e f h same = absurd (false≢true h)
chosen_set (true ∷ marks) (x ∷ ours) (y ∷ others) (suc place) item e f h same =
    ap (λ z. z ∷ chosen_of marks (set ours place item) others) (item_of_some x y (same 0 refl))
    ∙ ap (λ rest. y ∷ rest)
    (chosen_set marks ours others place item (omega (arith, e)) (omega (arith, f)) h (λ k g. same (suc k) g))
chosen_set (false ∷ marks) (x ∷ ours) (y ∷ others) (suc place) item e f h same =
    ap (λ rest. y ∷ rest)
    (chosen_set marks ours others place item (omega (arith, e)) (omega (arith, f)) h (λ k g. same (suc k) g))

-- ---- a view
-- both have the same item at the place of each index
abbrev pub AgreeOn : {T : Type 0} → View → List T → List T → Type 0
AgreeOn view ours others = (index : List ℕ) → is_index view.shape index ≡ true
    → item_at_place ours (place_at view index) ≡ item_at_place others (place_at view index)

below_marks : (marks : List Bool) (k : ℕ) → get_or marks k false ≡ true → k < length marks
below_marks [] k h = absurd (false≢true h)
below_marks (m ∷ marks) zero h = omega arith
below_marks (m ∷ marks) (suc k) h = let below = below_marks marks k h in omega (arith, below)

module _ (view : View) (count : ℕ) where
  same_at_marks : {T : Type 0} (ours others : List T) → AgreeOn view ours others → AreSameAt (marks_of count view) ours others
  same_at_marks ours others agree k h =
      let one = marked_at view count k h (omega (arith, below_marks (marks_of count view) k h, marks-length count view)) in
      subst (λ (z : ℤ). item_at_place ours z ≡ item_at_place others z) one.2 (agree one.0 one.1)

  -- the place of an index has a mark
  mark_of_index : (index : List ℕ) (z : ℤ) → is_index view.shape index ≡ true → place_at view index ≡ z → IsInBounds count z
      → get_or (marks_of count view) (magnitude z) false ≡ true
  mark_of_index index (pos place) here at below = marked view count place index here at below
  mark_of_index index (negsuc z) here at below = absurd below

  -- a part that was written at an index is put back: so is the whole
  pub put_back_set : {T : Type 0} (ours others : List T) → length ours ≡ count → length others ≡ count → LiesWithin count view
      → AgreeOn view ours others → (index : List ℕ) (item : T)
      → chosen_of (marks_of count view) (with_item (record { items = ours; view = view }) index item).items others
      ≡ (with_item (record { items = others; view = view }) index item).items
  put_back_set ours others e f within agree index item =
      let marks = marks_of count view in
      let one = e ∙ sym (marks-length count view) in
      let other = f ∙ sym (marks-length count view) in
      let same = same_at_marks ours others agree in
      elim (cases_Bool (is_index view.shape index)) [
        | inl here ↦ rw here (chosen_set marks ours others (magnitude (place_at view index)) item one other
            (mark_of_index index (place_at view index) here refl (within index here)) same)
        | inr none ↦ rw none (chosen_same marks ours others one other same)
      ]

-- as many items as before
pub length-with_item : {T : Type 0} (array : ArrayValue T) (index : List ℕ) (item : T)
    → length (with_item array index item).items ≡ length array.items
length-with_item array index item = elim (cases_Bool (is_index array.view.shape index)) [
  | inl here ↦ rw here (length-set array.items (magnitude (place_at array.view index)) item)
  | inr none ↦ rw none refl
]

-- where two views share no place, what is written by one isn't seen by the other
not_there : {T : Type 0} (items : List T) (place : ℕ) (item : T) (z : ℤ) → z ≢ pos place
    → item_at_place items z ≡ item_at_place (set items place item) z
not_there items place item (pos k) apart = sym (set_other items place item k (λ same. apart (ap pos same)))
not_there items place item (negsuc k) apart = refl

place_of : (count : ℕ) (z : ℤ) → IsInBounds count z → z ≡ pos (magnitude z)
place_of count (pos k) below = refl
place_of count (negsuc k) below = absurd below

pub apart_agree : {T : Type 0} (first second : View) (items : List T) (index : List ℕ) (item : T) → LiesWithin (length items) second
    → (SharePlace first second → ⊥)
    → AgreeOn first items (with_item (record { items = items; view = second }) index item).items
apart_agree first second items index item within apart one is = elim (cases_Bool (is_index second.shape index)) [
  | inl here ↦ rw here (not_there items (magnitude (place_at second index)) item (place_at first one) (λ same.
      apart (one, is, (index, here, same ∙ sym (place_of (length items) (place_at second index) (within index here))))))
  | inr none ↦ rw none refl
]

-- two parts that share no place were written, each at an index, and put back: one write after the other
pub two_put_back : {T : Type 0} (first second : View) (items : List T) → IsOwned (length items) first → IsOwned (length items) second
    → (SharePlace first second → ⊥) → (at_first at_second : List ℕ) (one other : T)
    → chosen_of (marks_of (length items) first) (with_item (record { items = items; view = first }) at_first one).items
    (chosen_of (marks_of (length items) second) (with_item (record { items = items; view = second }) at_second other).items items)
    ≡ (with_item (record { items = (with_item (record { items = items; view = second }) at_second other).items; view = first })
    at_first one).items
two_put_back {T = T} first second items owned also apart at_first at_second one other =
    let n = length items in
    let mine : List T = (with_item (record { items = items; view = first }) at_first one).items in
    let later : List T = (with_item (record { items = items; view = second }) at_second other).items in
    ap (λ rest. chosen_of (marks_of n first) mine rest)
    (put_back_set second n items items refl refl also.within (λ index here. refl) at_second other)
    ∙ put_back_set first n items later refl (length-with_item (record { items = items; view = second }) at_second other) owned.within
    (apart_agree first second items at_second other also.within apart) at_first one
