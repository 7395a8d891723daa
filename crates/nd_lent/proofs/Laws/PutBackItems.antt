-- Laws of parts that were written and put back: the items are those that were given for the indices of the part, and the others elsewhere.
use Rattle.std.proofs.Common.{◌≡◌, ℕ, zero, suc, ◌<◌, ℤ, pos, negsuc, Bool, true, false, Option, List, [], ◌∷◌, length, get_or}
use Rattle.std.proofs.Common.{refl, sym, ap, subst, ◌∙◌, arith}
use Rattle.std.specs.List.{Contains}
use Rattle.std.specs.Prelude.{None}
use Rattle.std.proofs.lemmas.Bool.{cond-true, false≢true, false_from_ne_true}
use Rattle.ndarray_layout.specs.declared.Order.TheVariants.{RowMajor}
use Rattle.ndarray_layout.specs.Bounds.{IsInBounds}
use Rattle.ndarray_layout.specs.Indices.{indices_in, is_index}
use Rattle.ndarray_layout.specs.View.{View, LiesWithin, place_at, view_places}
use Rattle.ndarray_layout.proofs.Laws.Indices.{Contains-indices_in}
use Rattle.ndarray_layout.proofs.Laws.Lists.{Contains-map}
use Rattle.nd_access.specs.HasItems.{HasItemsOf}
use Rattle.nd_access.specs.Cells.{chosen_of}
use Rattle.nd_access.specs.Items.{ArrayValue, item_at_place}
use Rattle.nd_access.specs.Part.{marks_of}
use Rattle.nd_access.proofs.Laws.Marks.{marked, marked_at, marks-length}
use Rattle.nd_lent.proofs.Laws.PutBack.{chosen_elsewhere, chosen_there}

-- as many items as there are marks
pub length-chosen_of : {T : Type 0} (marks : List Bool) (ours others : List T) → length ours ≡ length marks → length others ≡ length marks
    → length (chosen_of marks ours others) ≡ length marks
length-chosen_of [] ours others e f = refl
length-chosen_of (m ∷ marks) [] others e f = absurd (let no : ⊥ = omega (arith, e) in no)
length-chosen_of (m ∷ marks) (x ∷ ours) [] e f = absurd (let no : ⊥ = omega (arith, f) in no)
length-chosen_of (true ∷ marks) (x ∷ ours) (y ∷ others) e f =
    let rest = length-chosen_of marks ours others (omega (arith, e)) (omega (arith, f)) in omega (arith, rest)
length-chosen_of (false ∷ marks) (x ∷ ours) (y ∷ others) e f =
    let rest = length-chosen_of marks ours others (omega (arith, e)) (omega (arith, f)) in omega (arith, rest)

below_marks : (marks : List Bool) (k : ℕ) → get_or marks k false ≡ true → k < length marks
below_marks [] k h = absurd (false≢true h)
below_marks (m ∷ marks) zero h = omega arith
below_marks (m ∷ marks) (suc k) h = let below = below_marks marks k h in omega (arith, below)

module _ {T : Type 0} (count : ℕ) (view : View) (ours others : List T) (many : length ours ≡ count) (also : length others ≡ count) where
  our_marks : length ours ≡ length (marks_of count view)
  our_marks = many ∙ sym (marks-length count view)

  other_marks : length others ≡ length (marks_of count view)
  other_marks = also ∙ sym (marks-length count view)

  -- as many as before
  pub length-put_back : length (chosen_of (marks_of count view) ours others) ≡ count
  length-put_back = length-chosen_of (marks_of count view) ours others our_marks other_marks ∙ marks-length count view

  -- at the place of an index the part's item
  own_there : (index : List ℕ) (z : ℤ) → is_index view.shape index ≡ true → place_at view index ≡ z → IsInBounds count z
      → item_at_place (chosen_of (marks_of count view) ours others) z ≡ item_at_place ours z
  own_there index (pos place) here at below =
      chosen_there (marks_of count view) ours others place our_marks other_marks (marked view count place index here at below)
  own_there index (negsuc n) here at below = absurd below

  -- at each other one no mark
  free : (place : ℕ) → (Contains (view_places RowMajor view) (pos place) → ⊥) → get_or (marks_of count view) place false ≡ false
  free place none = false_from_ne_true _ (λ h.
      let below : place < count = omega (arith, below_marks (marks_of count view) place h, marks-length count view) in
      let one = marked_at view count place h below in
      none (subst (Contains (view_places RowMajor view)) one.2
      (Contains-map (place_at view) (indices_in RowMajor view.shape) (Contains-indices_in RowMajor view.shape one.0 one.1))))

  -- a part that was written is put back: so is what holds the others
  pub put_back_written : {before : List T} (given : List ℕ → Option T) → LiesWithin count view
      → HasItemsOf given (record { items = before; view = view }) (record { items = ours; view = view })
      → HasItemsOf given (record { items = others; view = view })
      (record { items = chosen_of (marks_of count view) ours others; view = view })
  put_back_written given within has = record {
    view = refl;
    items = λ index here.
        let put : List T = chosen_of (marks_of count view) ours others in
        cond-true (is_index view.shape index) (item_at_place put (place_at view index)) None here
        ∙ own_there index (place_at view index) here refl (within index here)
        ∙ sym (cond-true (is_index view.shape index) (item_at_place ours (place_at view index)) None here)
        ∙ has.items index here;
    spare = λ place none. chosen_elsewhere (marks_of count view) ours others place our_marks other_marks (free place none);
  }

-- the same of a part as a call leaves it: its array before and after, its marks, and the items of the rest before and after
pub part_put_back : {T : Type 0} {given : List ℕ → Option T} {before after : ArrayValue T} (count : ℕ) (view : View) (marks : List Bool)
    (others now : List T) → HasItemsOf given before after → LiesWithin count view → before.view ≡ view → length after.items ≡ count
    → length others ≡ count → marks ≡ marks_of count view → now ≡ chosen_of marks after.items others
    → (length now ≡ count) × HasItemsOf given (record { items = others; view = view }) (record { items = now; view = view })
part_put_back {T} {given} {before} {after} count view marks others now has within is many also same put =
    let end : now ≡ chosen_of (marks_of count view) after.items others =
    put ∙ ap (λ chosen. chosen_of chosen after.items others) same in
    let old : before ≡ record { items = before.items; view = view } = ap (λ v. record { items = before.items; view = v }) is in
    let new : after ≡ record { items = after.items; view = view } =
    ap (λ v. record { items = after.items; view = v }) (has.view ∙ is) in
    let of_view = subst (λ array. HasItemsOf given (record { items = before.items; view = view }) array) new
    (subst (λ array. HasItemsOf given array after) old has) in (
      ap length end ∙ length-put_back count view after.items others many also,
      subst (λ items. HasItemsOf given (record { items = others; view = view }) (record { items = items; view = view })) (sym end)
          (put_back_written count view after.items others many also given within of_view),
    )
