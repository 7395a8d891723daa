-- Laws of the two parts of an array that was split, by the clauses of `split_at`: they share no place, and where each was written with an
-- item of its own, an index of the array has that of its part.
use Rattle.std.proofs.Common.{◌≡◌, ℕ, ◌+◌, ◌-◌, ◌<◌, ◌≤◌, true, Option, Some, None, List, [], ◌∷◌, length, get_or, refl, sym, ap}
use Rattle.std.proofs.Common.{subst, ◌∙◌, inl, inr, arith}
use Rattle.std.specs.Prelude.{if◌then◌else◌, nat_lt, slice_index}
use Rattle.std.proofs.lemmas.Bool.{le-ltb, lt-ltb}
use Rattle.std.proofs.lemmas.List.{get_or-set_same, length-set}
use Rattle.ndarray_layout.specs.Indices.{is_index}
use Rattle.ndarray_layout.specs.SharePlace.{SharePlace}
use Rattle.ndarray_layout.specs.SplitView.{first_part_of, second_part_of, second_source, split_fault}
use Rattle.ndarray_layout.specs.View.{View}
use Rattle.ndarray_layout.proofs.Laws.IsIndex.{coordinate_of_index, length_of_index}
use Rattle.ndarray_layout.proofs.Laws.SplitView.{Descends-first_part_of, Descends-second_part_of, cut_of_no_fault, index_of_a_part}
use Rattle.ndarray_layout.proofs.Laws.SplitView.{parts_are_apart}
use Rattle.nd_lent.proofs.Laws.PartsWritten.{PartOf, parts_written}
use Rattle.nd_access.specs.HasItems.{HasItemsOf}
use Rattle.nd_access.specs.Items.{ArrayValue, IsOwned}

-- what is the same at each index may be given otherwise
given_otherwise : {T : Type 0} {given : List ℕ → Option T} {before after : ArrayValue T} → HasItemsOf given before after
    → (other : List ℕ → Option T) → ((index : List ℕ) → is_index before.view.shape index ≡ true → other index ≡ given index)
    → HasItemsOf other before after
given_otherwise has other same =
    record { view = has.view; items = λ index here. has.items index here ∙ sym (same index here); spare = has.spare }

module _ (axis at : ℕ) {count : ℕ} {view first second : View} (owned : IsOwned count view) (fits : None ≡ split_fault view.shape axis at)
    (is_first : first ≡ first_part_of axis at view) (is_second : second ≡ second_part_of axis at view) where
  -- no place is one of both
  pub halves_are_apart : SharePlace first second → ⊥
  halves_are_apart shared = parts_are_apart axis at view owned.is_view (sym fits) owned.distinct
      (subst (λ one. SharePlace one (second_part_of axis at view)) is_first (subst (SharePlace first) is_second shared))

  there : axis < length view.shape
  there = (cut_of_no_fault view.shape axis at (sym fits)).0

  -- the coordinate of an index of the first part is below the cut
  below : (index : List ℕ) → is_index (first_part_of axis at view).shape index ≡ true → get_or index axis 0 < at
  below index here =
      omega (
        arith,
        coordinate_of_index (first_part_of axis at view).shape index axis here (omega (arith, length-set view.shape axis at, there)),
        get_or-set_same view.shape axis at 0 there,
      )

  -- that of what an index of the second stands for isn't
  from : (index : List ℕ) → is_index (second_part_of axis at view).shape index ≡ true → at ≤ get_or (second_source axis at index) axis 0
  from index here =
      let long = length_of_index (second_part_of axis at view).shape index here in
      let len = get_or view.shape axis 0 in
      omega (
        arith,
        get_or-set_same index axis (at + get_or index axis 0) 0 (omega (arith, long, length-set view.shape axis (len - at), there)),
      )

  -- the second part was written, then the first one
  pub halves_written : {T : Type 0} (one other : T) {before between after : List T}
      → HasItemsOf (λ index. Some other) (record { items = before; view = second }) (record { items = between; view = second })
      → HasItemsOf (λ index. Some one) (record { items = between; view = first }) (record { items = after; view = first })
      → HasItemsOf (λ index. Some (if nat_lt (slice_index index axis) at then one else other))
      (record { items = before; view = view }) (record { items = after; view = view })
  halves_written {T} one other {before} {between} {after} right left =
      let given : List ℕ → Option T = λ index. Some (if nat_lt (slice_index index axis) at then one else other) in
      let of_right =
      subst (λ v. HasItemsOf (λ index. Some other) (record { items = before; view = v }) (record { items = between; view = v }))
      is_second right in
      let of_left = subst (λ v. HasItemsOf (λ index. Some one) (record { items = between; view = v }) (record { items = after; view = v }))
      is_first left in
      let parts : List PartOf = record { source = second_source axis at; view = second_part_of axis at view }
      ∷ record { source = λ index. index; view = first_part_of axis at view } ∷ [] in
      parts_written given view owned.distinct parts before after (
        between,
        Descends-second_part_of axis at view owned.is_view (sym fits),
        given_otherwise of_right (λ index. given (second_source axis at index)) (λ index here.
            ap (λ b. Some (if b then one else other)) (le-ltb (get_or (second_source axis at index) axis 0) at (from index here))),
        (
          after,
          Descends-first_part_of axis at view owned.is_view (sym fits),
          given_otherwise of_left given (λ index here.
              ap (λ b. Some (if b then one else other)) (lt-ltb (get_or index axis 0) at (below index here))),
          refl,
        ),
      )
      (λ index here. elim (index_of_a_part axis at view owned.is_view (sym fits) index here) [
        | inl it ↦ inr (inl (index, it, refl))
        | inr it ↦ inl it
      ])
