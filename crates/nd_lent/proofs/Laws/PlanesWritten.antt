-- Laws of planes, the views at single coordinates of an axis: two share no place, and where each was written, the whole was.
use Rattle.std.proofs.Common.{◌≡◌, ◌≢◌, ℕ, zero, suc, ◌<◌, true, Option, List, [], ◌∷◌, length, get_or, None}
use Rattle.std.proofs.Common.{refl, sym, ap, subst, ◌∙◌, arith}
use Rattle.std.specs.List.{insert, remove}
use Rattle.std.specs.Prelude.{nat_lt}
use Rattle.std.proofs.lemmas.Bool.{and_from, and_parts}
use Rattle.std.proofs.lemmas.List.Edits.{get_or-insert_at}
use Rattle.ndarray_layout.specs.CollapsedView.{collapse_fault}
use Rattle.ndarray_layout.specs.DistinctPlaces.{HasDistinctPlaces}
use Rattle.ndarray_layout.specs.IndexedView.{index_source, indexed_of}
use Rattle.ndarray_layout.specs.Indices.{is_index}
use Rattle.ndarray_layout.specs.SharePlace.{SharePlace}
use Rattle.ndarray_layout.specs.View.{View, IsView}
use Rattle.ndarray_layout.proofs.Laws.CollapsedView.{coordinate_of_no_fault}
use Rattle.ndarray_layout.proofs.Laws.IndexedView.{Descends-indexed_of}
use Rattle.ndarray_layout.proofs.Laws.IsIndex.{length_of_index}
use Rattle.nd_lent.proofs.Laws.PartsWritten.{HasIndex, PartOf}
use Rattle.nd_access.specs.HasItems.{HasItemsOf}

-- the plane at a coordinate of an axis
abbrev pub plane_at : ℕ → View → ℕ → PartOf
plane_at axis view k = record { source = index_source axis k; view = indexed_of axis k view }

-- one axis less
length-of_plane : (shape : List ℕ) (axis : ℕ) → axis < length shape → suc (length (remove shape axis)) ≡ length shape
length-of_plane [] axis there = absurd (omega arith)
length-of_plane (n ∷ shape) zero there = refl
length-of_plane (n ∷ shape) (suc axis) there = ap suc (length-of_plane shape axis (omega arith))

-- an index without its coordinate on the axis is one of its plane, and stands for the index
in_its_plane : (shape index : List ℕ) (axis : ℕ) → is_index shape index ≡ true → axis < length shape
    → (is_index (remove shape axis) (remove index axis) ≡ true) × (insert (remove index axis) axis (get_or index axis 0) ≡ index)
in_its_plane [] index axis here there = absurd (omega arith)
in_its_plane (n ∷ shape) [] axis here there = absurd (cc)
in_its_plane (n ∷ shape) (i ∷ index) zero here there = ((and_parts (nat_lt i n) (is_index shape index) here).1, refl)
in_its_plane (n ∷ shape) (i ∷ index) (suc axis) here there =
    let parts = and_parts (nat_lt i n) (is_index shape index) here in
    let rest = in_its_plane shape index axis parts.1 (omega arith) in (
      and_from (nat_lt i n) (is_index (remove shape axis) (remove index axis)) parts.0 rest.0,
      ap (λ others. i ∷ others) rest.1,
    )

module _ (axis : ℕ) (view : View) (is : IsView view) where
  -- the coordinate that an index of a plane stands for
  pub coordinate_of_plane : (k : ℕ) → collapse_fault view.shape axis k ≡ None → (index : List ℕ)
      → is_index (indexed_of axis k view).shape index ≡ true → get_or (index_source axis k index) axis 0 ≡ k
  coordinate_of_plane k none index here =
      let there = (coordinate_of_no_fault view.shape axis k none).0 in
      get_or-insert_at index axis k 0
      (omega (arith, length_of_index (remove view.shape axis) index here, length-of_plane view.shape axis there, there))

  -- two planes share no place, where no two indices of the view do
  pub planes_are_apart : (one other : ℕ) → collapse_fault view.shape axis one ≡ None → collapse_fault view.shape axis other ≡ None
      → HasDistinctPlaces view → one ≢ other → SharePlace (indexed_of axis one view) (indexed_of axis other view) → ⊥
  planes_are_apart one other none also distinct apart (index, here, (at, there, same)) =
      let first = (Descends-indexed_of axis one view is none).places index here in
      let second = (Descends-indexed_of axis other view is also).places at there in
      let source = distinct (index_source axis one index) (index_source axis other at) first.0 second.0
      (sym first.1 ∙ same ∙ second.1) in
      apart (sym (coordinate_of_plane one none index here) ∙ ap (λ full. get_or full axis 0) source
      ∙ coordinate_of_plane other also at there)

  -- an index is one of the plane at its coordinate
  pub index_of_its_plane : (index : List ℕ) (k : ℕ) → is_index view.shape index ≡ true → axis < length view.shape
      → get_or index axis 0 ≡ k → HasIndex index (plane_at axis view k)
  index_of_its_plane index k here there at =
      let its = in_its_plane view.shape index axis here there in
      (remove index axis, its.0, ap (λ i. insert (remove index axis) axis i) (sym at) ∙ its.1)

  -- the items of a plane that was written are those that are given for its coordinate
  pub plane_written : {T : Type 0} (given : ℕ → Option T) (k : ℕ) {item : Option T} {plane : View} {before after : List T}
      → HasItemsOf (λ index. item) (record { items = before; view = plane }) (record { items = after; view = plane })
      → collapse_fault view.shape axis k ≡ None → plane ≡ indexed_of axis k view → item ≡ given k
      → HasItemsOf (λ index. given (get_or (index_source axis k index) axis 0)) (record { items = before; view = indexed_of axis k view })
      (record { items = after; view = indexed_of axis k view })
  plane_written given k {item} {plane} {before} {after} has none made is =
      let of_view = subst (λ v. HasItemsOf (λ index. item) (record { items = before; view = v }) (record { items = after; view = v }))
      made has in
      record {
        view = refl;
        items = λ index here. of_view.items index here ∙ is ∙ ap given (sym (coordinate_of_plane k none index here));
        spare = of_view.spare;
      }
