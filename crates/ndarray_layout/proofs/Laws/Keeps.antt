-- Laws of strides that keep the places of a layout: there are some exactly where the sizes agree and no joint is bad.
use Rattle.std.proofs.Common.{◌≡◌, ℕ, ◌-◌, ◌<◌, false, ℤ, pos, List, [], length, get_or, map, reverse, refl, sym, ap, ◌∙◌}
use Rattle.std.proofs.Common.{inl, inr, arith, subst}
use Rattle.std.specs.Prelude.{◌↔◌, None}
use Rattle.std.proofs.lemmas.Bool.{cases_lt}
use Rattle.std.proofs.lemmas.Int.{ints}
use Rattle.std.proofs.lemmas.List.{get_or-map, get_or_past, length-map, length-reverse, reverse-reverse}
use Rattle.std.proofs.lemmas.List.FromFn.{fill_by_all, length-map-range_with_len}
use Rattle.nd_base.specs.declared.order.Order.{Order}
use Rattle.nd_base.specs.declared.order.Order.TheVariants.{RowMajor, ColumnMajor}
use Rattle.nd_base.proofs.Laws.Definitions.{below, indices_in, offset_of, place, places, index_of_flat, index_of_flat_in, as_read}
use Rattle.nd_base.proofs.Laws.Definitions.{is_empty, size}
use Rattle.nd_base.proofs.Laws.Indices.{get_or-indices_in, length-indices_in}
use Rattle.nd_base.proofs.Laws.Lists.{get_or-from_back}
use Rattle.nd_base.proofs.Laws.Offset.{offset_of-reverse}
use Rattle.nd_base.proofs.Laws.AsRead.{length-as_read, as_read-as_read, size-as_read, is_empty-as_read}
use Rattle.nd_dim.specs.Strides.{size_after}
use Rattle.ndarray_layout.specs.reshape.ForcedStrides.{forced_strides, offset_at_flat_index, stride_at}
use Rattle.ndarray_layout.specs.reshape.Joints.{has_bad_joint}
use Rattle.ndarray_layout.specs.reshape.SamePlaces.{Keeps, AgreeOnLonger}
use Rattle.ndarray_layout.specs.reshape.ReshapeFault.{reshape_fault}
use Rattle.ndarray_layout.proofs.matching.FlatOffsets.{length-index_of_flat}
use Rattle.ndarray_layout.proofs.matching.Exact.{HaveAsMany, exactly}
use Rattle.ndarray_layout.proofs.matching.Faults.{fault-none, none-parts}
use Rattle.ndarray_layout.proofs.matching.Forced.{forced-of-alike, alike-forced}
use Rattle.ndarray_layout.proofs.matching.HasIndex.{HasIndex, PlacesAlike, SamePlaces}

-- the index of a flat index lies as far as that of the axes as they are read
pub offset-as_read : (order : Order) (shape : List ℕ) (strides : List ℤ) (r : ℕ) → length shape ≡ length strides
    → offset_of strides (index_of_flat_in order shape r) ≡ offset_of (as_read order strides) (index_of_flat (as_read order shape) r)
offset-as_read RowMajor shape strides r e = refl
offset-as_read ColumnMajor shape strides r e =
    let index = index_of_flat (reverse shape) r in
    ap (λ ss. offset_of ss (reverse index)) (sym (reverse-reverse strides))
    ∙ offset_of-reverse (reverse strides) index (length-reverse strides ∙ sym e ∙ sym (length-reverse shape)
    ∙ sym (length-index_of_flat (reverse shape) r))

-- ---- places by flat index
place-at-flat_index : (order : Order) (shape : List ℕ) (strides : List ℤ) (r : ℕ) → r < size shape
    → get_or (places order 0 shape strides) r (pos 0) ≡ offset_of strides (index_of_flat_in order shape r)
place-at-flat_index order shape strides r h =
    let long = length-indices_in order shape in
    get_or-map (place 0 strides) (indices_in order shape) r [] (pos 0) (omega (arith, long))
    ∙ ap (place 0 strides) (get_or-indices_in order shape r [] h)
    ∙ omega (arith, ints)

count-places : (order : Order) (shape : List ℕ) (strides : List ℤ) → length (places order 0 shape strides) ≡ size shape
count-places order shape strides = length-map (indices_in order shape) (place 0 strides) ∙ length-indices_in order shape

module _ {order : Order} {from : List ℕ} {strides : List ℤ} {to : List ℕ} {others : List ℤ} where
  -- strides that keep the places leave the size
  pub size-of-keeps : Keeps order from strides to others → size from ≡ size to
  size-of-keeps k = sym (count-places order from strides) ∙ sym (ap length k.same_places) ∙ count-places order to others

  pub alike-of-keeps : length from ≡ length strides → Keeps order from strides to others
      → PlacesAlike (as_read order from) (as_read order strides) (as_read order to) (as_read order others)
  alike-of-keeps e k r l =
      let sizes = size-of-keeps k in
      let whole = size-as_read order from in
      sym (offset-as_read order to others r k.same_count)
      ∙ sym (place-at-flat_index order to others r (omega arith))
      ∙ ap (λ xs. get_or xs r (pos 0)) k.same_places
      ∙ place-at-flat_index order from strides r (omega arith)
      ∙ offset-as_read order from strides r e

  -- the same as the axes are read
  pub same-of-keeps : length from ≡ length strides → Keeps order from strides to others
      → SamePlaces (as_read order from) (as_read order strides) (as_read order to) (as_read order others)
  same-of-keeps e k = record {
    sizes = size-as_read order from ∙ size-of-keeps k ∙ sym (size-as_read order to);
    alike = alike-of-keeps e k;
  }

  pub keeps-of-alike : length from ≡ length strides → length to ≡ length others → size from ≡ size to
      → PlacesAlike (as_read order from) (as_read order strides) (as_read order to) (as_read order others)
      → Keeps order from strides to others
  keeps-of-alike e g sizes alike =
      let by_flat_index = λ (r : ℕ). offset_of strides (index_of_flat_in order from r) in
      let whole = size-as_read order from in
      let there : places order 0 to others ≡ map by_flat_index (below (size to)) =
      fill_by_all by_flat_index (places order 0 to others) (size to) (pos 0)
      (count-places order to others) (λ r l.
      place-at-flat_index order to others r l ∙ offset-as_read order to others r g ∙ alike r (omega arith)
      ∙ sym (offset-as_read order from strides r e)) in
      let here : places order 0 from strides ≡ map by_flat_index (below (size from)) =
      fill_by_all by_flat_index (places order 0 from strides) (size from)
      (pos 0) (count-places order from strides) (λ r l. place-at-flat_index order from strides r l) in
      record { same_count = g; same_places = there ∙ ap (λ n. map by_flat_index (below n)) (sym sizes) ∙ sym here }

-- a layout with an index has one as it is read
has_index-as_read : (order : Order) {lens : List ℕ} {strides : List ℤ} → HasIndex lens strides
    → HasIndex (as_read order lens) (as_read order strides)
has_index-as_read order {lens} {strides} at = record {
  same_count = length-as_read order lens ∙ at.same_count ∙ sym (length-as_read order strides);
  some = is_empty-as_read order lens ∙ at.some;
}

-- ---- reshape is complete
-- the sizes agree and no joint is bad
abbrev pub Fits : Order → List ℕ → List ℤ → List ℕ → Type 0
Fits order from strides to = (size from ≡ size to) × (has_bad_joint (as_read order from) (as_read order strides) (as_read order to) ≡ false)

-- exactly there some strides, any whole numbers, keep the places
pub keeps-exactly : (order : Order) {from : List ℕ} {strides : List ℤ} (to : List ℕ) → HasIndex from strides → is_empty to ≡ false
    → Fits order from strides to ↔ ((others : List ℤ) × Keeps order from strides to others)
keeps-exactly order {from} {strides} to at more = (λ fits. make fits, λ k. fit k.1)
  where
    can_match : size from ≡ size to → HaveAsMany (as_read order from) (as_read order strides) (as_read order to)
    can_match sizes = record {
      index = has_index-as_read order at;
      more = is_empty-as_read order to ∙ more;
      sizes = size-as_read order from ∙ sizes ∙ sym (size-as_read order to);
    }

    fit : {others : List ℤ} → Keeps order from strides to others → Fits order from strides to
    fit {others} k = (
      size-of-keeps k,
      (exactly (as_read order to) (can_match (size-of-keeps k))).good (record {
        others = as_read order others;
        same_count = length-as_read order to ∙ k.same_count ∙ sym (length-as_read order others);
        alike = alike-of-keeps at.same_count k;
      }),
    )

    make : Fits order from strides to → (others : List ℤ) × Keeps order from strides to others
    make fits =
        let made = (exactly (as_read order to) (can_match fits.0)).made fits.1 in
        let others = as_read order made.others in
        let equal : length to ≡ length others =
        sym (length-as_read order to) ∙ made.same_count ∙ sym (length-as_read order made.others) in (
          others,
          keeps-of-alike at.same_count equal fits.0
              (subst (PlacesAlike (as_read order from) (as_read order strides) (as_read order to)) (sym (as_read-as_read order made.others))
              made.alike),
        )

-- ---- and then the strides of the definition do
-- on each axis longer than 1 all strides that keep the places are those of the definition
pub keeps-forced : {order : Order} {from : List ℕ} {strides : List ℤ} {to : List ℕ} {others : List ℤ} (axis : ℕ) → is_empty to ≡ false
    → length from ≡ length strides → Keeps order from strides to others → axis < length to → 1 < get_or (as_read order to) axis 0
    → get_or (as_read order others) axis (pos 0) ≡ offset_at_flat_index (as_read order from) (as_read order strides)
    (size_after (as_read order to) axis)
keeps-forced {order} {to = to} axis more e k l long =
    let count = length-as_read order to in
    let at = has_index-as_read order (record { same_count = k.same_count; some = more }) in
    forced-of-alike axis at (same-of-keeps e k) (omega arith) long

pub forced-keeps : (order : Order) {from : List ℕ} {strides : List ℤ} (to : List ℕ) → HasIndex from strides → is_empty to ≡ false
    → Fits order from strides to → Keeps order from strides to (forced_strides order from strides to)
forced-keeps order {from} {strides} to at more fits =
    let kept = (keeps-exactly order to at more).0 fits in
    let stride = stride_at (as_read order from) (as_read order strides) (as_read order to) in
    let strides_of = λ (n : ℕ). map stride (below n) in
    let made = alike-forced (has_index-as_read order (record { same_count = kept.1.same_count; some = more }))
    (same-of-keeps at.same_count kept.1) in
    let read : strides_of (length (as_read order to)) ≡ as_read order (forced_strides order from strides to) =
    ap strides_of (length-as_read order to) ∙ sym (as_read-as_read order (strides_of (length to))) in
    let counts : length to ≡ length (forced_strides order from strides to) = sym (length-map-range_with_len stride 0 (length to))
    ∙ sym (length-as_read order (strides_of (length to))) in
    keeps-of-alike at.same_count counts fits.0
    (subst (PlacesAlike (as_read order from) (as_read order strides) (as_read order to)) read made)

-- ---- the fault of a reshape
-- there is none exactly where the sizes agree and no joint is bad
pub fault-exactly : (order : Order) (from : List ℕ) (strides : List ℤ) (to : List ℕ)
    → (reshape_fault order from strides to ≡ None) ↔ Fits order from strides to
fault-exactly order from strides to = (
  λ none.
      let parts = none-parts (as_read order from) (as_read order strides) (as_read order to) none in
      (sym (size-as_read order from) ∙ parts.0 ∙ size-as_read order to, parts.1),
  λ fits. fault-none (as_read order from) (as_read order strides) (as_read order to)
      (size-as_read order from ∙ fits.0 ∙ sym (size-as_read order to)) fits.1,
)

-- and exactly where some strides keep the places
pub fault-complete : (order : Order) {from : List ℕ} {strides : List ℤ} (to : List ℕ) → HasIndex from strides → is_empty to ≡ false
    → (reshape_fault order from strides to ≡ None) ↔ ((others : List ℤ) × Keeps order from strides to others)
fault-complete order {from} {strides} to at more =
    let fits = fault-exactly order from strides to in
    let kept = keeps-exactly order to at more in
    (λ none. kept.0 (fits.0 none), λ k. fits.1 (kept.1 k))

longer-within : (lens : List ℕ) (axis : ℕ) → 1 < get_or lens axis 0 → axis < length lens
longer-within lens axis long = elim (cases_lt axis (length lens)) [
  | inl within ↦ within
  | inr past ↦ let none = get_or_past lens axis 0 past in absurd (omega (arith, none, long))
]

-- what agrees as it is read agrees as it stands
agree-as_read : (order : Order) (to : List ℕ) (others strides : List ℤ) → length to ≡ length others → length to ≡ length strides
    → ((axis : ℕ) → axis < length to → 1 < get_or (as_read order to) axis 0 → get_or (as_read order others) axis (pos 0)
    ≡ get_or (as_read order strides) axis (pos 0))
    → AgreeOnLonger to others strides
agree-as_read RowMajor to others strides e g agree axis long = agree axis (longer-within to axis long) long
agree-as_read ColumnMajor to others strides e g agree axis long =
    let l = longer-within to axis long in
    let back = length to - 1 - axis in
    let one : get_or (reverse others) back (pos 0) ≡ get_or others axis (pos 0) = ap (λ n. get_or (reverse others) (n - 1 - axis) (pos 0)) e
    ∙ get_or-from_back others axis (pos 0) (omega arith) in
    let other : get_or (reverse strides) back (pos 0) ≡ get_or strides axis (pos 0) =
    ap (λ n. get_or (reverse strides) (n - 1 - axis) (pos 0)) g ∙ get_or-from_back strides axis (pos 0) (omega arith) in
    sym one ∙ agree back (omega arith) (subst (λ n. 1 < n) (sym (get_or-from_back to axis 0 l)) long) ∙ other

-- all strides that do agree with those of the definition on each axis longer than 1
pub keeps-agree : {order : Order} {from : List ℕ} {strides : List ℤ} {to : List ℕ} {others : List ℤ} → HasIndex from strides
    → is_empty to ≡ false → Keeps order from strides to others → AgreeOnLonger to others (forced_strides order from strides to)
keeps-agree {order} {from} {strides} {to} {others} at more k =
    let forced = forced-keeps order to at more ((keeps-exactly order to at more).1 (others, k)) in
    agree-as_read order to others (forced_strides order from strides to) k.same_count forced.same_count (λ axis l long.
    keeps-forced axis more at.same_count k l long
    ∙ sym (keeps-forced axis more at.same_count forced l long))
