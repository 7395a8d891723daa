-- An index of a slice stands for an index of the old shape, whose coordinates are picks of its axes, and different ones for different
-- ones; each index of such coordinates has one that stands for it.
use Rattle.std.proofs.Common.{zero, suc, drop, refl, ap, sym, ◌∙◌, arith, Contains, ◌≡◌, ℕ, ◌<◌, IsTrue, nat_lt, None, List, [], ◌∷◌}
use Rattle.std.proofs.Common.{length, slice_index}
use Rattle.std.proofs.lemmas.Bool.{and_parts, and_from, ltb-true, lt-ltb}
use Rattle.std.proofs.lemmas.Grind.{get_or_default_zero}
use Rattle.std.proofs.lemmas.List.Elements.{Contains-get_or}
use Rattle.std.specs.List.{AllZip}
use Rattle.nd_slice.proofs.Definitions.{Fit, SliceInfoElem, argument_fault, axis_picks, first_fault, in_count, is_index, magnitude}
use Rattle.nd_slice.proofs.Definitions.{meaning, picks, selected, slice_with, sliced_shape}
use Rattle.nd_slice.specs.declared.elem.SliceInfoElem.TheVariants as elem
use Rattle.nd_slice.proofs.Laws.Picks.{pick_below, picks_injective}
use Rattle.nd_slice.proofs.Laws.AxisFault.{coordinate_below}
use Rattle.nd_slice.proofs.Laws.SliceFault.{elements_of_no_fault, slice_of_no_fault, index_of_no_fault}

-- an index of a slice of a shape
abbrev pub IsOfSlice : Fit → List SliceInfoElem → List ℕ → List ℕ → Type 0
IsOfSlice fit elems shape index = IsTrue (is_index (sliced_shape fit elems shape) index)

-- an index of the slice that stands for an index of the shape
pub record StandsFor (fit : Fit) (elems : List SliceInfoElem) (shape index : List ℕ) : Type 0 where
  pub of_slice : List ℕ
  pub within : IsOfSlice fit elems shape of_slice
  pub stands : selected fit elems shape of_slice ≡ index

lone : (coordinate i : ℕ) → Contains (coordinate ∷ []) i → coordinate ≡ i
lone coordinate i (zero, below, at) = at
lone coordinate i (suc k, below, at) = absurd (omega (arith, below))

module _ (fit : Fit) where
  coordinates : (elems : List SliceInfoElem) (shape index : List ℕ) → in_count elems ≡ length shape
      → first_fault fit shape elems ≡ None → IsOfSlice fit elems shape index → IsTrue (is_index shape (selected fit elems shape index))
  coordinates [] [] index count none here = refl
  coordinates [] (len ∷ shape) index count none here = absurd (omega arith)
  coordinates (elem.NewAxis ∷ elems) shape [] count none here = absurd (cc)
  coordinates (elem.NewAxis ∷ elems) shape (j ∷ index) count none here =
      coordinates elems shape index count none (and_parts (nat_lt j 1) (is_index (sliced_shape fit elems shape) index) here).1
  coordinates (elem.Slice start end step ∷ elems) [] index count none here = absurd (omega arith)
  coordinates (elem.Slice start end step ∷ elems) (len ∷ shape) [] count none here = absurd (cc)
  coordinates (elem.Slice start end step ∷ elems) (len ∷ shape) (j ∷ index) count none here =
      let slice = slice_with start end step in
      let fits = slice_of_no_fault fit len shape slice elems none in
      let parts = and_parts (nat_lt j (length (picks fit len slice))) (is_index (sliced_shape fit elems shape) index) here in
      let pick = slice_index (picks fit len slice) j in
      let below : pick < len = pick_below fit len slice j fits.0 (ltb-true j (length (picks fit len slice)) parts.0) in
      and_from (nat_lt pick len) (is_index shape (selected fit elems shape index)) (lt-ltb pick len below)
      (coordinates elems shape index (omega arith) fits.1 parts.1)
  coordinates (elem.Index i ∷ elems) [] index count none here = absurd (omega arith)
  coordinates (elem.Index i ∷ elems) (len ∷ shape) index count none here =
      let fits = index_of_no_fault fit len shape i elems none in
      let coordinate = magnitude (meaning len i) in
      and_from (nat_lt coordinate len) (is_index shape (selected fit elems shape index))
      (lt-ltb coordinate len (coordinate_below len i fits.0).1)
      (coordinates elems shape index (omega arith) fits.1 here)

  -- an index of the slice stands for an index of the old shape
  pub selected_is_index : (elems : List SliceInfoElem) (shape index : List ℕ) → argument_fault fit shape elems ≡ None
      → IsOfSlice fit elems shape index → IsTrue (is_index shape (selected fit elems shape index))
  selected_is_index elems shape index none here =
      let parts = elements_of_no_fault fit shape elems none in
      coordinates elems shape index parts.0 parts.1 here

  -- two indices of a slice that stand for the same index are the same
  pub selected_injective : (elems : List SliceInfoElem) (shape index other : List ℕ) → IsOfSlice fit elems shape index
      → IsOfSlice fit elems shape other → selected fit elems shape index ≡ selected fit elems shape other → index ≡ other
  selected_injective [] shape [] [] here there same = refl
  selected_injective [] shape index other here there same = absurd (cc)
  selected_injective (elem.NewAxis ∷ elems) shape [] other here there same = absurd (cc)
  selected_injective (elem.NewAxis ∷ elems) shape (j ∷ index) [] here there same = absurd (cc)
  selected_injective (elem.NewAxis ∷ elems) shape (j ∷ index) (k ∷ other) here there same =
      let first = and_parts (nat_lt j 1) (is_index (sliced_shape fit elems shape) index) here in
      let second = and_parts (nat_lt k 1) (is_index (sliced_shape fit elems shape) other) there in
      let at : j ≡ k = omega (arith, ltb-true j 1 first.0, ltb-true k 1 second.0) in
      let rest : index ≡ other = selected_injective elems shape index other first.1 second.1 same in
      cc
  selected_injective (elem.Slice start end step ∷ elems) [] [] [] here there same = refl
  selected_injective (elem.Slice start end step ∷ elems) [] [] (k ∷ other) here there same = absurd (cc)
  selected_injective (elem.Slice start end step ∷ elems) [] (j ∷ index) other here there same = absurd (cc)
  selected_injective (elem.Slice start end step ∷ elems) (len ∷ shape) [] other here there same = absurd (cc)
  selected_injective (elem.Slice start end step ∷ elems) (len ∷ shape) (j ∷ index) [] here there same = absurd (cc)
  selected_injective (elem.Slice start end step ∷ elems) (len ∷ shape) (j ∷ index) (k ∷ other) here there same =
      let slice = slice_with start end step in
      let count = length (picks fit len slice) in
      let first = and_parts (nat_lt j count) (is_index (sliced_shape fit elems shape) index) here in
      let second = and_parts (nat_lt k count) (is_index (sliced_shape fit elems shape) other) there in
      let at : j ≡ k = picks_injective fit len slice j k (ltb-true j count first.0) (ltb-true k count second.0)
      (ap (λ zs. slice_index zs 0) same) in
      let rest : index ≡ other = selected_injective elems shape index other first.1 second.1 (ap (drop 1) same) in
      cc
  selected_injective (elem.Index i ∷ elems) [] [] [] here there same = refl
  selected_injective (elem.Index i ∷ elems) [] [] (k ∷ other) here there same = absurd (cc)
  selected_injective (elem.Index i ∷ elems) [] (j ∷ index) other here there same = absurd (cc)
  selected_injective (elem.Index i ∷ elems) (len ∷ shape) index other here there same =
      selected_injective elems shape index other here there (ap (drop 1) same)

  -- each coordinate of the index that an index of the slice stands for is among the picks of its axis
  pub selected_is_picked : (elems : List SliceInfoElem) (shape index : List ℕ) → IsOfSlice fit elems shape index
      → AllZip Contains (axis_picks fit shape elems) (selected fit elems shape index)
  selected_is_picked [] shape index here = tt
  selected_is_picked (elem.NewAxis ∷ elems) shape [] here = absurd (cc)
  selected_is_picked (elem.NewAxis ∷ elems) shape (j ∷ index) here =
      selected_is_picked elems shape index (and_parts (nat_lt j 1) (is_index (sliced_shape fit elems shape) index) here).1
  selected_is_picked (elem.Slice start end step ∷ elems) [] index here = tt
  selected_is_picked (elem.Slice start end step ∷ elems) (len ∷ shape) [] here = absurd (cc)
  selected_is_picked (elem.Slice start end step ∷ elems) (len ∷ shape) (j ∷ index) here =
      let slice = slice_with start end step in
      let parts = and_parts (nat_lt j (length (picks fit len slice))) (is_index (sliced_shape fit elems shape) index) here in (
        Contains-get_or (picks fit len slice) j 0 (ltb-true j (length (picks fit len slice)) parts.0),
        selected_is_picked elems shape index parts.1,
      )
  selected_is_picked (elem.Index i ∷ elems) [] index here = tt
  selected_is_picked (elem.Index i ∷ elems) (len ∷ shape) index here =
      (Contains-get_or (magnitude (meaning len i) ∷ []) 0 0 (omega arith), selected_is_picked elems shape index here)

  picked : (elems : List SliceInfoElem) (shape index : List ℕ) → in_count elems ≡ length shape
      → AllZip Contains (axis_picks fit shape elems) index
      → StandsFor fit elems shape index
  picked [] [] [] count all = record { of_slice = []; within = refl; stands = refl }
  picked [] [] (i ∷ index) count all = absurd all
  picked [] (len ∷ shape) index count all = absurd (omega arith)
  picked (elem.NewAxis ∷ elems) shape index count all =
      let rest = picked elems shape index count all in
      record { of_slice = 0 ∷ rest.of_slice; within = rest.within; stands = rest.stands }
  picked (elem.Slice start end step ∷ elems) [] index count all = absurd (omega arith)
  picked (elem.Slice start end step ∷ elems) (len ∷ shape) [] count all = absurd all
  picked (elem.Slice start end step ∷ elems) (len ∷ shape) (i ∷ index) count all =
      let rest = picked elems shape index (omega arith) all.1 in
      let xs = picks fit len (slice_with start end step) in
      let j = (all.0).0 in
      let at : slice_index xs j ≡ i = sym (get_or_default_zero xs j i (all.0).1) ∙ (all.0).2 in
      let rest_at = rest.stands in
      record {
        of_slice = j ∷ rest.of_slice;
        within = and_from (nat_lt j (length xs)) (is_index (sliced_shape fit elems shape) rest.of_slice) (lt-ltb j (length xs) (all.0).1)
            rest.within;
        stands = cc;
      }
  picked (elem.Index n ∷ elems) [] index count all = absurd (omega arith)
  picked (elem.Index n ∷ elems) (len ∷ shape) [] count all = absurd all
  picked (elem.Index n ∷ elems) (len ∷ shape) (i ∷ index) count all =
      let rest = picked elems shape index (omega arith) all.1 in
      let at = lone (magnitude (meaning len n)) i all.0 in
      let rest_at = rest.stands in
      record { of_slice = rest.of_slice; within = rest.within; stands = cc }

  -- an index whose coordinates are picks of an argument's axes has an index of the slice that stands for it
  pub picked_is_selected : (elems : List SliceInfoElem) (shape index : List ℕ) → argument_fault fit shape elems ≡ None
      → AllZip Contains (axis_picks fit shape elems) index → StandsFor fit elems shape index
  picked_is_selected elems shape index none all = picked elems shape index (elements_of_no_fault fit shape elems none).0 all
