-- When two slice arguments on a shape share an index.
use Rattle.std.specs.Prelude.{◌≡◌, ℕ, zero, suc, IsTrue, nat_eq, pos, negsuc, None, List, [], ◌∷◌, map, refl}
use Rattle.std.specs.List.{AllZip, Contains}
use Rattle.std.proofs.Common.{eq-eqb, sym, ◌∙◌}
use Rattle.std.proofs.Math.Nat.{not-suc-le-zero, le_of_suc-le-suc}
use Rattle.std.proofs.lemmas.Bool.{both_ways, ltb-true}
use Rattle.nd_base.specs.Indices.{is_index}
use Rattle.nd_base.specs.Signed.{magnitude}
use Rattle.nd_slice.specs.declared.fit.Fit.{Fit}
use Rattle.nd_slice.specs.declared.fit.Fit.TheVariants.{Strict}
use Rattle.nd_slice.specs.AxisElems.{axis_elems}
use Rattle.nd_slice.specs.Picks.{picks}
use Rattle.nd_slice.specs.SliceBounds.{slice_with, meaning}
use Rattle.nd_slice.specs.declared.elem.SliceInfoElem.{SliceInfoElem}
use Rattle.nd_slice.specs.declared.elem.SliceInfoElem.TheVariants as elem

-- what an element picks of an axis of length len: an index the one coordinate that it means, a new axis none
abbrev pub elem_picks : Fit → ℕ → SliceInfoElem → List ℕ
elem_picks fit len (elem.Slice start end step) = picks fit len (slice_with start end step)
elem_picks fit len (elem.Index index) = magnitude (meaning len index) ∷ []
elem_picks fit len elem.NewAxis = []

-- what an argument picks of each axis of a shape: a new axis is for none of them
abbrev pub axis_picks : Fit → List ℕ → List SliceInfoElem → List (List ℕ)
axis_picks fit shape elems = map (λ one. elem_picks fit one.0 one.1) (axis_elems shape elems)

-- one index of the shape has, for each axis, a coordinate that both arguments pick
abbrev pub Intersect : Fit → List ℕ → List SliceInfoElem → List SliceInfoElem → Type 0
Intersect fit shape one other =
    (index : List ℕ) × IsTrue (is_index shape index)
    × AllZip Contains (axis_picks fit shape one) index × AllZip Contains (axis_picks fit shape other) index

-- examples
back_and_last :
    axis_picks Strict (4 ∷ 3 ∷ []) (elem.Slice (pos 1) None (negsuc 1) ∷ elem.NewAxis ∷ elem.Index (negsuc 0) ∷ [])
    ≡ (3 ∷ 1 ∷ []) ∷ (2 ∷ []) ∷ []
back_and_last = refl

last_coordinate_in_both : Intersect Strict (4 ∷ []) (elem.Slice (pos 1) None (negsuc 1) ∷ []) (elem.NewAxis ∷ elem.Index (negsuc 0) ∷ [])
last_coordinate_in_both = (3 ∷ [], refl, ((0, ltb-true 0 2 refl, refl), tt), ((0, ltb-true 0 1 refl, refl), tt))

last_picked : elem_picks Strict 3 (elem.Index (negsuc 0)) ≡ 2 ∷ []
last_picked = refl

no_axes : Intersect Strict [] (elem.NewAxis ∷ []) []
no_axes = ([], refl, tt, tt)

new_axis_for_none : axis_picks Strict [] (elem.NewAxis ∷ elem.NewAxis ∷ []) ≡ []
new_axis_for_none = refl

other_coordinates : Intersect Strict (2 ∷ []) (elem.Index (pos 0) ∷ []) (elem.Index (pos 1) ∷ []) → ⊥
other_coordinates ([], is, one, other) = one
other_coordinates (i ∷ index, is, ((zero, below, at), one), ((zero, under, same), other)) =
    both_ways (nat_eq 0 1) refl (eq-eqb 0 1 (at ∙ sym same))
other_coordinates (i ∷ index, is, ((zero, below, at), one), ((suc k, under, same), other)) = not-suc-le-zero (le_of_suc-le-suc under)
other_coordinates (i ∷ index, is, ((suc k, below, at), one), other) = not-suc-le-zero (le_of_suc-le-suc below)

nothing_of_an_empty_axis : Intersect Strict (0 ∷ []) (elem.Slice (pos 0) None (pos 1) ∷ []) (elem.Slice (pos 0) None (pos 1) ∷ []) → ⊥
nothing_of_an_empty_axis ([], is, one, other) = one
nothing_of_an_empty_axis (i ∷ index, is, ((k, below, at), one), other) = not-suc-le-zero below
