-- Two slice arguments intersect exactly where they share a coordinate on every axis, and exactly where an index of each slice stands for
-- one index of the shape.
use Rattle.std.proofs.Common.{refl, ap, sym, ◌∙◌, subst, arith, get_or, ◌≡◌, ℕ, zero, suc, ℤ, ◌<◌, ◌↔◌, IsTrue, nat_lt, None, List, []}
use Rattle.std.proofs.Common.{◌∷◌, length, map, Contains}
use Rattle.std.proofs.lemmas.Bool.{and_parts, and_from, lt-ltb}
use Rattle.std.specs.List.{AllZip}
use Rattle.nd_slice.proofs.Definitions.{Fit, IndexFits, Intersect, PicksIntersect, SliceInfoElem, argument_fault, axis_picks, elem_picks}
use Rattle.nd_slice.proofs.Definitions.{first_fault, in_count, is_index, magnitude, meaning, selected, slice_with}
use Rattle.nd_slice.proofs.Laws.PickSequences.{contained_below}
use Rattle.nd_slice.proofs.Laws.AxisFault.{coordinate_below}
use Rattle.nd_slice.specs.declared.elem.SliceInfoElem.TheVariants as elem
use Rattle.nd_slice.proofs.Laws.AxisElems.{axis_elems-no_axes}
use Rattle.nd_slice.proofs.Laws.SliceFault.{elements_of_no_fault, slice_of_no_fault, index_of_no_fault}
use Rattle.nd_slice.proofs.Laws.Selected.{IsOfSlice, selected_is_index, selected_is_picked, picked_is_selected}

-- what lists pick of each axis is within a shape
abbrev pub AreInBounds : List ℕ → List (List ℕ) → Type 0
AreInBounds [] [] = Unit {0}
AreInBounds [] (xs ∷ lists) = ⊥
AreInBounds (len ∷ shape) [] = ⊥
AreInBounds (len ∷ shape) (xs ∷ lists) = ((pick : ℕ) → Contains xs pick → pick < len) × AreInBounds shape lists

index_in_bounds : (len : ℕ) (index : ℤ) → IndexFits len index → (pick : ℕ) → Contains (magnitude (meaning len index) ∷ []) pick → pick < len
index_in_bounds len index fits pick (zero, below, at) = omega (arith, at, (coordinate_below len index fits).1)
index_in_bounds len index fits pick (suc k, below, at) = absurd (omega (arith, below))

in_bounds : (fit : Fit) (shape : List ℕ) (elems : List SliceInfoElem) → in_count elems ≡ length shape → first_fault fit shape elems ≡ None
    → AreInBounds shape (axis_picks fit shape elems)
in_bounds fit [] [] count none = tt
in_bounds fit (len ∷ shape) [] count none = absurd (omega arith)
in_bounds fit shape (elem.NewAxis ∷ elems) count none = in_bounds fit shape elems count none
in_bounds fit [] (elem.Slice start end step ∷ elems) count none = absurd (omega arith)
in_bounds fit [] (elem.Index index ∷ elems) count none = absurd (omega arith)
in_bounds fit (len ∷ shape) (elem.Slice start end step ∷ elems) count none =
    let fits = slice_of_no_fault fit len shape (slice_with start end step) elems none in
    (λ pick h. contained_below fit len (slice_with start end step) pick fits.0 h, in_bounds fit shape elems (omega arith) fits.1)
in_bounds fit (len ∷ shape) (elem.Index index ∷ elems) count none =
    let fits = index_of_no_fault fit len shape index elems none in
    (index_in_bounds len index fits.0, in_bounds fit shape elems (omega arith) fits.1)

-- some index is among the picks of both, with each coordinate below its length
abbrev pub ShareIndex : List ℕ → List (List ℕ) → List (List ℕ) → Type 0
ShareIndex shape one other = (index : List ℕ) × IsTrue (is_index shape index) × AllZip Contains one index × AllZip Contains other index

to_axes : (shape : List ℕ) (one other : List (List ℕ)) → ShareIndex shape one other → AllZip PicksIntersect one other
to_axes shape [] [] share = tt
to_axes shape [] (ys ∷ other) ([], is, p, q) = absurd q
to_axes shape [] (ys ∷ other) (i ∷ index, is, p, q) = absurd p
to_axes shape (xs ∷ one) [] ([], is, p, q) = absurd p
to_axes shape (xs ∷ one) [] (i ∷ index, is, p, q) = absurd q
to_axes shape (xs ∷ one) (ys ∷ other) ([], is, p, q) = absurd p
to_axes [] (xs ∷ one) (ys ∷ other) (i ∷ index, is, p, q) = absurd (cc)
to_axes (len ∷ shape) (xs ∷ one) (ys ∷ other) (i ∷ index, is, p, q) =
    ((i, p.0, q.0), to_axes shape one other (index, (and_parts (nat_lt i len) (is_index shape index) is).1, p.1, q.1))

from_axes : (shape : List ℕ) (one other : List (List ℕ)) → AreInBounds shape one → AllZip PicksIntersect one other
    → ShareIndex shape one other
from_axes [] [] [] within share = ([], refl, tt, tt)
from_axes (len ∷ shape) [] other within share = absurd within
from_axes [] (xs ∷ one) other within share = absurd within
from_axes [] [] (ys ∷ other) within share = absurd share
from_axes (len ∷ shape) (xs ∷ one) [] within share = absurd share
from_axes (len ∷ shape) (xs ∷ one) (ys ∷ other) within share =
    let rest = from_axes shape one other within.1 share.1 in
    let i = (share.0).0 in (
      i ∷ rest.0,
      and_from (nat_lt i len) (is_index shape rest.0) (lt-ltb i len (within.0 i (share.0).1)) rest.1,
      ((share.0).1, rest.2),
      ((share.0).2, rest.3),
    )

-- an index may be chosen axis by axis
pub intersect_by_axis : (fit : Fit) (shape : List ℕ) (one other : List SliceInfoElem) → argument_fault fit shape one ≡ None
    → Intersect fit shape one other ↔ AllZip PicksIntersect (axis_picks fit shape one) (axis_picks fit shape other)
intersect_by_axis fit shape one other none =
    let parts = elements_of_no_fault fit shape one none in (
      λ intersect. to_axes shape (axis_picks fit shape one) (axis_picks fit shape other) intersect,
      λ share. from_axes shape (axis_picks fit shape one) (axis_picks fit shape other) (in_bounds fit shape one parts.0 parts.1) share,
    )

-- the order of two arguments does not matter
pub intersect_symmetric : (fit : Fit) (shape : List ℕ) (one other : List SliceInfoElem) → Intersect fit shape one other
    → Intersect fit shape other one
intersect_symmetric fit shape one other intersect = (intersect.0, intersect.1, intersect.3, intersect.2)

-- with no axes two arguments intersect
pub axis_picks-no_axes : (fit : Fit) (elems : List SliceInfoElem) → axis_picks fit [] elems ≡ []
axis_picks-no_axes fit elems = ap (λ left. map (λ one. elem_picks fit one.0 one.1) left) (axis_elems-no_axes [] elems refl)

pub intersect_no_axes : (fit : Fit) (one other : List SliceInfoElem) → Intersect fit [] one other
intersect_no_axes fit one other = (
  [],
  refl,
  subst (λ lists. AllZip Contains lists []) (sym (axis_picks-no_axes fit one)) tt,
  subst (λ lists. AllZip Contains lists []) (sym (axis_picks-no_axes fit other)) tt,
)

-- where an argument picks nothing of an axis it intersects none
pub not_picked : (lists : List (List ℕ)) (index : List ℕ) (axis : ℕ) → axis < length lists → get_or lists axis [] ≡ []
    → AllZip Contains lists index → ⊥
not_picked [] index axis below nothing all = omega (arith, below)
not_picked (xs ∷ lists) [] axis below nothing all = all
not_picked (xs ∷ lists) (i ∷ index) zero below nothing all = omega (arith, (all.0).1, ap (λ ys. length ys) nothing)
not_picked (xs ∷ lists) (i ∷ index) (suc axis) below nothing all = not_picked lists index axis (omega (arith, below)) nothing all.1

module _ (fit : Fit) (shape : List ℕ) (one other : List SliceInfoElem) where
  pub intersect_empty : (axis : ℕ) → axis < length (axis_picks fit shape one) → get_or (axis_picks fit shape one) axis [] ≡ []
      → Intersect fit shape one other → ⊥
  intersect_empty axis below nothing intersect = not_picked (axis_picks fit shape one) intersect.0 axis below nothing intersect.2

-- an index of each slice stands for one index of the shape
pub record ShareSource (fit : Fit) (shape : List ℕ) (one other : List SliceInfoElem) : Type 0 where
  pub index : List ℕ
  pub within : IsOfSlice fit one shape index
  pub at : List ℕ
  pub at_within : IsOfSlice fit other shape at
  pub same : selected fit one shape index ≡ selected fit other shape at

pub intersect_of_sources : (fit : Fit) (shape : List ℕ) (one other : List SliceInfoElem) → argument_fault fit shape one ≡ None
    → ShareSource fit shape one other → Intersect fit shape one other
intersect_of_sources fit shape one other none share = (
  selected fit one shape share.index,
  selected_is_index fit one shape share.index none share.within,
  selected_is_picked fit one shape share.index share.within,
  subst (λ index. AllZip Contains (axis_picks fit shape other) index) (sym share.same)
      (selected_is_picked fit other shape share.at share.at_within),
)

pub sources_of_intersect : (fit : Fit) (shape : List ℕ) (one other : List SliceInfoElem) → argument_fault fit shape one ≡ None
    → argument_fault fit shape other ≡ None → Intersect fit shape one other → ShareSource fit shape one other
sources_of_intersect fit shape one other none also intersect =
    let first = picked_is_selected fit one shape intersect.0 none intersect.2 in
    let second = picked_is_selected fit other shape intersect.0 also intersect.3 in
    record {
      index = first.of_slice;
      within = first.within;
      at = second.of_slice;
      at_within = second.within;
      same = first.stands
          ∙ sym second.stands;
    }
