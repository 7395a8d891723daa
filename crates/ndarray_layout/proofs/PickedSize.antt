-- The product of the counts of what the elements of a slice argument pick, axis by axis.
use Rattle.std.proofs.Common.{◌≡◌, ℕ, ◌*◌, ◌≤◌, List, [], ◌∷◌, length, map, None, Bool, true, false, cond, eqb, arith}
use Rattle.std.proofs.Common.{refl, ap, sym, ◌∙◌}
use Rattle.std.proofs.lemmas.Bool.{eqb-true}
use Rattle.std.proofs.Math.Nat.{mul-le-mul_left, mul-le-mul_right, le-mul_of_pos_right, mul_assoc, one-mul}
use Rattle.nd_base.specs.Size.{limit, nonzero_size, size}
use Rattle.nd_base.proofs.Laws.NonzeroSize.{nonzero_size_pos}
use Rattle.nd_slice.specs.declared.fit.Fit.{Fit}
use Rattle.nd_slice.specs.declared.elem.SliceInfoElem.{SliceInfoElem}
use Rattle.nd_slice.specs.declared.elem.SliceInfoElem.TheVariants as elem
use Rattle.nd_slice.specs.Intersect.{elem_picks}
use Rattle.nd_slice.specs.SliceFault.{elem_fault, fault_of_each, first_fault, in_count}
use Rattle.nd_slice.specs.AxisElems.{axis_elems}
use Rattle.nd_slice.specs.Picks.{picks}
use Rattle.nd_slice.specs.SliceBounds.{slice_with}
use Rattle.nd_slice.specs.SlicedLayout.{sliced_shape}
use Rattle.nd_slice.proofs.Laws.AxisElems.{lens_of_axis_elems}
use Rattle.std.specs.Option.{option_or}

-- how many indices elements leave, each of its own axis
abbrev pub size_of_each : Fit → List (ℕ × SliceInfoElem) → ℕ
size_of_each fit [] = 1
size_of_each fit (one ∷ others) = length (elem_picks fit one.0 one.1) * size_of_each fit others

abbrev pub lens_of : List (ℕ × SliceInfoElem) → List ℕ
lens_of elems = map (λ one. one.0) elems

-- an index leaves one of its axis, and a new axis is of length 1
sliced_size : (fit : Fit) (elems : List SliceInfoElem) (shape : List ℕ) → in_count elems ≡ length shape
    → size_of_each fit (axis_elems shape elems) ≡ size (sliced_shape fit elems shape)
sliced_size fit [] shape count = refl
sliced_size fit (elem.NewAxis ∷ elems) shape count =
    sliced_size fit elems shape count ∙ sym (one-mul (size (sliced_shape fit elems shape)))
sliced_size fit (elem.Slice start end step ∷ elems) [] count = absurd (omega arith)
sliced_size fit (elem.Index index ∷ elems) [] count = absurd (omega arith)
sliced_size fit (elem.Slice start end step ∷ elems) (len ∷ shape) count =
    ap (λ n. length (picks fit len (slice_with start end step)) * n) (sliced_size fit elems shape (omega arith))
sliced_size fit (elem.Index index ∷ elems) (len ∷ shape) count =
    one-mul (size_of_each fit (axis_elems shape elems)) ∙ sliced_size fit elems shape (omega arith)

-- left are the elements still to come, each with its axis, and n is the product so far
pub record PickedSoFar (fit : Fit) (elems : List SliceInfoElem) (shape : List ℕ) (left : List (ℕ × SliceInfoElem)) (n : ℕ) : Type
    0 where
  pub fault : fault_of_each fit left ≡ first_fault fit shape elems
  pub size_is : n * size_of_each fit left ≡ size (sliced_shape fit elems shape)
  pub within : n * nonzero_size (lens_of left) ≤ nonzero_size shape

-- no more coordinates of an axis than it has
one_axis : (n count len : ℕ) (lens : List ℕ) → count ≤ len → (n * count) * nonzero_size lens ≤ n * nonzero_size (len ∷ lens)
one_axis n count len lens few = by (eqb len 0) refl
  where
    by : (t : Bool) → eqb len 0 ≡ t → (n * count) * nonzero_size lens ≤ n * cond t (nonzero_size lens) (len * nonzero_size lens)
    by true e =
        let none : count ≡ 0 = omega (arith, eqb-true len 0 e) in
        rw none (omega arith)
    by false e =
        let more : n * (count * nonzero_size lens) ≤ n * (len * nonzero_size lens) = mul-le-mul_left n
        (mul-le-mul_right (nonzero_size lens) few) in
        omega (arith, mul_assoc n count (nonzero_size lens), more)

module _ {fit : Fit} {elems : List SliceInfoElem} {shape : List ℕ} where
  -- before the first element, and after the last
  pub none_picked : in_count elems ≡ length shape → PickedSoFar fit elems shape (axis_elems shape elems) 1
  none_picked count = record {
    fault = refl;
    size_is = one-mul (size_of_each fit (axis_elems shape elems)) ∙ sliced_size fit elems shape count;
    within = omega (arith, ap nonzero_size (lens_of_axis_elems shape elems count));
  }

  pub all_picked : {n : ℕ} → PickedSoFar fit elems shape [] n → n ≡ size (sliced_shape fit elems shape)
  all_picked s = omega (arith, s.size_is)

  -- the next element, with its axis
  pub next_picked : {len : ℕ} {e : SliceInfoElem} {left : List (ℕ × SliceInfoElem)} {n count : ℕ} → elem_fault fit len e ≡ None
      → count ≡ length (elem_picks fit len e) → count ≤ len → PickedSoFar fit elems shape ((len, e) ∷ left) n
      → PickedSoFar fit elems shape left (n * count)
  next_picked {len} {e} {left} {n} {count} none is few s = record {
    fault = ap (λ first. option_or first (fault_of_each fit left)) (sym none) ∙ s.fault;
    size_is = mul_assoc n count (size_of_each fit left) ∙ ap (λ k. n * (k * size_of_each fit left)) is ∙ s.size_is;
    within = omega (arith, one_axis n count len (lens_of left) few, s.within);
  }

  -- the product so far fits
  pub size_small : {left : List (ℕ × SliceInfoElem)} {n : ℕ} → nonzero_size shape ≤ limit → PickedSoFar fit elems shape left n → n ≤ limit
  size_small {left} {n} fits s = omega (arith, le-mul_of_pos_right n (nonzero_size_pos (lens_of left)), s.within)
