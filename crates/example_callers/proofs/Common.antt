-- Two views are read as views of the shape that they have in common exactly where there is one, and its size fits.
use Rattle.std.proofs.Common.{◌≡◌, ℕ, true, Option, Some, None, Result, Ok, Err, List, refl, sym, ap, ◌∙◌}
use Rattle.std.specs.Option.{option_and_then, option_map_or}
use Rattle.std.specs.Result.{IsErrAnd}
use Rattle.ndarray_layout.specs.declared.ErrorKind.{ErrorKind}
use Rattle.ndarray_layout.specs.declared.ErrorKind.TheVariants.{IncompatibleShape}
use Rattle.ndarray_layout.specs.declared.LayoutError.{LayoutError}
use Rattle.ndarray_layout.specs.BroadcastView.{broadcast_fault, takes_in}
use Rattle.ndarray_layout.specs.CommonShape.{common_shape}
use Rattle.ndarray_layout.specs.ShapeFault.{shape_fault}
use Rattle.ndarray_layout.proofs.Laws.BroadcastView.{takes_in-Decides}
use Rattle.ndarray_layout.proofs.Laws.CommonShape.{common_shape-associates, common_shape-commutes, common_shape-idempotent}

-- ---- the shape in common of two is also that of either and it
in_common : (one other common : List ℕ) → common_shape one other ≡ Some common → common_shape one common ≡ Some common
in_common one other common found =
    sym (ap (option_and_then (λ s. common_shape one s)) found)
    ∙ sym (common_shape-associates one one other)
    ∙ ap (option_and_then (λ s. common_shape s other)) (common_shape-idempotent one)
    ∙ found

takes : (one other common : List ℕ) → common_shape one other ≡ Some common → takes_in common one ≡ true
takes one other common found = (takes_in-Decides common one).1 (in_common one other common found)

pub same_fault : (one other common : List ℕ) → common_shape one other ≡ Some common
    → broadcast_fault common other ≡ broadcast_fault common one
same_fault one other common found =
    rw (takes one other common found, takes other one common (common_shape-commutes other one ∙ found)) refl

-- ---- the fault of reading both so
abbrev pub fault_of_both : List ℕ → List ℕ → Option ErrorKind
fault_of_both one other = option_map_or (λ common. broadcast_fault common one) (common_shape one other) (Some IncompatibleShape)

pub fault_in_common : (one other common : List ℕ) → common_shape one other ≡ Some common
    → broadcast_fault common one ≡ fault_of_both one other
fault_in_common one other common found = rw found refl

-- an error that is handed on has the same fault
pub handed_on : {X : Type 0} (Y : Type 0) (result : Result X LayoutError) (error : LayoutError) (fault : Option ErrorKind) → IsErrAnd
    result (λ e. e ≡ error) → shape_fault {X = Y} (Err error) ≡ fault
    → shape_fault result ≡ fault
handed_on Y (Ok x) error fault is same = absurd is
handed_on Y (Err e) error fault is same = ap (λ f. shape_fault {X = Y} (Err f)) is ∙ same

-- where it has none, there was none
pub without_error : {X : Type 0} {fault : Option ErrorKind} (Y : Type 0) (result : Result X LayoutError) (error : LayoutError) → IsErrAnd
    result (λ e. e ≡ error) → shape_fault {X = Y} (Err error) ≡ fault
    → shape_fault result ≡ None → fault ≡ None
without_error Y (Ok x) error is same none = absurd is
without_error Y (Err e) error is same none = sym same ∙ sym (ap (λ f. shape_fault {X = Y} (Err f)) is) ∙ none
