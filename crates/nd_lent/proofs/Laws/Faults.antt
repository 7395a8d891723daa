-- Laws of errors: of two that come one after the other, of one that is handed on, and of slices that fit.
use Rattle.std.proofs.Common.{◌≡◌, ℕ, Option, Some, None, Result, Ok, Err, List, [], ◌∷◌, refl, sym, subst, ap, ◌∙◌}
use Rattle.std.specs.List.{All}
use Rattle.std.specs.Option.{option_or}
use Rattle.std.specs.Prelude.{OnOk}
use Rattle.std.specs.Result.{IsErrAnd}
use Rattle.std.proofs.lemmas.List.Elements.{All-cons, All-nil}
use Rattle.ndarray_layout.specs.declared.ErrorKind.{ErrorKind}
use Rattle.ndarray_layout.specs.declared.Fit.{Fit}
use Rattle.ndarray_layout.specs.declared.Fit.TheVariants.{Strict}
use Rattle.ndarray_layout.specs.declared.LayoutError.{LayoutError}
use Rattle.ndarray_layout.specs.declared.LayoutError.TheVariants.{Shape, Memory}
use Rattle.ndarray_layout.specs.declared.SliceInfoElem.{SliceInfoElem}
use Rattle.ndarray_layout.specs.IntersectingPair.{slices_fault}
use Rattle.ndarray_layout.specs.ShapeFault.{shape_fault}
use Rattle.ndarray_layout.specs.SliceFault.{argument_fault}
use Rattle.ndarray_layout.specs.SlicedView.{view_slice_fault}
use Rattle.ndarray_layout.proofs.Laws.SlicedView.{no_argument_fault}
use Rattle.nd_lent.specs.Slices.{view_slices_fault}

pub both_none : (first second : Option ErrorKind) → option_or first second ≡ None → (first ≡ None) × (second ≡ None)
both_none None second none = (refl, none)
both_none (Some fault) second none = absurd (cc)

-- an error without the fault of a shape that is handed on has none either
pub handed_on : {X : Type 0} (Y : Type 0) (result : Result X LayoutError) (error : LayoutError) → IsErrAnd result (λ e. e ≡ error)
    → shape_fault {X = Y} (Err error) ≡ None → shape_fault result ≡ None
handed_on Y (Ok x) error is none = refl
handed_on Y (Err (Memory e)) error is none = refl
handed_on Y (Err (Shape kind)) error is none = subst (λ e. shape_fault {X = Y} (Err e) ≡ None) (sym is) none

-- what a success brings
pub on_ok : {X E : Type 0} (result : Result X E) {P Q : Type 0} → (P → Q) → OnOk result P → OnOk result Q
on_ok (Ok x) brings known = brings known
on_ok (Err e) brings known = tt

-- slices without an error fit, each of them
pub slices_fit : (shape : List ℕ) (slices : List (List SliceInfoElem)) → slices_fault Strict shape slices ≡ None
    → All (λ slice. argument_fault Strict shape slice ≡ None) slices
slices_fit shape [] none = All-nil (λ slice. argument_fault Strict shape slice ≡ None)
slices_fit shape (slice ∷ slices) none =
    let parts = both_none (argument_fault Strict shape slice) (slices_fault Strict shape slices) none in
    All-cons (λ one. argument_fault Strict shape one ≡ None) slice slices parts.0 (slices_fit shape slices parts.1)

-- so do those that also leave as many axes as a type fixes
pub view_slices_fit : (count : Option ℕ) (shape : List ℕ) (slices : List (List SliceInfoElem))
    → view_slices_fault Strict count shape slices ≡ None → slices_fault Strict shape slices ≡ None
view_slices_fit count shape [] none = refl
view_slices_fit count shape (slice ∷ slices) none =
    let parts = both_none (view_slice_fault Strict count shape slice) (view_slices_fault Strict count shape slices) none in
    ap (λ fault. option_or fault (slices_fault Strict shape slices)) (no_argument_fault Strict count shape slice parts.0)
    ∙ view_slices_fit count shape slices parts.1

pub each_view_slice_fits : (count : Option ℕ) (shape : List ℕ) (slices : List (List SliceInfoElem))
    → view_slices_fault Strict count shape slices ≡ None → All (λ slice. view_slice_fault Strict count shape slice ≡ None) slices
each_view_slice_fits count shape [] none = All-nil (λ slice. view_slice_fault Strict count shape slice ≡ None)
each_view_slice_fits count shape (slice ∷ slices) none =
    let parts = both_none (view_slice_fault Strict count shape slice) (view_slices_fault Strict count shape slices) none in
    All-cons (λ one. view_slice_fault Strict count shape one ≡ None) slice slices parts.0
    (each_view_slice_fits count shape slices parts.1)

-- where no count is fixed, the error of slices is that of the first one that doesn't fit
pub of_any_count : (fit : Fit) (shape : List ℕ) (slices : List (List SliceInfoElem))
    → view_slices_fault fit None shape slices ≡ slices_fault fit shape slices
of_any_count fit shape [] = refl
of_any_count fit shape (slice ∷ slices) = ap (option_or (argument_fault fit shape slice)) (of_any_count fit shape slices)
