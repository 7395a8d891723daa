use Rattle.std.proofs.Common.{◌≡◌, ℕ, ◌*◌, true, cond, nat_eq, Some, None, List, length, sym, subst, ap, ◌∙◌, inl, inr, arith}
use Rattle.std.proofs.lemmas.Bool.{cases_eq}
use Rattle.std.specs.Option.{is_some, option_map_or}
use Rattle.ndarray_layout.specs.declared.ErrorKind.{ErrorKind}
use Rattle.ndarray_layout.specs.declared.ErrorKind.TheVariants.{IncompatibleLayout}
use Rattle.ndarray_layout.specs.JoinedInAll.{strides_of}
use Rattle.ndarray_layout.specs.Signed.{all_signed}
use Rattle.ndarray_layout.specs.ValidLayout.{IsValidLayout}
use Rattle.ndarray_layout_c.specs.LayoutsFault.{fault_of_layout, first_at_fault, is_at_fault, layouts_fault}
use Rattle.ndarray_layout_c.proofs.FirstOf.{first_found, first_passed}
use Rattle.ndarray_layout_c.proofs.joined_layouts.layouts_fault.Goals as goal

-- the fault of the first layout that has one is that of all
fault_of_first : (shape strides : List ℕ) (layouts number : ℕ) (kind : ErrorKind) → nat_eq (length strides) (length shape * layouts) ≡ true
    → Some number ≡ first_at_fault shape strides layouts → Some kind ≡ fault_of_layout shape strides number
    → Some kind ≡ layouts_fault shape strides layouts
fault_of_first shape strides layouts number kind counts first here =
    here ∙ ap (λ found. option_map_or (fault_of_layout shape strides) found None) first
    ∙ sym (ap (λ same. cond same (option_map_or (fault_of_layout shape strides) (first_at_fault shape strides layouts) None)
    (Some IncompatibleLayout)) counts)

pub returns-in-Err-clause-fault : goal.returns-in-Err-clause-fault
returns-in-Err-clause-fault c =
    let shape = c.args.shape.now in
    let strides = c.args.strides.now in
    let number = c.loop-number.number in
    let first = first_found (is_at_fault shape strides) number c.args.layouts c.loop-number-test.true
    (sym (ap is_some c.in-Err.ensures.fault)) c.loop-number.invariant.fault in
    fault_of_first shape strides c.args.layouts number c.kind.result (sym c.has_count.ensures ∙ c.if-not-has_count.false) first
    (ap Some c.kind.ensures ∙ c.in-Err.ensures.fault)

pub loop-number-preserved : goal.loop-number-preserved
loop-number-preserved c =
    let shape = c.args.shape.now in
    let strides = c.args.strides.now in
    record {
      fault = first_passed (is_at_fault shape strides) c.loop-number.number c.args.layouts c.loop-number-test.true
          (sym (ap is_some c.in_default.ensures.fault)) c.loop-number.invariant.fault;
      valid = λ number here. elim (cases_eq number c.loop-number.number) [
        | inl same ↦
            subst (λ number. IsValidLayout shape (all_signed (strides_of (length shape) number strides))) (sym same)
            c.in_default.ensures.valid
        | inr other ↦ c.loop-number.invariant.valid number (omega (arith, here, other))
      ];
    }

pub returns-clause-valid : goal.returns-clause-valid
returns-clause-valid c = λ none number here. c.loop-number.invariant.valid number (omega (arith, here, c.loop-number-test.false))
