use Rattle.std.proofs.Common.{◌≡◌, None, rules, sym, ◌∙◌, refl}
use Rattle.ndl_session.specs.text.Bytes.{dot}
use Rattle.ndl_session.specs.text.Lines.{cut_at}
use Rattle.ndl_session.specs.script.Elements.{range_of, slice_of_bounds}
use Rattle.ndl_session.proofs.Slices.{with_step}
use Rattle.ndl_session.proofs.script.elements.range.Goals as goal

pub returns-in_err-signed_number-in-Some : goal.returns-in_err-signed_number-in-Some
returns-in_err-signed_number-in-Some c =
    let none : range_of c.args.text.now ≡ None =
    rw (
      c.in-Some.ensures.split,
      with_step c.in-Some.bounds.now c.in-Some.step.now,
      sym c.signed_number.ensures ∙
          c.in_err-signed_number-in-Some.was,
    ) refl in
    c.from_residual.ensures ∙ sym none

pub returns-in_ok-signed_number-in-Some : goal.returns-in_ok-signed_number-in-Some
returns-in_ok-signed_number-in-Some c =
    let read : range_of c.args.text.now ≡ slice_of_bounds c.in_ok-signed_number-in-Some.field-0 (cut_at dot c.in-Some.bounds.now) =
    rw (
      c.in-Some.ensures.split,
      with_step c.in-Some.bounds.now c.in-Some.step.now,
      sym c.signed_number.ensures ∙
          c.in_ok-signed_number-in-Some.was,
    ) refl in
    rw read (search rules)
