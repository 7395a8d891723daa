use Rattle.std.proofs.Common.{◌≡◌, sym, ◌∙◌, Some, refl, rules}
use Rattle.ndarray_layout.specs.declared.SliceInfoElem.TheVariants as elem
use Rattle.ndl_session.specs.text.Bytes.{dot}
use Rattle.ndl_session.specs.text.Lines.{cut_at}
use Rattle.ndl_session.specs.script.Elements.{slice_of_bounds}
use Rattle.ndl_session.proofs.Slices.{cut_bounds}
use Rattle.ndl_session.proofs.script.elements.slice.Goals as goal

pub returns-in_err-end : goal.returns-in_err-end
returns-in_err-end c =
    let rest = c.in_ok-start_text.rest.now in
    let both = c.in_ok-end_text.ensures.cases in
    let cut = cut_bounds c.args.step c.args.range.now rest c.in_ok-start_text.ensures.split both.0 both.1 in
    c.from_residual-in_err-end.ensures ∙ sym (rw (cut, sym c.start.ensures ∙ c.in_ok-start.was, sym c.end.ensures ∙ c.in_err-end.was) refl)

pub returns : goal.returns
returns c =
    let both = c.in_ok-end_text.ensures.cases in
    let read : slice_of_bounds c.args.step (cut_at dot c.args.range.now) ≡ Some
    (elem.Slice c.in_ok-start.field-0 c.in_ok-end.field-0 c.args.step) = rw (
      cut_bounds c.args.step c.args.range.now c.in_ok-start_text.rest.now c.in_ok-start_text.ensures.split both.0 both.1,
      sym c.start.ensures ∙ c.in_ok-start.was,
      sym c.end.ensures ∙ c.in_ok-end.was,
    ) refl in
    rw read (search rules)
