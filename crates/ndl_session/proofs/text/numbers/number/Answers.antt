use Rattle.std.proofs.Common.{sym, ◌∙◌}
use Rattle.ndl_session.proofs.text_lemmas.Digits.{number_parsed, number_not_utf8, no_plus, not_a_text, a_text}
use Rattle.ndl_session.proofs.text.numbers.number.Goals as goal

pub returns-in_err-ok : goal.returns-in_err-ok
returns-in_err-ok c =
    let none = sym c.ok.ensures.value ∙ c.in_err-ok.was in
    c.from_residual.ensures
    ∙ sym (number_not_utf8 c.args.text.now (not_a_text c.from_utf8.result _ _ c.args.text.now c.from_utf8.ensures.cases none))

pub returns : goal.returns
returns c =
    let same =
    a_text c.from_utf8.result _ _ c.args.text.now c.in_ok-ok.field-0 c.from_utf8.ensures.cases
    (sym c.ok.ensures.value ∙ c.in_ok-ok.was) in
    let parsed = rw same at c.parse.ensures.value.0 in
    c.ok-2.ensures.value
    ∙ number_parsed c.args.text.now c.parse.result parsed
    (no_plus c.args.text.now (sym c.starts_with.ensures.value ∙ c.if-starts_with.false))
