use Rattle.std.proofs.Common.{◌∷◌, List, ℕ, Bor, sym, ◌∙◌, ap}
use Rattle.ndl_session.specs.text.Lines.{lines_of}
use Rattle.ndl_session.proofs.text_lemmas.FirstLine.{ended_line, stripped}
use Rattle.ndl_session.proofs.text.lines.first_line.Goals as goal

pub returns-in-Some-clause-lines : goal.returns-in-Some-clause-lines
returns-in-Some-clause-lines c =
    let line = ap (λ (x : Bor (List ℕ)). x.now) c.unwrap_or.ensures
    ∙ stripped c.in-Some.line c.strip_suffix.result _ c.strip_suffix.ensures.cases in
    ended_line c.args.text.now c.in-Some.line.now c.in-Some.rest.now c.in-Some.ensures.split
    ∙ ap (λ (x : List ℕ). x ∷ lines_of c.in-Some.rest.now) (sym line)
