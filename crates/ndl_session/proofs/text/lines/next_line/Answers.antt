use Rattle.std.proofs.Common.{◌≡◌, ap, arith, length, sym, ◌∙◌}
use Rattle.std.proofs.lemmas.Grind.{common_steps}
use Rattle.std.proofs.lemmas.List.{length-map}
use Rattle.ndl_session.specs.text.Lines.{after_line, words_of}
use Rattle.ndl_session.proofs.text_lemmas.FirstLine.{after_lines_next, blank_line}
use Rattle.ndl_session.proofs.text.lines.next_line.Goals as goal

pub returns-then-not-is_empty-clause-rest : goal.returns-then-not-is_empty-clause-rest
returns-then-not-is_empty-clause-rest c =
    c.in-Some.ensures.rest
    ∙ (ap after_line c.loop-line.invariant.rest ∙ sym
    (after_lines_next c.loop-line.number c.args.number c.args.text.now c.loop-line.invariant.later))

pub loop-line-preserved : goal.loop-line-preserved
loop-line-preserved c =
    let found = c.in-Some.ensures in
    let blank : length (words_of c.in-Some.line.now) ≡ 0 = rw (← c.in_ok-words.ensures, length-map) (grind (arith, common_steps)) in
    record {
      lines = blank_line c.loop-line.number c.loop-line.rest.now c.in-Some.line.now c.in-Some.after.now found.lines blank
          ∙ c.loop-line.invariant.lines;
      rest = found.rest
          ∙ (ap after_line c.loop-line.invariant.rest ∙ sym
          (after_lines_next c.loop-line.number c.args.number c.args.text.now c.loop-line.invariant.later));
      later = omega arith;
      shorter = omega (arith, found.shorter);
      counted = omega (arith, found.shorter);
    }
