-- So far all lines were blank: those that aren't are in the rest, which begins at this number.
use Rattle.std.proofs.Common.{◌≡◌, ◌+◌, ◌-◌, ◌≤◌, length}
use Rattle.ndl_session.specs.text.Lines.{after_lines, lines_from}
use Rattle.ndl_session.proofs.text.lines.next_line.Given as goal

abbrev pub invariant-loop-line : goal.invariant-loop-line
invariant-loop-line l = record {
  lines : lines_from l.number l.rest ≡ lines_from l.fn.number l.text;
  rest : l.rest ≡ after_lines (l.number - l.fn.number) l.text;
  later : l.fn.number ≤ l.number;
  shorter : length l.rest ≤ length l.text;
  counted : l.number + length l.rest ≤ l.fn.number + length l.text;
}

abbrev pub decreases-loop-line : goal.decreases-loop-line
decreases-loop-line l = length l.rest
