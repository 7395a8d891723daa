-- What stood there when the loop began, and then each number so far after a separator.
use Rattle.std.proofs.Common.{◌≡◌, ◌++◌, map}
use Rattle.std.specs.List.{flat_map}
use Rattle.ndl_session.specs.text.Printing.{printed}
use Rattle.ndl_session.proofs.text.printing.push_list.Given as goal

abbrev pub invariant-loop-number : goal.invariant-loop-number
invariant-loop-number g l =
    l.text.items ≡ l.initial.text.items ++ flat_map (λ another. l.separator ++ another)
    (map (printed g.T.Display.output) l.yielded)
