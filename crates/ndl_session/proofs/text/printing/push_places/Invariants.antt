-- What stood there when the loop began, and then each place so far after a space.
use Rattle.std.proofs.Common.{◌≡◌, ◌++◌, codes, decimal, map}
use Rattle.std.specs.List.{flat_map}
use Rattle.ndl_session.proofs.text.printing.push_places.Given as goal

abbrev pub invariant-loop-place : goal.invariant-loop-place
invariant-loop-place g l =
    l.text.items ≡ l.initial.text.items ++ flat_map (λ another. codes " " ++ another) (map decimal l.yielded)
