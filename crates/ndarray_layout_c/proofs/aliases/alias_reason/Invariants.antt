-- The first axis that breaks the rule among those that are left is the first of all.
use Rattle.std.proofs.Common.{◌≡◌, ◌-◌, length}
use Rattle.std.specs.List.{find, range_with_len}
use Rattle.std.specs.Prelude.{not}
use Rattle.ndarray_layout.specs.NoAlias.{strides_over_others}
use Rattle.ndarray_layout.specs.Signed.{all_signed}
use Rattle.ndarray_layout_c.specs.LayoutReasons.{first_alias}
use Rattle.ndarray_layout_c.proofs.aliases.alias_reason.Given as goal

abbrev pub invariant-loop-axis : goal.invariant-loop-axis
invariant-loop-axis l =
    find (λ axis. not (strides_over_others l.shape (all_signed l.strides) axis)) (range_with_len l.axis (length l.shape - l.axis))
    ≡ first_alias l.shape (all_signed l.strides)
