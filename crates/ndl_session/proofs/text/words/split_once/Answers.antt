-- The text falls into its pieces at the first separator.
use Rattle.std.proofs.Common.{sym, ◌∙◌}
use Rattle.std.proofs.lemmas.List.{take_rest}
use Rattle.ndl_session.proofs.text_lemmas.Parts.{parts_without, parts_at}
use Rattle.ndl_session.proofs.text.words.split_once.Goals as goal

pub returns-in_err-at-clause-split : goal.returns-in_err-at-clause-split
returns-in_err-at-clause-split c =
    rw c.from_residual.ensures (parts_without c.args.separator c.args.text.now (sym c.position_of.ensures ∙ c.in_err-at.was))

pub returns-clause-split : goal.returns-clause-split
returns-clause-split c =
    rw take_rest (parts_at c.args.separator c.args.text.now c.in_ok-at.at (sym c.position_of.ensures ∙ c.in_ok-at.was))
