-- No reply's status is above 2.
use Rattle.std.proofs.Common.{◌≤◌, subst, sym}
use Rattle.std.proofs.lemmas.Result.{IfOk-weaker}
use Rattle.ndl_session.specs.script.Script.{script_value}
use Rattle.ndl_session.proofs.Listing.{reply_to_script_small}
use Rattle.ndl_session.proofs.answer.answer_to.Goals as goal

pub returns-in-Ok-clause-small : goal.returns-in-Ok-clause-small
returns-in-Ok-clause-small c =
    IfOk-weaker c.answer_to_script.result _ _
    (λ answer h. subst (λ n. n ≤ 2) (sym h.status) (reply_to_script_small (script_value c.in-Ok.script))) c.answer_to_script.ensures
