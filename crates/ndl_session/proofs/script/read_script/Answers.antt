-- What is given is the script of the input, which is the one whose text this is.
use Rattle.std.proofs.Common.{◌≡◌, Ok, Err, rules, List, ℕ, sym, ap, subst, ◌∙◌}
use Rattle.ndl_session.specs.script.Script.{Gives, IsScript, ScriptValue, script_of, script_text, script_value}
use Rattle.ndl_session.proofs.Laws.PrintedScript.{script_of-script_text}
use Rattle.ndl_session.proofs.script.read_script.Goals as goal

spelled : (input : List ℕ) (script : ScriptValue) → IsScript script → input ≡ script_text script → script_of input ≡ Ok script
spelled input script fits same = ap script_of same ∙ script_of-script_text script fits

pub returns-in_default-2-clause-printed : goal.returns-in_default-2-clause-printed
returns-in_default-2-clause-printed c = λ script fits same.
    let read : script_of c.args.input.now ≡ Err c.in-Some.line.number = search rules in
    sym (spelled c.args.input.now script fits same) ∙ read

pub returns-in_err-steps-clause-printed : goal.returns-in_err-steps-clause-printed
returns-in_err-steps-clause-printed c = λ script fits same.
    let read : Gives script_value c.from_residual-in_err-steps.result (script_of c.args.input.now) = search rules in
    subst (Gives script_value c.from_residual-in_err-steps.result) (spelled c.args.input.now script fits same) read

pub returns-clause-printed : goal.returns-clause-printed
returns-clause-printed c = λ script fits same.
    let read : script_of c.args.input.now ≡ Ok (script_value (record { layout = c.in-Some-2.layout; steps = c.in_ok-steps.steps })) =
    search rules in
    sym (spelled c.args.input.now script fits same) ∙ read
