-- Laws of calls that return an error.
use Rattle.std.proofs.Common.{◌≡◌, None, Result, Ok, Err, OnOk, refl, sym, subst}
use Rattle.std.specs.Prelude.{IfErr, IsErrAnd}
use Rattle.std.specs.Result.{result_err}

-- what holds of an error holds of the call that hands it on
pub IfErr-handed_on : {T E : Type 0} (P : E → Type 0) (result : Result T E) {error : E}
    → IsErrAnd result (λ e. e ≡ error) → P error → IfErr result P
IfErr-handed_on P (Ok x) is known = tt
IfErr-handed_on P (Err e) is known = subst P (sym is) known

-- a call that gave no error gave a value
pub OnOk-without_error : {T E P : Type 0} (result : Result T E) → (result_err result ≡ None → P) → OnOk result P
OnOk-without_error (Ok x) holds = holds refl
OnOk-without_error (Err e) holds = tt
