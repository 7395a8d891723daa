-- Faults that a test finds.
use Rattle.std.proofs.Common.{◌≡◌, Bool, true, false, cond, None, Some, refl}
use Rattle.nd_base.specs.declared.error.ErrorKind.{ErrorKind}

-- where there is no fault the test is passed
pub passed : (kind : ErrorKind) (test : Bool) → cond test None (Some kind) ≡ None → test ≡ true
passed kind true none = refl
passed kind false none = absurd (cc)
