-- The edit that the error of a call names.
use Rattle.std.specs.Prelude.{◌≡◌, ℕ, Option, Some, None, Result, Ok, Err, refl}
use Rattle.example_tiles_edits.specs.declared.edit.Edit.TheVariants.{FlipRows}
use Rattle.example_tiles_edits.specs.declared.edit.Misfit.{Misfit}
use Rattle.example_tiles_edits.specs.declared.editing.EditError.{EditError}
use Rattle.example_tiles_edits.specs.declared.editing.EditError.TheVariants as error

-- the edit that doesn't fit; none where an allocation fails
abbrev pub misfit_of : {A : Type 0} → Result A EditError → Option Misfit
misfit_of (Ok x) = None
misfit_of (Err (error.Misfit misfit)) = Some misfit
misfit_of (Err error.Memory) = None

-- examples
abbrev second_edit : Misfit
second_edit = record { number = 2; edit = FlipRows; extent = record { rows = 3; columns = 2 } }

second : misfit_of {A = ℕ} (Err (error.Misfit second_edit)) ≡ Some second_edit
second = refl

memory : misfit_of {A = ℕ} (Err error.Memory) ≡ None
memory = refl

edited : misfit_of {A = ℕ} (Ok 4) ≡ None
edited = refl
