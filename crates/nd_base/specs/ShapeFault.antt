-- The fault of a shape that the error of a call names; an error of memory is none.
use Rattle.std.specs.Prelude.{◌≡◌, Option, Some, None, Result, Ok, Err, refl}
use Rattle.nd_base.specs.declared.error.ErrorKind.{ErrorKind}
use Rattle.nd_base.specs.declared.error.ErrorKind.TheVariants.{OutOfBounds}
use Rattle.nd_base.specs.declared.error.LayoutError.{LayoutError}
use Rattle.nd_base.specs.declared.error.LayoutError.TheVariants.{Shape, Memory}

-- the kind of the error that a call returns; none where it succeeded or an allocation failed
abbrev pub shape_fault : {X : Type 0} → Result X LayoutError → Option ErrorKind
shape_fault (Ok x) = None
shape_fault (Err (Shape kind)) = Some kind
shape_fault (Err (Memory e)) = None

-- examples
of_success : {X : Type 0} (x : X) → shape_fault (Ok x) ≡ None
of_success x = refl

of_bounds : (X : Type 0) → shape_fault {X = X} (Err (Shape OutOfBounds)) ≡ Some OutOfBounds
of_bounds X = refl
