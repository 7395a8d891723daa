-- Views whose type is another one for as many axes.
use Rattle.std.specs.Prelude.{◌≡◌, ℕ, ◌==◌, true, Option, Some, None, if◌then◌else◌, refl}
use Rattle.std.specs.Option.{option_map_or}
use Rattle.nd_base.specs.declared.error.ErrorKind.{ErrorKind}
use Rattle.nd_base.specs.declared.error.ErrorKind.TheVariants.{IncompatibleShape}

-- the fault of giving a view of so many axes to a type that may fix a count: that this is another one
abbrev pub count_fault : Option ℕ → ℕ → Option ErrorKind
count_fault fixed ndim = if option_map_or (λ count. count == ndim) fixed true then None else Some IncompatibleShape

-- examples
two_of_two : count_fault (Some 2) 2 ≡ None
two_of_two = refl

two_of_any_count : count_fault None 2 ≡ None
two_of_any_count = refl

three_of_two : count_fault (Some 2) 3 ≡ Some IncompatibleShape
three_of_two = refl
