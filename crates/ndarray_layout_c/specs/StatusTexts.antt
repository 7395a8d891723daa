-- What a status means, as text.
use Rattle.std.specs.Prelude.{◌≡◌, ℕ, ℤ, pos, if◌then◌else◌, List, [], codes, refl}
use Rattle.std.specs.Ordering.{int_eq}

-- the text of a status: that of the layer for a fault, without the name of the error's type; nothing for a number that is no status
abbrev pub status_text : ℤ → List ℕ
status_text status =
    if int_eq status (pos 0) then codes "Ok: the call succeeded"
    else if int_eq status (pos 1) then codes "IncompatibleShape: incompatible shapes"
    else if int_eq status (pos 2) then codes "IncompatibleLayout: incompatible memory layout"
    else if int_eq status (pos 3) then codes "RangeLimited: the shape does not fit in type limits"
    else if int_eq status (pos 4) then codes "OutOfBounds: out of bounds indexing"
    else if int_eq status (pos 5) then codes "Unsupported: unsupported operation"
    else if int_eq status (pos 6) then codes "Overflow: arithmetic overflow"
    else if int_eq status (pos 7) then codes "BadArgument: a number without a meaning, or a list of the wrong length"
    else if int_eq status (pos 8) then codes "OutOfMemory: memory was refused"
    else []

-- examples
of_bounds : status_text (pos 4) ≡ codes "OutOfBounds: out of bounds indexing"
of_bounds = refl

of_no_status : status_text (pos 9) ≡ []
of_no_status = refl
