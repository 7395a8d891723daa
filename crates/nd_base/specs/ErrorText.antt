-- What an error prints.
use Rattle.std.specs.Prelude.{◌≡◌, ℕ, List, ◌++◌, codes, refl}
use Rattle.nd_base.specs.declared.error.ErrorKind.{ErrorKind}
use Rattle.nd_base.specs.declared.error.ErrorKind.TheVariants.{IncompatibleShape, IncompatibleLayout, RangeLimited, OutOfBounds}
use Rattle.nd_base.specs.declared.error.ErrorKind.TheVariants.{Unsupported, Overflow}

-- the name of a kind and its sentence
abbrev pub kind_text : ErrorKind → List ℕ
kind_text IncompatibleShape = codes "IncompatibleShape: incompatible shapes"
kind_text IncompatibleLayout = codes "IncompatibleLayout: incompatible memory layout"
kind_text RangeLimited = codes "RangeLimited: the shape does not fit in type limits"
kind_text OutOfBounds = codes "OutOfBounds: out of bounds indexing"
kind_text Unsupported = codes "Unsupported: unsupported operation"
kind_text Overflow = codes "Overflow: arithmetic overflow"

-- the whole text of an error
abbrev pub shape_error_text : ErrorKind → List ℕ
shape_error_text kind = codes "ShapeError/" ++ kind_text kind

-- example
text_of_bounds : shape_error_text OutOfBounds ≡ codes "ShapeError/OutOfBounds: out of bounds indexing"
text_of_bounds = refl
