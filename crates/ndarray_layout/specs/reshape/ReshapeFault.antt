-- Why a reshape fails.
use Rattle.std.specs.Prelude.{◌≡◌, ℕ, ◌==◌, ℤ, pos, negsuc, if◌then◌else◌, Option, Some, None, List, [], ◌∷◌, refl}
use Rattle.nd_base.specs.declared.error.ErrorKind.{ErrorKind}
use Rattle.nd_base.specs.declared.error.ErrorKind.TheVariants.{IncompatibleShape, IncompatibleLayout}
use Rattle.nd_base.specs.declared.error.LayoutError.{LayoutError}
use Rattle.nd_base.specs.declared.error.LayoutError.TheVariants.{Shape, Memory}
use Rattle.nd_base.specs.declared.order.Order.{Order}
use Rattle.nd_base.specs.declared.order.Order.TheVariants.{RowMajor, ColumnMajor}
use Rattle.nd_base.specs.Size.{size}
use Rattle.ndarray_layout.specs.reshape.Joints.{has_bad_joint}
use Rattle.nd_base.specs.AsRead.{as_read}

-- the axes as they are read: a bad joint first, and then sizes that differ
abbrev pub fault_as_read : List ℕ → List ℤ → List ℕ → Option ErrorKind
fault_as_read from strides to =
    (if has_bad_joint from strides to
    then Some IncompatibleLayout
    else (if size from == size to then None else Some IncompatibleShape))

-- why a reshape fails in an order: a bad joint first, and then sizes that differ
abbrev pub reshape_fault : Order → List ℕ → List ℤ → List ℕ → Option ErrorKind
reshape_fault order from strides to = fault_as_read (as_read order from) (as_read order strides) (as_read order to)

-- an error of a shape is the fault that there is; one of memory comes first, whatever the fault
abbrev pub IsErrorFor : Option ErrorKind → LayoutError → Type 0
IsErrorFor fault (Shape kind) = fault ≡ Some kind
IsErrorFor fault (Memory e) = Unit {0}

-- an error that is none of memory
abbrev pub IsOfShape : LayoutError → Type 0
IsOfShape (Shape kind) = Unit {0}
IsOfShape (Memory e) = ⊥

-- examples
rows_as_columns : reshape_fault ColumnMajor (2 ∷ 3 ∷ []) (pos 3 ∷ pos 1 ∷ []) (3 ∷ 2 ∷ []) ≡ Some IncompatibleLayout
rows_as_columns = refl

other_size : reshape_fault RowMajor (2 ∷ 3 ∷ []) (pos 3 ∷ pos 1 ∷ []) (2 ∷ 2 ∷ []) ≡ Some IncompatibleShape
other_size = refl

bad_joint_and_other_size : reshape_fault RowMajor (4 ∷ 4 ∷ []) (pos 8 ∷ pos 1 ∷ []) (3 ∷ 5 ∷ []) ≡ Some IncompatibleLayout
bad_joint_and_other_size = refl

each_second_back : reshape_fault RowMajor (4 ∷ []) (negsuc 1 ∷ []) (2 ∷ 2 ∷ []) ≡ None
each_second_back = refl

of_a_layout : IsErrorFor (Some IncompatibleLayout) (Shape IncompatibleLayout)
of_a_layout = refl

of_shapes : IsOfShape (Shape IncompatibleShape)
of_shapes = tt
