-- Where no memory is needed, the shape in common fails alone where there is none, and a broadcast to it where it is too large.
use Rattle.std.proofs.Common.{◌≡◌, Some, sym, ◌∙◌, subst}
use Rattle.std.proofs.lemmas.Bool.{false≢true}
use Rattle.ndarray_layout.specs.CommonShape.{common_shape}
use Rattle.ndarray_layout.specs.Memory.{NeedsNoMemory}
use Rattle.ndarray_layout.specs.ShapeFault.{shape_fault}
use Rattle.ndarray_layout.specs.View.{View}
use Rattle.ndarray_layout.proofs.Laws.CommonShape.{common_shape_count}
use Rattle.example_callers.proofs.Common.{fault_in_common, fault_of_both, handed_on}
use Rattle.example_callers.proofs.Common.{same_fault, without_error}
use Rattle.example_callers.proofs.broadcasts.on_common_shape.Given.{Over}
use Rattle.example_callers.proofs.broadcasts.on_common_shape.Goals as goal

-- ---- the first view fails
pub returns-in_err-broadcast-clause-memory : goal.returns-in_err-broadcast-clause-memory
returns-in_err-broadcast-clause-memory g c few none =
    let one = c.dim.ensures.list in
    let other = c.dim-2.ensures.list in
    let found = rw (one, other) at c.in_ok-shape.ensures.common in
    let count = common_shape_count c.args.one.now.shape c.args.other.now.shape _ found in
    absurd (false≢true (c.in_err-broadcast.ensures.memory
    (without_error View c.from_residual-in_err-broadcast.result c.in_err-broadcast.field-0.0 c.from_residual-in_err-broadcast.ensures.1
    c.in_err-broadcast.ensures.fault none) (subst (NeedsNoMemory g.D.FixedCount.NDIM) (sym count) few)))

-- ---- the other fails
other_found : (g : Over) (c : goal.After-drop-shape-in_err-broadcast-2 g)
    → common_shape c.args.one.now.shape c.args.other.now.shape ≡ Some (g.D.Lengths.list c.in_ok-shape.shape)
other_found g c = rw (c.dim.ensures.list, c.dim-2.ensures.list) at c.in_ok-shape.ensures.common

other_failed : (g : Over) (c : goal.After-drop-shape-in_err-broadcast-2 g)
    → shape_fault c.from_residual-in_err-broadcast-2.result ≡ fault_of_both c.args.one.now.shape c.args.other.now.shape
other_failed g c =
    let one = c.args.one.now.shape in
    let other = c.args.other.now.shape in
    let found = other_found g c in
    handed_on View c.from_residual-in_err-broadcast-2.result c.in_err-broadcast-2.field-0.0 _ c.from_residual-in_err-broadcast-2.ensures.1
    (c.in_err-broadcast-2.ensures.fault ∙ same_fault one other _ found ∙ fault_in_common one other _ found)

pub returns-in_err-broadcast-2-clause-fault : goal.returns-in_err-broadcast-2-clause-fault
returns-in_err-broadcast-2-clause-fault g c few = other_failed g c

pub returns-in_err-broadcast-2-clause-failed : goal.returns-in_err-broadcast-2-clause-failed
returns-in_err-broadcast-2-clause-failed g c kind fault = sym (other_failed g c) ∙ fault

pub returns-in_err-broadcast-2-clause-memory : goal.returns-in_err-broadcast-2-clause-memory
returns-in_err-broadcast-2-clause-memory g c few none =
    let count = common_shape_count c.args.one.now.shape c.args.other.now.shape _ (other_found g c) in
    absurd (false≢true (c.in_err-broadcast-2.ensures.memory
    (without_error View c.from_residual-in_err-broadcast-2.result c.in_err-broadcast-2.field-0.0
    c.from_residual-in_err-broadcast-2.ensures.1 c.in_err-broadcast-2.ensures.fault none)
    (subst (NeedsNoMemory g.D.FixedCount.NDIM) (sym count) few)))
