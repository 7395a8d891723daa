-- The first index lies as far on as the layout reaches down.
use Rattle.ndarray_layout.proofs.Laws.View.{lowest_view}
use Rattle.ndarray_layout.proofs.strided.Strided.new.Goals as goal

pub invariant_of-result : goal.invariant_of-result
invariant_of-result g c = rw c.offset_from_low_addr_ptr_to_logical_ptr-start.ensures (lowest_view c.in_ok-can_index_slice.ensures.valid)

pub returns-clause-is_view : goal.returns-clause-is_view
returns-clause-is_view g c = rw c.offset_from_low_addr_ptr_to_logical_ptr-start.ensures (lowest_view c.in_ok-can_index_slice.ensures.valid)
