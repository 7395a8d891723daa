use Rattle.std.proofs.Common.{rules}
use Rattle.nd_slice.proofs.slice_errors.check_elems.Goals as goal

-- (a search that ends soon where a wrong count is not an error)
pub returns-then-in_ndim_of-shape : goal.returns-then-in_ndim_of-shape
returns-then-in_ndim_of-shape c = search rules depth 5
