-- It is the search for an item that passes.
use Rattle.std.proofs.Common.{false, true}
use Rattle.nd_loops.proofs.Laws.Searching.{searched_while}
use Rattle.nd_lent.proofs.array_view.ArrayView.any.Goals as goal

pub returns : goal.returns
returns g c = record { ran = searched_while c.search.result false true (λ none. none) (λ found. found) c.search.ensures.1 }
