-- The transpose keeps each index, so its sum is that of the picture.
use Rattle.std.specs.Option.{option_map_or}
use Rattle.ndarray_layout.proofs.Laws.Permuted.{KeepsIndices-reversed_of}
use Rattle.nd_lent.proofs.Laws.PermutedItems.{sum_of_kept}
use Rattle.example_callers.proofs.sums.transpose_sum.Goals as goal

pub returns : goal.returns
returns g c =
    let same =
    sum_of_kept (λ pixel. option_map_or (λ n. n) pixel 0) c.reversed_axes.ensures (KeepsIndices-reversed_of c.args.picture.view) in
    record { fits = rw same at c.sum-2.ensures.fits; sum = rw same at c.sum-2.ensures.sum }
