-- At first all indices are to come, as many as the picture's size.
use Rattle.std.proofs.Common.{◌≡◌, length, ap, arith}
use Rattle.std.proofs.Common.{rules}
use Rattle.ndarray_layout.specs.declared.Order.TheVariants.{RowMajor}
use Rattle.ndarray_layout.specs.Indices.{indices_in}
use Rattle.ndarray_layout.proofs.Laws.Indices.{length-indices_in}
use Rattle.example_callers.proofs.counts.count_bright.Goals as goal

pub loop-index-init : goal.loop-index-init
loop-index-init c =
    let all : c.into_iter-index-iterator.result ≡ indices_in RowMajor c.args.picture.now.view.shape = search rules in
    record {
      counted = search rules;
      few = omega (arith, ap length all, length-indices_in RowMajor c.args.picture.now.view.shape);
    }
