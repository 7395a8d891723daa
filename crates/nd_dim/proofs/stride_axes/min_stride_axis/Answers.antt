use Rattle.std.proofs.Common.{arith}
use Rattle.nd_dim.proofs.stride_axes.min_stride_axis.Goals as goal

pub returns-then-lens-least-gt1 : goal.returns-then-lens-least-gt1
returns-then-lens-least-gt1 c =
    let known = c.least_of_all-least.ensures in record {
      exists = omega (arith, known.exists, c.requires.same_count);
      long = λ other h. (omega (arith, known.exists, c.requires.same_count), c.if-lens-least-gt1.true);
      leading = λ other h. known.leading other (omega (arith, h.0, c.requires.same_count));
      of_equals = λ other h e. known.of_equals other (omega (arith, h.0, c.requires.same_count)) e;
      without_long = λ none. absurd
          (none c.least_of_all-least.result (omega (arith, known.exists, c.requires.same_count), c.if-lens-least-gt1.true));
    }
