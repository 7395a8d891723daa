use Rattle.std.proofs.Common.{rules, ◌+◌, get_or, length, arith, ◌∙◌, subst}
use Rattle.std.specs.List.Sorted.{IsPermutation}
use Rattle.std.proofs.lemmas.Fn.{always_returns_same}
use Rattle.std.proofs.lemmas.List.{length-map}
use Rattle.nd_base.proofs.Laws.Below.{below_by_places}
use Rattle.nd_base.proofs.Laws.Definitions.{below, all_signed, signed}
use Rattle.nd_dim.specs.StrideOrder.{magnitude_at}
use Rattle.nd_dim.proofs.StrideOrderLoop.{positions_differ, before_from_not_after}
use Rattle.nd_dim.proofs.stride_order.fill_stride_order.Goals as goal

pub returns : goal.returns
returns c =
    let strides = all_signed c.args.strides.now in
    let order = c.sort_unstable_by_key.new.self in
    let count = length-map c.args.strides.now signed ∙ c.requires in
    let numbers = below_by_places c.loop-axis.order (length strides) (omega arith) (λ k h. c.loop-axis.invariant k (omega arith)) in
    let moved : IsPermutation (below (length strides)) order =
    subst (λ xs. IsPermutation xs order) numbers c.sort_unstable_by_key.ensures.permutation in
    let sorted = c.sort_unstable_by_key.ensures.sorted (λ axis. (magnitude_at strides axis, axis))
    (always_returns_same _ _ _ (λ a r f h. search rules)) in
    record {
      each_once = moved;
      in_order = λ position h. before_from_not_after strides (get_or order position 0) (get_or order (position + 1) 0)
          (sorted position 0 (omega arith) h) (positions_differ (length strides) moved position (position + 1) (omega arith) h);
    }
