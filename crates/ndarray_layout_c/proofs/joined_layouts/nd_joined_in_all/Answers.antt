use Rattle.std.proofs.Common.{rules, ap, subst, w32, ◌∙◌}
use Rattle.std.proofs.lemmas.Int.{to_z-of_z}
use Rattle.ndarray_layout.specs.JoinedInAll.{NoMoreJoin}
use Rattle.ndarray_layout_c.specs.Arguments.{order_named}
use Rattle.ndarray_layout_c.proofs.joined_layouts.nd_joined_in_all.Goals as goal

pub returns-in-None-clause-longest : goal.returns-in-None-clause-longest
returns-in-None-clause-longest c = λ done.
    let joined = c.joined_in_all-joined in
    let order = c.order_named.ensures ∙ ap order_named (to_z-of_z w32 c.args.order (search rules)) in
    subst (λ order. NoMoreJoin order c.args.shape.now c.args.strides.now joined.result.0 joined.result.1 joined.new.joined) order
    joined.ensures.longest
