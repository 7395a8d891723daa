use Rattle.std.proofs.Common.{sym, ap, ◌∙◌}
use Rattle.std.proofs.lemmas.List.{length-map}
use Rattle.nd_base.specs.Signed.{signed, all_signed}
use Rattle.nd_dim.specs.Contiguous.{is_contiguous}
use Rattle.nd_dim.proofs.Laws.Contiguous.{contiguous_exactly}
use Rattle.nd_dim.proofs.dimension.Dimension.is_contiguous.Goals as goal

pub returns-clause-rule : goal.returns-clause-rule
returns-clause-rule g c =
    let lens = g.Self.Lengths.list c.args.dim.now in
    c.is_contiguous.ensures ∙ ap (λ xs. is_contiguous xs (all_signed c.slice-2.result.now)) c.slice.ensures.list
    ∙ ap (λ xs. is_contiguous lens (all_signed xs)) c.slice-2.ensures.list

pub returns-clause-exact : goal.returns-clause-exact
returns-clause-exact g c some =
    let lens = g.Self.Lengths.list c.args.dim.now in
    let strides = all_signed (g.Self.Lengths.list c.args.strides.now) in
    let count = c.requires.same_count ∙ sym (length-map (g.Self.Lengths.list c.args.strides.now) signed) in
    let exactly = contiguous_exactly lens strides count some in
    (λ t. exactly.0 (sym (returns-clause-rule g c) ∙ t), λ interval. returns-clause-rule g c ∙ exactly.1 interval)
